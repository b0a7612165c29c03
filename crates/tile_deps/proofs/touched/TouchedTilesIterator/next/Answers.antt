use Rattle.std.proofs.Common.{◌≡◌, ◌+◌, true, MatchOption, length, ap, sym, subst, arith, ◌∙◌}
use Rattle.tile_deps.specs.Walk.{is_touched, number_of, touched_from, IsBehindAll, IsNextTile}
use Rattle.tile_deps.proofs.Numbered.{next_steps, passes}
use Rattle.tile_deps.proofs.touched.TouchedTilesIterator.next.Goals as goal

pub returns-clause-steps : goal.returns-clause-steps
returns-clause-steps c =
    let cap = c.self.inside.index.now.cap in
    let square = c.self.inside.square in
    let is : passes cap square c.in_ok-tile.tile ≡ true = ap (is_touched cap square) (sym c.in_ok-tile.was) ∙ c.self.invariant in
    let next = subst (λ n. MatchOption c.next_touched-self-inside.result (IsBehindAll (passes n square) (number_of c.in_ok-tile.tile + 1)) (IsNextTile (passes n square) (number_of c.in_ok-tile.tile + 1))) c.cap.ensures.value c.next_touched-self-inside.ensures in
    sym c.self.view_is ∙ ap (touched_from cap square) c.in_ok-tile.was
    ∙ next_steps cap square c.in_ok-tile.tile c.next_touched-self-inside.result is next

pub returns-clause-goes : goal.returns-clause-goes
returns-clause-goes c =
    let cap = c.self.inside.index.now.cap in
    let square = c.self.inside.square in
    let is : passes cap square c.in_ok-tile.tile ≡ true = ap (is_touched cap square) (sym c.in_ok-tile.was) ∙ c.self.invariant in
    let next = subst (λ n. MatchOption c.next_touched-self-inside.result (IsBehindAll (passes n square) (number_of c.in_ok-tile.tile + 1)) (IsNextTile (passes n square) (number_of c.in_ok-tile.tile + 1))) c.cap.ensures.value c.next_touched-self-inside.ensures in
    let step = sym c.self.view_is ∙ ap (touched_from cap square) c.in_ok-tile.was
    ∙ next_steps cap square c.in_ok-tile.tile c.next_touched-self-inside.result is next in
    let shorter = ap length step in
    record { on = λ finite. (tt, tt, omega (arith, shorter)); keeps = tt; rests = λ finite. tt }
