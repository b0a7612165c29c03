use Rattle.std.proofs.Common.{arith, ap, sym, subst, ◌∙◌, ◌++◌, ◌∷◌, [], length}
use Rattle.std.proofs.lemmas.List.{length-append}
use Rattle.std.proofs.iter.Next.{Yields-more}
use Rattle.database.specs.Commands.{tile_names}
use Rattle.database.specs.Verdict.{difference_at, IsLeast}
use Rattle.db_files.specs.Serving.{GivesTiles}
use Rattle.db_files.proofs.Parts.{same_stop}
use Rattle.db_files.proofs.Troubles.{trouble_on}
use Rattle.db_files.proofs.TileSteps.{serves_on}
use Rattle.db_files.proofs.Yielded.{left_of, all_given}
use Rattle.db_check.specs.Tiles.{AllExist}
use Rattle.db_check.proofs.Passing.{trouble_as}
use Rattle.db_check.proofs.TileNames.{exist_more, names_more, length_part}
use Rattle.db_check.proofs.tiles.keep_tiles.Goals as goal

pub loop-tile-preserved : goal.loop-tile-preserved
loop-tile-preserved g c = record {
  can = (c.in-Some.ensures.goes.on c.loop-tile.invariant.ends).0;
  ends = (c.in-Some.ensures.goes.on c.loop-tile.invariant.ends).1;
  least = λ files s names held h all first.
      let exist = exist_more s c.loop-tile.yielded c.in-Some.tile all in
      subst (λ names. IsLeast (difference_at s files) names c.in_ok-best.best)
      (names_more names c.loop-tile.yielded c.in-Some.tile)
      (c.in_ok-best.ensures.least files s _ (c.loop-tile.invariant.same ∙ held)
      (serves_on (c.loop-tile.invariant.told s h) h) exist.1
      (c.loop-tile.invariant.least files s names held h exist.0 first));
  told = λ s h. c.in_ok-best.ensures.stays s (serves_on (c.loop-tile.invariant.told s h) h)
      ∙ c.loop-tile.invariant.told s h;
  keys_stay = c.in_ok-best.ensures.shapes ∙ c.loop-tile.invariant.keys_stay;
  few = let more = length-append c.loop-tile.yielded (c.in-Some.tile ∷ []) in omega arith;
  more = omega arith;
  same = c.in_ok-best.ensures.same ∙ c.loop-tile.invariant.same;
  quiet = c.in_ok-best.ensures.quiet ∙ c.loop-tile.invariant.quiet;
  faults = omega arith;
}

pub returns-in_err-best-clause-stop : goal.returns-in_err-best-clause-stop
returns-in_err-best-clause-stop g c = λ s h.
    same_stop c.from_residual.result _ c.from_residual.ensures.1
    (c.in_err-best.ensures.stop s (serves_on (c.loop-tile.invariant.told s h) h))

pub returns-in_err-best-clause-trouble : goal.returns-in_err-best-clause-trouble
returns-in_err-best-clause-trouble g c =
    trouble_as c.from_residual.result c.loop-tile.invariant.keys_stay c.loop-tile.invariant.same
    (trouble_on _ _ c.from_residual.result _ c.from_residual.ensures.1 c.in_err-best.ensures.trouble)

pub returns-in_err-best-clause-few : goal.returns-in_err-best-clause-few
returns-in_err-best-clause-few g c = λ list given_all.
    let steps = g.I.Iterator.next_gives in
    let gives = subst (λ it. GivesTiles steps it list)
    (sym c.into_iter-tile-iterator.ensures.into_iter_gives) given_all in
    let given = c.loop-tile.yielded in
    let tile = c.in-Some.tile in
    let more = Yields-more steps _ given c.loop-tile.tile-iterator tile c.next.new.self c.loop-tile.yielded_by
    c.in-Some.ensures.steps in
    let left = left_of steps list (given ++ tile ∷ []) _ c.next.new.self gives more in
    let part = length_part list given tile left.rest left.whole in
    omega arith

pub returns-clause-least : goal.returns-clause-least
returns-clause-least g c = λ files s list names given_all held h all first.
    let steps = g.I.Iterator.next_gives in
    let gives = subst (λ it. GivesTiles steps it list)
    (sym c.into_iter-tile-iterator.ensures.into_iter_gives) given_all in
    let same = all_given steps list c.loop-tile.yielded _ c.loop-tile.tile-iterator c.next.new.self gives
    c.loop-tile.yielded_by c.in-None.ensures.steps in
    subst (λ tiles. IsLeast (difference_at s files) (names ++ tile_names tiles) c.loop-tile.best) (sym same)
    (c.loop-tile.invariant.least files s names held h (subst (AllExist s) same all) first)

pub returns-clause-few : goal.returns-clause-few
returns-clause-few g c = λ list given_all.
    let steps = g.I.Iterator.next_gives in
    let gives = subst (λ it. GivesTiles steps it list)
    (sym c.into_iter-tile-iterator.ensures.into_iter_gives) given_all in
    let all = all_given steps list c.loop-tile.yielded _ c.loop-tile.tile-iterator c.next.new.self gives
    c.loop-tile.yielded_by c.in-None.ensures.steps in
    let count = ap length all in
    omega arith
