use Rattle.std.proofs.Common.{arith, ap, sym, subst, ◌∙◌, ◌++◌, ◌∷◌, []}
use Rattle.std.proofs.iter.Next.{Yields-more}
use Rattle.terrain_base.proofs.Runs.{both_done, goes_on, stops, some_as, all_as, at_err, at_ok}
use Rattle.std.specs.FinSet.{contains}
use Rattle.cell_mosaic.specs.Source.{AlikeCells}
use Rattle.db_files.specs.Serving.{GivesTiles, count_existing}
use Rattle.db_files.proofs.Alike.{alike_then}
use Rattle.db_files.proofs.Parts.{same_stop}
use Rattle.db_files.proofs.Troubles.{answer_before, trouble_on}
use Rattle.db_files.proofs.TileSteps.{tile_steps, steps_append, steps_split, count_more, count_part, serves_on}
use Rattle.db_files.proofs.Yielded.{left_of, all_given}
use Rattle.db_files.proofs.tiles.put_tiles.Goals as goal

pub loop-tile-preserved : goal.loop-tile-preserved
loop-tile-preserved g c = record {
  can = (c.in-Some.ensures.goes.on c.loop-tile.invariant.ends).0;
  ends = (c.in-Some.ensures.goes.on c.loop-tile.invariant.ends).1;
  done = λ s h.
      let now = serves_on (c.loop-tile.invariant.told s h) h in
      all_as (sym (steps_append s c.loop-tile.yielded (c.in-Some.tile ∷ []))) (both_done (c.loop-tile.invariant.done s h) (c.in_ok-put_tile.ensures.ran s now).ok);
  told = λ s h. c.in_ok-put_tile.ensures.stays s (serves_on (c.loop-tile.invariant.told s h) h) ∙ c.loop-tile.invariant.told s h;
  keys_stay = c.in_ok-put_tile.ensures.keeps.keys_stay ∙ c.loop-tile.invariant.keys_stay;
  alike =
      let keys = g.P.PostSource.shapes in
      alike_then (keys c.args.source.now) _ _ _ c.loop-tile.invariant.alike
      (subst (λ now. AlikeCells now (g.S.Store.holds c.loop-tile.store) (g.S.Store.holds c.put_tile.new.store)) c.loop-tile.invariant.keys_stay c.in_ok-put_tile.ensures.keeps.alike);
  few = λ s h.
      let more = count_more s c.loop-tile.yielded c.in-Some.tile in
      let so_far = c.loop-tile.invariant.few s h in
      let one = c.in_ok-put_tile.ensures.few s (serves_on (c.loop-tile.invariant.told s h) h) in
      omega arith;
  more = omega arith;
  faults = omega arith;
}

pub returns-in_err-put_tile-clause-ran : goal.returns-in_err-put_tile-clause-ran
returns-in_err-put_tile-clause-ran g c = λ s list given_all h.
    let steps = g.I.Iterator.next_gives in
    let gives = subst (λ it. GivesTiles steps it list) (sym c.into_iter-tile-iterator.ensures.into_iter_gives) given_all in
    let given = c.loop-tile.yielded in
    let tile = c.in-Some.tile in
    let more = Yields-more steps _ given c.loop-tile.tile-iterator tile c.next.new.self c.loop-tile.yielded_by c.in-Some.ensures.steps in
    let left = left_of steps list (given ++ tile ∷ []) _ c.next.new.self gives more in
    let now = serves_on (c.loop-tile.invariant.told s h) h in
    at_err c.from_residual.result _ c.from_residual.ensures.1
    (some_as (steps_split s list given tile left.rest left.whole) (goes_on (c.loop-tile.invariant.done s h) (stops _ (c.in_err-put_tile.ensures.ran s now).err)))

pub returns-in_err-put_tile-clause-stop : goal.returns-in_err-put_tile-clause-stop
returns-in_err-put_tile-clause-stop g c = λ s list given_all h.
    let now = serves_on (c.loop-tile.invariant.told s h) h in
    same_stop c.from_residual.result _ c.from_residual.ensures.1 (c.in_err-put_tile.ensures.stop s now)

pub returns-in_err-put_tile-clause-few : goal.returns-in_err-put_tile-clause-few
returns-in_err-put_tile-clause-few g c = λ s list given_all h.
    let steps = g.I.Iterator.next_gives in
    let gives = subst (λ it. GivesTiles steps it list) (sym c.into_iter-tile-iterator.ensures.into_iter_gives) given_all in
    let given = c.loop-tile.yielded in
    let tile = c.in-Some.tile in
    let more = Yields-more steps _ given c.loop-tile.tile-iterator tile c.next.new.self c.loop-tile.yielded_by c.in-Some.ensures.steps in
    let left = left_of steps list (given ++ tile ∷ []) _ c.next.new.self gives more in
    let part = count_part s list given tile left.rest left.whole in
    let so_far = c.loop-tile.invariant.few s h in
    let one = c.in_err-put_tile.ensures.few s (serves_on (c.loop-tile.invariant.told s h) h) in
    omega arith

pub returns-clause-ran : goal.returns-clause-ran
returns-clause-ran g c = λ s list given_all h.
    let steps = g.I.Iterator.next_gives in
    let gives = subst (λ it. GivesTiles steps it list) (sym c.into_iter-tile-iterator.ensures.into_iter_gives) given_all in
    let all = all_given steps list c.loop-tile.yielded _ c.loop-tile.tile-iterator c.next.new.self gives c.loop-tile.yielded_by c.in-None.ensures.steps in
    at_ok (all_as (ap (tile_steps s) (sym all)) (c.loop-tile.invariant.done s h))

pub returns-clause-few : goal.returns-clause-few
returns-clause-few g c = λ s list given_all h.
    let steps = g.I.Iterator.next_gives in
    let gives = subst (λ it. GivesTiles steps it list) (sym c.into_iter-tile-iterator.ensures.into_iter_gives) given_all in
    let all = all_given steps list c.loop-tile.yielded _ c.loop-tile.tile-iterator c.next.new.self gives c.loop-tile.yielded_by c.in-None.ensures.steps in
    let count = ap (count_existing s) all in
    let so_far = c.loop-tile.invariant.few s h in
    omega arith

pub returns-in_err-put_tile-clause-trouble : goal.returns-in_err-put_tile-clause-trouble
returns-in_err-put_tile-clause-trouble g c =
    trouble_on _ _ c.from_residual.result _ c.from_residual.ensures.1
    (answer_before (g.P.PostSource.shapes c.args.source.now) _ _ _ _ (λ key. ap (λ keys. contains keys key) c.loop-tile.invariant.keys_stay) c.loop-tile.invariant.alike c.in_err-put_tile.ensures.trouble)
