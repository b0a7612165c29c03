use Rattle.std.proofs.Common.{sym, subst, ◌∙◌, arith}
use Rattle.db_trial.specs.Step.{Keeps}
use Rattle.db_trial.proofs.Scratches.{built, can_add, did_add, few_added}
use Rattle.db_trial.proofs.scratch.add_cells.Goals as goal

pub add_cell-requires : goal.add_cell-requires
add_cell-requires g c =
    let s = c.requires.state in
    let here = subst (λ h. Keeps h c.args.opened.now s) (sym c.loop-row.invariant.same) c.requires.keeps in
    let kept = c.loop-row.invariant.keeps s c.requires.keeps c.requires.begun in
    record { bytes = _; state = _; can = can_add s _ c.loop-row.row-index _ here c.summaries-rows.ensures.value c.loop-row-test.true c.row-item.is kept }

pub loop-row-preserved : goal.loop-row-preserved
loop-row-preserved g c = record {
  keeps = λ s k b.
      let here = subst (λ h. Keeps h c.args.opened.now s) (sym c.loop-row.invariant.same) k in
      let can = can_add s _ c.loop-row.row-index _ here c.summaries-rows.ensures.value c.loop-row-test.true c.row-item.is (c.loop-row.invariant.keeps s k b) in
      did_add s _ c.loop-row.row-index _ (c.summaries-rows.ensures.value ∙ k.stands.holds.rows_is) c.loop-row-test.true c.row-item.is (c.in_ok-add_cell.ensures.did _ _ can);
  few = λ s k b.
      let here = subst (λ h. Keeps h c.args.opened.now s) (sym c.loop-row.invariant.same) k in
      let can = can_add s _ c.loop-row.row-index _ here c.summaries-rows.ensures.value c.loop-row-test.true c.row-item.is (c.loop-row.invariant.keeps s k b) in
      few_added _ s _ c.loop-row.row-index _ (c.summaries-rows.ensures.value ∙ k.stands.holds.rows_is) c.loop-row-test.true c.row-item.is (c.loop-row.invariant.few s k b) (c.in_ok-add_cell.ensures.did _ _ can);
  same = c.in_ok-add_cell.ensures.same ∙ c.loop-row.invariant.same;
  more = omega arith;
  faults = omega arith;
  other_faults = omega arith;
}

pub returns-clause-built : goal.returns-clause-built
returns-clause-built g c = λ s k b.
    built _ s _ c.loop-row.row-index k c.summaries-rows.ensures.value (omega arith) (c.loop-row.invariant.keeps s k b) (c.loop-row.invariant.few s k b)
