use Rattle.std.proofs.Common.{refl, sym, subst, ◌∙◌, ap}
use Rattle.std.proofs.lemmas.List.{append-nil}
use Rattle.availability.specs.Runs.{AreRuns}
use Rattle.tile_deps.specs.Walk.{runs_tiles}
use Rattle.tile_deps.proofs.RunWalk.{level_done, lies_on, run_more}
use Rattle.tile_deps.proofs.existing.add_level.Goals as goal

pub loop-run-init : goal.loop-run-init
loop-run-init c = sym (append-nil (runs_tiles c.args.list.now.items))

pub invariant_of-push : goal.invariant_of-push
invariant_of-push c =
    let runs = subst (AreRuns c.args.cap c.args.summaries.now c.args.z) (sym c.deref-run-items.ensures.value) c.in_ok-runs.ensures.meaning in
    let lies = lies_on c.args.cap c.args.summaries.now c.args.z c.deref-run-items.result.now c.loop-run.run-index (record { row = 0; start = 0; end = 0 }) runs c.loop-run-test.true in
    record { z_in_range = c.requires; row_in_range = lies.row; ordered = lies.ordered; end_in_range = lies.end }

pub loop-run-preserved : goal.loop-run-preserved
loop-run-preserved c =
    ap runs_tiles c.in_ok-push.ensures.items
    ∙ run_more c.loop-run.list.items _ (runs_tiles c.args.list.now.items) c.args.z c.deref-run-items.result.now c.loop-run.run-index (record { row = 0; start = 0; end = 0 }) c.loop-run-test.true refl c.loop-run.invariant

pub returns : goal.returns
returns c =
    level_done c.loop-run.list.items (runs_tiles c.args.list.now.items) c.args.cap c.args.summaries.now c.args.z c.deref-run-items.result.now c.loop-run.run-index c.loop-run-test.false
    (c.deref-run-items.ensures.value ∙ c.in_ok-runs.ensures.value) c.loop-run.invariant
