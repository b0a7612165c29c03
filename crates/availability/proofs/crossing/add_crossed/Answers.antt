use Rattle.std.proofs.Common.{arith, ◌∙◌, ap}
use Rattle.std.proofs.lemmas.List.Elements.{All-push, All-same}
use Rattle.availability.specs.Runs.{IsNonempty, is_in_runs}
use Rattle.availability.proofs.Crossings.{row_added}
use Rattle.availability.proofs.crossing.add_crossed.Goals as goal

pub loop-row-preserved : goal.loop-row-preserved
loop-row-preserved c = record {
  runs = λ row column. ap (λ xs. is_in_runs xs row column) c.in_ok-push.ensures.items
      ∙ row_added c.args.list.now.items c.loop-row.list.items c.crossed-columns.result c.crossed-rows.result.start c.loop-row.row row column
      (omega arith) (c.loop-row.invariant.runs row column);
  nonempty = λ all. All-same IsNonempty _ _ c.in_ok-push.ensures.items (All-push IsNonempty c.loop-row.list.items _ (c.loop-row.invariant.nonempty all) c.crossed-columns.ensures.ordered);
}
