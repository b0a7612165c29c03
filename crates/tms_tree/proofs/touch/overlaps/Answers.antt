use Rattle.std.proofs.Common.{sym, ◌∙◌}
use Rattle.std.proofs.lemmas.Bool.{and_left}
use Rattle.tms_tree.specs.Touch.{overlaps_of}
use Rattle.tms_tree.proofs.Overlapping.{overlaps_at}
use Rattle.tms_tree.proofs.Touching.{true_and}
use Rattle.tms_tree.proofs.touch.overlaps.Goals as goal

pub returns-then-crosses-clause-shared_point : goal.returns-then-crosses-clause-shared_point
unfolding overlaps_of
returns-then-crosses-clause-shared_point c =
    overlaps_at c.args.tile c.args.square c.crosses-then-crosses.result
    (c.crosses-then-crosses.ensures ∙ sym (true_and _ _ (sym c.crosses.ensures ∙ c.if-crosses.true)))

pub returns-else-crosses-clause-shared_point : goal.returns-else-crosses-clause-shared_point
unfolding overlaps_of
returns-else-crosses-clause-shared_point c =
    overlaps_at c.args.tile c.args.square c.crosses.result (c.if-crosses.false ∙ sym (and_left _ _ (sym c.crosses.ensures ∙ c.if-crosses.false)))
