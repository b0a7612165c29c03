use Rattle.std.proofs.Common.{sym, ◌∙◌}
use Rattle.std.proofs.lemmas.Bool.{and_left}
use Rattle.tms_tree.specs.Touch.{touches_of}
use Rattle.tms_tree.proofs.Touching.{touches_at, true_and}
use Rattle.tms_tree.proofs.touch.touches.Goals as goal

pub returns-then-meets-clause-shared_point : goal.returns-then-meets-clause-shared_point
unfolding touches_of
returns-then-meets-clause-shared_point c =
    touches_at c.args.tile c.args.square c.round_meets.result (c.round_meets.ensures ∙ sym (true_and _ _ (sym c.meets.ensures ∙ c.if-meets.true)))

pub returns-else-meets-clause-shared_point : goal.returns-else-meets-clause-shared_point
unfolding touches_of
returns-else-meets-clause-shared_point c =
    touches_at c.args.tile c.args.square c.meets.result (c.if-meets.false ∙ sym (and_left _ _ (sym c.meets.ensures ∙ c.if-meets.false)))
