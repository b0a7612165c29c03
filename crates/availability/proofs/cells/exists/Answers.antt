use Rattle.std.proofs.Common.{ap, ◌∙◌, sym}
use Rattle.std.proofs.lemmas.Bool.{ne_eqb}
use Rattle.std.specs.Prelude.{◌||◌}
use Rattle.std.specs.List.{list_any}
use Rattle.availability.specs.Existence.{makes_of, exists_of}
use Rattle.availability.proofs.Existing.{exists_at_answer}
use Rattle.availability.proofs.cells.exists.Goals as goal

pub returns-else-tile-eq0-clause-meaning : goal.returns-else-tile-eq0-clause-meaning
unfolding exists_of
returns-else-tile-eq0-clause-meaning c =
    exists_at_answer c.args.cap c.args.summaries.now c.args.tile c.is_made.result
    (c.is_made.ensures ∙ sym (ap (λ b. b || list_any (makes_of c.args.cap c.args.tile) c.args.summaries.now) (ne_eqb c.args.tile.z 0 c.if-tile-eq0.false)))
