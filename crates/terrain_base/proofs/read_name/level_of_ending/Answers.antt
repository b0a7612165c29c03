use Rattle.std.proofs.Common.{◌∙◌, sym}
use Rattle.terrain_base.specs.declared.level.CellLevel.TheVariants.{Zero, One, Two}
use Rattle.terrain_base.proofs.NameTexts.{ending_is}
use Rattle.terrain_base.proofs.NameOrder.{no_ending}
use Rattle.terrain_base.proofs.read_name.level_of_ending.Goals as goal

pub returns-in-text-clause-some : goal.returns-in-text-clause-some
returns-in-text-clause-some c = c.in-text.is ∙ sym (ending_is Zero)

pub returns-in-text-2-clause-some : goal.returns-in-text-2-clause-some
returns-in-text-2-clause-some c = c.in-text-2.is ∙ sym (ending_is One)

pub returns-in-text-3-clause-some : goal.returns-in-text-3-clause-some
returns-in-text-3-clause-some c = c.in-text-3.is ∙ sym (ending_is Two)

pub returns-in_default-clause-none : goal.returns-in_default-clause-none
returns-in_default-clause-none c = no_ending _ c.in_default.not-text c.in_default.not-text-2 c.in_default.not-text-3
