use Rattle.terrain_base.proofs.KeyTexts.{row_is_spelt}
use Rattle.terrain_base.proofs.laws.rows_are_spelt.Goals as goal

pub returns : goal.returns
returns c = row_is_spelt
