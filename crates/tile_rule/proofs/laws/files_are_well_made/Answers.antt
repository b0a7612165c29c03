use Rattle.tile_rule.proofs.Good.{well_made}
use Rattle.tile_rule.proofs.laws.files_are_well_made.Goals as goal

pub returns : goal.returns
returns c = well_made
