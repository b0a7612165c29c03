use Rattle.database.proofs.Local.{tiles_local}
use Rattle.database.proofs.laws.tiles_are_local.Goals as goal

pub returns : goal.returns
returns c = tiles_local
