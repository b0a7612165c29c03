use Rattle.database.proofs.Openings.{one_opening}
use Rattle.database.proofs.laws.files_open_once.Goals as goal

pub returns : goal.returns
returns c = one_opening
