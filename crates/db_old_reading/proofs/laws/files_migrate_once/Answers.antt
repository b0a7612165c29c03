use Rattle.db_old_reading.proofs.OldOpenings.{one_opening}
use Rattle.db_old_reading.proofs.laws.files_migrate_once.Goals as goal

pub returns : goal.returns
returns c = one_opening
