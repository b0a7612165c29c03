use Rattle.db_files.proofs.RowKeys.{no_rows}
use Rattle.db_files.proofs.tests.is_restarted.Goals as goal

pub restart-requires : goal.restart-requires
restart-requires c = record { rows = no_rows }
