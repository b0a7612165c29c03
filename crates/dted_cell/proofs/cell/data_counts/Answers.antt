use Rattle.dted_cell.proofs.Columns.{counted_if}
use Rattle.dted_cell.proofs.cell.data_counts.Goals as goal

pub returns-clause-counted : goal.returns-clause-counted
returns-clause-counted c =
    counted_if c.args.bytes.now c.behind.result.now c.args.header.now.columns c.args.header.now.rows c.records_counts.result c.behind.ensures.text c.requires.says.columns_are c.requires.says.rows_are c.records_counts.ensures.voids c.records_counts.ensures.extremes
