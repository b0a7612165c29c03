use Rattle.dted_cell.proofs.WholeCells.{ok_iff, cell_on_ok}
use Rattle.dted_cell.proofs.view.CellView.read.Goals as goal

pub returns-clause-ok : goal.returns-clause-ok
returns-clause-ok c = ok_iff c.args.bytes.now c.of_bytes.result c.of_bytes.ensures.refusal

pub returns-clause-cell : goal.returns-clause-cell
returns-clause-cell c = cell_on_ok c.args.bytes.now c.of_bytes.result c.of_bytes.ensures.refusal
