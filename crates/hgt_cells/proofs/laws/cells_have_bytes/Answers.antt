use Rattle.hgt_cells.proofs.CellLaws.{cell_has_bytes}
use Rattle.hgt_cells.proofs.laws.cells_have_bytes.Goals as goal

pub returns : goal.returns
returns c = cell_has_bytes
