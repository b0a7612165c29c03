-- Cells in short: square, level and extremes of each.
use Rattle.std.specs.Prelude.{ℕ, List, map}
use Rattle.std.specs.FinMap.{entries}
use Rattle.terrain_base.specs.declared.summary.Summary.{Summary}
use Rattle.terrain_base.specs.declared.cell_key.CellKey.{CellKey}
use Rattle.dted_cell.specs.Cell.{extremes_in}
use Rattle.cell_mosaic.specs.Cells.{Cells}

-- a cell in short
abbrev pub summary_of : CellKey → List ℕ → Summary
summary_of key bytes = record { square = key.square; level = key.level; extremes = extremes_in bytes }

-- all of them, in the order of keys
abbrev pub summaries_of : Cells → List Summary
summaries_of cells = map (λ entry. summary_of entry.0 entry.1) (entries cells)
