-- The cells that the rows of a manifest tell, over files.
use Rattle.std.specs.Prelude.{ℕ, List, [], map, Option, Some, None}
use Rattle.std.specs.FinMap.{get, from_sorted}
use Rattle.terrain_base.specs.declared.cell_key.CellKey.{CellKey}
use Rattle.terrain_base.specs.declared.params.Params.{Params}
use Rattle.terrain_base.specs.declared.summary.Summary.{Summary}
use Rattle.terrain_base.specs.Step.{Files}
use Rattle.cell_mosaic.specs.Cells.{Cells}
use Rattle.cell_mosaic.specs.Summaries.{summary_of}
use Rattle.db_manifest.specs.Manifest.{ManifestState}
use Rattle.database.specs.State.{State, kept_under}

abbrev pub or_nothing : Option (List ℕ) → List ℕ
or_nothing None = []
or_nothing (Some bytes) = bytes

-- what is held where the cell of the key is kept
abbrev pub kept_bytes : Files → ManifestState → CellKey → List ℕ
kept_bytes files mark key = or_nothing (get files (kept_under mark key))

abbrev pub row_entries : Files → ManifestState → List CellKey → List (CellKey × List ℕ)
row_entries files mark rows = map (λ key. (key, kept_bytes files mark key)) rows

-- the cells of the rows
abbrev pub cells_read : Files → ManifestState → List CellKey → Cells
cells_read files mark rows = from_sorted (row_entries files mark rows)

-- the same in short
abbrev pub summaries_read : Files → ManifestState → List CellKey → List Summary
summaries_read files mark rows = map (λ key. summary_of key (kept_bytes files mark key)) rows

-- the state that a good manifest and the rows' cells tell
abbrev pub state_read : Params → ManifestState → List CellKey → Files → State
state_read params mark rows files = record { params = params; cells = cells_read files mark rows }
