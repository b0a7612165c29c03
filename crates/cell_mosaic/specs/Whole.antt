-- The cells that are kept in memory, by the entries of a map.
use Rattle.std.specs.Prelude.{◌≡◌, ℕ, List, [], ◌∷◌, Option, Some, option_map}
use Rattle.std.specs.FinMap.{empty, insert, get}
use Rattle.std.specs.FinSet as set
use Rattle.terrain_base.specs.declared.cell_key.CellKey.{CellKey}
use Rattle.terrain_base.specs.CellKey.{key_at}
use Rattle.dted_cell.specs.Cell.{square_in, level_in}
use Rattle.dted_cell.specs.Trouble.{IsCellAt}
use Rattle.cell_mosaic.specs.Cells.{Cells, Shapes}

abbrev pub cells_of : List (CellKey × List ℕ) → Cells
cells_of [] = empty
cells_of (entry ∷ entries) = insert (cells_of entries) entry.0 entry.1

abbrev pub shapes_of : List (CellKey × List ℕ) → Shapes
shapes_of [] = set.empty
shapes_of (entry ∷ entries) = set.insert (shapes_of entries) entry.0

-- each is a cell of its key
abbrev pub AreOfKeys : List (CellKey × List ℕ) → Type 0
AreOfKeys entries = (key : CellKey) (bytes : List ℕ) → get (cells_of entries) key ≡ Some bytes → IsCellAt key bytes

-- the key of a cell
abbrev pub key_in : List ℕ → CellKey
key_in cell = key_at (square_in cell) (level_in cell)

-- the told cells and one more, under its key; and the shapes with that one's
abbrev pub with_cell : List ℕ → Option Cells → Option Cells
with_cell cell told = option_map (λ cells. insert cells (key_in cell) cell) told

abbrev pub with_shape : List ℕ → Shapes → Shapes
with_shape cell shapes = set.insert shapes (key_in cell)
