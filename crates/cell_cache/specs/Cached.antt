-- The cells of some summaries, as a store's files tell them to a source that holds some of them.
use Rattle.std.specs.Prelude.{◌≡◌, ℕ, Bool, true, false, ◌&&◌, ◌==◌, List, [], map, Contains, cond, Option, Some, None, is_none}
use Rattle.std.specs.List.{list_all}
use Rattle.std.specs.Option.{unwrap_or}
use Rattle.std.specs.Ordering.{eq_by_cmp, int_cmp}
use Rattle.std.specs.Cmp.Lexicographic.{pointwise}
use Rattle.std.specs.FinMap.{get, from_entries}
use Rattle.std.specs.FinSet.{contains, from_list}
use Rattle.terrain_base.specs.declared.cell_key.CellKey.{CellKey}
use Rattle.terrain_base.specs.declared.name.Key.TheVariants.{Cell as CellName}
use Rattle.terrain_base.specs.declared.post.Extremes.{Extremes}
use Rattle.terrain_base.specs.declared.summary.Summary.{Summary}
use Rattle.terrain_base.specs.CellKey.{key_at, key_cmp}
use Rattle.terrain_base.specs.Step.{Files}
use Rattle.dted_cell.specs.Cell.{extremes_in}
use Rattle.dted_cell.specs.Refusal.{refusal_of}
use Rattle.cell_mosaic.specs.Cells.{Cells, Shapes, AreSound}
use Rattle.cell_mosaic.specs.Whole.{key_in}
use Rattle.cell_cache.specs.declared.slot.Slot.{Slot}
use Rattle.cell_cache.specs.Slot.{slot_at}

-- the key of a summary
abbrev pub row_key : Summary → CellKey
row_key row = key_at row.square row.level

-- the keys of all
abbrev pub shapes_of_rows : List Summary → Shapes
shapes_of_rows rows = from_list (map row_key rows)

-- what is held under the name of a key's cell
abbrev pub file_of : Files → CellKey → Option (List ℕ)
file_of files key = get files (CellName key)

abbrev pub same_extremes : Option Extremes → Option Extremes → Bool
same_extremes None None = true
same_extremes None (Some b) = false
same_extremes (Some a) None = false
same_extremes (Some a) (Some b) = eq_by_cmp int_cmp a.least b.least && eq_by_cmp int_cmp a.greatest b.greatest

-- the bytes are a cell of the summary's square, level and extremes
abbrev pub is_cell_of : Summary → List ℕ → Bool
is_cell_of row bytes =
    is_none (refusal_of bytes) && (eq_by_cmp key_cmp (key_in bytes) (row_key row)
    && same_extremes (extremes_in bytes) row.extremes)

abbrev pub is_file_of : Summary → Option (List ℕ) → Bool
is_file_of row None = false
is_file_of row (Some bytes) = is_cell_of row bytes

-- the files hold the summary's cell under its name
abbrev pub holds_row : Files → Summary → Bool
holds_row files row = is_file_of row (file_of files (row_key row))

-- the key, and what is held under its name
abbrev pub entry_of : Files → Summary → CellKey × List ℕ
entry_of files row = (row_key row, unwrap_or (file_of files (row_key row)) [])

-- the cells under the names of the summaries, where each is its summary's
abbrev pub cells_told : List Summary → Files → Option Cells
cells_told rows files = cond (list_all (holds_row files) rows) (Some (from_entries (map (entry_of files) rows))) None

abbrev pub is_same : Option (List ℕ) → List ℕ → Bool
is_same None bytes = false
is_same (Some other) bytes = pointwise ◌==◌ other bytes

-- the cell has the bytes that the files hold under its name
abbrev pub is_fresh : Files → List ℕ → Bool
is_fresh files cell = is_same (file_of files (key_in cell)) cell

-- The cells that are told. They are where the store tells its files, these hold the cell of each summary under its
-- name, and each cell that the source holds has the bytes under its name.
abbrev pub cells_through : List Summary → List (Slot × List ℕ) → Option Files → Option Cells
cells_through rows held None = None
cells_through rows held (Some files) =
    cond (list_all (λ entry. is_fresh files entry.1) held) (cells_told rows files) None

-- what is held in a slot is a cell of its key, which is one of the summaries'
pub record IsHeldAt (rows : List Summary) (slot : Slot) (bytes : List ℕ) : Type 0 where
  pub accepted : refusal_of bytes ≡ None
  pub placed : slot ≡ slot_at (key_in bytes)
  pub known : contains (shapes_of_rows rows) (key_in bytes) ≡ true

-- so is all that is held
abbrev pub AreHeld : List Summary → List (Slot × List ℕ) → Type 0
AreHeld rows held = (slot : Slot) (bytes : List ℕ) → Contains held (slot, bytes) → IsHeldAt rows slot bytes

-- the cells are sound, and the files hold each under its own name
pub record HoldsCells (files : Files) (cells : Cells) : Type 0 where
  pub sound : AreSound cells
  pub named : (key : CellKey) (bytes : List ℕ) → get cells key ≡ Some bytes → get files (CellName key) ≡ Some bytes
