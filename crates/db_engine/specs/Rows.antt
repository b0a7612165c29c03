-- The rows of a database when a cell is put or dropped.
use Rattle.std.specs.Prelude.{◌≡◌, ◌⊎◌, ◌<◌, true, Bool, not, List, ◌∷◌, ◌++◌, Option, Some, None, length, nat_le, if◌then◌else◌}
use Rattle.std.specs.List.{filter}
use Rattle.std.specs.Ordering.{eq_by_cmp, is_lt}
use Rattle.terrain_base.specs.declared.cell_key.CellKey.{CellKey}
use Rattle.terrain_base.specs.declared.summary.Summary.{Summary}
use Rattle.terrain_base.specs.CellKey.{key_cmp}
use Rattle.cell_mosaic.specs.Summaries.{summary_of}
use Rattle.database.specs.declared.answer.EngineAnswer.{EngineAnswer}
use Rattle.database.specs.declared.answer.EngineAnswer.TheVariants.{CellPresent, CellAbsent, DatabaseFull}
use Rattle.database.specs.Cells.{row_key, has_row}
use Rattle.database.specs.Commands.{Command, Add, Replace, Remove, Edit, PutCell, DropCell}

-- the row's key comes before this one, or behind it
abbrev pub is_before : CellKey → Summary → Bool
is_before key row = is_lt (key_cmp (row_key row) key)

abbrev pub is_behind : CellKey → Summary → Bool
is_behind key row = is_lt (key_cmp key (row_key row))

-- the row in its place, instead of the row of its key where there is one
abbrev pub with_row : List Summary → Summary → List Summary
with_row rows row = filter (is_before (row_key row)) rows ++ row ∷ filter (is_behind (row_key row)) rows

-- without the row of the key
abbrev pub without_row : List Summary → CellKey → List Summary
without_row rows key = filter (λ row. not (eq_by_cmp key_cmp (row_key row) key)) rows

-- the key has a row, or there is room for one
abbrev pub HasRoom : List Summary → CellKey → Type 0
HasRoom rows key = (has_row rows key ≡ true) ⊎ (length rows < 4096)

-- the rows after an edit
abbrev pub rows_after : Edit → List Summary → List Summary
rows_after (PutCell key bytes) rows = with_row rows (summary_of key bytes)
rows_after (DropCell key) rows = without_row rows key

-- which refusal a command meets over these rows, if any
abbrev pub refusal_by_rows : Command → List Summary → Option EngineAnswer
refusal_by_rows (Add key bytes) rows =
    if has_row rows key then Some (CellPresent key.square key.level)
    else (if nat_le 4096 (length rows) then Some DatabaseFull else None)
refusal_by_rows (Replace key bytes) rows = if has_row rows key then None else Some (CellAbsent key.square key.level)
refusal_by_rows (Remove key) rows = if has_row rows key then None else Some (CellAbsent key.square key.level)
