-- The rows of a database: its cells in short.
use Rattle.std.specs.Prelude.{◌≤◌, Bool, List, length, map}
use Rattle.std.specs.List.{list_any}
use Rattle.std.specs.List.Sorted.{IsStrictlySortedBy}
use Rattle.std.specs.Ordering.{eq_by_cmp}
use Rattle.terrain_base.specs.declared.summary.Summary.{Summary}
use Rattle.terrain_base.specs.declared.cell_key.CellKey.{CellKey}
use Rattle.terrain_base.specs.CellKey.{key_at, key_cmp}

-- the key of a row
abbrev pub row_key : Summary → CellKey
row_key row = key_at row.square row.level

abbrev pub row_keys : List Summary → List CellKey
row_keys rows = map row_key rows

-- the key has a row
abbrev pub has_row : List Summary → CellKey → Bool
has_row rows key = list_any (λ row. eq_by_cmp key_cmp key (row_key row)) rows

-- the rows ascend by their keys, and are at most 4096
pub record AreRows (rows : List Summary) : Type 0 where
  pub ascend : IsStrictlySortedBy key_cmp (row_keys rows)
  pub few : length rows ≤ 4096
