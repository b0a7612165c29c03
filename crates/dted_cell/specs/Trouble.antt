-- What files show to be wrong with a stored cell.
use Rattle.std.specs.Prelude.{◌≡◌, ◌≢◌, ℕ, List, Option, Some, None, IsSomeAnd}
use Rattle.std.specs.FinMap.{get}
use Rattle.terrain_base.specs.Step.{Files}
use Rattle.terrain_base.specs.declared.name.Key.{Key}
use Rattle.terrain_base.specs.declared.cell_key.CellKey.{CellKey}
use Rattle.dted_cell.specs.declared.trouble.CellTrouble.{CellTrouble}
use Rattle.dted_cell.specs.declared.trouble.CellTrouble.TheVariants.{Lost, Bad, Elsewhere, Changed}
use Rattle.dted_cell.specs.Cell.{square_in, level_in}
use Rattle.dted_cell.specs.Refusal.{refusal_of}

-- the bytes are a cell of this square and this level
pub record IsCellAt (key : CellKey) (bytes : List ℕ) : Type 0 where
  pub accepted : refusal_of bytes ≡ None
  pub square : square_in bytes ≡ key.square
  pub level : level_in bytes ≡ key.level

-- the name that a trouble carries
abbrev pub name_of : CellTrouble → Key
name_of (Lost name) = name
name_of (Bad name refusal) = name
name_of (Elsewhere name found) = name
name_of (Changed name opened found) = name

-- what is held where the cell of this key should be shows the trouble
abbrev pub ShowsAt : CellKey → Option (List ℕ) → CellTrouble → Type 0
ShowsAt key held (Lost name) = held ≡ None
ShowsAt key held (Bad name refusal) = IsSomeAnd held (λ bytes. refusal_of bytes ≡ Some refusal)
ShowsAt key held (Elsewhere name found) =
    IsSomeAnd held (λ bytes. (refusal_of bytes ≡ None) × (square_in bytes ≡ found) × (found ≢ key.square))
ShowsAt key held (Changed name opened found) =
    IsSomeAnd held (λ bytes. (refusal_of bytes ≡ None) × (square_in bytes ≡ key.square) × (level_in bytes ≡ found)
    × (opened ≡ key.level) × (found ≢ opened))

-- the files show the trouble, where the cell of this key should be under the name that it carries
abbrev pub Shows : CellKey → Files → CellTrouble → Type 0
Shows key files trouble = ShowsAt key (get files (name_of trouble)) trouble
