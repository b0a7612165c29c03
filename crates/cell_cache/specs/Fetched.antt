-- What is read from a store as the cell of a key.
use Rattle.std.specs.Prelude.{◌≡◌, ℕ, List, Option, Some, None, IfSome}
use Rattle.terrain_base.specs.declared.cell_key.CellKey.{CellKey}
use Rattle.terrain_base.specs.declared.name.Key.TheVariants.{Cell as CellName}
use Rattle.terrain_base.specs.Step.{Files}
use Rattle.dted_cell.specs.declared.trouble.CellTrouble.{CellTrouble}
use Rattle.dted_cell.specs.Trouble.{IsCellAt, ShowsAt, name_of}
use Rattle.cell_mosaic.specs.Source.{IsOpenedAt}
use Rattle.cell_mosaic.specs.declared.fault.SourceFault.{SourceFault}
use Rattle.cell_mosaic.specs.declared.fault.SourceFault.TheVariants.{Failed, NoMemory, Cell}
use Rattle.cell_cache.specs.Cached.{file_of}

-- the bytes are a cell of the key, and those under its name where the store tells its files
pub record IsFetched (key : CellKey) (files : Option Files) (bytes : List ℕ) : Type 0 where
  pub cell : IsCellAt key bytes
  pub held : IfSome files (λ files. file_of files key ≡ Some bytes)

-- it is a trouble with the key's cell, which what is held shows where it is told
pub record IsTroubleAt (key : CellKey) (held : Option (Option (List ℕ))) (trouble : CellTrouble) : Type 0 where
  pub name : name_of trouble ≡ CellName key
  pub opened : IsOpenedAt key.level trouble
  pub shown : IfSome held (λ held. ShowsAt key held trouble)

-- so is a fault that is trouble; of the others this says nothing
abbrev pub IsFaultAt : CellKey → Option (Option (List ℕ)) → SourceFault → Type 0
IsFaultAt key held Failed = Unit {0}
IsFaultAt key held NoMemory = Unit {0}
IsFaultAt key held (Cell trouble) = IsTroubleAt key held trouble

abbrev pub told_under : Option Files → CellKey → Option (Option (List ℕ))
told_under None key = None
told_under (Some files) key = Some (file_of files key)
