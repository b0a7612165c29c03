-- What a call on a source of posts leaves of it and of the store that it is lent, and what its faults show.
use Rattle.std.specs.Prelude.{◌≡◌, ◌≢◌, ℕ, ◌≤◌, Bool, List, Option, Some, None, Result, IfOk, IfErr, IfSome, IsErrOf, IsOk, IsTrue, OnOk, true}
use Rattle.std.specs.FinMap.{get}
use Rattle.terrain_base.specs.declared.name.Key.TheVariants.{Cell as CellName}
use Rattle.std.specs.FinSet.{contains}
use Rattle.terrain_base.specs.declared.cell_key.CellKey.{CellKey}
use Rattle.terrain_base.specs.declared.level.CellLevel.{CellLevel}
use Rattle.terrain_base.specs.declared.store.Change.{Change}
use Rattle.terrain_base.specs.Cause.{Rose}
use Rattle.terrain_base.specs.Step.{Files}
use Rattle.dted_cell.specs.declared.trouble.CellTrouble.{CellTrouble}
use Rattle.dted_cell.specs.declared.trouble.CellTrouble.TheVariants.{Lost, Bad, Elsewhere, Changed}
use Rattle.dted_cell.specs.Trouble.{Shows, name_of}
use Rattle.cell_mosaic.specs.Cells.{Cells, Shapes}
use Rattle.cell_mosaic.specs.declared.fault.SourceFault.{SourceFault}
use Rattle.cell_mosaic.specs.declared.fault.SourceFault.TheVariants.{Failed, NoMemory, Cell}

-- where the cells are told, an Ok gives what they say
abbrev pub GivesTold : {T : Type 0} → Option Cells → (Cells → T) → Result T SourceFault → Type 0
GivesTold told said result = IfOk result (λ given. (cells : Cells) → told ≡ Some cells → given ≡ said cells)

-- the store's count of faults never falls, and 'Failed' is answered only where it rose
pub record FaultHasCause {T : Type 0} (before now : ℕ) (result : Result T SourceFault) : Type 0 where
  pub later : before ≤ now
  pub failed : IsErrOf result Failed → Rose before now

-- a level that the trouble says the cell was opened with is this one, and another than the one found
abbrev pub IsOpenedAt : CellLevel → CellTrouble → Type 0
IsOpenedAt level (Lost name) = Unit {0}
IsOpenedAt level (Bad name refusal) = Unit {0}
IsOpenedAt level (Elsewhere name found) = Unit {0}
IsOpenedAt level (Changed name opened found) = (opened ≡ level) × (opened ≢ found)

-- the trouble is with the cell of a key of the shapes
pub record IsTroubleWith (shapes : Shapes) (trouble : CellTrouble) : Type 0 where
  pub key : CellKey
  pub known : contains shapes key ≡ true
  pub name : name_of trouble ≡ CellName key
  pub opened : IsOpenedAt key.level trouble

-- the files show the trouble, with the cell of the key whose name it carries
abbrev pub ShowsNamed : Files → CellTrouble → Type 0
ShowsNamed files trouble = (key : CellKey) → name_of trouble ≡ CellName key → Shows key files trouble

-- trouble is with a cell of the shapes, the store's files show it where they are told, and there is none where the
-- cells are told
pub record IsShown (shapes : Shapes) (files : Option Files) (told : Option Cells) (trouble : CellTrouble) : Type 0 where
  pub subject : IsTroubleWith shapes trouble
  pub shown : IfSome files (λ files. ShowsNamed files trouble)
  pub untold : told ≡ None

-- a fault that is trouble with a cell is so shown; of the others this says nothing
abbrev pub FaultIsShown : Shapes → Option Files → Option Cells → SourceFault → Type 0
FaultIsShown shapes files told Failed = Unit {0}
FaultIsShown shapes files told NoMemory = Unit {0}
FaultIsShown shapes files told (Cell trouble) = IsShown shapes files told trouble

-- so says an answer that is such trouble
abbrev pub TroubleIsShown : {T : Type 0} → Shapes → Option Files → Option Cells → Result T SourceFault → Type 0
TroubleIsShown shapes files told result = IfErr result (FaultIsShown shapes files told)

-- Nothing that can be seen is changed: not what the store holds nor its log, not the shapes nor whether the source is
-- sure; and cells that were told stay told and the same.
pub record Keeps {P : Type 0} (cells : P → Option Files → Option Cells) (shapes : P → Shapes) (sure : P → Bool)
    (source source' : P) (files files' : Option Files) (log log' : Option (List Change)) : Type 0 where
  pub shape : shapes source' ≡ shapes source
  pub certain : sure source' ≡ sure source
  pub stays : (told : Cells) → cells source files ≡ Some told → cells source' files ≡ Some told
  pub held : files' ≡ files
  pub logged : log' ≡ log

-- the fault is trouble with a cell
abbrev pub IsTrouble : SourceFault → Type 0
IsTrouble Failed = ⊥
IsTrouble NoMemory = ⊥
IsTrouble (Cell trouble) = Unit {0}

-- trouble that is answered spoils the source for good, and an Ok leaves it as it was: so a caller that has met trouble
-- cannot answer Ok
pub record Marks {T : Type 0} (before now : Bool) (result : Result T SourceFault) : Type 0 where
  pub unspoilt : OnOk result (now ≡ before)
  pub troubled : IfErr result (λ fault. IsTrouble fault → now ≡ true)

-- What a call on a source leaves of it and of the store that it is lent, and what its answer shows. A sure source
-- answers Ok; trouble with a cell is shown, 'Failed' has a cause; nothing that can be seen is changed; and trouble is
-- not passed over. The first seven are the meanings of the source and of the store.
pub record Leaves {P S T : Type 0} (cells : P → Option Files → Option Cells) (shapes : P → Shapes)
    (is_sure is_spoilt : P → Bool)
    (holds : S → Option Files) (log : S → Option (List Change)) (faults : S → ℕ)
    (source source' : P) (store store' : S) (result : Result T SourceFault) : Type 0 where
  pub sure : IsTrue (is_sure source) → IsOk result
  pub shown : TroubleIsShown (shapes source) (holds store) (cells source (holds store)) result
  pub cause : FaultHasCause (faults store) (faults store') result
  pub keeps : Keeps cells shapes is_sure source source' (holds store) (holds store') (log store) (log store')
  pub spoilt : Marks (is_spoilt source) (is_spoilt source') result

-- two stores hold the same under the name of each cell of the shapes, as far as they tell it
abbrev pub AlikeCells : Shapes → Option Files → Option Files → Type 0
AlikeCells shapes None None = Unit {0}
AlikeCells shapes (Some files) None = ⊥
AlikeCells shapes None (Some files') = ⊥
AlikeCells shapes (Some files) (Some files') =
    (key : CellKey) → contains shapes key ≡ true → get files (CellName key) ≡ get files' (CellName key)
