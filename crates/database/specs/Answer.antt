-- The answers of calls on a database, and their causes.
use Rattle.std.specs.Prelude.{ℕ, ◌≤◌, Option, Some, None, Result, IsErrOf, IfErr}
use Rattle.terrain_base.specs.Cause.{Rose}
use Rattle.terrain_base.specs.declared.fault.DeviceFault.{DeviceFault}
use Rattle.terrain_base.specs.declared.fault.DeviceFault.TheVariants as device
use Rattle.cell_mosaic.specs.declared.fault.SourceFault.{SourceFault}
use Rattle.cell_mosaic.specs.declared.fault.SourceFault.TheVariants as source
use Rattle.database.specs.Opening as opens
use Rattle.database.specs.declared.answer.EngineAnswer.{EngineAnswer}
use Rattle.database.specs.declared.answer.EngineAnswer.TheVariants.{CellPresent, CellAbsent, DatabaseFull, NotEmpty, NotADatabase, Trouble, NoTile, TileLost, OldVersion, NotOld, StoreFault, NoMemory}

-- the fault of a store, and of a source of posts, as an answer
abbrev pub of_device : DeviceFault → EngineAnswer
of_device device.Failed = StoreFault
of_device device.NoMemory = NoMemory

abbrev pub of_source : SourceFault → EngineAnswer
of_source source.Failed = StoreFault
of_source source.NoMemory = NoMemory
of_source (source.Cell trouble) = Trouble trouble

-- the store's count of faults never falls, and 'StoreFault' is answered only where it rose
pub record HasCause {T : Type 0} (before now : ℕ) (result : Result T EngineAnswer) : Type 0 where
  pub later : before ≤ now
  pub failed : IsErrOf result StoreFault → Rose before now

-- a stop by the store, or for want of memory
abbrev pub IsStop : EngineAnswer → Type 0
IsStop (CellPresent square level) = ⊥
IsStop (CellAbsent square level) = ⊥
IsStop DatabaseFull = ⊥
IsStop (NotEmpty name) = ⊥
IsStop (NotADatabase line) = ⊥
IsStop (Trouble trouble) = ⊥
IsStop (NoTile tile) = ⊥
IsStop (TileLost name) = ⊥
IsStop (OldVersion version) = ⊥
IsStop (NotOld version) = ⊥
IsStop StoreFault = Unit {0}
IsStop NoMemory = Unit {0}

-- nothing but a stop is answered in place of Ok
abbrev pub OnlyStops : {T : Type 0} → Result T EngineAnswer → Type 0
OnlyStops result = IfErr result IsStop

-- what the files open as, where the answer tells it
abbrev pub opening_of : EngineAnswer → Option opens.Opening
opening_of (CellPresent square level) = None
opening_of (CellAbsent square level) = None
opening_of DatabaseFull = None
opening_of (NotEmpty name) = None
opening_of (NotADatabase line) = Some (opens.NotADatabase line)
opening_of (Trouble trouble) = Some (opens.InTrouble trouble)
opening_of (NoTile tile) = None
opening_of (TileLost name) = None
opening_of (OldVersion version) = Some (opens.OldVersion version)
opening_of (NotOld version) = None
opening_of StoreFault = None
opening_of NoMemory = None
