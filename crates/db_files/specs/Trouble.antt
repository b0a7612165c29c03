-- What is answered in place of Ok, over every store.
use Rattle.std.specs.Prelude.{◌≡◌, List, Option, Result, IfErr, IfSome}
use Rattle.terrain_base.specs.declared.summary.Summary.{Summary}
use Rattle.terrain_base.specs.Step.{Files}
use Rattle.dted_cell.specs.declared.trouble.CellTrouble.{CellTrouble}
use Rattle.cell_mosaic.specs.Cells.{Shapes}
use Rattle.cell_mosaic.specs.Source.{IsTroubleWith, ShowsNamed, AlikeCells}
use Rattle.cell_cache.specs.Cached.{shapes_of_rows}
use Rattle.database.specs.declared.answer.EngineAnswer.{EngineAnswer}
use Rattle.database.specs.declared.answer.EngineAnswer.TheVariants.{CellPresent, CellAbsent, DatabaseFull, NotEmpty, NotADatabase, Trouble, NoTile, TileLost, OldVersion, NotOld, StoreFault, NoMemory}

-- the trouble is with the cell of one of these keys, and the files show it under that cell's name where they are told
pub record IsShownTrouble (keys : Shapes) (held : Option Files) (trouble : CellTrouble) : Type 0 where
  pub subject : IsTroubleWith keys trouble
  pub shown : IfSome held (λ files. ShowsNamed files trouble)

-- a stop by the store or for want of memory, or such trouble
abbrev pub IsStopOrTrouble : Shapes → Option Files → EngineAnswer → Type 0
IsStopOrTrouble keys held (CellPresent square level) = ⊥
IsStopOrTrouble keys held (CellAbsent square level) = ⊥
IsStopOrTrouble keys held DatabaseFull = ⊥
IsStopOrTrouble keys held (NotEmpty name) = ⊥
IsStopOrTrouble keys held (NotADatabase line) = ⊥
IsStopOrTrouble keys held (Trouble trouble) = IsShownTrouble keys held trouble
IsStopOrTrouble keys held (NoTile tile) = ⊥
IsStopOrTrouble keys held (TileLost name) = ⊥
IsStopOrTrouble keys held (OldVersion version) = ⊥
IsStopOrTrouble keys held (NotOld version) = ⊥
IsStopOrTrouble keys held StoreFault = Unit {0}
IsStopOrTrouble keys held NoMemory = Unit {0}

-- nothing but a stop, or trouble with the cell of one of these keys, is answered in place of Ok
abbrev pub OnlyStopsOrTrouble : {T : Type 0} → Shapes → Option Files → Result T EngineAnswer → Type 0
OnlyStopsOrTrouble keys held result = IfErr result (IsStopOrTrouble keys held)

-- the same of the cells that have a row
abbrev pub OnlyStopsOrRowTrouble : {T : Type 0} → List Summary → Option Files → Result T EngineAnswer → Type 0
OnlyStopsOrRowTrouble rows held result = OnlyStopsOrTrouble (shapes_of_rows rows) held result

-- the source's keys stay, and so does what is held under the names of their cells, as far as the store tells it
pub record KeepsCells (keys keys' : Shapes) (held held' : Option Files) : Type 0 where
  pub keys_stay : keys' ≡ keys
  pub alike : AlikeCells keys held held'
