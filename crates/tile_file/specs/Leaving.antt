-- What a call that takes memory leaves of a source of posts and of the store that it is lent.
use Rattle.std.specs.Prelude.{ℕ, Bool, List, Option, Result, Ok, Err, IsTrue}
use Rattle.terrain_base.specs.declared.store.Change.{Change}
use Rattle.terrain_base.specs.Step.{Files}
use Rattle.cell_mosaic.specs.Cells.{Cells, Shapes}
use Rattle.cell_mosaic.specs.Source.{FaultHasCause, Keeps, Marks, TroubleIsShown}
use Rattle.cell_mosaic.specs.declared.fault.SourceFault.{SourceFault}
use Rattle.cell_mosaic.specs.declared.fault.SourceFault.TheVariants.{Failed, NoMemory, Cell}

-- an Ok, or want of memory
abbrev pub IsOkOrNoMemory : {T : Type 0} → Result T SourceFault → Type 0
IsOkOrNoMemory (Ok given) = Unit {0}
IsOkOrNoMemory (Err Failed) = ⊥
IsOkOrNoMemory (Err NoMemory) = Unit {0}
IsOkOrNoMemory (Err (Cell trouble)) = ⊥

-- As `Leaves`, but a sure source answers Ok or NoMemory, since memory alone may be wanting: trouble with a cell is
-- shown, 'Failed' has a cause, nothing that can be seen is changed, and trouble is not passed over.
pub record LeavesAllocating {P S T : Type 0} (cells : P → Option Files → Option Cells) (shapes : P → Shapes)
    (is_sure is_spoilt : P → Bool)
    (holds : S → Option Files) (log : S → Option (List Change)) (faults : S → ℕ)
    (source source' : P) (store store' : S) (result : Result T SourceFault) : Type 0 where
  pub sure : IsTrue (is_sure source) → IsOkOrNoMemory result
  pub shown : TroubleIsShown (shapes source) (holds store) (cells source (holds store)) result
  pub cause : FaultHasCause (faults store) (faults store') result
  pub keeps : Keeps cells shapes is_sure source source' (holds store) (holds store') (log store) (log store')
  pub spoilt : Marks (is_spoilt source) (is_spoilt source') result
