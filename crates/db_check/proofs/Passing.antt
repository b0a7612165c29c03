-- What an answer that is passed on says.
use Rattle.std.proofs.Common.{◌≡◌, Result, Option, subst}
use Rattle.terrain_base.specs.Step.{Files}
use Rattle.cell_mosaic.specs.Cells.{Shapes}
use Rattle.db_files.specs.Trouble.{OnlyStopsOrTrouble}
use Rattle.database.specs.declared.answer.EngineAnswer.{EngineAnswer}

-- trouble by equal keys over equal files
pub trouble_as : {T : Type 0} (result : Result T EngineAnswer) {keys keys' : Shapes} {held held' : Option Files}
    → keys ≡ keys' → held ≡ held' → OnlyStopsOrTrouble keys held result → OnlyStopsOrTrouble keys' held' result
trouble_as result {keys' = keys'} {held = held} p q is = subst (λ h. OnlyStopsOrTrouble keys' h result) q
    (subst (λ k. OnlyStopsOrTrouble k held result) p is)
