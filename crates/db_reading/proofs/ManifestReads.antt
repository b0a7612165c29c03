-- What is told of the manifest that a store holds.
use Rattle.std.proofs.Common.{◌≡◌, ℕ, List, Some, subst}
use Rattle.std.specs.Prelude.{IsSomeAnd}
use Rattle.std.specs.FinMap.{get}
use Rattle.terrain_base.specs.declared.name.Key.TheVariants.{Manifest}
use Rattle.terrain_base.specs.Step.{Files}
use Rattle.database.specs.Opening.{IsOld, RefusedAt}
use Rattle.database.specs.declared.answer.EngineAnswer.{EngineAnswer}
use Rattle.database.specs.declared.answer.EngineAnswer.TheVariants as answer
use Rattle.db_reading.specs.ReadManifest.{IsNoManifest, IsRefusedAs}

-- the bytes that are refused are those that are held
pub held_refused : (files : Files) (bytes : List ℕ) (a : EngineAnswer) → Some bytes ≡ get files Manifest → IsRefusedAs bytes a → IsNoManifest files a
held_refused files bytes (answer.CellPresent square level) held t = t
held_refused files bytes (answer.CellAbsent square level) held t = t
held_refused files bytes answer.DatabaseFull held t = t
held_refused files bytes (answer.NotEmpty name) held t = t
held_refused files bytes (answer.NotADatabase line) held t = subst (λ o. RefusedAt line o) held t
held_refused files bytes (answer.Trouble trouble) held t = t
held_refused files bytes (answer.NoTile tile) held t = t
held_refused files bytes (answer.TileLost name) held t = t
held_refused files bytes (answer.OldVersion version) held t = subst (λ o. IsSomeAnd o (IsOld version)) held t
held_refused files bytes (answer.NotOld version) held t = t
held_refused files bytes answer.StoreFault held t = tt
held_refused files bytes answer.NoMemory held t = tt
