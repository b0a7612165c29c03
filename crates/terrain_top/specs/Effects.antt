-- What a command leaves of the library, the store, the sink and the counter, and why it stops.
use Rattle.std.specs.Prelude.{◌≡◌, ◌⊎◌, ℕ, ◌≤◌, List, Option, Result, IfErr, IsErrOf}
use Rattle.terrain_base.specs.Cause.{Rose}
use Rattle.terrain_base.specs.Library.{LibraryFiles}
use Rattle.terrain_base.specs.Step.{Files}
use Rattle.terrain_base.specs.declared.store.Change.{Change}
use Rattle.database.specs.declared.answer.EngineAnswer.{EngineAnswer}
use Rattle.database.specs.declared.answer.EngineAnswer.TheVariants as engine
use Rattle.top_reply.specs.declared.stop.Stop.{Stop}
use Rattle.top_reply.specs.declared.stop.Stop.TheVariants.{Input, Store, NoMemory}

-- the object's count of faults never falls, and the command stops at the object only where it rose
pub record StopHasCause {T : Type 0} (stop : Stop) (before now : ℕ) (result : Result T Stop) : Type 0 where
  pub later : before ≤ now
  pub rose : IsErrOf result stop → Rose before now

-- only want of memory stops it
abbrev pub OnlyMemory : {T : Type 0} → Result T Stop → Type 0
OnlyMemory result = IfErr result (λ stop. stop ≡ NoMemory)

-- only the library or want of memory stops a call that asks for files, and the library keeps what it holds
pub record Asks {Li T : Type 0} (holds : Li → Option LibraryFiles) (faults : Li → ℕ) (before now : Li)
    (result : Result T Stop) : Type 0 where
  pub same : holds now ≡ holds before
  pub cause : StopHasCause Input (faults before) (faults now) result
  pub only : IfErr result (λ stop. (stop ≡ Input) ⊎ (stop ≡ NoMemory))

-- only the store or want of memory stops a call on a store
pub record OnStore {T : Type 0} (before now : ℕ) (result : Result T Stop) : Type 0 where
  pub cause : StopHasCause Store before now result
  pub only : IfErr result (λ stop. (stop ≡ Store) ⊎ (stop ≡ NoMemory))

-- a store as it was: what it holds, its log and its count of faults
pub record StoreStays {St : Type 0} (holds : St → Option Files) (log : St → Option (List Change)) (faults : St → ℕ)
    (before now : St) : Type 0 where
  pub held : holds now ≡ holds before
  pub logged : log now ≡ log before
  pub count : faults now ≡ faults before

-- what an answer of the engine that refuses nothing stops a command by
abbrev pub StopsBy : EngineAnswer → Stop → Type 0
StopsBy answer stop = ((stop ≡ Store) × (answer ≡ engine.StoreFault)) ⊎ (stop ≡ NoMemory)
