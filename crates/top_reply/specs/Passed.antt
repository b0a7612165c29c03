-- The states that a command passes, and the one that it reaches.
use Rattle.std.specs.Prelude.{◌≡◌, ◌⊎◌, ℕ, zero, suc, ◌-◌, List, [], ◌∷◌, ◌++◌, length, Option, IsSomeAnd}
use Rattle.std.specs.FinMap.{get}
use Rattle.terrain_base.specs.Library.{LibraryFiles}
use Rattle.terrain_base.specs.Step.{Files}
use Rattle.top_words.specs.Script.{Line, AreLines}
use Rattle.top_words.specs.Words.{DatabaseCommand, Ask, Change, Apply, Rebuild, Check}
use Rattle.database.specs.State.{State}
use Rattle.top_reply.specs.declared.stop.Stop.{Stop}
use Rattle.top_reply.specs.declared.stop.Stop.TheVariants as stop
use Rattle.top_reply.specs.Course.{Turn, World, StopsIn}
use Rattle.top_reply.specs.Edits.{edit_reply}
use Rattle.top_reply.specs.File.{Found, Bytes, NoFile, found_in, script_limit}
use Rattle.top_reply.specs.Lines.{after_lines, commands_of, states_of}

-- ---- the state that it reaches

-- behind the accepted lines of a script
pub record ReachesByLines (library : LibraryFiles) (bytes : List ℕ) (s t : State) : Type 0 where
  pub lines : List Line
  pub are : AreLines bytes lines
  pub state_is : t ≡ after_lines library (commands_of 1 lines) s

abbrev pub ReachesBy : Found → LibraryFiles → State → State → Type 0
ReachesBy (Bytes bytes) library s t = ReachesByLines library bytes s t
ReachesBy (NoFile cause) library s t = t ≡ s

-- the state after the accepted commands, in order
abbrev pub Reaches : DatabaseCommand → LibraryFiles → State → State → Type 0
Reaches (Ask query) library s t = t ≡ s
Reaches (Change edit) library s t = t ≡ (edit_reply edit library s).next
Reaches (Apply script) library s t = ReachesBy (found_in script script_limit (get library script)) library s t
Reaches Rebuild library s t = t ≡ s
Reaches Check library s t = t ≡ s

-- ---- the states that it passes, one after each turn

pub record PassesLines (library : LibraryFiles) (bytes : List ℕ) (s : State) (states : List State) : Type 0 where
  pub lines : List Line
  pub are : AreLines bytes lines
  pub states_are : states
      ≡ states_of library (commands_of 1 lines) s ++ after_lines library (commands_of 1 lines) s ∷ []

abbrev pub PassesBy : Found → LibraryFiles → State → List State → Type 0
PassesBy (Bytes bytes) library s states = PassesLines library bytes s states
PassesBy (NoFile cause) library s states = states ≡ s ∷ []

-- once the database is settled
abbrev pub Passes : DatabaseCommand → LibraryFiles → State → List State → Type 0
Passes (Ask query) library s states = states ≡ s ∷ []
Passes (Change edit) library s states = states ≡ (edit_reply edit library s).next ∷ []
Passes (Apply script) library s states = PassesBy (found_in script script_limit (get library script)) library s states
Passes Rebuild library s states = states ≡ s ∷ []
Passes Check library s states = states ≡ s ∷ []

-- the state after so many turns, the last one where there are fewer
abbrev pub state_at : State → List State → ℕ → State
state_at s states zero = s
state_at s [] (suc n) = s
state_at s (t ∷ states) (suc n) = state_at t states n

-- ---- where it is stopped

-- so many turns were whole: the files are those of the state after them, or of one more, as `Is` says; the library is
-- asked before a turn's changes, and the report is put after them
pub record Stopped (Is : Files → State → Type 0) (e : Stop) (s : State) (states : List State) (n : ℕ)
    (held' : Option Files) : Type 0 where
  pub between : IsSomeAnd held' (λ files. Is files (state_at s states n) ⊎ Is files (state_at s states (suc n)))
  pub input : e ≡ stop.Input → IsSomeAnd held' (λ files. Is files (state_at s states n))
  pub output : e ≡ stop.Output → IsSomeAnd held' (λ files. Is files (state_at s states (suc n)))

-- of turns of which the first is settling: where it stopped, and for which states its files are then; where the sink
-- took anything of the turn in which it stopped, the turn's changes are made
pub record StopsBetween (Is : Files → State → Type 0) (s : State) (states : List State) (turns : List Turn)
    (e : Stop) (w w' : World) : Type 0 where
  pub stops : StopsIn e turns w w'
  pub stopped : Stopped Is e s states (length stops.before - 1) w'.held
  pub printed : (w'.taken ≡ stops.mid.taken → ⊥)
      → IsSomeAnd w'.held (λ files. Is files (state_at s states (suc (length stops.before - 1))))
