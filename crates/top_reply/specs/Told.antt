-- How many lines of a script a report tells, and what files a stop leaves then.
use Rattle.std.specs.Prelude.{◌≡◌, ◌⊎◌, ℕ, suc, ◌+◌, nat_eq, cond, Bool, List, [], ◌∷◌, codes, Option, IsSomeAnd}
use Rattle.std.specs.List.{slice_split, starts_with}
use Rattle.terrain_base.specs.Step.{Files}
use Rattle.top_words.specs.Script.{is_line_feed}
use Rattle.database.specs.State.{State}
use Rattle.top_reply.specs.declared.stop.Stop.{Stop}
use Rattle.top_reply.specs.declared.stop.Stop.TheVariants as stop
use Rattle.top_reply.specs.Passed.{state_at}

-- the line begins with `line `
abbrev pub tells_line : List ℕ → Bool
tells_line line = starts_with nat_eq line (codes "line ")

-- of parts between line feeds, of which the last is no whole line
abbrev pub told_in : List (List ℕ) → ℕ
told_in [] = 0
told_in (part ∷ []) = 0
told_in (part ∷ next ∷ parts) = cond (tells_line part) 1 0 + told_in (next ∷ parts)

-- how many whole lines of the report begin with `line `
unfoldable pub lines_told : List ℕ → ℕ
lines_told report = told_in (slice_split is_line_feed report)

-- so many lines were told: the files are those of the state after them, or of one more
pub record StopsTold (Is : Files → State → Type 0) (e : Stop) (s : State) (states : List State) (told : ℕ)
    (held' : Option Files) : Type 0 where
  pub between : IsSomeAnd held' (λ files. Is files (state_at s states told) ⊎ Is files (state_at s states (suc told)))
  pub input : e ≡ stop.Input → IsSomeAnd held' (λ files. Is files (state_at s states told))
