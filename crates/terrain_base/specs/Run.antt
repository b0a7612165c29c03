-- Changes of a store one after another, and what a call leaves that may stop among them.
use Rattle.std.specs.Prelude.{◌≡◌, ℕ, ◌+◌, ◌≤◌, List, [], ◌∷◌, length, take, Option, Result, OnOk, OnErr}
use Rattle.terrain_base.specs.declared.store.Change.{Change}
use Rattle.terrain_base.specs.Step.{Files, Step, held_after, logged_after}

-- what is held after the steps, in their order
abbrev pub files_after : List Step → Option Files → Option Files
files_after [] files = files
files_after (step ∷ steps) files = files_after steps (held_after step files)

-- the log after the steps
abbrev pub log_after : List Step → Option (List Change) → Option (List Change)
log_after [] log = log
log_after (step ∷ steps) log = log_after steps (logged_after step log)

-- All of the steps are done.
pub record AllDone (steps : List Step) (files : Option Files) (log : Option (List Change))
    (files' : Option Files) (log' : Option (List Change)) : Type 0 where
  pub held : files' ≡ files_after steps files
  pub logged : log' ≡ log_after steps log

-- Some first steps are done and some are in the log, as many or one more or less.
pub record SomeDone (steps : List Step) (files : Option Files) (log : Option (List Change))
    (files' : Option Files) (log' : Option (List Change)) : Type 0 where
  pub done : ℕ
  pub noted : ℕ
  pub done_of : done ≤ length steps
  pub noted_of : noted ≤ length steps
  pub done_near : done ≤ noted + 1
  pub noted_near : noted ≤ done + 1
  pub held : files' ≡ files_after (take done steps) files
  pub logged : log' ≡ log_after (take noted steps) log

-- After Ok all of the steps are done, after an error some first ones.
pub record Ran {T E : Type 0} (steps : List Step) (files : Option Files) (log : Option (List Change))
    (files' : Option Files) (log' : Option (List Change)) (result : Result T E) : Type 0 where
  pub ok : OnOk result (AllDone steps files log files' log')
  pub err : OnErr result (SomeDone steps files log files' log')
