-- What stores are held to: single changes, names in order, runs of changes and their stops.
use Rattle.std.specs.Prelude.{◌≡◌, ◌≢◌, ℕ, ◌≤◌, List, ◌++◌, Option, Some, None, IfSome, length, map, take, Contains}
use Rattle.std.specs.FinMap.{get, keys}
use Rattle.std.specs.List.Sorted.{IsStrictlySortedBy}
use Rattle.terrain_base.specs.declared.name.Key.{Key}
use Rattle.terrain_base.specs.declared.store.Change.{Change}
use Rattle.terrain_base.specs.Name.{by_text}
use Rattle.terrain_base.specs.Step.{Files, Step, Write, Erase, changed, change_of}
use Rattle.terrain_base.specs.Run.{log_after, SomeDone}
use Rattle.terrain_base.specs.Overwrite.{steps_to, all_changed}

-- after a put the name holds the bytes, and every other name what it held
abbrev pub PutsOne : Type 0
PutsOne = (files : Files) (name : Key) (bytes : List ℕ)
    → (get (changed (Write name bytes) files) name ≡ Some bytes)
    × ((other : Key) → other ≢ name → get (changed (Write name bytes) files) other ≡ get files other)

-- after a delete the name is not held, and every other name holds what it held
abbrev pub DeletesOne : Type 0
DeletesOne = (files : Files) (name : Key)
    → (get (changed (Erase name) files) name ≡ None)
    × ((other : Key) → other ≢ name → get (changed (Erase name) files) other ≡ get files other)

-- a delete of a name that is not held changes nothing held
abbrev pub AbsentStays : Type 0
AbsentStays = (files : Files) (name : Key) → get files name ≡ None → changed (Erase name) files ≡ files

-- the held names rise by their texts
abbrev pub NamesAscend : Type 0
NamesAscend = (files : Files) → IsStrictlySortedBy by_text (keys files)

-- steps add their changes to the log, in their order
abbrev pub StepsAreLogged : Type 0
StepsAreLogged = (steps : List Step) (log : List Change)
    → log_after steps (Some log) ≡ Some (log ++ map change_of steps)

-- names that are overwritten hold what is wanted, and every other name what it held
abbrev pub Overwrites : Type 0
Overwrites = (want : Key → Option (List ℕ)) (names : List Key) (files : Files) (name : Key)
    → (Contains names name → get (all_changed (steps_to want names) files) name ≡ want name)
    × (¬ (Contains names name) → get (all_changed (steps_to want names) files) name ≡ get files name)

-- a stop while names are overwritten leaves every other name as it was
abbrev pub StopsLeaveOthers : Type 0
StopsLeaveOthers = (want : Key → Option (List ℕ)) (names : List Key) (files : Files)
    (files' : Option Files) (log log' : Option (List Change))
    → SomeDone (steps_to want names) (Some files) log files' log'
    → (name : Key) → ¬ (Contains names name)
    → IfSome files' (λ after. get after name ≡ get files name)

-- a stop leaves a log that grew by the changes of some first steps
abbrev pub StopsLogAFront : Type 0
StopsLogAFront = (steps : List Step) (log : List Change)
    (files files' : Option Files) (log' : Option (List Change))
    → SomeDone steps files (Some log) files' log'
    → IfSome log' (λ after. (n : ℕ) × (n ≤ length steps) × (after ≡ log ++ map change_of (take n steps)))
