-- A change of a store with its bytes, and what it does.
use Rattle.std.specs.Prelude.{◌≡◌, ◌⊎◌, ℕ, List, [], ◌∷◌, ◌++◌, Option, Some, None, Result, OnOk, OnErr, IsErrOf, Vec}
use Rattle.std.specs.declared.alloc.Global.{Global}
use Rattle.std.specs.FinMap.{FinMap, insert, remove}
use Rattle.terrain_base.specs.Name.{by_text}
use Rattle.terrain_base.specs.declared.name.Key.{Key}
use Rattle.terrain_base.specs.declared.fault.DeviceFault.{DeviceFault}
use Rattle.terrain_base.specs.declared.fault.DeviceFault.TheVariants.{NoMemory}
use Rattle.terrain_base.specs.declared.store.Change.{Change}
use Rattle.terrain_base.specs.declared.store.Change.TheVariants.{Put, Delete}

-- the bytes under each name
abbrev pub Files : Type 0
Files = FinMap by_text (List ℕ)

-- the bytes of a file that was read
abbrev pub items_of : Option (Vec ℕ Global) → Option (List ℕ)
items_of None = None
items_of (Some v) = Some v.items

pub data Step : Type 0 where
  Write : (name : Key) → (bytes : List ℕ) → Step
  Erase : (name : Key) → Step

abbrev pub changed : Step → Files → Files
changed (Write name bytes) files = insert files name bytes
changed (Erase name) files = remove files name

abbrev pub change_of : Step → Change
change_of (Write name bytes) = Put name
change_of (Erase name) = Delete name

-- what is held, and the log, after one step
abbrev pub held_after : Step → Option Files → Option Files
held_after step None = None
held_after step (Some files) = Some (changed step files)

abbrev pub logged_after : Step → Option (List Change) → Option (List Change)
logged_after step None = None
logged_after step (Some log) = Some (log ++ change_of step ∷ [])

-- After Ok the step is done. After an error it is done or not. It is in the log, except maybe where memory ran out.
pub record Does {T : Type 0} (step : Step) (files : Option Files) (log : Option (List Change))
    (files' : Option Files) (log' : Option (List Change)) (result : Result T DeviceFault) : Type 0 where
  pub ok : OnOk result (files' ≡ held_after step files)
  pub err : OnErr result ((files' ≡ files) ⊎ (files' ≡ held_after step files))
  pub logged : (log' ≡ logged_after step log) ⊎ (IsErrOf result NoMemory × (log' ≡ log))
