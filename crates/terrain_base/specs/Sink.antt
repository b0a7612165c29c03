-- What a sink took.
use Rattle.std.specs.Prelude.{◌≡◌, ℕ, ◌≤◌, List, ◌++◌, length, take, Option, Some, None, option_map, Result, OnOk, OnErr}
use Rattle.terrain_base.specs.declared.fault.DeviceFault.{DeviceFault}

-- some first of the bytes follow what was taken
pub record IsFront (taken bytes : List ℕ) (taken' : Option (List ℕ)) : Type 0 where
  pub count : ℕ
  pub within : count ≤ length bytes
  pub follows : taken' ≡ Some (taken ++ take count bytes)

-- the same of a sink that may tell nothing: then it goes on telling nothing
abbrev pub FrontTaken : Option (List ℕ) → List ℕ → Option (List ℕ) → Type 0
FrontTaken None bytes taken' = taken' ≡ None
FrontTaken (Some taken) bytes taken' = IsFront taken bytes taken'

-- after Ok the bytes follow what was taken, after an error some first of them
pub record Takes {T : Type 0} (bytes : List ℕ) (taken taken' : Option (List ℕ))
    (result : Result T DeviceFault) : Type 0 where
  pub ok : OnOk result (taken' ≡ option_map (λ taken. taken ++ bytes) taken)
  pub err : OnErr result (FrontTaken taken bytes taken')
