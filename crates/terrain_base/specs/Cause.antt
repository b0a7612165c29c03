-- A fault of the outside has a cause that can be seen: the count of faults rose.
use Rattle.std.specs.Prelude.{◌≡◌, ◌⊎◌, ℕ, ◌-◌, ◌^◌, ◌<◌, ◌≤◌, Result, IsErrOf}
use Rattle.terrain_base.specs.declared.fault.DeviceFault.{DeviceFault}
use Rattle.terrain_base.specs.declared.fault.DeviceFault.TheVariants.{Failed}

-- the count is greater than it was, or stands at the last value that a counter of 64 bits has
abbrev pub Rose : ℕ → ℕ → Type 0
Rose before now = (before < now) ⊎ (now ≡ 2 ^ 64 - 1)

-- the count never falls, and 'Failed' is answered only where it rose
pub record HasCause {T : Type 0} (before now : ℕ) (result : Result T DeviceFault) : Type 0 where
  pub later : before ≤ now
  pub failed : IsErrOf result Failed → Rose before now
