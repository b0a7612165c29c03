-- Which calls on an object in memory fail, by a list of their numbers, what a failing one does, and how many of them
-- were made.
use Rattle.std.specs.Prelude.{◌≡◌, ℕ, zero, suc, ◌+◌, ◌-◌, ◌^◌, ◌==◌, List, Option, Some, None, Result, IsOk, IsErrOf, cond, find, is_some, min}
use Rattle.terrain_base.specs.declared.fail.Fail.{Fail}
use Rattle.terrain_base.specs.declared.fault.DeviceFault.{DeviceFault}
use Rattle.terrain_base.specs.declared.fault.DeviceFault.TheVariants.{Failed}

-- the first entry for the call of this number; the call numbered 2^64 - 1 stands for all from there on, and has none
abbrev pub fail_at : List Fail → ℕ → Option Fail
fail_at fails number = cond (number == 2 ^ 64 - 1) None (find (λ fail. fail.call == number) fails)

-- the number of the next call
abbrev pub call_after : ℕ → ℕ
call_after number = min (number + 1) (2 ^ 64 - 1)

-- of the first so many calls, those that the list names
abbrev pub failed_of : List Fail → ℕ → ℕ
failed_of fails zero = 0
failed_of fails (suc calls) = failed_of fails calls + cond (is_some (find (λ fail. fail.call == calls) fails)) 1 0

-- A call without an entry does not fail. One with an entry does, and leaves what it was to do, or else what was there
-- before, as the entry says.
abbrev pub FailsAs : {A T : Type 0} → Option Fail → A → A → A → Result T DeviceFault → Type 0
FailsAs None done before now result = ¬ (IsErrOf result Failed)
FailsAs (Some fail) done before now result = (¬ (IsOk result))
    × (IsErrOf result Failed → now ≡ cond fail.applied done before)
