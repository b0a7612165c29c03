-- The first refusal in an order, and the least number that fails.
use Rattle.std.specs.Prelude.{◌≡◌, ◌<◌, ℕ, All, IsNone, Bool, List, [], ◌∷◌, ◌++◌, Option, Some, None, if◌then◌else◌}
use Rattle.std.specs.Option.{option_or}

-- a refusal, standing where its condition holds
infix 5 ◌when◌
abbrev pub ◌when◌ : {R : Type 0} → R → Bool → Option R
refusal when holds = if holds then Some refusal else None

-- the first that stands
abbrev pub first_of : {R : Type 0} → List (Option R) → Option R
first_of [] = None
first_of (refusal ∷ later) = option_or refusal (first_of later)

-- a refusal stands in the list, and none before it
abbrev pub IsFirst : {R : Type 0} → List (Option R) → R → Type 0
IsFirst {R} refusals refusal =
    (before after : List (Option R)) × (refusals ≡ before ++ Some refusal ∷ after) × All IsNone before

-- each number below this one has the property, and this one has not
pub record IsLeastFailing (holds : ℕ → Type 0) (number : ℕ) : Type 0 where
  pub before : (k : ℕ) → k < number → holds k
  pub here : ¬ (holds number)
