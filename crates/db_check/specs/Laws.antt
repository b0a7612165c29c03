-- What a verdict is held to.
use Rattle.std.specs.Prelude.{◌≡◌, ◌≢◌, ◌⊎◌, ◌↔◌, None, Some}
use Rattle.std.specs.FinMap.{len}
use Rattle.std.specs.declared.cmp.Ordering.TheVariants.{Less}
use Rattle.terrain_base.specs.declared.name.Key.{Key}
use Rattle.terrain_base.specs.Name.{by_text}
use Rattle.terrain_base.specs.Step.{Files}
use Rattle.database.specs.State.{State, AreFiles}
use Rattle.database.specs.declared.verdict.Difference.{Difference}
use Rattle.database.specs.Verdict.{difference_at}
use Rattle.db_check.specs.declared.verdict.CheckVerdict.{CheckVerdict}
use Rattle.db_check.specs.declared.verdict.CheckVerdict.TheVariants.{Good, Found}
use Rattle.db_check.specs.Verdict.{IsVerdictOf}

-- of a state and files there is at most one verdict
abbrev pub VerdictsAreOne : Type 0
VerdictsAreOne = (s : State) (files : Files) (a b : CheckVerdict) → IsVerdictOf s files a → IsVerdictOf s files b
    → a ≡ b

-- it is good, with the number of files, exactly where these are the state's
abbrev pub GoodIsExact : Type 0
GoodIsExact = (s : State) (files : Files) (verdict : CheckVerdict) → IsVerdictOf s files verdict
    → (verdict ≡ Good (len files)) ↔ AreFiles files s

-- a name that is found shows its difference, and every other name that shows one comes behind it
abbrev pub FoundIsLeast : Type 0
FoundIsLeast = (s : State) (files : Files) (name : Key) (kind : Difference) → IsVerdictOf s files (Found name kind)
    → (difference_at s files name ≡ Some kind)
    × ((other : Key) → difference_at s files other ≢ None → (other ≡ name) ⊎ (by_text name other ≡ Less))
