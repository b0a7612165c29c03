-- What a comparison of files with those of a state says.
use Rattle.std.specs.Prelude.{◌≡◌, Some}
use Rattle.std.specs.FinMap.{len}
use Rattle.terrain_base.specs.Step.{Files}
use Rattle.database.specs.State.{State, AreFiles}
use Rattle.database.specs.Verdict.{IsVerdict}
use Rattle.db_check.specs.declared.verdict.CheckVerdict.{CheckVerdict}
use Rattle.db_check.specs.declared.verdict.CheckVerdict.TheVariants.{Good, Found}

-- good: these are the state's files, and so many. Found: the name shows this difference, and no name before it, by the
-- order of their bytes, shows any.
abbrev pub IsVerdictOf : State → Files → CheckVerdict → Type 0
IsVerdictOf s files (Good count) = AreFiles files s × (count ≡ len files)
IsVerdictOf s files (Found name kind) = IsVerdict s files (Some (record { name = name; kind = kind }))
