-- The line of a check.
use Rattle.std.specs.Prelude.{ℕ, List, [], ◌∷◌, codes, decimal}
use Rattle.terrain_base.specs.Name.{name_text}
use Rattle.database.specs.declared.verdict.Difference.{Difference}
use Rattle.database.specs.declared.verdict.Difference.TheVariants.{Differs, Missing, Extra}
use Rattle.db_check.specs.declared.verdict.CheckVerdict.{CheckVerdict}
use Rattle.db_check.specs.declared.verdict.CheckVerdict.TheVariants.{Good, Found}
use Rattle.report_text.specs.Words.{joined}

abbrev pub difference_word : Difference → List ℕ
difference_word Differs = codes "differs"
difference_word Missing = codes "missing"
difference_word Extra = codes "extra"

-- `check good files N`, or `found differs NAME`, `found missing NAME`, `found extra NAME`
abbrev pub check_line_of : CheckVerdict → List ℕ
check_line_of (Good files) = joined (codes "check good files " ∷ decimal files ∷ [])
check_line_of (Found name kind) = joined (codes "found " ∷ difference_word kind ∷ codes " " ∷ name_text name ∷ [])
