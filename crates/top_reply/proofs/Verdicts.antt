-- Files have a verdict.
use Rattle.std.proofs.Common.{◌≡◌, Bool, true, false, List, [], ◌∷◌, ◌++◌, Option, Some, None, refl, sym, subst, append-nil, append_assoc}
use Rattle.std.specs.FinMap.{len}
use Rattle.std.specs.Ordering.{is_lt}
use Rattle.terrain_base.specs.declared.name.Key.{Key}
use Rattle.terrain_base.specs.Name.{by_text}
use Rattle.terrain_base.specs.Step.{Files}
use Rattle.database.specs.declared.verdict.Difference.{Difference}
use Rattle.database.specs.declared.verdict.Finding.{Finding}
use Rattle.database.specs.State.{State}
use Rattle.database.specs.Verdict.{IsLeast, IsVerdict, difference_at, unwanted_names, wanted_names}
use Rattle.database.proofs.Verdicts.{all_names, least_else, least_first, least_none, least_then, verdict_of}
use Rattle.db_check.specs.declared.verdict.CheckVerdict.{CheckVerdict}
use Rattle.db_check.specs.declared.verdict.CheckVerdict.TheVariants.{Good, Found}
use Rattle.db_check.specs.Verdict.{IsVerdictOf}

-- ---- the least name of some that shows a difference

module _ (at : Key → Option Difference) where
  Least : List Key → Type 0
  Least names = (best : Option Finding) × IsLeast at names best

  by_order : (names : List Key) (found : Finding) (name : Key) (kind : Difference) (before : Bool)
      → is_lt (by_text name found.name) ≡ before → IsLeast at names (Some found) → at name ≡ Some kind
      → Least (names ++ name ∷ [])
  unfolding Least
  by_order names found name kind true e least is =
      (Some (record { name = name; kind = kind }), least_then at names (Some found) found name (Some kind) kind refl refl e least is)
  by_order names found name kind false e least is =
      (Some found, least_else at names (Some found) found name (Some kind) kind refl refl e least is)

  one_more : (names : List Key) (best : Option Finding) (name : Key) (d : Option Difference) → IsLeast at names best
      → at name ≡ d → Least (names ++ name ∷ [])
  unfolding Least
  one_more names best name None least is = (best, least_none at names best name None refl least is)
  one_more names None name (Some kind) least is =
      (Some (record { name = name; kind = kind }), least_first at names None name (Some kind) kind refl refl least is)
  one_more names (Some found) name (Some kind) least is =
      by_order names found name kind (is_lt (by_text name found.name)) refl least is

  has_least : (names more : List Key) → Least names → Least (names ++ more)
  unfolding Least
  has_least names [] least = subst Least (sym (append-nil names)) least
  has_least names (name ∷ more) least =
      subst Least (append_assoc names (name ∷ []) more)
      (has_least (names ++ name ∷ []) more (one_more names least.0 name (at name) least.1 refl))

-- ---- the verdict on files

by_best : (s : State) (files : Files) (best : Option Finding) → IsVerdict s files best
    → (verdict : CheckVerdict) × IsVerdictOf s files verdict
by_best s files None is = (Good (len files), (is, refl))
by_best s files (Some found) is = (Found found.name found.kind, is)

pub has_verdict : (s : State) (files : Files) → (verdict : CheckVerdict) × IsVerdictOf s files verdict
unfolding Least
has_verdict s files =
    let names = unwanted_names s files ++ wanted_names s in
    let least = has_least (difference_at s files) [] names (None, λ other is. absurd (cc)) in
    by_best s files least.0 (verdict_of s files names least.0 (all_names s files) least.1)
