-- One verdict, and what it says.
use Rattle.std.proofs.Common.{◌≡◌, Option, Some, None, refl, sym, ap, ◌∙◌, ◌⊎◌, inl, inr}
use Rattle.std.specs.Prelude.{◌≢◌}
use Rattle.std.specs.FinMap.{get, len}
use Rattle.std.specs.Ordering.{ordering_reverse}
use Rattle.std.specs.declared.cmp.Ordering.{Ordering}
use Rattle.std.specs.declared.cmp.Ordering.TheVariants.{Less, Equal, Greater}
use Rattle.terrain_base.specs.Name.{by_text}
use Rattle.terrain_base.specs.Step.{Files}
use Rattle.terrain_base.specs.declared.name.Key.{Key}
use Rattle.database.specs.State.{State, AreFiles, file_of}
use Rattle.database.specs.declared.verdict.Difference.{Difference}
use Rattle.database.specs.Verdict.{difference_at}
use Rattle.database.proofs.Given.{by_text_total, by_text_exact}
use Rattle.db_check.specs.declared.verdict.CheckVerdict.TheVariants.{Good, Found}
use Rattle.db_check.specs.Verdict.{IsVerdictOf}
use Rattle.db_check.specs.Laws.{VerdictsAreOne, GoodIsExact, FoundIsLeast}
use Rattle.db_check.proofs.Looked.{none_where}

-- the state's files show no difference
never_found : (s : State) (files : Files) (name : Key) (kind : Difference) → AreFiles files s
    → difference_at s files name ≡ Some kind → ⊥
never_found s files name kind are shown = let none = none_where (get files name) (file_of s name) (are.each name) in
    absurd (cc)

reversed : (m n : Key) → by_text m n ≡ Greater → by_text n m ≡ Less
reversed m n e = by_text_total.antisymm n m ∙ ap ordering_reverse e

shown_twice : (d : Option Difference) (kind : Difference) → d ≡ Some kind → d ≡ None → ⊥
shown_twice d kind some none = absurd (cc)

one_kind : (d : Option Difference) (j k : Difference) → d ≡ Some j → d ≡ Some k → j ≡ k
one_kind d j k first second = cc

found_once : (s : State) (files : Files) (m n : Key) (j k : Difference) (o : Ordering) → by_text m n ≡ o
    → IsVerdictOf s files (Found m j) → IsVerdictOf s files (Found n k) → Found m j ≡ Found n k
found_once s files m n j k Less e a b = absurd (shown_twice _ j a.0 (b.1 m e))
found_once s files m n j k Greater e a b = absurd (shown_twice _ k b.0 (a.1 n (reversed m n e)))
found_once s files m n j k Equal e a b =
    let name : m ≡ n = by_text_exact m n e in
    let kind : j ≡ k = one_kind (difference_at s files n) j k (ap (difference_at s files) (sym name) ∙ a.0) b.0 in
    λ i. Found (name i) (kind i)

pub one_verdict : VerdictsAreOne
one_verdict s files (Good m) (Good n) a b = ap Good (a.1 ∙ sym b.1)
one_verdict s files (Good m) (Found name kind) a b = absurd (never_found s files name kind a.0 b.0)
one_verdict s files (Found name kind) (Good n) a b = absurd (never_found s files name kind b.0 a.0)
one_verdict s files (Found m j) (Found n k) a b = found_once s files m n j k (by_text m n) refl a b

not_good : (s : State) (files : Files) (name : Key) (kind : Difference) → Found name kind ≡ Good (len files) → ⊥
not_good s files name kind e = absurd (cc)

pub good_exact : GoodIsExact
good_exact s files (Good n) is = (λ same. is.0, λ are. ap Good is.1)
good_exact s files (Found name kind) is =
    (λ same. absurd (not_good s files name kind same), λ are. absurd (never_found s files name kind are is.0))

behind : (s : State) (files : Files) (name other : Key) (o : Ordering) → by_text name other ≡ o
    → (by_text other name ≡ Less → difference_at s files other ≡ None) → difference_at s files other ≢ None
    → (other ≡ name) ⊎ (by_text name other ≡ Less)
behind s files name other Less e before shown = inr e
behind s files name other Equal e before shown = inl (sym (by_text_exact name other e))
behind s files name other Greater e before shown = absurd (shown (before (reversed name other e)))

pub found_least : FoundIsLeast
found_least s files name kind is =
    (is.0, λ other shown. behind s files name other (by_text name other) refl (is.1 other) shown)
