-- Rows that ascend, one more at the end.
use Rattle.std.specs.Prelude.{◌≡◌, suc, ◌-◌, ◌↔◌, Bool, true, List, [], ◌∷◌, ◌++◌, Some, None, IsTrue, length, slice_get}
use Rattle.std.specs.declared.cmp.Ordering.{Ordering}
use Rattle.std.specs.declared.cmp.Ordering.TheVariants.{Less}
use Rattle.std.specs.Ordering.{is_lt}
use Rattle.std.specs.List.{AllByRecursion}
use Rattle.std.specs.List.Sorted.{IsStrictlySortedBy}
use Rattle.std.proofs.Common.{arith, ap, sym, subst, ◌∙◌}
use Rattle.manifest_lines.specs.Grammar.{Grammar, IsGrammar}
use Rattle.manifest_lines.specs.Manifest.{Ascend}

pub all-push : {R : Type 0} (P : R → Type 0) (xs : List R) (y : R) → AllByRecursion P xs → P y → AllByRecursion P (xs ++ y ∷ [])
all-push P [] y p q = (q, tt)
all-push P (x ∷ xs) y p q = (p.0, all-push P xs y p.1 q)

pub all-last : {R : Type 0} (P : R → Type 0) (xs : List R) (y : R) → AllByRecursion P (xs ++ y ∷ []) → P y
all-last P [] y p = p.0
all-last P (x ∷ xs) y p = all-last P xs y p.1

push_ascend : {R : Type 0} (g : Grammar R) → IsGrammar g → (front : List R) (last x : R) → Ascend g (front ++ last ∷ []) → g.cmp last x ≡ Less → Ascend g ((front ++ last ∷ []) ++ x ∷ [])
unfolding IsStrictlySortedBy
push_ascend g ok [] last x p e = ((e, tt), (tt, tt))
push_ascend g ok (f ∷ front) last x p e =
    (all-push (λ y. g.cmp f y ≡ Less) (front ++ last ∷ []) x p.0 (ok.trans f last x (all-last (λ y. g.cmp f y ≡ Less) front last p.0) e), push_ascend g ok front last x p.1 e)

last_less : {R : Type 0} (g : Grammar R) → (front : List R) (last x : R) → Ascend g ((front ++ last ∷ []) ++ x ∷ []) → g.cmp last x ≡ Less
unfolding IsStrictlySortedBy
last_less g [] last x p = p.0.0
last_less g (f ∷ front) last x p = last_less g front last x p.1

front_of : {R : Type 0} → (rows : List R) (last : R) → slice_get rows (length rows - 1) ≡ Some last → (front : List R) × (rows ≡ front ++ last ∷ [])
front_of [] last e = absurd (cc)
front_of (r ∷ []) last e = let same : r ≡ last = cc in ([], ap (λ s. s ∷ []) same)
front_of (r ∷ s ∷ rest) last e =
    let shorter : suc (suc (length rest)) - 1 ≡ suc (length rest) = omega arith in
    let place : suc (length rest) - 1 ≡ length rest = omega arith in
    let more = front_of (s ∷ rest) last (ap (slice_get (s ∷ rest)) place ∙ sym (ap (slice_get (r ∷ s ∷ rest)) shorter) ∙ e) in
    (r ∷ more.0, ap (λ xs. r ∷ xs) more.1)

is_lt_less : (o : Ordering) → is_lt o ≡ true → o ≡ Less
is_lt_less o e = grind arith

pub one_ascends : {R : Type 0} (g : Grammar R) → (rows : List R) (x : R) → slice_get rows (length rows - 1) ≡ None → Ascend g (rows ++ x ∷ [])
unfolding IsStrictlySortedBy
one_ascends g [] x e = (tt, tt)
one_ascends g (r ∷ []) x e = absurd (cc)
one_ascends {R} g (r ∷ s ∷ rest) x e = absurd (none_none (s ∷ rest) r e)
  where
    none_none : (xs : List R) (r : R) → slice_get (r ∷ xs) (length (r ∷ xs) - 1) ≡ None → ⊥
    none_none [] r e = absurd (cc)
    none_none (s ∷ xs) r e =
        let shorter : suc (suc (length xs)) - 1 ≡ suc (length xs) = omega arith in
        let place : suc (length xs) - 1 ≡ length xs = omega arith in
        none_none xs s (ap (slice_get (s ∷ xs)) place ∙ sym (ap (slice_get (r ∷ s ∷ xs)) shorter) ∙ e)

pub follows_is : {R : Type 0} (g : Grammar R) → IsGrammar g → (rows : List R) (last x : R) (b : Bool) → Ascend g rows → slice_get rows (length rows - 1) ≡ Some last → b ≡ is_lt (g.cmp last x)
    → IsTrue b ↔ Ascend g (rows ++ x ∷ [])
follows_is g ok rows last x b p e is =
    let split = front_of rows last e in (
      (λ yes. subst (λ rs. Ascend g (rs ++ x ∷ [])) (sym split.1) (push_ascend g ok split.0 last x (subst (Ascend g) split.1 p) (is_lt_less (g.cmp last x) (sym is ∙ yes)))),
      (λ q. is ∙ ap is_lt (last_less g split.0 last x (subst (λ rs. Ascend g (rs ++ x ∷ [])) split.1 q))),
    )
