-- The spans of triangles, in their order and sorted.
use Rattle.std.proofs.Common.{◌≡◌, ℕ, zero, suc, ◌+◌, ◌<◌, ap, sym, subst, ◌∙◌, arith, List, [], ◌∷◌, ◌++◌, length}
use Rattle.std.proofs.Common.{slice_index_or, IsPermutation}
use Rattle.std.specs.Prelude.{Any}
use Rattle.std.specs.List.Sorted.{IsNonDecreasingBy}
use Rattle.std.proofs.lemmas.List.{length_push}
use Rattle.std.proofs.lemmas.List.Elements.{All-push}
use Rattle.std.proofs.lemmas.List.Sorted.{All-permutation, Contains-permutation, length_permutation}
use Rattle.mesh_plane.specs.declared.corner.Tri.{Tri}
use Rattle.mesh_check.specs.Spans.{Span, IsSpan, IsSpanAt, AreFirstSpans, AreSpans}
use Rattle.mesh_check.proofs.ListFacts.{at_own}
use Rattle.mesh_check.proofs.Distinct.{still_distinct}

-- the elements of a list with one more at its end
pub pushed_at : {X : Type 0} (P : ℕ → X → Type 0) (xs : List X) (x : X) → ((k : ℕ) (d : X) → k < length xs → P k
    (slice_index_or xs k d)) → P (length xs) x
    → (k : ℕ) (d : X) → k < length (xs ++ x ∷ []) → P k (slice_index_or (xs ++ x ∷ []) k d)
pushed_at P [] x h p k d l = let e : k ≡ 0 = omega (arith, l) in subst (λ (i : ℕ). P i (slice_index_or (x ∷ []) i d))
    (sym e) p
pushed_at P (y ∷ xs) x h p zero d l = h 0 d (omega arith)
pushed_at P (y ∷ xs) x h p (suc k) d l =
    pushed_at (λ i z. P (suc i) z) xs x (λ i e m. h (suc i) e (omega (arith, m))) p k d (omega (arith, l))

pub first_on : (ts : List Tri) (k : ℕ) (spans after : List Span) (s : Span) → AreFirstSpans ts k spans → k < length ts
    → s.number ≡ k → ((d : Tri) → IsSpan (slice_index_or ts k d) s)
    → after ≡ spans ++ s ∷ [] → AreFirstSpans ts (k + 1) after
first_on ts k spans after s f l n i e =
    subst (λ (xs : List Span). AreFirstSpans ts (k + 1) xs) (sym e)
    (record {
      count = length_push spans s ∙ ap (λ (m : ℕ). m + 1) f.count;
      each = All-push (IsSpanAt ts) spans s f.each (record {
        numbered = omega (arith, l, n);
        is =
            λ d. subst (λ (m : ℕ). IsSpan (slice_index_or ts m d) s) (sym n) (i d);
      });
      numbered = pushed_at (λ m z. z.number ≡ m) spans s f.numbered (n ∙ sym f.count);
    })

pub sorted_spans : (ts : List Tri) (first spans : List Span) → AreFirstSpans ts (length ts) first
    → IsPermutation first spans → IsNonDecreasingBy (λ s. s.low) spans → AreSpans ts spans
sorted_spans ts first spans f p o = record {
  count = length_permutation first spans p ∙ f.count;
  each = All-permutation (IsSpanAt ts) first spans p f.each;
  once = λ i j d l k e. let q : i ≡ j = still_distinct (λ (s : Span). s.number) first spans distinct p i j d
      (omega (arith, l, k)) k e in absurd (omega (arith, l, q));
  all = there;
  ascending = o;
}
  where
    none : Span
    none = record { low = 0; high = 0; number = 0 }

    distinct : (i j : ℕ) (d : Span) → i < length first → j < length first → (slice_index_or first i d).number ≡
        (slice_index_or first j d).number → i ≡ j
    distinct i j d li lj e = sym (f.numbered i d li) ∙ e ∙ f.numbered j d lj

    there : (number : ℕ) → number < length ts → Any (λ s. s.number ≡ number) spans
    there number l =
        let m : number < length first = omega (arith, l, f.count) in
        let s = slice_index_or first number none in
        let c = Contains-permutation first spans s p (number, m, at_own first number none m) in
        (c.0, s, c.1, c.2, f.numbered number none m)
