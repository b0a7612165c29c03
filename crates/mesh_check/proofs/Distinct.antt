-- A list whose elements have different numbers keeps this when it is put in another order.
use Rattle.std.proofs.Common.{◌≡◌, ℕ, ◌<◌, refl, ap, sym, ◌∙◌, arith, List, length, slice_index_or, inl, inr, ⊎_elim}
use Rattle.std.proofs.Common.{IsPermutation}
use Rattle.std.specs.Prelude.{◌⊎◌, pos}
use Rattle.std.specs.List.{swap}
use Rattle.std.proofs.lemmas.Int.{ints, by_lt_z}
use Rattle.std.proofs.lemmas.List.Edits.{Swapped, swapped_from_swap, length-swap}
use Rattle.std.proofs.lemmas.List.Sorted.{IsPermutation-keeps}

either : (i j : ℕ) → (i ≡ j) ⊎ (i ≡ j → ⊥)
either i j = by_lt_z (pos i) (pos j) (λ h. inr (λ q. omega (arith, ints, h, q))) (λ h. by_lt_z (pos j) (pos i)
    (λ q. inr (λ r. omega (arith, ints, q, r))) (λ q. inl (omega (arith, ints, h, q))))

module _ {X : Type 0} (n : X → ℕ) where
  abbrev pub IsDistinct : List X → Type 0
  IsDistinct xs = (i j : ℕ) (d : X) → i < length xs → j < length xs → n (slice_index_or xs i d) ≡ n
      (slice_index_or xs j d) → i ≡ j

  -- where an element was before the swap of a and b
  record Was (a b : ℕ) (f g : ℕ → X) (i : ℕ) : Type 0 where
    pub k : ℕ
    pub same : g i ≡ f k
    pub moved : ((i ≡ a) × (k ≡ b)) ⊎ (((i ≡ b) × (k ≡ a)) ⊎ ((i ≡ a → ⊥) × (i ≡ b → ⊥) × (k ≡ i)))

  was : (a b : ℕ) (f g : ℕ → X) → Swapped f g a b → (i : ℕ) → Was a b f g i
  was a b f g s i =
      ⊎_elim (λ e. record { k = b; same = ap g e ∙ s.0; moved = inl (e, refl) })
      (λ p. ⊎_elim (λ e. record { k = a; same = ap g e ∙ s.1; moved = inr (inl (e, refl)) })
      (λ q. record { k = i; same = s.2 i p q; moved = inr (inr (p, q, refl)) }) (either i b)) (either i a)

  back : (a b : ℕ) (f g : ℕ → X) (i j : ℕ) (u : Was a b f g i) (v : Was a b f g j) → u.k ≡ v.k → i ≡ j
  back a b f g i j u v e =
      ⊎_elim
      (λ p. ⊎_elim (λ q. omega (arith, p.0, q.0)) (λ q. ⊎_elim (λ q. omega (arith, p.0, p.1, q.0, q.1, e))
      (λ q. absurd (q.1 (omega (arith, p.1, q.2, e)))) q) v.moved)
      (λ p. ⊎_elim
      (λ p. ⊎_elim (λ q. omega (arith, p.0, p.1, q.0, q.1, e)) (λ q. ⊎_elim (λ q. omega (arith, p.0, q.0))
      (λ q. absurd (q.0 (omega (arith, p.1, q.2, e)))) q) v.moved)
      (λ p. ⊎_elim (λ q. absurd (p.1 (omega (arith, p.2, q.1, e))))
      (λ q. ⊎_elim (λ q. absurd (p.0 (omega (arith, p.2, q.1, e)))) (λ q. omega (arith, p.2, q.2, e)) q) v.moved) p)
      u.moved

  in_range : (a b len : ℕ) (f g : ℕ → X) (i : ℕ) (u : Was a b f g i) → a < len → b < len → i < len → u.k < len
  in_range a b len f g i u la lb li = ⊎_elim (λ p. omega (arith, p.1, lb)) (λ p. ⊎_elim (λ p. omega (arith, p.1, la))
      (λ p. omega (arith, p.2, li)) p) u.moved

  after_swap : (xs : List X) (a b : ℕ) → a < length xs → b < length xs → IsDistinct xs → IsDistinct (swap xs a b)
  after_swap xs a b la lb h i j d li lj e =
      let f = λ (k : ℕ). slice_index_or xs k d in let g = λ (k : ℕ). slice_index_or (swap xs a b) k d in
      let s = swapped_from_swap xs (swap xs a b) a b d la lb refl in
      let u = was a b f g s i in let v = was a b f g s j in
      let len : length (swap xs a b) ≡ length xs = length-swap xs a b in
      back a b f g i j u v
      (h u.k v.k d (in_range a b (length xs) f g i u la lb (omega (arith, li, len)))
      (in_range a b (length xs) f g j v la lb (omega (arith, lj, len)))
      (sym (ap n u.same) ∙ e ∙ ap n v.same))

  pub still_distinct : (xs ys : List X) → IsDistinct xs → IsPermutation xs ys → IsDistinct ys
  still_distinct xs ys h p = IsPermutation-keeps xs IsDistinct h (λ l i j li lj k. after_swap l i j li lj k) ys p
