-- Sorted ranks.
use Rattle.std.proofs.Common.{◌≡◌, ℕ, zero, suc, ◌+◌, ◌<◌, ◌≤◌, sym, subst, arith, true, false, List, length}
use Rattle.std.proofs.Common.{slice_index_or, is_lt, nat_cmp, inl, inr, ⊎_elim, Ordering, Less, Equal, ap, ◌∙◌, ◌-◌}
use Rattle.std.specs.Ordering.{ordering_then}
use Rattle.std.specs.Prelude.{◌⊎◌, AllPairs, pos}
use Rattle.std.proofs.lemmas.Int.{ints, by_lt_z}
use Rattle.mesh_check.specs.declared.rank.Rank.{Rank}
use Rattle.mesh_check.specs.Ranks.{IsNotAfter}

less : (a b : ℕ) → a < b → nat_cmp a b ≡ Less
less a b h = grind arith

equal : (a b : ℕ) → a ≡ b → nat_cmp a b ≡ Equal
equal a b h = grind arith

three : {P : Type 0} (a b : ℕ) → (a < b → P) → (a ≡ b → P) → (b < a → P) → P
three a b f g h = by_lt_z (pos a) (pos b) (λ l. f (omega (arith, ints, l))) (λ l. by_lt_z (pos b) (pos a)
    (λ k. h (omega (arith, ints, k))) (λ k. g (omega (arith, ints, l, k))))

-- a comparison that is not Less
split : (a b : ℕ) (o : Ordering) → is_lt (ordering_then (nat_cmp b a) o) ≡ false → (a < b) ⊎
    ((a ≡ b) × (is_lt o ≡ false))
split a b o h =
    three a b (λ l. inl l) (λ e. inr (
      e,
      sym (ap (λ (x : Ordering). is_lt (ordering_then x o)) (equal b a (sym e)))
          ∙ h,
    ))
    (λ l. absurd (let f : true ≡ false = sym (ap (λ (x : Ordering). is_lt (ordering_then x o)) (less b a l)) ∙ h in cc))

last : (a b : ℕ) → is_lt (nat_cmp b a) ≡ false → a ≤ b
last a b h = three a b (λ l. omega (arith, l)) (λ e. omega (arith, e)) (λ l. absurd (let f : true ≡ false =
    sym (ap is_lt (less b a l)) ∙ h in cc))

pub kept : (r s : Rank) → is_lt (ordering_then (nat_cmp s.left r.left) (ordering_then (nat_cmp s.right r.right)
    (nat_cmp s.number r.number))) ≡ false → IsNotAfter r s
kept r s h =
    ⊎_elim (λ l. inl l) (λ e. inr (
      e.0,
      ⊎_elim (λ l. inl l) (λ f. inr (f.0, last r.number s.number f.1))
          (split r.right s.right (nat_cmp s.number r.number) e.1),
    ))
    (split r.left s.left (ordering_then (nat_cmp s.right r.right) (nat_cmp s.number r.number)) h)

through : (r s t : Rank) → IsNotAfter r s → IsNotAfter s t → IsNotAfter r t
through r s t (inl h) (inl k) = inl (omega (arith, h, k))
through r s t (inl h) (inr k) = inl (omega (arith, h, k.0))
through r s t (inr h) (inl k) = inl (omega (arith, h.0, k))
through r s t (inr h) (inr k) =
    inr (
      h.0 ∙ k.0,
      ⊎_elim (λ a. ⊎_elim (λ b. inl (omega (arith, a, b))) (λ b. inl (omega (arith, a, b.0))) k.1)
          (λ a. ⊎_elim (λ b. inl (omega (arith, a.0, b))) (λ b. inr (a.0 ∙ b.0, omega (arith, a.1, b.1))) k.1) h.1,
    )

-- so many places on
far : (xs : List Rank) → ((k : ℕ) (d : Rank) → k + 1 < length xs → IsNotAfter (slice_index_or xs k d)
    (slice_index_or xs (k + 1) d))
    → (n i : ℕ) (d : Rank) → (i + 1) + n < length xs → IsNotAfter (slice_index_or xs i d)
    (slice_index_or xs ((i + 1) + n) d)
far xs h zero i d l = subst (λ (k : ℕ). IsNotAfter (slice_index_or xs i d) (slice_index_or xs k d)) (omega arith)
    (h i d (omega (arith, l)))
far xs h (suc n) i d l =
    through (slice_index_or xs i d) (slice_index_or xs ((i + 1) + n) d) (slice_index_or xs ((i + 1) + suc n) d)
    (far xs h n i d (omega (arith, l)))
    (subst (λ (k : ℕ). IsNotAfter (slice_index_or xs ((i + 1) + n) d) (slice_index_or xs k d)) (omega arith)
    (h ((i + 1) + n) d (omega (arith, l))))

pub pairs : (xs : List Rank) → ((k : ℕ) (d : Rank) → k + 1 < length xs → IsNotAfter (slice_index_or xs k d)
    (slice_index_or xs (k + 1) d)) → AllPairs IsNotAfter xs
pairs xs h i j d l k =
    let e : (i + 1) + (j - (i + 1)) ≡ j = omega (arith, l) in
    subst (λ (n : ℕ). IsNotAfter (slice_index_or xs i d) (slice_index_or xs n d)) e (far xs h (j - (i + 1)) i d
    (omega (arith, e, k)))
