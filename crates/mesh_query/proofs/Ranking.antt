-- Equal ranks are equal fractions, and thinning keeps one crossing at each place.
use Rattle.std.proofs.Common.{◌≡◌, ℕ, ◌*◌, ◌^◌, ◌<◌, ◌≤◌, ◌==◌, Bool, true, false, refl, sym, arith, cond, List, [], ◌∷◌, inl, inr}
use Rattle.std.specs.Prelude.{ℤ, pos, ◌*ℤ◌, ◌≤ℤ◌, ◌<ℤ◌, ◌⊎◌, Any, unsigned_abs}
use Rattle.std.specs.List.{AllByRecursion, dedup, dedup_from}
use Rattle.std.specs.List.Sorted.{IsPermutation}
use Rattle.std.proofs.lemmas.Int.{ints, by_lt_z, unsigned_abs-mul}
use Rattle.std.proofs.lemmas.Nat.{mul-le}
use Rattle.std.proofs.lemmas.List.Sorted.{Contains-permutation}
use Rattle.common_laws.proofs.Sizes.{size_positive}
use Rattle.polynomial.proofs.Signs.{times_nonneg, weaken}
use Rattle.mesh_plane.proofs.ListWords.{any_here, any_there, any_none, any_cases}
use Rattle.mesh_query.specs.declared.rank.Ranked.{Ranked}
use Rattle.mesh_query.specs.declared.ratio.Ratio.{Ratio}
use Rattle.mesh_query.specs.Ratios.{ratio, IsSame, IsBelow}
use Rattle.mesh_query.specs.Rank.{IsRanked, rank_of}
use Rattle.mesh_query.specs.Listed.{At}
use Rattle.mesh_query.proofs.Ranks.{rank_less}
use Rattle.mesh_query.proofs.Listings.{same_trans}

size_lt : (x y : ℤ) → pos 0 ≤ℤ x → x <ℤ y → unsigned_abs x < unsigned_abs y
size_lt x y h k = omega (arith, ints)

size_small : (x : ℤ) → pos 0 <ℤ x → x ≤ℤ pos 2147352578 → unsigned_abs x ≤ 2147352578
size_small x h k = omega (arith, ints)

small_product : (m n : ℕ) → m ≤ 2147352578 → n ≤ 2147352578 → m * n ≤ 2 ^ 62
small_product m n h k = omega (arith, mul-le m n 2147352578 2147352578 h k)

ranks_less : (i j k m : ℕ) → i ≡ k → j ≡ m → k < m → i < j
ranks_less i j k m e f h = omega arith

-- a lesser fraction has a lesser rank
rank_above : (r s : Ranked) → IsRanked r → IsRanked s
    → IsBelow (ratio r.crossing.over r.crossing.under) (ratio s.crossing.over s.crossing.under) → r.rank < s.rank
rank_above r s hr hs h =
    let a = r.crossing.over in let b = r.crossing.under in let c = s.crossing.over in let d = s.crossing.under in
    let n : unsigned_abs a * unsigned_abs d < unsigned_abs c * unsigned_abs b =
    omega (
      arith,
      size_lt (a *ℤ d) (c *ℤ b) (times_nonneg a d hr.on_way.low (weaken hs.on_way.above_zero)) h,
      unsigned_abs-mul a d,
      unsigned_abs-mul c b,
    ) in
    ranks_less r.rank s.rank (rank_of r.crossing) (rank_of s.crossing) hr.is hs.is
    (rank_less (unsigned_abs a) (unsigned_abs b) (unsigned_abs c) (unsigned_abs d) (2 ^ 62)
    (size_positive b hr.on_way.above_zero) (size_positive d hs.on_way.above_zero)
    (small_product (unsigned_abs b) (unsigned_abs d)
    (size_small b hr.on_way.above_zero hr.on_way.under_size) (size_small d hs.on_way.above_zero hs.on_way.under_size)) n)

not_less : (m n : ℕ) → m ≡ n → m < n → ⊥
not_less m n e h = omega arith

neither : (x y : ℤ) → (x <ℤ y → ⊥) → (y <ℤ x → ⊥) → x ≡ y
neither x y f g =
    by_lt_z x y (λ h. absurd (f h)) (λ h. by_lt_z y x (λ i. absurd (g i)) (λ i. omega (arith, ints, h, i)))

-- equal ranks are equal fractions
pub same_rank : (r s : Ranked) → IsRanked r → IsRanked s → r.rank ≡ s.rank
    → IsSame (ratio r.crossing.over r.crossing.under) (ratio s.crossing.over s.crossing.under)
same_rank r s hr hs e =
    neither (r.crossing.over *ℤ s.crossing.under) (s.crossing.over *ℤ r.crossing.under)
    (λ h. not_less r.rank s.rank e (rank_above r s hr hs h))
    (λ h. not_less s.rank r.rank (sym e) (rank_above s r hs hr h))

abbrev pub same : Ranked → Ranked → Bool
same r s = s.rank == r.rank

same_is : (m n : ℕ) → (m == n) ≡ true → m ≡ n
same_is m n e = grind arith

-- ---- what thinning keeps
pub all_thin : (P : Ranked → Type 0) (x : Ranked) (xs : List Ranked) → P x → AllByRecursion P xs
    → AllByRecursion P (dedup_from same x xs)
all_thin P x [] p a = (p, tt)
all_thin P x (y ∷ ys) p a = go (same y x) (all_thin P x ys p a.1) (all_thin P y ys a.0 a.1)
  where
    go : (t : Bool) → AllByRecursion P (dedup_from same x ys) → AllByRecursion P (dedup_from same y ys)
        → AllByRecursion P (cond t (dedup_from same x ys) (x ∷ dedup_from same y ys))
    go true f g = f
    go false f g = (p, g)

module _ (k : Ratio) where
  moved : (x y : Ranked) → IsRanked x → IsRanked y → same y x ≡ true → At k y → At k x
  moved x y hx hy e a =
      same_trans (ratio x.crossing.over x.crossing.under) (ratio y.crossing.over y.crossing.under) k
      hy.on_way.above_zero (same_rank x y hx hy (same_is x.rank y.rank e)) a

  pub any_thin : (x : Ranked) (xs : List Ranked) → IsRanked x → AllByRecursion IsRanked xs → At k x ⊎ Any (At k) xs
      → Any (At k) (dedup_from same x xs)
  any_thin x [] hx h (inl a) = any_here (At k) x [] a
  any_thin x [] hx h (inr a) = absurd (any_none (At k) a)
  any_thin x (y ∷ ys) hx h a =
      go (same y x) refl (split a) (any_thin x ys hx h.1) (any_thin y ys h.0 h.1)
    where
      split : At k x ⊎ Any (At k) (y ∷ ys) → At k x ⊎ (At k y ⊎ Any (At k) ys)
      split (inl b) = inl b
      split (inr b) = inr (any_cases (At k) y ys b)

      go : (t : Bool) → same y x ≡ t → At k x ⊎ (At k y ⊎ Any (At k) ys)
          → (At k x ⊎ Any (At k) ys → Any (At k) (dedup_from same x ys))
          → (At k y ⊎ Any (At k) ys → Any (At k) (dedup_from same y ys))
          → Any (At k) (cond t (dedup_from same x ys) (x ∷ dedup_from same y ys))
      go true e (inl b) f g = f (inl b)
      go true e (inr (inl b)) f g = f (inl (moved x y hx h.0 e b))
      go true e (inr (inr b)) f g = f (inr b)
      go false e (inl b) f g = any_here (At k) x (dedup_from same y ys) b
      go false e (inr b) f g = any_there (At k) x (dedup_from same y ys) (g b)

  pub thinned_at : (xs : List Ranked) → AllByRecursion IsRanked xs → Any (At k) xs → Any (At k) (dedup same xs)
  thinned_at [] h a = a
  thinned_at (x ∷ xs) h a = any_thin x xs h.0 h.1 (any_cases (At k) x xs a)

  pub ordered_at : (xs ys : List Ranked) → IsPermutation xs ys → Any (At k) xs → Any (At k) ys
  ordered_at xs ys perm a =
      let c = Contains-permutation xs ys a.1 perm (a.0, a.2, a.3) in (c.0, a.1, c.1, c.2, a.4)

pub thinned_all : (P : Ranked → Type 0) (xs : List Ranked) → AllByRecursion P xs → AllByRecursion P (dedup same xs)
thinned_all P [] a = tt
thinned_all P (x ∷ xs) a = all_thin P x xs a.0 a.1
