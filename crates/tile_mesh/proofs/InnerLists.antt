-- The nodes along a side.
use Rattle.std.proofs.Common.{◌≡◌, ℕ, zero, suc, ◌+◌, ◌-◌, ◌*◌, ◌/◌, ◌^◌, ◌≤◌, Bool, true, false, [], ◌∷◌, ◌++◌, refl, ap, ◌∙◌, arith, subst}
use Rattle.std.specs.Prelude.{if◌then◌else◌}
use Rattle.std.specs.List.{AllByRecursion}
use Rattle.std.proofs.Math.Nat.{pow-succ'}
use Rattle.common_laws.proofs.Lists.{all_append}
use Rattle.mesh_plane.specs.Quadtree.{line_of}
use Rattle.tile_mesh.specs.Rule.{leaf_ends}

-- how many nodes of a level lie along a side
pub across : (k : ℕ) → k ≤ 6 → 64 / 2 ^ k ≡ 2 ^ (6 - k)
across zero h = refl
across (suc zero) h = refl
across (suc (suc zero)) h = refl
across (suc (suc (suc zero))) h = refl
across (suc (suc (suc (suc zero)))) h = refl
across (suc (suc (suc (suc (suc zero))))) h = refl
across (suc (suc (suc (suc (suc (suc zero)))))) h = refl
across (suc (suc (suc (suc (suc (suc (suc k))))))) h = absurd (omega (arith, h))

pub last_is : (k n : ℕ) → k ≤ 6 → n ≡ 2 ^ k → 64 / n - 1 ≡ 2 ^ (6 - k) - 1
last_is k n h e = ap (λ (m : ℕ). 64 / m - 1) e ∙ ap (λ (m : ℕ). m - 1) (across k h)

pub half_length : (k n : ℕ) → (k ≡ 0 → ⊥) → n ≡ 2 ^ k → n / 2 ≡ 2 ^ (k - 1)
half_length zero n h e = absurd (h refl)
half_length (suc k) n h e = let d : suc k - 1 ≡ k = omega arith in rw d (omega (arith, e))

pub ends_split : (b : ℕ → ℕ → Bool) (k m : ℕ) → (k ≡ 0 → ⊥) → b k m ≡ true
    → leaf_ends b (k - 1) (2 * m) ++ leaf_ends b (k - 1) (2 * m + 1) ≡ leaf_ends b k m
ends_split b zero m h e = absurd (h refl)
ends_split b (suc k) m h e = let d : suc k - 1 ≡ k = omega arith in rw (e, d)

twice_half : (k n : ℕ) → (k ≡ 0 → ⊥) → n ≡ 2 ^ k → n ≡ 2 * (n / 2)
twice_half zero n h e = absurd (h refl)
twice_half (suc k) n h e = omega (arith, e)

first_fits : (m h : ℕ) → (m + 1) * (2 * h) ≤ 64 → (2 * m + 1) * h ≤ 64
first_fits m h l = omega (arith, l)

second_fits : (m h : ℕ) → (m + 1) * (2 * h) ≤ 64 → (2 * m + 1 + 1) * h ≤ 64
second_fits m h l = omega (arith, l)

pub first_half_fits : (k n m : ℕ) → (k ≡ 0 → ⊥) → n ≡ 2 ^ k → (m + 1) * n ≤ 64 → (2 * m + 1) * (n / 2) ≤ 64
first_half_fits k n m h e l =
    first_fits m (n / 2) (subst (λ (i : ℕ). (m + 1) * i ≤ 64) (twice_half k n h e) l)

pub second_half_fits : (k n m : ℕ) → (k ≡ 0 → ⊥) → n ≡ 2 ^ k → (m + 1) * n ≤ 64 → (2 * m + 1 + 1) * (n / 2) ≤ 64
second_half_fits k n m h e l =
    second_fits m (n / 2) (subst (λ (i : ℕ). (m + 1) * i ≤ 64) (twice_half k n h e) l)

-- ---- the ends lie on the grid
pub ends_within : (b : ℕ → ℕ → Bool) (k m : ℕ) → (m + 1) * 2 ^ k ≤ 64
    → AllByRecursion (λ x. x ≤ 66) (leaf_ends b k m)
ends_within b zero m l = (omega (arith, l), tt)
ends_within b (suc k) m l =
    go (b (suc k) m) (ends_within b k (2 * m) (first_fits m (2 ^ k) (subst (λ (i : ℕ). (m + 1) * i ≤ 64) (pow-succ' 2 k) l)))
    (ends_within b k (2 * m + 1) (second_fits m (2 ^ k) (subst (λ (i : ℕ). (m + 1) * i ≤ 64) (pow-succ' 2 k) l)))
  where
    go : (c : Bool) → AllByRecursion (λ x. x ≤ 66) (leaf_ends b k (2 * m))
        → AllByRecursion (λ x. x ≤ 66) (leaf_ends b k (2 * m + 1))
        → AllByRecursion (λ x. x ≤ 66) (if c then leaf_ends b k (2 * m) ++ leaf_ends b k (2 * m + 1) else line_of (suc k) (m + 1) ∷ [])
    go true h i = all_append (λ x. x ≤ 66) (leaf_ends b k (2 * m)) (leaf_ends b k (2 * m + 1)) h i
    go false h i = (omega (arith, l), tt)
