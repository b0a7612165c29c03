-- The lesser and the greater of two numbers.
use Rattle.std.proofs.Common.{◌≡◌, ℕ, max, ◌⊎◌, arith}
use Rattle.std.specs.Prelude.{ℤ, ◌≤ℤ◌}
use Rattle.std.specs.Int.{int_min, int_max}
use Rattle.std.specs.Ordering.{int_cmp, ord_min, ord_max}
use Rattle.std.proofs.lemmas.Int.{ints, clamps}

-- as `Ord` chooses of integers
pub ord_min_is : (a b : ℤ) → ord_min int_cmp a b ≡ int_min a b
ord_min_is a b = grind (arith, ints)

pub ord_max_is : (a b : ℤ) → ord_max int_cmp a b ≡ int_max a b
ord_max_is a b = grind (arith, ints)

pub min_at_most_both : (a b : ℤ) → (int_min a b ≤ℤ a) × (int_min a b ≤ℤ b)
min_at_most_both a b = omega (arith, ints, clamps)

pub both_at_most_max : (a b : ℤ) → (a ≤ℤ int_max a b) × (b ≤ℤ int_max a b)
both_at_most_max a b = omega (arith, ints, clamps)

-- the greater of two natural numbers is one of them
pub max_is_one : (a b : ℕ) → (max a b ≡ a) ⊎ (max a b ≡ b)
max_is_one a b = grind arith
