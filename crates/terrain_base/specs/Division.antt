-- Quotients and square roots of whole numbers, rounded down or up.
use Rattle.std.specs.Prelude.{ℕ, ℤ, zero, suc, ◌+◌, ◌*◌, ◌<◌, ◌≤◌, ◌+ℤ◌, ◌-ℤ◌, ◌*ℤ◌, ◌≤ℤ◌, ◌<ℤ◌, neg_ℤ}
use Rattle.std.specs.Prelude.{nat_le, if◌then◌else◌}
use Rattle.std.specs.Int.{int_div_euclid}

-- q is a / b rounded down, where b is above 0: the greatest whole number whose b-fold is at most a
pub record IsFloor (a b q : ℤ) : Type 0 where
  pub low : (q *ℤ b) ≤ℤ a
  pub high : a <ℤ ((q *ℤ b) +ℤ b)

-- q is a / b rounded up, where b is above 0: the least whole number whose b-fold is at least a
pub record IsCeil (a b q : ℤ) : Type 0 where
  pub low : ((q *ℤ b) -ℤ b) <ℤ a
  pub high : a ≤ℤ (q *ℤ b)

-- r is the square root of n rounded down: the greatest whole number whose square is at most n
pub record IsRoot (n r : ℕ) : Type 0 where
  pub low : r * r ≤ n
  pub high : n < (r + 1) * (r + 1)

-- a / b rounded down, where b is above 0
unfoldable pub floor_of : ℤ → ℤ → ℤ
floor_of a b = int_div_euclid a b

-- a / b rounded up, where b is above 0
unfoldable pub ceil_of : ℤ → ℤ → ℤ
ceil_of a b = neg_ℤ (int_div_euclid (neg_ℤ a) b)

-- the square root of n rounded down
unfoldable pub root_of : ℕ → ℕ
root_of zero = 0
root_of (suc n) = if nat_le ((root_of n + 1) * (root_of n + 1)) (suc n) then root_of n + 1 else root_of n
