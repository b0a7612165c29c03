-- Sizes of integers, which are their absolute values.
use Rattle.std.proofs.Common.{◌≡◌, ℕ, ◌*◌, ◌<◌, ◌≤◌, arith}
use Rattle.std.specs.Prelude.{ℤ, pos, ◌-ℤ◌, ◌*ℤ◌, ◌≤ℤ◌, ◌<ℤ◌, unsigned_abs}
use Rattle.std.proofs.lemmas.Int.{ints, unsigned_abs-mul}
use Rattle.std.proofs.lemmas.Nat.{mul-le}

pub size_product : (a b : ℤ) (m n : ℕ) → unsigned_abs a ≤ m → unsigned_abs b ≤ n → unsigned_abs (a *ℤ b) ≤ m * n
size_product a b m n h k = omega (arith, unsigned_abs-mul a b, mul-le (unsigned_abs a) (unsigned_abs b) m n h k)

-- a size is at most t where z and its opposite are
pub size_of_near : (z t : ℤ) → z ≤ℤ t → (pos 0 -ℤ z) ≤ℤ t → pos (unsigned_abs z) ≤ℤ t
size_of_near z t h k = grind (arith, ints)

pub near_of_size : (z t : ℤ) → pos (unsigned_abs z) ≤ℤ t → (z ≤ℤ t) × ((pos 0 -ℤ z) ≤ℤ t)
near_of_size z t h = (grind (arith, ints), grind (arith, ints))

pub size_positive : (z : ℤ) → pos 0 <ℤ z → 0 < unsigned_abs z
size_positive z h = omega (arith, ints)

-- an integer that is not negative is its own size
pub size_itself : (z : ℤ) → pos 0 ≤ℤ z → pos (unsigned_abs z) ≡ z
size_itself z h = omega (arith, ints, h)
