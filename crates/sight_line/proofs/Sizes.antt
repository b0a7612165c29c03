-- Sizes of heights of a line, and of products with them.
use Rattle.std.proofs.Common.{◌≤◌, ◌^◌, ◌≡◌, arith, FitsSigned, w64}
use Rattle.std.specs.Prelude.{ℤ, pos, ◌+ℤ◌, ◌-ℤ◌, ◌*ℤ◌, ◌≤ℤ◌, unsigned_abs}
use Rattle.std.specs.Int.{w128}
use Rattle.std.proofs.lemmas.Int.{ints}
use Rattle.common_laws.proofs.Sizes.{size_product}
use Rattle.mesh_query.specs.declared.ratio.Ratio.{Ratio}
use Rattle.mesh_query.specs.Ratios.{IsFraction}

pub fits : (z : ℤ) → unsigned_abs z ≤ 2 ^ 100 → FitsSigned w128 z
fits z h = omega (arith, ints)

rest_size : (m n : ℤ) → pos 0 ≤ℤ n → n ≤ℤ m → m ≤ℤ pos 2147352578 → unsigned_abs (m -ℤ n) ≤ 2147352578
rest_size m n h i j = omega (arith, ints)

over_size : (m n : ℤ) → pos 0 ≤ℤ n → n ≤ℤ m → m ≤ℤ pos 2147352578 → unsigned_abs n ≤ 2147352578
over_size m n h i j = omega (arith, ints)

sum_size : (x y : ℤ) → unsigned_abs x ≤ 2 ^ 47 → unsigned_abs y ≤ 2 ^ 47 → unsigned_abs (x +ℤ y) ≤ 2 ^ 48
sum_size x y h i = omega (arith, ints)

module _ (k : Ratio) (f : IsFraction k) (small : k.under ≤ℤ pos 2147352578) where
  pub rest : unsigned_abs (k.under -ℤ k.over) ≤ 2147352578
  rest = rest_size k.under k.over f.low f.high small

  pub over : unsigned_abs k.over ≤ 2147352578
  over = over_size k.under k.over f.low f.high small

  pub under : unsigned_abs k.under ≤ 2147352578
  under = omega (arith, ints, small, f.above_zero)

  module _ (a b : ℤ) (low : unsigned_abs a ≤ 65535) (low_too : unsigned_abs b ≤ 65535) where
    pub first_part : unsigned_abs ((k.under -ℤ k.over) *ℤ a) ≤ 2 ^ 47
    first_part = omega (arith, size_product (k.under -ℤ k.over) a 2147352578 65535 rest low)

    pub second_part : unsigned_abs (k.over *ℤ b) ≤ 2 ^ 47
    second_part = omega (arith, size_product k.over b 2147352578 65535 over low_too)

    pub both_parts : unsigned_abs ((k.under -ℤ k.over) *ℤ a +ℤ k.over *ℤ b) ≤ 2 ^ 48
    both_parts = sum_size ((k.under -ℤ k.over) *ℤ a) (k.over *ℤ b) first_part second_part

-- ---- coordinates on the way
pub fits_too : (z : ℤ) → unsigned_abs z ≤ 2 ^ 47 → FitsSigned w64 z
fits_too z h = omega (arith, ints)

low_size : (x : ℤ) → pos 0 ≤ℤ x → x ≤ℤ pos 32767 → unsigned_abs x ≤ 32767
low_size x h i = omega (arith, ints)

pub point_fits : (r x s : ℤ) → r ≡ x → pos 0 ≤ℤ x → x ≤ℤ (pos 32767 *ℤ s) → s ≤ℤ pos 2147352578 → FitsSigned w64 r
point_fits r x s e h i j = omega (arith, ints, e)

module _ (m n : ℤ) (low : pos 0 ≤ℤ n) (high : n ≤ℤ m) (small : m ≤ℤ pos 2147352578) where
  pub rest_fits : FitsSigned w64 (m -ℤ n)
  rest_fits = fits_too (m -ℤ n) (omega (arith, rest_size m n low high small))

  pub first_way : (x : ℤ) → pos 0 ≤ℤ x → x ≤ℤ pos 32767 → unsigned_abs ((m -ℤ n) *ℤ x) ≤ 2 ^ 46
  first_way x h i =
      omega (arith, size_product (m -ℤ n) x 2147352578 32767 (rest_size m n low high small) (low_size x h i))

  pub second_way : (y : ℤ) → pos 0 ≤ℤ y → y ≤ℤ pos 32767 → unsigned_abs (n *ℤ y) ≤ 2 ^ 46
  second_way y h i =
      omega (arith, size_product n y 2147352578 32767 (over_size m n low high small) (low_size y h i))

pub ways_sum : (x y : ℤ) → unsigned_abs x ≤ 2 ^ 46 → unsigned_abs y ≤ 2 ^ 46 → FitsSigned w64 (x +ℤ y)
ways_sum x y h i = omega (arith, ints)
