-- The binary interchange formats (IEEE 754-2019, 3.4), and the patterns of numbers in them.
use Rattle.std.specs.Prelude.{◌≡◌, ℕ, zero, suc, ℤ, pos, negsuc, ◌+◌, ◌-◌, ◌*◌, ◌/◌, ◌%◌, ◌^◌, ◌≤◌}
use lib.Count.{count_leading_zeros}

-- a format: how many bits its exponent field has (the w of IEEE 754-2019, 3.4) and its fraction field (the t of 3.4)
pub record Format : Type 0 where
  pub exponent_width : ℕ
  pub fraction_width : ℕ

-- what an exponent field is above its exponent: emax (IEEE 754-2019, 3.3, and table 3.5)
abbrev pub bias_of : Format → ℕ
bias_of format = 2 ^ (format.exponent_width - 1) - 1

-- the exponent field of the numbers whose last place is 1: the size of a normal number with the fields E and F is
-- 2^(E - bias) * (1 + F / 2^t) (IEEE 754-2019, 3.4), so (2^t + F) * 2^(E - scale)
abbrev pub scale_of : Format → ℕ
scale_of format = bias_of format + format.fraction_width

-- the sign bit S of a pattern, 1 for a negative number: its highest bit (IEEE 754-2019, 3.4, figure 3.1)
abbrev pub sign_of : Format → ℕ → ℕ
sign_of format bits = bits / 2 ^ (format.fraction_width + format.exponent_width)

-- the exponent field E of a pattern: its bits between the others (IEEE 754-2019, 3.4, figure 3.1)
abbrev pub exponent_of : Format → ℕ → ℕ
exponent_of format bits = bits / 2 ^ format.fraction_width % 2 ^ format.exponent_width

-- the fraction field F of a pattern, IEEE's T: its lowest bits (IEEE 754-2019, 3.4, figure 3.1)
abbrev pub fraction_of : Format → ℕ → ℕ
fraction_of format bits = bits % 2 ^ format.fraction_width

-- a pattern of a normal number (IEEE 754-2019, 3.4, E from 1 to 2^w - 2) with this sign bit, whose size
-- (2^t + F) * 2^(E - scale) is size / 2^shift: the fractions are compared crosswise
pub record IsNormal (format : Format) (sign_bit size shift bits : ℕ) : Type 0 where
  pub sign : sign_of format bits ≡ sign_bit
  pub exponent : (1 ≤ exponent_of format bits) × (exponent_of format bits ≤ 2 ^ format.exponent_width - 2)
  pub value : (2 ^ format.fraction_width + fraction_of format bits) * 2 ^ exponent_of format bits * 2 ^ shift
      ≡ size * 2 ^ scale_of format

-- the pattern of the number n / 2^shift; that of 0 is 0 (IEEE 754-2019, 3.4, E = 0 and T = 0 under the sign +)
abbrev pub IsPattern : Format → ℤ → ℕ → ℕ → Type 0
IsPattern format (pos zero) shift bits = bits ≡ 0
IsPattern format (pos (suc n)) shift bits = IsNormal format 0 (suc n) shift bits
IsPattern format (negsuc n) shift bits = IsNormal format 1 (suc n) shift bits

-- how many places up the highest bit of a size above 0 and below 2^(t+1) is moved to stand at bit t, as the leading
-- bit of a significand does (IEEE 754-2019, 3.4)
abbrev pub places_of : Format → ℕ → ℕ
places_of format size = count_leading_zeros (suc format.fraction_width) size

-- the fields S, E and F of a pattern put together (IEEE 754-2019, 3.4, figure 3.1)
abbrev pub joined : Format → ℕ → ℕ → ℕ → ℕ
joined format sign_bit exponent fraction =
    sign_bit * 2 ^ (format.fraction_width + format.exponent_width) + exponent * 2 ^ format.fraction_width + fraction

-- the pattern of size / 2^shift under a sign bit (IEEE 754-2019, 3.4), for a size above 0 and below 2^(t+1) and a
-- shift for which the number is normal
unfoldable pub normal_of : Format → ℕ → ℕ → ℕ → ℕ
normal_of format sign_bit size shift =
    joined format sign_bit (scale_of format - places_of format size - shift)
    (size * 2 ^ places_of format size - 2 ^ format.fraction_width)

-- the pattern of n / 2^shift (IEEE 754-2019, 3.4), for n below 2^(t+1) in size and such a shift
abbrev pub pattern_of : Format → ℤ → ℕ → ℕ
pattern_of format (pos zero) shift = 0
pattern_of format (pos (suc n)) shift = normal_of format 0 (suc n) shift
pattern_of format (negsuc n) shift = normal_of format 1 (suc n) shift
