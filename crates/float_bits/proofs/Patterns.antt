-- The patterns of numbers, and how wide they are.
use Rattle.std.proofs.Common.{◌≡◌, ℕ, zero, suc, ◌+◌, ◌-◌, ◌/◌, ◌^◌, ◌<◌, ◌≤◌, arith, refl}
use Rattle.std.proofs.lemmas.Nat.{pow_pos, shr_split, mod_below}
use Rattle.std.proofs.Math.Nat.{mul-le-mul_right}
use Rattle.std.specs.Prelude.{ℤ, pos, negsuc, ◌<ℤ◌, unsigned_abs}
use Rattle.std.proofs.lemmas.Int.{ints}
use Rattle.float_bits.specs.Format.{Format, bias_of, scale_of, places_of, IsNormal, IsPattern, normal_of, pattern_of}
use Rattle.float_bits.specs.Binary32.{binary32, IsBits32, bits32_of}
use Rattle.float_bits.specs.Binary64.{binary64, IsBits64, bits64_of}
use Rattle.float_bits.proofs.Significands.{twice, places_are}
use Rattle.float_bits.proofs.Formats.{normal_is, one_pattern}

-- a shift for which the numbers of up to t + 1 bits are normal, in a format that has the exponents of such numbers
pub record IsNormalShift (format : Format) (shift : ℕ) : Type 0 where
  pub low : shift < bias_of format
  pub high : scale_of format + 2 ≤ 2 ^ format.exponent_width

normal : (format : Format) (sign n shift : ℕ) → suc n < 2 ^ suc format.fraction_width → IsNormalShift format shift →
    IsNormal format sign (suc n) shift (normal_of format sign (suc n) shift)
unfolding normal_of
normal format sign n shift h fits =
    let p = places_of format (suc n) in
    let placed = places_are format.fraction_width (suc n) (omega arith) h in
    normal_is format sign (suc n) shift p (scale_of format - p - shift) placed (omega (arith, placed.few, fits.low))
    (omega (arith, placed.few, fits.low)) (omega (arith, fits.high))

-- each number has a pattern
pub pattern_is : (format : Format) (n : ℤ) (shift : ℕ) → unsigned_abs n < 2 ^ suc format.fraction_width →
    IsNormalShift format shift → IsPattern format n shift (pattern_of format n shift)
pattern_is format (pos zero) shift h fits = refl
pattern_is format (pos (suc n)) shift h fits = normal format 0 n shift h fits
pattern_is format (negsuc n) shift h fits = normal format 1 n shift h fits

-- a pattern has one bit of sign above the fields
narrow : (format : Format) (sign n shift bits : ℕ) → sign < 2 → IsNormal format sign n shift bits →
    bits < 2 ^ suc (format.fraction_width + format.exponent_width)
narrow format sign n shift bits s p =
    let fields = format.fraction_width + format.exponent_width in
    let few : bits / 2 ^ fields ≤ 1 = omega (arith, p.sign) in
    omega (
      arith,
      twice fields,
      mul-le-mul_right (2 ^ fields) few,
      shr_split bits fields,
      mod_below bits (2 ^ fields) (pow_pos fields),
    )

pub width : (format : Format) (n : ℤ) (shift bits : ℕ) → IsPattern format n shift bits →
    bits < 2 ^ suc (format.fraction_width + format.exponent_width)
width format (pos zero) shift bits h = omega (arith, h, pow_pos (suc (format.fraction_width + format.exponent_width)))
width format (pos (suc n)) shift bits h = narrow format 0 (suc n) shift bits (omega arith) h
width format (negsuc n) shift bits h = narrow format 1 (suc n) shift bits (omega arith) h

-- the pattern of a size under the number's sign is that of the number
pub above : (format : Format) (n : ℤ) (shift bits : ℕ) → pos 0 <ℤ n →
    unsigned_abs n < 2 ^ suc format.fraction_width → IsNormalShift format shift →
    IsNormal format 0 (unsigned_abs n) shift bits → bits ≡ pattern_of format n shift
above format (pos zero) shift bits up h fits p = absurd (omega (arith, ints, up))
above format (pos (suc n)) shift bits up h fits p =
    one_pattern format (pos (suc n)) shift bits _ p (pattern_is format (pos (suc n)) shift h fits)
above format (negsuc n) shift bits up h fits p = absurd (omega (arith, ints, up))

pub below : (format : Format) (n : ℤ) (shift bits : ℕ) → n <ℤ pos 0 →
    unsigned_abs n < 2 ^ suc format.fraction_width → IsNormalShift format shift →
    IsNormal format 1 (unsigned_abs n) shift bits → bits ≡ pattern_of format n shift
below format (pos n) shift bits down h fits p = absurd (omega (arith, ints, down))
below format (negsuc n) shift bits down h fits p =
    one_pattern format (negsuc n) shift bits _ p (pattern_is format (negsuc n) shift h fits)

-- ---- both formats
pub shift64 : (shift : ℕ) → shift ≤ 63 → IsNormalShift binary64 shift
shift64 shift h = record { low = omega arith; high = omega arith }

pub shift32 : IsNormalShift binary32 0
shift32 = record { low = omega arith; high = omega arith }

pub bits64_is : (n : ℤ) (shift : ℕ) → unsigned_abs n < 2 ^ 53 → shift ≤ 63 → IsBits64 n shift (bits64_of n shift)
bits64_is n shift h k = pattern_is binary64 n shift h (shift64 shift k)

pub bits32_is : (n : ℤ) → unsigned_abs n < 2 ^ 24 → IsBits32 n (bits32_of n)
bits32_is n h = pattern_is binary32 n 0 h shift32

pub width64 : (n : ℤ) (shift bits : ℕ) → IsBits64 n shift bits → bits < 2 ^ 64
width64 n shift bits h = width binary64 n shift bits h

pub width32 : (n : ℤ) (bits : ℕ) → IsBits32 n bits → bits < 2 ^ 32
width32 n bits h = width binary32 n 0 bits h
