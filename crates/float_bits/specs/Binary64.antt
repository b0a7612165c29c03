-- The binary64 format (IEEE 754-2019, 3.4 and table 3.5): from the highest bit on, 1 bit of sign, 11 of exponent, 52
-- of fraction.
use Rattle.std.specs.Prelude.{ℕ, ℤ}
use Rattle.float_bits.specs.Format.{Format, sign_of, exponent_of, fraction_of, IsNormal, IsPattern, pattern_of}

abbrev pub binary64 : Format
binary64 = record { exponent_width = 11; fraction_width = 52 }

-- the fields of a pattern
abbrev pub sign64 : ℕ → ℕ
sign64 bits = sign_of binary64 bits

abbrev pub exponent64 : ℕ → ℕ
exponent64 bits = exponent_of binary64 bits

abbrev pub fraction64 : ℕ → ℕ
fraction64 bits = fraction_of binary64 bits

-- a pattern of a normal number with this sign bit, of the size size / 2^shift
abbrev pub IsNormal64 : ℕ → ℕ → ℕ → ℕ → Type 0
IsNormal64 sign_bit size shift bits = IsNormal binary64 sign_bit size shift bits

-- the pattern of the number n / 2^shift; that of 0 is 0
abbrev pub IsBits64 : ℤ → ℕ → ℕ → Type 0
IsBits64 n shift bits = IsPattern binary64 n shift bits

-- the pattern of n / 2^shift, for n below 2^53 in size and a shift of at most 63
abbrev pub bits64_of : ℤ → ℕ → ℕ
bits64_of n shift = pattern_of binary64 n shift
