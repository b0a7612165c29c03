-- The binary32 format (IEEE 754-2019, 3.4 and table 3.5): from the highest bit on, 1 bit of sign, 8 of exponent, 23 of
-- fraction. Its numbers are whole here, so their shift is 0.
use Rattle.std.specs.Prelude.{ℕ, ℤ}
use Rattle.float_bits.specs.Format.{Format, sign_of, exponent_of, fraction_of, IsNormal, IsPattern, pattern_of}

abbrev pub binary32 : Format
binary32 = record { exponent_width = 8; fraction_width = 23 }

-- the fields of a pattern
abbrev pub sign32 : ℕ → ℕ
sign32 bits = sign_of binary32 bits

abbrev pub exponent32 : ℕ → ℕ
exponent32 bits = exponent_of binary32 bits

abbrev pub fraction32 : ℕ → ℕ
fraction32 bits = fraction_of binary32 bits

-- a pattern of a normal number with this sign bit, whose size is the whole number size
abbrev pub IsNormal32 : ℕ → ℕ → ℕ → Type 0
IsNormal32 sign_bit size bits = IsNormal binary32 sign_bit size 0 bits

-- the pattern of the whole number n; that of 0 is 0
abbrev pub IsBits32 : ℤ → ℕ → Type 0
IsBits32 n bits = IsPattern binary32 n 0 bits

-- the pattern of n, for n below 2^24 in size
abbrev pub bits32_of : ℤ → ℕ
bits32_of n = pattern_of binary32 n 0
