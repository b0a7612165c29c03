-- What holds of all numbers and their patterns.
use Rattle.std.specs.Prelude.{◌≡◌, ℕ, ◌^◌, ◌<◌, ◌≤◌, ℤ, unsigned_abs}
use Rattle.float_bits.specs.Binary32.{IsBits32, bits32_of}
use Rattle.float_bits.specs.Binary64.{IsBits64, bits64_of}

-- at most one pattern stands for a number
pub record OnePatternLaw : Type 0 where
  pub binary64 : (n : ℤ) (shift bits other : ℕ) → IsBits64 n shift bits → IsBits64 n shift other → bits ≡ other
  pub binary32 : (n : ℤ) (bits other : ℕ) → IsBits32 n bits → IsBits32 n other → bits ≡ other

-- a pattern stands for at most one number
pub record OneNumberLaw : Type 0 where
  pub binary64 : (m n : ℤ) (shift bits : ℕ) → IsBits64 m shift bits → IsBits64 n shift bits → m ≡ n
  pub binary32 : (m n : ℤ) (bits : ℕ) → IsBits32 m bits → IsBits32 n bits → m ≡ n

-- the patterns of the functions are those of the numbers
pub record PatternLaw : Type 0 where
  pub binary64 : (n : ℤ) (shift : ℕ) → unsigned_abs n < 2 ^ 53 → shift ≤ 63 → IsBits64 n shift (bits64_of n shift)
  pub binary32 : (n : ℤ) → unsigned_abs n < 2 ^ 24 → IsBits32 n (bits32_of n)

-- a pattern has so many bits
pub record WidthLaw : Type 0 where
  pub binary64 : (n : ℤ) (shift bits : ℕ) → IsBits64 n shift bits → bits < 2 ^ 64
  pub binary32 : (n : ℤ) (bits : ℕ) → IsBits32 n bits → bits < 2 ^ 32
