-- Elevations as words of two bytes, and as keys whose order is that of the heights (MIL-PRF-89020, data record).
use Rattle.std.specs.Prelude.{
  ℕ,
  ◌+◌,
  ◌*◌,
  ◌-◌,
  ◌==◌,
  nat_lt,
  min,
  max,
  List,
  [],
  ◌∷◌,
  Option,
  Some,
  None,
  pos,
  ◌-ℤ◌,
  if◌then◌else◌,
}
use Rattle.terrain_base.specs.declared.post.Extremes.{Extremes}

-- the words of bytes, the higher byte of each first
abbrev pub words_of : List ℕ → List ℕ
words_of (high ∷ low ∷ rest) = (256 * high + low) ∷ words_of rest
words_of rest = []

-- 32768 more than the height that a word of sign and magnitude says
abbrev pub key : ℕ → ℕ
key word = if nat_lt word 32768 then word + 32768 else 65536 - word

-- the same, where a void is above all heights
abbrev pub low_key : ℕ → ℕ
low_key word = if word == 65535 then 65535 else key word

abbrev pub greatest_of : List ℕ → ℕ
greatest_of [] = 0
greatest_of (x ∷ xs) = max x (greatest_of xs)

abbrev pub least_of : List ℕ → ℕ
least_of [] = 65535
least_of (x ∷ xs) = min x (least_of xs)

-- the least and the greatest height, by the least and the greatest key
abbrev pub extremes_from : ℕ → ℕ → Option Extremes
extremes_from least greatest =
    if least == 65535 then None
    else Some (record { least = pos least -ℤ pos 32768; greatest = pos greatest -ℤ pos 32768 })
