-- Fractions of whole numbers of any size, compared by cross-multiplying.
use Rattle.std.specs.Prelude.{ℕ, ℤ, pos, ◌*◌, ◌<◌, ◌+ℤ◌, ◌-ℤ◌, ◌*ℤ◌, ◌≤ℤ◌, neg_ℤ, unsigned_abs}

-- a numerator over a denominator; a fraction of numbers has one above 0, as `IsBetween` says
pub record Fraction : Type 0 where
  pub numerator : ℤ
  pub denominator : ℕ

-- f + g
abbrev pub plus : Fraction → Fraction → Fraction
plus f g = record {
  numerator = (f.numerator *ℤ pos g.denominator) +ℤ (g.numerator *ℤ pos f.denominator);
  denominator = f.denominator * g.denominator;
}

-- f - g
abbrev pub minus : Fraction → Fraction → Fraction
minus f g = record {
  numerator = (f.numerator *ℤ pos g.denominator) -ℤ (g.numerator *ℤ pos f.denominator);
  denominator = f.denominator * g.denominator;
}

-- f * g
abbrev pub times : Fraction → Fraction → Fraction
times f g = record { numerator = f.numerator *ℤ g.numerator; denominator = f.denominator * g.denominator }

-- f / k, where k is above 0
abbrev pub over_whole : Fraction → ℕ → Fraction
over_whole f k = record { numerator = f.numerator; denominator = f.denominator * k }

-- f / g, where g is above 0
abbrev pub over : Fraction → Fraction → Fraction
over f g = record {
  numerator = f.numerator *ℤ pos g.denominator;
  denominator = f.denominator * unsigned_abs g.numerator;
}

-- -f
abbrev pub negated : Fraction → Fraction
negated f = record { numerator = neg_ℤ f.numerator; denominator = f.denominator }

-- f is at most g
abbrev pub IsAtMost : Fraction → Fraction → Type 0
IsAtMost f g = (f.numerator *ℤ pos g.denominator) ≤ℤ (g.numerator *ℤ pos f.denominator)

-- f is a fraction from low to high
pub record IsBetween (low high f : Fraction) : Type 0 where
  pub positive : 0 < f.denominator
  pub above : IsAtMost low f
  pub below : IsAtMost f high
