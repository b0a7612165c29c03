-- Sines and cosines of the angles pi * n / d, as fractions between two partial sums of their series.
use Rattle.std.specs.Prelude.{ℕ, ℤ, zero, suc, pos, ◌+◌, ◌-◌, ◌*◌, ◌/◌, ◌%◌, ◌^◌, ◌==◌, ◌*ℤ◌, nat_le}
use Rattle.std.specs.Prelude.{unsigned_abs, if◌then◌else◌, MatchBool}
use Rattle.std.specs.Int.{int_rem_euclid}
use Rattle.whole_interval.specs.Fraction.{Fraction, plus, minus, negated, IsBetween}

-- ---- the angle

-- pi lies from the first to the second over 10^20
abbrev pub pi_digits_low : ℕ
pi_digits_low = 314159265358979323846

abbrev pub pi_digits_high : ℕ
pi_digits_high = 314159265358979323847

-- pi * n / d is whole turns and pi * m / d, where m is n modulo 2 * d, from 0 on
abbrev pub within_turn : ℤ → ℕ → ℕ
within_turn n d = unsigned_abs (int_rem_euclid n (pos (2 * d)))

-- pi * m / d is k quarter turns and pi * r / (2 * d), where r is below d: this is k
abbrev pub quarter_turns : ℕ → ℕ → ℕ
quarter_turns m d = 2 * m / d

-- and this is r
abbrev pub left_of_quarter : ℕ → ℕ → ℕ
left_of_quarter m d = 2 * m % d

-- x is a value of the angle pi * t / (2 * d): a fraction between those that the two bounds of pi give
abbrev pub IsAngle : ℕ → ℕ → Fraction → Type 0
IsAngle t d x = IsBetween
    (record { numerator = pos (pi_digits_low * t); denominator = 2 * d * 10 ^ 20 })
    (record { numerator = pos (pi_digits_high * t); denominator = 2 * d * 10 ^ 20 })
    x

-- ---- the series

-- z to the power n
unfoldable pub power : ℤ → ℕ → ℤ
power z zero = pos 1
power z (suc n) = power z n *ℤ z

-- 1 * 2 * .. * n
unfoldable pub factorial : ℕ → ℕ
factorial zero = 1
factorial (suc n) = factorial n * suc n

-- x^n / n!
unfoldable pub power_over_factorial : Fraction → ℕ → Fraction
power_over_factorial x n = record {
  numerator = power x.numerator n;
  denominator = x.denominator ^ n * factorial n;
}

-- the terms of the sine's series, x - x^3/3! + x^5/5! - .., without their signs
abbrev pub sine_term : Fraction → ℕ → Fraction
sine_term x j = power_over_factorial x (2 * j + 1)

-- the terms of the cosine's series, 1 - x^2/2! + x^4/4! - .., without their signs
abbrev pub cosine_term : Fraction → ℕ → Fraction
cosine_term x j = power_over_factorial x (2 * j)

-- the partial sum of the terms 0 to n, added and subtracted in turn, beginning with term 0
unfoldable pub alternating : (ℕ → Fraction) → ℕ → Fraction
alternating term zero = term zero
alternating term (suc n) =
    if n % 2 == 0 then minus (alternating term n) (term (suc n))
    else plus (alternating term n) (term (suc n))

-- s is a fraction from the partial sum of eight terms to that of nine
abbrev pub IsSum : (ℕ → Fraction) → Fraction → Type 0
IsSum term s = IsBetween (alternating term 7) (alternating term 8) s

-- ---- sines and cosines

-- s is a sine of a value of the angle pi * t / (2 * d), where 2 * t is at most d
pub record IsOctantSine (t d : ℕ) (s : Fraction) : Type 0 where
  pub angle : Fraction
  pub is_angle : IsAngle t d angle
  pub is_sum : IsSum (sine_term angle) s

-- s is a cosine of it
pub record IsOctantCosine (t d : ℕ) (s : Fraction) : Type 0 where
  pub angle : Fraction
  pub is_angle : IsAngle t d angle
  pub is_sum : IsSum (cosine_term angle) s

-- s is a sine of pi * r / (2 * d), where r is at most d; sin x = cos(pi/2 - x) for x above pi/4
abbrev pub IsQuarterSine : ℕ → ℕ → Fraction → Type 0
IsQuarterSine r d s = MatchBool (nat_le (2 * r) d) (IsOctantSine r d s) (IsOctantCosine (d - r) d s)

-- s is a cosine of it; cos x = sin(pi/2 - x)
abbrev pub IsQuarterCosine : ℕ → ℕ → Fraction → Type 0
IsQuarterCosine r d s = MatchBool (nat_le (2 * r) d) (IsOctantCosine r d s) (IsOctantSine (d - r) d s)

-- s is a sine of the angle k quarter turns on, for k from 0 to 3: sin x, cos x, -sin x, -cos x
abbrev pub IsTurnedSine : ℕ → ℕ → ℕ → Fraction → Type 0
IsTurnedSine zero r d s = IsQuarterSine r d s
IsTurnedSine (suc zero) r d s = IsQuarterCosine r d s
IsTurnedSine (suc (suc zero)) r d s = IsQuarterSine r d (negated s)
IsTurnedSine (suc (suc (suc k))) r d s = IsQuarterCosine r d (negated s)

-- s is a cosine of it: cos x, -sin x, -cos x, sin x
abbrev pub IsTurnedCosine : ℕ → ℕ → ℕ → Fraction → Type 0
IsTurnedCosine zero r d s = IsQuarterCosine r d s
IsTurnedCosine (suc zero) r d s = IsQuarterSine r d (negated s)
IsTurnedCosine (suc (suc zero)) r d s = IsQuarterCosine r d (negated s)
IsTurnedCosine (suc (suc (suc k))) r d s = IsQuarterSine r d s

-- s is a value of the sine of pi * n / d
unfoldable pub IsSine : ℤ → ℕ → Fraction → Type 0
IsSine n d s = let m = within_turn n d in IsTurnedSine (quarter_turns m d) (left_of_quarter m d) d s

-- s is a value of the cosine of pi * n / d
unfoldable pub IsCosine : ℤ → ℕ → Fraction → Type 0
IsCosine n d s = let m = within_turn n d in IsTurnedCosine (quarter_turns m d) (left_of_quarter m d) d s
