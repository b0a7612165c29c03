-- Bounds of the sine and the cosine of pi * n / d, by partial sums of their series in intervals.
use Rattle.std.specs.Prelude.{ℕ, ℤ, zero, suc, pos, ◌+◌, ◌-◌, ◌*◌, ◌/◌, ◌%◌, ◌^◌, ◌==◌, ◌≤ℤ◌, nat_le}
use Rattle.std.specs.Prelude.{if◌then◌else◌}
use Rattle.std.specs.Int.{div_ceil}
use Rattle.whole_interval.specs.declared.interval.Interval.{Interval}
use Rattle.whole_interval.specs.declared.sine_cosine.SineCosine.{SineCosine}
use Rattle.whole_interval.specs.Interval.{add_of, sub_of, negated_of, mul_of, div_whole_of}
use Rattle.whole_interval.specs.Sine.{pi_digits_low, pi_digits_high, within_turn, quarter_turns}
use Rattle.whole_interval.specs.Sine.{left_of_quarter}

-- pi in units of 2^-48, rounded down
abbrev pub pi_low : ℕ
pi_low = pi_digits_low * 2 ^ 48 / 10 ^ 20

-- and rounded up
abbrev pub pi_high : ℕ
pi_high = div_ceil (pi_digits_high * 2 ^ 48) (10 ^ 20)

-- the ends are in order, from 0 to 2^k
pub record IsUpTo (k : ℕ) (a : Interval) : Type 0 where
  pub low : pos 0 ≤ℤ a.lo
  pub ordered : a.lo ≤ℤ a.hi
  pub high : a.hi ≤ℤ pos (2 ^ k)

-- the number 1
abbrev pub one_of : Interval
one_of = record { lo = pos (2 ^ 48); hi = pos (2 ^ 48) }

-- the angle pi * t / (2 * d)
unfoldable pub angle_of : ℕ → ℕ → Interval
angle_of t d = record { lo = pos (pi_low * t / (2 * d)); hi = pos (div_ceil (pi_high * t) (2 * d)) }

-- the term after term j: times the square, over 2j + from and the whole number after it
unfoldable pub next_of : Interval → Interval → ℕ → ℕ → Interval
next_of term square from j = div_whole_of (mul_of term square) ((2 * j + from) * (2 * j + from + 1))

-- term j of a series
unfoldable pub term_of : Interval → Interval → ℕ → ℕ → Interval
term_of first square from zero = first
term_of first square from (suc j) = next_of (term_of first square from j) square from j

-- the partial sum of the terms 0 to j with one more term, which is subtracted where j is even
unfoldable pub alternated_of : Interval → Interval → ℕ → Interval
alternated_of sum term j = if j % 2 == 0 then sub_of sum term else add_of sum term

-- the partial sum of the terms 0 to j, added and subtracted in turn, beginning with term 0
unfoldable pub partial_of : Interval → Interval → ℕ → ℕ → Interval
partial_of first square from zero = first
partial_of first square from (suc j) =
    alternated_of (partial_of first square from j) (term_of first square from (suc j)) j

-- from the partial sum of eight terms to that of nine
unfoldable pub series_of : Interval → Interval → ℕ → Interval
series_of first square from = record {
  lo = (partial_of first square from 7).lo;
  hi = (partial_of first square from 8).hi;
}

-- the sine of pi * t / (2 * d), where 2 * t is at most d: over 2 * 3, over 4 * 5 and so on
unfoldable pub octant_sine_of : ℕ → ℕ → Interval
octant_sine_of t d = series_of (angle_of t d) (mul_of (angle_of t d) (angle_of t d)) 2

-- its cosine: over 1 * 2, over 3 * 4 and so on
unfoldable pub octant_cosine_of : ℕ → ℕ → Interval
octant_cosine_of t d = series_of one_of (mul_of (angle_of t d) (angle_of t d)) 1

-- the sine of pi * r / (2 * d), where r is at most d; sin x = cos(pi/2 - x) for x above pi/4
unfoldable pub quarter_sine_of : ℕ → ℕ → Interval
quarter_sine_of r d = if nat_le (2 * r) d then octant_sine_of r d else octant_cosine_of (d - r) d

-- its cosine; cos x = sin(pi/2 - x)
unfoldable pub quarter_cosine_of : ℕ → ℕ → Interval
quarter_cosine_of r d = if nat_le (2 * r) d then octant_cosine_of r d else octant_sine_of (d - r) d

-- the sine and the cosine k quarter turns on, for k from 0 to 3
unfoldable pub turned_of : ℕ → Interval → Interval → SineCosine
turned_of k sine cosine =
    if k == 0 then record { sine = sine; cosine = cosine } else
    (if k == 1 then record { sine = cosine; cosine = negated_of sine } else
    (if k == 2 then record { sine = negated_of sine; cosine = negated_of cosine } else
    record { sine = negated_of cosine; cosine = sine }))

-- the sine and the cosine of pi * m / d
unfoldable pub turn_of : ℕ → ℕ → SineCosine
turn_of m d =
    turned_of (quarter_turns m d) (quarter_sine_of (left_of_quarter m d) d)
    (quarter_cosine_of (left_of_quarter m d) d)

-- the sine and the cosine of pi * n / d
abbrev pub half_turn_of : ℤ → ℕ → SineCosine
half_turn_of n d = turn_of (within_turn n d) d
