-- The values of sines and cosines lie in the bounds that the intervals give.
use Rattle.std.proofs.Common.{◌≡◌, ℕ, zero, suc, ◌+◌, ◌-◌, ◌*◌, ◌/◌, ◌%◌, ◌^◌, ◌<◌, ◌≤◌, refl, ap, sym, ◌∙◌}
use Rattle.std.proofs.Common.{arith, [], ◌∷◌, Bool, true, false}
use Rattle.std.proofs.lemmas.Int.{ints}
use Rattle.std.proofs.lemmas.Grind.{div_ceil_times}
use Rattle.std.proofs.Math.Nat.{mul-le-mul, mul-le-mul_right, pow-suc, pow-zero}
use Rattle.std.specs.Prelude.{ℤ, pos, ◌*ℤ◌, ◌≤ℤ◌, neg_ℤ, if◌then◌else◌, ◌==◌}
use Rattle.std.specs.Prelude.{nat_le, MatchBool}
use Rattle.std.specs.Int.{div_ceil}
use Rattle.polynomial.proofs.Expressions.{var, num, mul}
use Rattle.polynomial.proofs.NormalForm.{by_ring}
use Rattle.terrain_base.proofs.Quotients.{mul_mono, mul_off}
use Rattle.whole_interval.specs.declared.interval.Interval.{Interval}
use Rattle.whole_interval.specs.declared.sine_cosine.SineCosine.{SineCosine}
use Rattle.whole_interval.specs.Fraction.{Fraction, plus, minus, times, over_whole, negated, IsAtMost}
use Rattle.whole_interval.specs.Interval.{IntervalHolds, add_of, sub_of, negated_of, mul_of}
use Rattle.whole_interval.specs.HalfTurn.{one_of, angle_of, next_of, term_of, alternated_of, partial_of}
use Rattle.whole_interval.specs.HalfTurn.{series_of, octant_sine_of, octant_cosine_of, quarter_sine_of}
use Rattle.whole_interval.specs.HalfTurn.{quarter_cosine_of, turned_of, turn_of, pi_low, pi_high}
use Rattle.whole_interval.specs.Sine.{pi_digits_low, pi_digits_high, within_turn, quarter_turns}
use Rattle.whole_interval.specs.Sine.{left_of_quarter, power, factorial, power_over_factorial, sine_term}
use Rattle.whole_interval.specs.Sine.{cosine_term, alternating, IsSum, IsAngle, IsOctantSine}
use Rattle.whole_interval.specs.Sine.{IsOctantCosine, IsQuarterSine, IsQuarterCosine, IsTurnedSine}
use Rattle.whole_interval.specs.Sine.{IsTurnedCosine, IsSine, IsCosine}
use Rattle.whole_interval.proofs.Bounds.{le_trans_z, assoc, swapped}
use Rattle.whole_interval.proofs.Enclosures.{holds_as, add_holds, sub_holds, negated_holds, mul_holds}
use Rattle.whole_interval.proofs.Enclosures.{div_whole_holds}
use Rattle.whole_interval.proofs.Sizes.{from_two, quotient_down}
use Rattle.whole_interval.proofs.Branches.{turned_none, turned_once, turned_twice, turned_thrice}

-- two fractions of equal parts
same_fraction : (n : ℤ) (d : ℕ) (f : Fraction) → n ≡ f.numerator → d ≡ f.denominator
    → ◌≡◌ {A = Fraction} (record { numerator = n; denominator = d }) f
same_fraction n d f e g = let P : ℤ → ℕ → Fraction = λ x y. record { numerator = x; denominator = y } in ap
    (λ x. P x d) e ∙ ap (λ y. P f.numerator y) g

holds_same : {a : Interval} {f g : Fraction} → f ≡ g → IntervalHolds a f → IntervalHolds a g
holds_same {a} {f} {g} e h = rw e at h

-- ---- the terms
power_two : (z : ℤ) (n : ℕ) → power z n *ℤ (z *ℤ z) ≡ power z (suc (suc n))
unfolding power
power_two z n = sym (assoc (power z n) z z)

denominator_two : (d n k : ℕ) → k ≡ (n + 1) * (n + 2)
    → ((d ^ n * factorial n) * (d * d)) * k ≡ d ^ suc (suc n) * factorial (suc (suc n))
unfolding factorial
denominator_two d n k e = rw (e, pow-suc d (suc n), pow-suc d n) (omega arith)

-- a term times the square, over the two next whole numbers
next_term : (x : Fraction) (n k : ℕ) → k ≡ (n + 1) * (n + 2)
    → over_whole (times (power_over_factorial x n) (times x x)) k ≡ power_over_factorial x (suc (suc n))
unfolding power_over_factorial
next_term x n k e = same_fraction _ _ (power_over_factorial x (suc (suc n))) (power_two x.numerator n)
    (denominator_two x.denominator n k e)

next_at : (x : Fraction) (n m k : ℕ) → m ≡ suc (suc n) → k ≡ (n + 1) * (n + 2)
    → over_whole (times (power_over_factorial x n) (times x x)) k ≡ power_over_factorial x m
next_at x n m k e f = rw e (next_term x n k f)

first_power : (x : Fraction) → x ≡ power_over_factorial x 1
unfolding power_over_factorial power factorial
first_power x = same_fraction x.numerator x.denominator (power_over_factorial x 1)
    (by_ring (var 0) (mul (num 1) (var 0)) (x.numerator ∷ []) refl)
    (rw (pow-suc x.denominator 0, pow-zero x.denominator) (omega arith))

one_holds : (x : Fraction) → IntervalHolds one_of (power_over_factorial x 0)
unfolding power_over_factorial power factorial
one_holds x = record {
  low = omega (arith, ints, pow-zero x.denominator);
  high = omega (arith, ints, pow-zero x.denominator);
}

next_holds : (term square : Interval) (from j : ℕ) (x f : Fraction) → 0 < from → IntervalHolds term f
    → IntervalHolds square (times x x)
    → IntervalHolds (next_of term square from j)
    (over_whole (times f (times x x)) ((2 * j + from) * (2 * j + from + 1)))
unfolding next_of
next_holds term square from j x f p h g =
    div_whole_holds (mul_of term square) _ _ (omega (arith, from_two j from p))
    (mul_holds term square f (times x x) h g)

pub term_holds : (j n : ℕ) (first square : Interval) (from : ℕ) (x : Fraction) → from ≡ n + 1
    → IntervalHolds first (power_over_factorial x n) → IntervalHolds square (times x x)
    → IntervalHolds (term_of first square from j) (power_over_factorial x (2 * j + n))
unfolding term_of
term_holds zero n first square from x e h g = let same : n ≡ 2 * 0 + n = omega arith in holds_same
    (ap (power_over_factorial x) same) h
term_holds (suc j) n first square from x e h g = holds_same
    (next_at x (2 * j + n) (2 * suc j + n) ((2 * j + from) * (2 * j + from + 1)) (omega arith)
    (rw e (omega arith)))
    (next_holds (term_of first square from j) square from j x _ (omega arith)
    (term_holds j n first square from x e h g) g)

-- ---- the partial sums
alternated_by : (c : Bool) (sum term : Interval) (f g : Fraction) → IntervalHolds sum f → IntervalHolds term g
    → IntervalHolds (if c then sub_of sum term else add_of sum term) (if c then minus f g else plus f g)
alternated_by true sum term f g h k = sub_holds sum term f g h k
alternated_by false sum term f g h k = add_holds sum term f g h k

alternated_holds : (j : ℕ) (sum term : Interval) (f g : Fraction) → IntervalHolds sum f → IntervalHolds term g
    → IntervalHolds (alternated_of sum term j) (if j % 2 == 0 then minus f g else plus f g)
unfolding alternated_of
alternated_holds j sum term f g h k = alternated_by (j % 2 == 0) sum term f g h k

first_holds : (first square : Interval) (from : ℕ) (f : Fraction) → IntervalHolds (term_of first square from 0) f
    → IntervalHolds first f
unfolding term_of
first_holds first square from f h = h

pub partial_holds : (j : ℕ) (first square : Interval) (from : ℕ) (term : ℕ → Fraction)
    → ((i : ℕ) → IntervalHolds (term_of first square from i) (term i))
    → IntervalHolds (partial_of first square from j) (alternating term j)
unfolding partial_of alternating
partial_holds zero first square from term h = first_holds first square from (term 0) (h 0)
partial_holds (suc j) first square from term h = alternated_holds j _ _ _ _
    (partial_holds j first square from term h) (h (suc j))

positive_product : (m n : ℕ) → 0 < m → 0 < n → 0 < m * n
positive_product m n p q = omega (arith, mul-le-mul p q)

positive_by : (c : Bool) (f g : Fraction) → 0 < f.denominator → 0 < g.denominator
    → 0 < (if c then minus f g else plus f g).denominator
positive_by true f g p q = positive_product f.denominator g.denominator p q
positive_by false f g p q = positive_product f.denominator g.denominator p q

alternating_positive : (j : ℕ) (term : ℕ → Fraction) → ((i : ℕ) → 0 < (term i).denominator)
    → 0 < (alternating term j).denominator
unfolding alternating
alternating_positive zero term h = h 0
alternating_positive (suc j) term h = positive_by (j % 2 == 0) _ _ (alternating_positive j term h)
    (h (suc j))

factorial_positive : (n : ℕ) → 0 < factorial n
unfolding factorial
factorial_positive zero = omega arith
factorial_positive (suc n) = positive_product (factorial n) (suc n) (factorial_positive n) (omega arith)

power_positive : (d n : ℕ) → 0 < d → 0 < d ^ n
power_positive d zero p = omega (arith, pow-zero d)
power_positive d (suc n) p = rw (pow-suc d n) (positive_product (d ^ n) d (power_positive d n p) p)

term_positive : (x : Fraction) (n : ℕ) → 0 < x.denominator → 0 < (power_over_factorial x n).denominator
unfolding power_over_factorial
term_positive x n p = positive_product (x.denominator ^ n) (factorial n) (power_positive x.denominator n p)
    (factorial_positive n)

-- ---- what lies between two fractions lies between their bounds
above_low : (lo : ℤ) (k : ℕ) (f g : Fraction) → 0 < f.denominator
    → (lo *ℤ pos f.denominator) ≤ℤ (f.numerator *ℤ pos k) → IsAtMost f g
    → (lo *ℤ pos g.denominator) ≤ℤ (g.numerator *ℤ pos k)
above_low lo k f g p h l =
    let one = rw (swapped lo (pos f.denominator) (pos g.denominator)) at (mul_mono g.denominator _ _ h) in
    let two = rw (
      swapped f.numerator (pos g.denominator) (pos k),
      swapped g.numerator (pos f.denominator)
          (pos k),
    ) at (mul_mono k _ _ l) in
    mul_off f.denominator _ _ p (le_trans_z one two)

below_high : (hi : ℤ) (k : ℕ) (f g : Fraction) → 0 < f.denominator
    → (f.numerator *ℤ pos k) ≤ℤ (hi *ℤ pos f.denominator) → IsAtMost g f
    → (g.numerator *ℤ pos k) ≤ℤ (hi *ℤ pos g.denominator)
below_high hi k f g p h l =
    let one = rw (swapped hi (pos f.denominator) (pos g.denominator)) at (mul_mono g.denominator _ _ h) in
    let two = rw (
      swapped f.numerator (pos g.denominator) (pos k),
      swapped g.numerator (pos f.denominator)
          (pos k),
    ) at (mul_mono k _ _ l) in
    mul_off f.denominator _ _ p (le_trans_z two one)

pub series_holds : (first square : Interval) (from : ℕ) (term : ℕ → Fraction) (s : Fraction)
    → ((i : ℕ) → IntervalHolds (term_of first square from i) (term i)) → ((i : ℕ) → 0 < (term i).denominator)
    → IsSum term s
    → IntervalHolds (series_of first square from) s
unfolding series_of
series_holds first square from term s h p b = record {
  low = above_low _ (2 ^ 48) (alternating term 7) s (alternating_positive 7 term p)
      (partial_holds 7 first square from term h).low b.above;
  high = below_high _ (2 ^ 48) (alternating term 8) s (alternating_positive 8 term p)
      (partial_holds 8 first square from term h).high b.below;
}

-- ---- the angle
-- q / y is at most low * t / y, and low at most p / z in units of k
angle_low : (q y low t p z k : ℕ) (x : Fraction) → 0 < y → 0 < z → q * y ≤ low * t → low * z ≤ p * k
    → (pos (p * t) *ℤ pos x.denominator) ≤ℤ (x.numerator *ℤ pos (y * z))
    → (pos q *ℤ pos x.denominator) ≤ℤ (x.numerator *ℤ pos k)
angle_low q y low t p z k x a b h g l =
    let one = rw (swapped x.numerator (pos (y * z)) (pos k)) at (mul_mono k _ _ l) in
    let two : (q * x.denominator) * (y * z) ≤ (p * t) * x.denominator * k =
    omega (arith, mul-le-mul_right (z * x.denominator) h, mul-le-mul_right (t * x.denominator) g) in
    mul_off (y * z) _ _ (positive_product y z a b) (le_trans_z (omega (arith, ints, two)) one)

angle_high : (q y high t p z k : ℕ) (x : Fraction) → 0 < y → 0 < z → high * t ≤ q * y → p * k ≤ high * z
    → (x.numerator *ℤ pos (y * z)) ≤ℤ (pos (p * t) *ℤ pos x.denominator)
    → (x.numerator *ℤ pos k) ≤ℤ (pos q *ℤ pos x.denominator)
angle_high q y high t p z k x a b h g l =
    let one = rw (swapped x.numerator (pos (y * z)) (pos k)) at (mul_mono k _ _ l) in
    let two : (p * t) * x.denominator * k ≤ (q * x.denominator) * (y * z) =
    omega (arith, mul-le-mul_right (z * x.denominator) h, mul-le-mul_right (t * x.denominator) g) in
    mul_off (y * z) _ _ (positive_product y z a b) (le_trans_z one (omega (arith, ints, two)))

pub angle_holds : (t d : ℕ) (x : Fraction) → 0 < d → IsAngle t d x → IntervalHolds (angle_of t d) x
unfolding angle_of
angle_holds t d x p h =
    let y : 0 < 2 * d = omega arith in
    record {
      low = angle_low (pi_low * t / (2 * d)) (2 * d) pi_low t pi_digits_low (10 ^ 20) (2 ^ 48) x y
          (omega arith)
          (quotient_down (pi_low * t) (2 * d) y) (omega arith) h.above;
      high = angle_high (div_ceil (pi_high * t) (2 * d)) (2 * d) pi_high t pi_digits_high (10 ^ 20) (2 ^ 48)
          x y (omega arith)
          (div_ceil_times (pi_high * t) (2 * d) y).0 (omega arith) h.below;
    }

-- ---- sines and cosines
octant_sine_holds : (t d : ℕ) (s : Fraction) → 0 < d → IsOctantSine t d s → IntervalHolds (octant_sine_of t d) s
unfolding octant_sine_of
octant_sine_holds t d s p h =
    let x = angle_holds t d h.angle p h.is_angle in
    let square = mul_holds (angle_of t d) (angle_of t d) h.angle h.angle x x in
    series_holds (angle_of t d) _ 2 (sine_term h.angle) s
    (λ j. term_holds j 1 (angle_of t d) _ 2 h.angle (omega arith) (holds_same (first_power h.angle) x)
    square)
    (λ j. term_positive h.angle (2 * j + 1) h.is_angle.positive) h.is_sum

octant_cosine_holds : (t d : ℕ) (s : Fraction) → 0 < d → IsOctantCosine t d s
    → IntervalHolds (octant_cosine_of t d) s
unfolding octant_cosine_of
octant_cosine_holds t d s p h =
    let x = angle_holds t d h.angle p h.is_angle in
    let square = mul_holds (angle_of t d) (angle_of t d) h.angle h.angle x x in
    series_holds one_of _ 1 (cosine_term h.angle) s
    (λ j. let e : 2 * j + 0 ≡ 2 * j = omega arith in
    holds_same (ap (power_over_factorial h.angle) e)
    (term_holds j 0 one_of _ 1 h.angle (omega arith) (one_holds h.angle) square))
    (λ j. term_positive h.angle (2 * j) h.is_angle.positive) h.is_sum

sine_by : (c : Bool) (r d : ℕ) (s : Fraction) → 0 < d
    → MatchBool c (IsOctantSine r d s) (IsOctantCosine (d - r) d s)
    → IntervalHolds (if c then octant_sine_of r d else octant_cosine_of (d - r) d) s
sine_by true r d s p h = octant_sine_holds r d s p h
sine_by false r d s p h = octant_cosine_holds (d - r) d s p h

quarter_sine_holds : (r d : ℕ) (s : Fraction) → 0 < d → IsQuarterSine r d s → IntervalHolds (quarter_sine_of r d) s
unfolding quarter_sine_of
quarter_sine_holds r d s p h = sine_by (nat_le (2 * r) d) r d s p h

cosine_by : (c : Bool) (r d : ℕ) (s : Fraction) → 0 < d
    → MatchBool c (IsOctantCosine r d s) (IsOctantSine (d - r) d s)
    → IntervalHolds (if c then octant_cosine_of r d else octant_sine_of (d - r) d) s
cosine_by true r d s p h = octant_cosine_holds r d s p h
cosine_by false r d s p h = octant_sine_holds (d - r) d s p h

quarter_cosine_holds : (r d : ℕ) (s : Fraction) → 0 < d → IsQuarterCosine r d s
    → IntervalHolds (quarter_cosine_of r d) s
unfolding quarter_cosine_of
quarter_cosine_holds r d s p h = cosine_by (nat_le (2 * r) d) r d s p h

-- a sign that is changed twice
neg_neg : (z : ℤ) → neg_ℤ (neg_ℤ z) ≡ z
neg_neg z = omega (arith, ints)

negated_back : (a : Interval) (s : Fraction) → IntervalHolds a (negated s) → IntervalHolds (negated_of a) s
negated_back a s h =
    let both = negated_holds a (negated s) h in
    let e : negated (negated s) ≡ s = same_fraction _ _ s (neg_neg s.numerator) refl in
    holds_same e both

turned_sine_holds : (k r d : ℕ) (s : Fraction) → 0 < d → IsTurnedSine k r d s
    → IntervalHolds (turned_of k (quarter_sine_of r d) (quarter_cosine_of r d)).sine s
turned_sine_holds zero r d s p h =
    holds_as s (ap (λ (t : SineCosine). t.sine) (sym (turned_none 0 _ _ refl)))
    (quarter_sine_holds r d s p h)
turned_sine_holds (suc zero) r d s p h =
    holds_as s (ap (λ (t : SineCosine). t.sine) (sym (turned_once 1 _ _ _ refl refl)))
    (quarter_cosine_holds r d s p h)
turned_sine_holds (suc (suc zero)) r d s p h =
    holds_as s (ap (λ (t : SineCosine). t.sine) (sym (turned_twice 2 _ _ _ _ refl refl refl)))
    (negated_back _ s (quarter_sine_holds r d (negated s) p h))
turned_sine_holds (suc (suc (suc k))) r d s p h =
    holds_as s (ap (λ (t : SineCosine). t.sine) (sym
    (turned_thrice (suc (suc (suc k))) _ _ _ (λ e. omega arith) (λ e. omega arith) (λ e. omega arith)
    refl)))
    (negated_back _ s (quarter_cosine_holds r d (negated s) p h))

turned_cosine_holds : (k r d : ℕ) (s : Fraction) → 0 < d → IsTurnedCosine k r d s
    → IntervalHolds (turned_of k (quarter_sine_of r d) (quarter_cosine_of r d)).cosine s
turned_cosine_holds zero r d s p h =
    holds_as s (ap (λ (t : SineCosine). t.cosine) (sym (turned_none 0 _ _ refl)))
    (quarter_cosine_holds r d s p h)
turned_cosine_holds (suc zero) r d s p h =
    holds_as s (ap (λ (t : SineCosine). t.cosine) (sym (turned_once 1 _ _ _ refl refl)))
    (negated_back _ s (quarter_sine_holds r d (negated s) p h))
turned_cosine_holds (suc (suc zero)) r d s p h =
    holds_as s (ap (λ (t : SineCosine). t.cosine) (sym (turned_twice 2 _ _ _ _ refl refl refl)))
    (negated_back _ s (quarter_cosine_holds r d (negated s) p h))
turned_cosine_holds (suc (suc (suc k))) r d s p h =
    holds_as s (ap (λ (t : SineCosine). t.cosine)
    (sym (turned_thrice (suc (suc (suc k))) _ _ _ (λ e. omega arith) (λ e. omega arith)
    (λ e. omega arith) refl)))
    (quarter_sine_holds r d s p h)

pub sine_holds : (n : ℤ) (d : ℕ) (s : Fraction) → 0 < d → IsSine n d s
    → IntervalHolds (turn_of (within_turn n d) d).sine s
unfolding turn_of IsSine
sine_holds n d s p h = let m = within_turn n d in turned_sine_holds (quarter_turns m d)
    (left_of_quarter m d) d s p h

pub cosine_holds : (n : ℤ) (d : ℕ) (s : Fraction) → 0 < d → IsCosine n d s
    → IntervalHolds (turn_of (within_turn n d) d).cosine s
unfolding turn_of IsCosine
cosine_holds n d s p h = let m = within_turn n d in turned_cosine_holds (quarter_turns m d)
    (left_of_quarter m d) d s p h
