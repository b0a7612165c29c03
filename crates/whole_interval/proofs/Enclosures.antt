-- What each operation encloses, and that its ends are in order.
use Rattle.std.proofs.Common.{◌≡◌, ℕ, ◌+◌, ◌*◌, ◌^◌, ◌<◌, ◌≤◌, refl, ap, ◌∙◌, arith, Bool}
use Rattle.std.proofs.Common.{true, false, FitsSigned}
use mir.Syntax.{w128}
use Rattle.std.proofs.lemmas.Int.{ints, fits_signed_mul}
use Rattle.std.proofs.lemmas.Bool.Decides.{nat_tests}
use Rattle.std.proofs.Math.Nat.{mul-le-mul_right, mul-le-mul}
use Rattle.std.specs.Prelude.{ℤ, pos, negsuc, ◌+ℤ◌, ◌-ℤ◌, ◌*ℤ◌, ◌≤ℤ◌, ◌<ℤ◌, neg_ℤ, int_lt, if◌then◌else◌}
use Rattle.std.specs.Prelude.{unsigned_abs, ◌==◌}
use Rattle.std.specs.Int.{int_min, int_max}
use Rattle.common_laws.proofs.Extremes.{min_at_most_both, both_at_most_max}
use Rattle.polynomial.proofs.Signs.{weaken}
use Rattle.terrain_base.specs.Division.{IsRoot, floor_of, ceil_of, root_of}
use Rattle.terrain_base.proofs.Quotients.{floor_is, ceil_is, root_is, root_le, neg_mul, mul_mono, mul_off}
use Rattle.whole_interval.specs.declared.interval.Interval.{Interval}
use Rattle.whole_interval.specs.Fraction.{Fraction, plus, minus, times, over_whole, over, negated}
use Rattle.whole_interval.specs.Interval.{IntervalHolds, least_of, greatest_of, IsRootUp, root_up_of}
use Rattle.whole_interval.specs.Interval.{add_of, sub_of, negated_of, mul_of, div_whole_of, div_pos_of}
use Rattle.whole_interval.specs.Interval.{sqrt_of}
use Rattle.whole_interval.proofs.Bounds.{le_trans_z, sum_low, sum_high, neg_order, product_low}
use Rattle.whole_interval.proofs.Bounds.{product_high, whole_low, whole_high, keep_order, turn_order}
use Rattle.whole_interval.proofs.Bounds.{ratio_low, ratio_high, floor_from_nought, floor_below_nought}
use Rattle.whole_interval.proofs.Bounds.{ceil_from_nought, ceil_up_to_nought, root_bound_low}
use Rattle.whole_interval.proofs.Bounds.{root_bound_high}

-- two ends are an interval's
pub same_ends : (lo hi : ℤ) (r : Interval) → lo ≡ r.lo → hi ≡ r.hi
    → ◌≡◌ {A = Interval} (record { lo = lo; hi = hi }) r
same_ends lo hi r e f = let P : ℤ → ℤ → Interval = λ x y. record { lo = x; hi = y } in ap (λ x. P x hi) e ∙
    ap (λ y. P r.lo y) f

pub ordered_as : {r s : Interval} → r ≡ s → s.lo ≤ℤ s.hi → r.lo ≤ℤ r.hi
ordered_as {r} {s} e h = rw e h

pub holds_as : {r s : Interval} (f : Fraction) → r ≡ s → IntervalHolds s f → IntervalHolds r f
holds_as {r} {s} f e h = rw e h

-- an interval that holds a fraction has its ends in order
pub held_ordered : (a : Interval) (f : Fraction) → 0 < f.denominator → IntervalHolds a f → a.lo ≤ℤ a.hi
held_ordered a f p h = mul_off f.denominator a.lo a.hi p (le_trans_z h.low h.high)

pub holds_low_end : (a : Interval) → a.lo ≤ℤ a.hi
    → IntervalHolds a (record { numerator = a.lo; denominator = 2 ^ 48 })
holds_low_end a h = record { low = omega (arith, ints); high = mul_mono (2 ^ 48) a.lo a.hi h }

pub add_holds : (a b : Interval) (f g : Fraction) → IntervalHolds a f → IntervalHolds b g → IntervalHolds (add_of a b) (plus f g)
unfolding add_of
add_holds a b f g h k = record {
  low = sum_low (pos (2 ^ 48)) a.lo b.lo f.numerator g.numerator f.denominator g.denominator h.low k.low;
  high = sum_high (pos (2 ^ 48)) a.hi b.hi f.numerator g.numerator f.denominator g.denominator h.high
      k.high;
}

pub negated_holds : (a : Interval) (f : Fraction) → IntervalHolds a f → IntervalHolds (negated_of a) (negated f)
unfolding negated_of
negated_holds a f h = record {
  low = rw (neg_mul a.hi (pos f.denominator), neg_mul f.numerator (pos (2 ^ 48))) (neg_order h.high);
  high = rw (neg_mul a.lo (pos f.denominator), neg_mul f.numerator (pos (2 ^ 48))) (neg_order h.low);
}

pub sub_holds : (a b : Interval) (f g : Fraction) → IntervalHolds a f → IntervalHolds b g → IntervalHolds (sub_of a b) (minus f g)
unfolding sub_of add_of negated_of
sub_holds a b f g h k =
    let sum = add_holds a (negated_of b) f (negated g) h (negated_holds b g k) in
    let e = neg_mul g.numerator (pos f.denominator) in
    record { low = rw e at sum.low; high = rw e at sum.high }

-- the least of four is at most each, and the greatest at least each
pub least_below : (p q r s : ℤ)
    → (least_of p q r s ≤ℤ p) × (least_of p q r s ≤ℤ q) × (least_of p q r s ≤ℤ r) × (least_of p q r s ≤ℤ s)
least_below p q r s = omega (arith, ints, min_at_most_both p q, min_at_most_both r s, min_at_most_both (int_min p q) (int_min r s))

pub greatest_above : (p q r s : ℤ)
    → (p ≤ℤ greatest_of p q r s) × (q ≤ℤ greatest_of p q r s) × (r ≤ℤ greatest_of p q r s)
    × (s ≤ℤ greatest_of p q r s)
greatest_above p q r s = omega (arith, ints, both_at_most_max p q, both_at_most_max r s, both_at_most_max (int_max p q) (int_max r s))

pub mul_holds : (a b : Interval) (f g : Fraction) → IntervalHolds a f → IntervalHolds b g → IntervalHolds (mul_of a b) (times f g)
unfolding mul_of
mul_holds a b f g h k =
    let l = least_below (a.lo *ℤ b.lo) (a.lo *ℤ b.hi) (a.hi *ℤ b.lo) (a.hi *ℤ b.hi) in
    let m = greatest_above (a.lo *ℤ b.lo) (a.lo *ℤ b.hi) (a.hi *ℤ b.lo) (a.hi *ℤ b.hi) in
    let down = (floor_is (least_of (a.lo *ℤ b.lo) (a.lo *ℤ b.hi) (a.hi *ℤ b.lo) (a.hi *ℤ b.hi))
    (pos (2 ^ 48)) (omega (arith, ints))).low in
    let up = (ceil_is (greatest_of (a.lo *ℤ b.lo) (a.lo *ℤ b.hi) (a.hi *ℤ b.lo) (a.hi *ℤ b.hi))
    (pos (2 ^ 48)) (omega (arith, ints))).high in
    record {
      low = product_low (2 ^ 48) _ f.numerator g.numerator a.lo a.hi b.lo b.hi f.denominator g.denominator
          (omega arith) h.low h.high k.low k.high
          (le_trans_z down l.0) (le_trans_z down l.1) (le_trans_z down l.2) (le_trans_z down l.3);
      high = product_high (2 ^ 48) _ f.numerator g.numerator a.lo a.hi b.lo b.hi f.denominator g.denominator
          (omega arith) h.low h.high k.low k.high
          (le_trans_z m.0 up) (le_trans_z m.1 up) (le_trans_z m.2 up) (le_trans_z m.3 up);
    }

pub div_whole_holds : (a : Interval) (k : ℕ) (f : Fraction) → 0 < k → IntervalHolds a f
    → IntervalHolds (div_whole_of a k) (over_whole f k)
unfolding div_whole_of
div_whole_holds a k f p h = record {
  low = whole_low (pos (2 ^ 48)) _ a.lo f.numerator f.denominator k
      (floor_is a.lo (pos k) (omega (arith, ints))).low h.low;
  high = whole_high (pos (2 ^ 48)) _ a.hi f.numerator f.denominator k
      (ceil_is a.hi (pos k) (omega (arith, ints))).high h.high;
}

below_nought : (x : ℤ) → int_lt x (pos 0) ≡ true → x <ℤ pos 0
below_nought x e = grind (arith, ints)

from_nought : (x : ℤ) → int_lt x (pos 0) ≡ false → pos 0 ≤ℤ x
from_nought x e = grind (arith, ints)

-- the low end of a quotient, with the divisor's end that makes it least
div_low : (x n bl bh : ℤ) (d m e : ℕ) (c : Bool) → int_lt x (pos 0) ≡ c → pos 0 <ℤ bl → bl ≤ℤ bh
    → (bl *ℤ pos e) ≤ℤ (pos m *ℤ pos (2 ^ 48)) → (pos m *ℤ pos (2 ^ 48)) ≤ℤ (bh *ℤ pos e)
    → (x *ℤ pos d) ≤ℤ (n *ℤ pos (2 ^ 48))
    → (floor_of (x *ℤ pos (2 ^ 48)) (if c then bl else bh) *ℤ pos (d * m)) ≤ℤ ((n *ℤ pos e) *ℤ pos (2 ^ 48))
div_low x n bl bh d m e true t p o l h f =
    let q = floor_is (x *ℤ pos (2 ^ 48)) bl p in
    let less : (x *ℤ pos (2 ^ 48)) <ℤ pos 0 = omega (arith, ints, below_nought x t) in
    ratio_low (2 ^ 48) m d e _ x bl n (omega arith)
    (turn_order _ _ _ (weaken (floor_below_nought _ bl _ less p q)) l) q.low f
div_low x n bl bh d m e false t p o l h f =
    let r : pos 0 <ℤ bh = omega (arith, ints, p, o) in
    let q = floor_is (x *ℤ pos (2 ^ 48)) bh r in
    let more : pos 0 ≤ℤ (x *ℤ pos (2 ^ 48)) = omega (arith, ints, from_nought x t) in
    ratio_low (2 ^ 48) m d e _ x bh n (omega arith) (keep_order _ _ _ (floor_from_nought _ bh _ more r q) h)
    q.low f

div_high : (x n bl bh : ℤ) (d m e : ℕ) (c : Bool) → int_lt x (pos 0) ≡ c → pos 0 <ℤ bl → bl ≤ℤ bh
    → (bl *ℤ pos e) ≤ℤ (pos m *ℤ pos (2 ^ 48)) → (pos m *ℤ pos (2 ^ 48)) ≤ℤ (bh *ℤ pos e)
    → (n *ℤ pos (2 ^ 48)) ≤ℤ (x *ℤ pos d)
    → ((n *ℤ pos e) *ℤ pos (2 ^ 48)) ≤ℤ (ceil_of (x *ℤ pos (2 ^ 48)) (if c then bh else bl) *ℤ pos (d * m))
div_high x n bl bh d m e true t p o l h f =
    let r : pos 0 <ℤ bh = omega (arith, ints, p, o) in
    let q = ceil_is (x *ℤ pos (2 ^ 48)) bh r in
    let less : (x *ℤ pos (2 ^ 48)) <ℤ pos 0 = omega (arith, ints, below_nought x t) in
    ratio_high (2 ^ 48) m d e _ x bh n (omega arith)
    (turn_order _ _ _ (ceil_up_to_nought _ bh _ less r q) h) q.high f
div_high x n bl bh d m e false t p o l h f =
    let q = ceil_is (x *ℤ pos (2 ^ 48)) bl p in
    let more : pos 0 ≤ℤ (x *ℤ pos (2 ^ 48)) = omega (arith, ints, from_nought x t) in
    ratio_high (2 ^ 48) m d e _ x bl n (omega arith) (keep_order _ _ _ (ceil_from_nought _ bl _ more p q) l)
    q.high f

-- a fraction in an interval above 0 is not below 0
not_below : (bl : ℤ) (m e : ℕ) → pos 0 <ℤ bl → (bl *ℤ pos e) ≤ℤ (negsuc m *ℤ pos (2 ^ 48)) → ⊥
not_below bl m e p l =
    let from : (pos 0 *ℤ pos e) ≤ℤ (bl *ℤ pos e) = mul_mono e (pos 0) bl (omega (arith, ints, p)) in
    omega (arith, ints, from, l)

div_pos_by : (a b : Interval) (f : Fraction) (m : ℤ) (e : ℕ) → pos 0 <ℤ b.lo → b.lo ≤ℤ b.hi → IntervalHolds a f
    → IntervalHolds b (record { numerator = m; denominator = e })
    → IntervalHolds (div_pos_of a b) (over f (record { numerator = m; denominator = e }))
unfolding div_pos_of
div_pos_by a b f (pos m) e p o h k = record {
  low = div_low a.lo f.numerator b.lo b.hi f.denominator m e (int_lt a.lo (pos 0)) refl p o k.low k.high
      h.low;
  high = div_high a.hi f.numerator b.lo b.hi f.denominator m e (int_lt a.hi (pos 0)) refl p o k.low k.high
      h.high;
}
div_pos_by a b f (negsuc m) e p o h k = absurd (not_below b.lo m e p k.low)

pub div_pos_holds : (a b : Interval) (f g : Fraction) → pos 0 <ℤ b.lo → b.lo ≤ℤ b.hi → IntervalHolds a f → IntervalHolds b g
    → IntervalHolds (div_pos_of a b) (over f g)
div_pos_holds a b f g p o h k = div_pos_by a b f g.numerator g.denominator p o h k

-- the least whole number whose square is at least n
root_up_by : (n r : ℕ) (c : Bool) → (r * r == n) ≡ c → IsRoot n r
    → n ≤ (if c then r else r + 1) * (if c then r else r + 1)
root_up_by n r true e f = grind (arith, nat_tests, e)
root_up_by n r false e f = omega (arith, f.high)

pub root_up_is : (n : ℕ) → n ≤ root_up_of n * root_up_of n
root_up_is n = root_up_by n (root_of n) (root_of n * root_of n == n) refl (root_is n)

-- it is the least
root_up_least : (n r : ℕ) (c : Bool) → (r * r == n) ≡ c → IsRoot n r → (k : ℕ)
    → k < (if c then r else r + 1) → k * k < n
root_up_least n r true e f k h = let l : k + 1 ≤ r = omega arith in omega (arith, f.low, mul-le-mul l l)
root_up_least n r false e f k h = let l : k ≤ r = omega arith in omega
    (arith, f.low, mul-le-mul l l, other (r * r) n e)
  where
    other : (a b : ℕ) → (a == b) ≡ false → ¬ (a ≡ b)
    other a b e = grind (arith, nat_tests)

pub root_up_fits : (n : ℕ) → IsRootUp n (root_up_of n)
root_up_fits n = record {
  low = root_up_least n (root_of n) (root_of n * root_of n == n) refl (root_is n);
  high = root_up_is n;
}

pub sqrt_root_up : (a : Interval) → IsRootUp (unsigned_abs a.hi * 2 ^ 48) (unsigned_abs (sqrt_of a).hi)
unfolding sqrt_of
sqrt_root_up a = root_up_fits (unsigned_abs a.hi * 2 ^ 48)

pub root_up_as : {r s : Interval} (n : ℕ) → r ≡ s → IsRootUp n (unsigned_abs s.hi)
    → IsRootUp n (unsigned_abs r.hi)
root_up_as {r} {s} n e h = rw e h

sqrt_by : (x y : ℤ) (n : ℤ) (d : ℕ) → pos 0 ≤ℤ x → pos 0 ≤ℤ y → pos 0 ≤ℤ n
    → (x *ℤ pos (d * d)) ≤ℤ ((n *ℤ n) *ℤ pos (2 ^ 48)) → ((n *ℤ n) *ℤ pos (2 ^ 48)) ≤ℤ (y *ℤ pos (d * d))
    → ((pos (root_of (unsigned_abs x * 2 ^ 48)) *ℤ pos d) ≤ℤ (n *ℤ pos (2 ^ 48)))
    × ((n *ℤ pos (2 ^ 48)) ≤ℤ (pos (root_up_of (unsigned_abs y * 2 ^ 48)) *ℤ pos d))
sqrt_by (pos x) (pos y) (pos n) d p q r l h =
    let low = root_bound_low (2 ^ 48) x (root_of (x * 2 ^ 48)) n d (root_is (x * 2 ^ 48)).low
    (omega (arith, ints, l)) in
    let high = root_bound_high (2 ^ 48) y (root_up_of (y * 2 ^ 48)) n d (root_up_is (y * 2 ^ 48))
    (omega (arith, ints, h)) in
    (omega (arith, ints, low), omega (arith, ints, high))
sqrt_by (negsuc x) y n d p q r l h = absurd (omega (arith, ints))
sqrt_by (pos x) (negsuc y) n d p q r l h = absurd (omega (arith, ints))
sqrt_by (pos x) (pos y) (negsuc n) d p q r l h = absurd (omega (arith, ints))

pub sqrt_holds : (a : Interval) (f : Fraction) → pos 0 ≤ℤ a.lo → a.lo ≤ℤ a.hi → pos 0 ≤ℤ f.numerator
    → IntervalHolds a (times f f) → IntervalHolds (sqrt_of a) f
unfolding sqrt_of
sqrt_holds a f p o q h =
    let both = sqrt_by a.lo a.hi f.numerator f.denominator p (omega (arith, ints, p, o)) q h.low h.high in
    record { low = both.0; high = both.1 }

root_order : (x y : ℕ) → x ≤ y → root_of x ≤ root_up_of y
root_order x y h = root_le (root_of x) (root_up_of y) (omega (arith, h, (root_is x).low, root_up_is y))

sqrt_order : (x y : ℤ) → pos 0 ≤ℤ x → x ≤ℤ y
    → pos (root_of (unsigned_abs x * 2 ^ 48)) ≤ℤ pos (root_up_of (unsigned_abs y * 2 ^ 48))
sqrt_order (pos x) (pos y) p o = let h : x ≤ y = omega (arith, ints, o) in omega
    (arith, ints, root_order (x * 2 ^ 48) (y * 2 ^ 48) (mul-le-mul_right (2 ^ 48) h))
sqrt_order (negsuc x) y p o = absurd (omega (arith, ints))
sqrt_order (pos x) (negsuc y) p o = absurd (omega (arith, ints))

pub sqrt_ordered : (a : Interval) → pos 0 ≤ℤ a.lo → a.lo ≤ℤ a.hi → (sqrt_of a).lo ≤ℤ (sqrt_of a).hi
unfolding sqrt_of
sqrt_ordered a p o = sqrt_order a.lo a.hi p o

pub add_ordered : (a b : Interval) → a.lo ≤ℤ a.hi → b.lo ≤ℤ b.hi → (add_of a b).lo ≤ℤ (add_of a b).hi
unfolding add_of
add_ordered a b h k = omega (arith, ints, h, k)

pub sub_ordered : (a b : Interval) → a.lo ≤ℤ a.hi → b.lo ≤ℤ b.hi → (sub_of a b).lo ≤ℤ (sub_of a b).hi
unfolding sub_of
sub_ordered a b h k = omega (arith, ints, h, k)

-- the fraction of an interval's low end shows the order of what encloses it
pub mul_ordered : (a b : Interval) → a.lo ≤ℤ a.hi → b.lo ≤ℤ b.hi → (mul_of a b).lo ≤ℤ (mul_of a b).hi
mul_ordered a b h k = held_ordered (mul_of a b) _ (omega arith)
    (mul_holds a b _ _ (holds_low_end a h) (holds_low_end b k))

pub div_whole_ordered : (a : Interval) (k : ℕ) → 0 < k → a.lo ≤ℤ a.hi
    → (div_whole_of a k).lo ≤ℤ (div_whole_of a k).hi
div_whole_ordered a k p h = held_ordered (div_whole_of a k) _ (omega (arith, p))
    (div_whole_holds a k _ p (holds_low_end a h))

div_pos_order : (a b : Interval) (m : ℤ) → b.lo ≡ m → pos 0 <ℤ m → a.lo ≤ℤ a.hi → b.lo ≤ℤ b.hi
    → (div_pos_of a b).lo ≤ℤ (div_pos_of a b).hi
div_pos_order a b (pos m) e p h k =
    let low : Fraction = record { numerator = b.lo; denominator = 2 ^ 48 } in
    let held = div_pos_holds a b _ low (rw e p) k (holds_low_end a h) (holds_low_end b k) in
    let some : 0 < 2 ^ 48 * unsigned_abs b.lo = rw e (omega (arith, ints, p)) in
    held_ordered (div_pos_of a b) _ some held
div_pos_order a b (negsuc m) e p h k = absurd (omega (arith, ints))

pub div_pos_ordered : (a b : Interval) → pos 0 <ℤ b.lo → a.lo ≤ℤ a.hi → b.lo ≤ℤ b.hi
    → (div_pos_of a b).lo ≤ℤ (div_pos_of a b).hi
div_pos_ordered a b p h k = div_pos_order a b b.lo refl p h k

-- the ends that the code computes are the operation's
pub add_is : (a b : Interval)
    → ◌≡◌ {A = Interval} (record { lo = a.lo +ℤ b.lo; hi = a.hi +ℤ b.hi }) (add_of a b)
unfolding add_of
add_is a b = refl

pub sub_is : (a b : Interval)
    → ◌≡◌ {A = Interval} (record { lo = a.lo -ℤ b.hi; hi = a.hi -ℤ b.lo }) (sub_of a b)
unfolding sub_of
sub_is a b = refl

pub mul_is : (a b : Interval) (lo hi : ℤ)
    → lo ≡ floor_of (least_of (a.lo *ℤ b.lo) (a.lo *ℤ b.hi) (a.hi *ℤ b.lo) (a.hi *ℤ b.hi)) (pos (2 ^ 48))
    → hi ≡ ceil_of (greatest_of (a.lo *ℤ b.lo) (a.lo *ℤ b.hi) (a.hi *ℤ b.lo) (a.hi *ℤ b.hi)) (pos (2 ^ 48))
    → ◌≡◌ {A = Interval} (record { lo = lo; hi = hi }) (mul_of a b)
unfolding mul_of
mul_is a b lo hi e f = same_ends lo hi (mul_of a b) e f

pub div_whole_is : (a : Interval) (k : ℕ) (lo hi : ℤ) → lo ≡ floor_of a.lo (pos k)
    → hi ≡ ceil_of a.hi (pos k)
    → ◌≡◌ {A = Interval} (record { lo = lo; hi = hi }) (div_whole_of a k)
unfolding div_whole_of
div_whole_is a k lo hi e f = same_ends lo hi (div_whole_of a k) e f

pub div_pos_is : (a b : Interval) (lo hi : ℤ)
    → lo ≡ floor_of (a.lo *ℤ pos (2 ^ 48)) (if int_lt a.lo (pos 0) then b.lo else b.hi)
    → hi ≡ ceil_of (a.hi *ℤ pos (2 ^ 48)) (if int_lt a.hi (pos 0) then b.hi else b.lo)
    → ◌≡◌ {A = Interval} (record { lo = lo; hi = hi }) (div_pos_of a b)
unfolding div_pos_of
div_pos_is a b lo hi e f = same_ends lo hi (div_pos_of a b) e f

pub sqrt_is : (a : Interval) (lo hi : ℤ) → lo ≡ pos (root_of (unsigned_abs a.lo * 2 ^ 48))
    → hi ≡ pos (root_up_of (unsigned_abs a.hi * 2 ^ 48))
    → ◌≡◌ {A = Interval} (record { lo = lo; hi = hi }) (sqrt_of a)
unfolding sqrt_of
sqrt_is a lo hi e f = same_ends lo hi (sqrt_of a) e f

pub mul_fits : (x y : ℤ) → neg_ℤ (pos (2 ^ 76)) ≤ℤ x → x ≤ℤ pos (2 ^ 76) → neg_ℤ (pos (2 ^ 50)) ≤ℤ y
    → y ≤ℤ pos (2 ^ 50) → FitsSigned w128 (x *ℤ y)
mul_fits x y p q r s = fits_signed_mul w128 x y (2 ^ 76) (2 ^ 50) (omega (arith, ints, p, q))
    (omega (arith, ints, r, s)) (omega arith)
