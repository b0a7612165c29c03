-- The ends of a box, in units of 2^-8.
use Rattle.std.proofs.Common.{◌≡◌, ℕ, ◌*◌, ◌^◌, ◌≤◌, arith, refl}
use Rattle.std.proofs.lemmas.Int.{ints}
use Rattle.std.specs.Prelude.{ℤ, pos, ◌*ℤ◌, ◌≤ℤ◌, unsigned_abs}
use Rattle.terrain_base.specs.Division.{ceil_of, floor_of}
use Rattle.terrain_base.proofs.Quotients.{ceil_is, floor_is}
use Rattle.whole_interval.proofs.Bounds.{whole_high, whole_low}
use Rattle.whole_interval.specs.declared.interval.Interval.{Interval}
use Rattle.ecef_boxes.specs.declared.ecef_box.EcefBox.{EcefBox}
use Rattle.ecef_boxes.specs.Box.{down_of, ends_of, up_of}

pub down_is : (q n : ℤ) → q ≡ floor_of n (pos (2 ^ 40)) → q ≡ down_of n
unfolding down_of
down_is q n e = e

pub up_is : (q n : ℤ) → q ≡ ceil_of n (pos (2 ^ 40)) → q ≡ up_of n
unfolding up_of
up_is q n e = e

pub down_size : (n : ℤ) → unsigned_abs n ≤ 521993160 * 2 ^ 42 → unsigned_abs (down_of n) ≤ 2 ^ 31
unfolding down_of
down_size n h =
    let f = floor_is n (pos (2 ^ 40)) (omega (arith, ints)) in
    omega (arith, ints, h, f.low, f.high)

pub up_size : (n : ℤ) → unsigned_abs n ≤ 521993160 * 2 ^ 42 → unsigned_abs (up_of n) ≤ 2 ^ 31
unfolding up_of
up_size n h =
    let c = ceil_is n (pos (2 ^ 40)) (omega (arith, ints)) in
    omega (arith, ints, h, c.low, c.high)

-- what lies above an end lies above it rounded down, and what lies below an end lies below it rounded up
pub down_low : (x n : ℤ) (d : ℕ) → (x *ℤ pos d) ≤ℤ (n *ℤ pos (2 ^ 48))
    → (down_of x *ℤ pos d) ≤ℤ (n *ℤ pos (2 ^ 8))
unfolding down_of
down_low x n d h =
    let f = floor_is x (pos (2 ^ 40)) (omega (arith, ints)) in
    omega (arith, ints, whole_low (pos (2 ^ 48)) (floor_of x (pos (2 ^ 40))) x n d (2 ^ 40) f.low h)

pub up_high : (x n : ℤ) (d : ℕ) → (n *ℤ pos (2 ^ 48)) ≤ℤ (x *ℤ pos d)
    → (n *ℤ pos (2 ^ 8)) ≤ℤ (up_of x *ℤ pos d)
unfolding up_of
up_high x n d h =
    let c = ceil_is x (pos (2 ^ 40)) (omega (arith, ints)) in
    omega (arith, ints, whole_high (pos (2 ^ 48)) (ceil_of x (pos (2 ^ 40))) x n d (2 ^ 40) c.high h)

pub same_box : (a b c d e f : ℤ) (box : EcefBox) → a ≡ box.x_lo → b ≡ box.x_hi → c ≡ box.y_lo → d ≡ box.y_hi
    → e ≡ box.z_lo → f ≡ box.z_hi
    → ◌≡◌ {A = EcefBox} (record { x_lo = a; x_hi = b; y_lo = c; y_hi = d; z_lo = e; z_hi = f }) box
same_box a b c d e f box p q r s t u = rw (p, q, r, s, t, u) refl

pub ends_is : (x y z : Interval) (a b c d e f : ℤ) → a ≡ down_of x.lo → b ≡ up_of x.hi → c ≡ down_of y.lo
    → d ≡ up_of y.hi → e ≡ down_of z.lo → f ≡ up_of z.hi
    → ◌≡◌ {A = EcefBox} (record { x_lo = a; x_hi = b; y_lo = c; y_hi = d; z_lo = e; z_hi = f }) (ends_of x y z)
unfolding ends_of
ends_is x y z a b c d e f p q r s t u = same_box a b c d e f (ends_of x y z) p q r s t u
