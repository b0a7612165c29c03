-- The angle pi * t / (2 * d) in the code's numbers.
use Rattle.std.proofs.Common.{◌≡◌, ℕ, ◌*◌, ◌/◌, ◌^◌, ◌<◌, ◌≤◌, arith, ap, refl, ◌∙◌}
use Rattle.std.proofs.lemmas.Int.{ints, to_z_pos}
use Rattle.std.specs.Prelude.{ℤ, pos, negsuc, ◌*ℤ◌, ◌≤ℤ◌, ◌<ℤ◌, unsigned_abs}
use Rattle.std.specs.Int.{div_ceil}
use mir.Syntax.{w128}
use mir.Val.{to_z}
use Rattle.whole_interval.specs.declared.interval.Interval.{Interval}
use Rattle.whole_interval.specs.HalfTurn.{angle_of, pi_low, pi_high}
use Rattle.whole_interval.proofs.Enclosures.{same_ends}
use Rattle.whole_interval.proofs.Sizes.{angle_up_to}

few : (q : ℕ) → pos q ≤ℤ pos (2 ^ 48) → to_z w128 q ≡ pos q
few q h = to_z_pos w128 q (omega (arith, ints, h))

pub angle_is : (t d hi : ℕ) → hi ≡ div_ceil (pi_high * t) (2 * d) → 0 < d → 2 * t ≤ d
    → ◌≡◌ {A = Interval} (record { lo = to_z w128 (pi_low * t / (2 * d)); hi = to_z w128 hi }) (angle_of t d)
unfolding angle_of
angle_is t d hi e p h =
    let size = angle_up_to t d p h in
    same_ends _ _ _
    (few (pi_low * t / (2 * d)) (omega (arith, ints, size.ordered, size.high)))
    (few hi (omega (arith, ints, size.high, e)) ∙ ap pos e)

-- a number above 0 is its size
pub size_positive : (d : ℤ) → pos 0 <ℤ d → 0 < unsigned_abs d
size_positive (pos d) p = omega (arith, ints)
size_positive (negsuc d) p = absurd (omega (arith, ints))

pub twice_is : (d : ℤ) → pos 0 <ℤ d → pos 2 *ℤ d ≡ pos (2 * unsigned_abs d)
twice_is (pos d) p = refl
twice_is (negsuc d) p = absurd (omega (arith, ints))
