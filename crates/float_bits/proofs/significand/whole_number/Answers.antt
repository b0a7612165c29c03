use Rattle.std.proofs.Common.{◌≡◌, ℕ, ◌-◌, ◌*◌, ◌/◌, ◌^◌, Some, ap, sym, ◌∙◌, arith}
use Rattle.std.proofs.lemmas.Nat.{shr_le}
use Rattle.float_bits.proofs.Significands.{moved, not_up, not_far, returned, quotient_is}
use Rattle.float_bits.proofs.Significands.{quotient_above, moved_back}
use Rattle.float_bits.proofs.significand.whole_number.Goals as goal

pub returns-then-exponent-scale-clause-only : goal.returns-then-exponent-scale-clause-only
returns-then-exponent-scale-clause-only c = λ n h same.
    absurd (not_up c.args.significand n c.args.exponent c.args.scale c.if-exponent-scale.true h same)

pub returns-then-places-gt52-clause-only : goal.returns-then-places-gt52-clause-only
returns-then-places-gt52-clause-only c = λ n h same.
    absurd (not_far c.args.significand n c.args.exponent c.args.scale (omega arith)
    c.if-places-gt52.true c.requires.above c.requires.below same)

pub returns-then-n-places-clause-some : goal.returns-then-n-places-clause-some
returns-then-n-places-clause-some c =
    let s = c.args.significand in
    let p = c.args.scale - c.args.exponent in
    let back : s / 2 ^ p * 2 ^ p ≡ s = sym (returned s p c.requires.below) ∙ c.if-n-places.true in (
      quotient_above s p c.requires.above back,
      shr_le s p,
      moved s (s / 2 ^ p) c.args.exponent c.args.scale (omega arith) back,
    )

pub returns-then-n-places-clause-only : goal.returns-then-n-places-clause-only
returns-then-n-places-clause-only c = λ n h same.
    ap (λ (m : ℕ). Some m) (quotient_is c.args.significand n c.args.exponent c.args.scale (omega arith) same)

pub returns-else-n-places-clause-only : goal.returns-else-n-places-clause-only
returns-else-n-places-clause-only c = λ n h same.
    let s = c.args.significand in
    let p = c.args.scale - c.args.exponent in
    let one = quotient_is s n c.args.exponent c.args.scale (omega arith) same in
    absurd (c.if-n-places.false (returned s p c.requires.below ∙ ap (λ m. m * 2 ^ p) one
    ∙ moved_back s n c.args.exponent c.args.scale (omega arith) same))
