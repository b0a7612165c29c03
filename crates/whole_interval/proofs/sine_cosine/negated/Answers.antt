use Rattle.std.proofs.Common.{rules, FitsSigned, pos, ◌-ℤ◌}
use Rattle.std.proofs.lemmas.Int.{to_z-of_z}
use mir.Syntax.{w128}
use Rattle.whole_interval.proofs.Sizes.{negated_within, negated_is}
use Rattle.whole_interval.proofs.sine_cosine.negated.Goals as goal

pub returns : goal.returns
returns c =
    let a = c.args.a.now in
    let al : FitsSigned w128 a.lo = search rules in
    let ah : FitsSigned w128 a.hi = search rules in
    let lo : FitsSigned w128 (pos 0 -ℤ a.hi) = search rules in
    let hi : FitsSigned w128 (pos 0 -ℤ a.lo) = search rules in
    record {
      exact = simp to_z-of_z (negated_is a);
      size = simp to_z-of_z (rw (negated_is a) (negated_within 50 a c.requires));
    }
