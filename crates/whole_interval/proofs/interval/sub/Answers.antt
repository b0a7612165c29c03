use Rattle.std.proofs.Common.{rules, FitsSigned, ◌-ℤ◌}
use Rattle.std.proofs.lemmas.Int.{to_z-of_z}
use mir.Syntax.{w128}
use Rattle.whole_interval.proofs.Enclosures.{sub_holds, sub_is, sub_ordered, holds_as, ordered_as}
use Rattle.whole_interval.proofs.interval.sub.Goals as goal

pub returns : goal.returns
returns c =
    let a = c.args.a.now in
    let b = c.args.b.now in
    let al : FitsSigned w128 a.lo = search rules in
    let ah : FitsSigned w128 a.hi = search rules in
    let bl : FitsSigned w128 b.lo = search rules in
    let bh : FitsSigned w128 b.hi = search rules in
    let lo : FitsSigned w128 (a.lo -ℤ b.hi) = search rules in
    let hi : FitsSigned w128 (a.hi -ℤ b.lo) = search rules in
    record {
      exact = simp to_z-of_z (sub_is a b);
      ordered = simp to_z-of_z (ordered_as (sub_is a b)
          (sub_ordered a b c.requires.a.ordered c.requires.b.ordered));
      encloses = λ f g h k. simp to_z-of_z (holds_as _ (sub_is a b) (sub_holds a b f g h k));
    }
