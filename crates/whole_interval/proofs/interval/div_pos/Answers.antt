use Rattle.std.proofs.Common.{rules, FitsSigned}
use Rattle.std.proofs.lemmas.Int.{to_z-of_z}
use mir.Syntax.{w128}
use Rattle.whole_interval.proofs.Enclosures.{div_pos_holds, div_pos_is, div_pos_ordered, holds_as}
use Rattle.whole_interval.proofs.Enclosures.{ordered_as}
use Rattle.whole_interval.proofs.interval.div_pos.Goals as goal

pub returns : goal.returns
returns c =
    let a = c.args.a.now in
    let b = c.args.b.now in
    let al : FitsSigned w128 a.lo = search rules in
    let ah : FitsSigned w128 a.hi = search rules in
    let lo : FitsSigned w128 c.quotient_low.result = search rules in
    let hi : FitsSigned w128 c.quotient_high.result = search rules in
    let e = simp to_z-of_z at c.quotient_low.ensures in
    let f = simp to_z-of_z at c.quotient_high.ensures in
    let same = div_pos_is a b c.quotient_low.result c.quotient_high.result e f in
    record {
      exact = simp to_z-of_z same;
      ordered = simp to_z-of_z (ordered_as same (div_pos_ordered a b c.requires.divisor c.requires.a.ordered
          c.requires.ordered));
      encloses = λ f g h k. simp to_z-of_z (holds_as _ same
          (div_pos_holds a b f g c.requires.divisor c.requires.ordered h k));
    }
