use Rattle.std.proofs.Common.{rules, FitsSigned}
use Rattle.std.proofs.lemmas.Int.{to_z-of_z}
use mir.Syntax.{w128}
use Rattle.whole_interval.proofs.Enclosures.{div_whole_holds, div_whole_is, div_whole_ordered}
use Rattle.whole_interval.proofs.Enclosures.{holds_as, ordered_as}
use Rattle.whole_interval.proofs.interval.div_whole.Goals as goal

pub returns : goal.returns
returns c =
    let a = c.args.a.now in
    let al : FitsSigned w128 a.lo = search rules in
    let ah : FitsSigned w128 a.hi = search rules in
    let lo : FitsSigned w128 c.over_down.result = search rules in
    let hi : FitsSigned w128 c.over_up.result = search rules in
    let e = simp to_z-of_z at c.over_down.ensures in
    let f = simp to_z-of_z at c.over_up.ensures in
    let same = div_whole_is a c.args.k c.over_down.result c.over_up.result e f in
    record {
      exact = simp to_z-of_z same;
      ordered = simp to_z-of_z (ordered_as same
          (div_whole_ordered a c.args.k c.requires.divisor c.requires.ordered));
      encloses = λ f h. simp to_z-of_z (holds_as _ same (div_whole_holds a c.args.k f c.requires.divisor h));
    }
