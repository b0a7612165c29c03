use Rattle.std.proofs.Common.{rules, FitsSigned}
use Rattle.std.proofs.lemmas.Int.{to_z-of_z}
use mir.Syntax.{w128}
use Rattle.whole_interval.proofs.Enclosures.{sqrt_holds, sqrt_is, root_up_as, sqrt_ordered, sqrt_root_up}
use Rattle.whole_interval.proofs.Enclosures.{holds_as, ordered_as}
use Rattle.whole_interval.proofs.interval.sqrt.Goals as goal

pub returns : goal.returns
returns c =
    let a = c.args.a.now in
    let al : FitsSigned w128 a.lo = search rules in
    let ah : FitsSigned w128 a.hi = search rules in
    let lo : FitsSigned w128 c.root_low.result = search rules in
    let hi : FitsSigned w128 c.root_high.result = search rules in
    let e = simp to_z-of_z at c.root_low.ensures in
    let f = simp to_z-of_z at c.root_high.ensures in
    let same = sqrt_is a c.root_low.result c.root_high.result e f in
    record {
      exact = simp to_z-of_z same;
      root_up = simp to_z-of_z (root_up_as _ same (sqrt_root_up a));
      ordered = simp to_z-of_z (ordered_as same (sqrt_ordered a c.requires.low c.requires.ordered));
      encloses = λ f p h. simp to_z-of_z (holds_as _ same
          (sqrt_holds a f c.requires.low c.requires.ordered p h));
    }
