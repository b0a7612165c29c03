use Rattle.std.proofs.Common.{rules, FitsSigned, ◌*ℤ◌}
use Rattle.std.proofs.lemmas.Int.{to_z-of_z}
use mir.Syntax.{w128}
use Rattle.whole_interval.proofs.Enclosures.{mul_fits, mul_holds, mul_is, mul_ordered, holds_as, ordered_as}
use Rattle.whole_interval.proofs.Bounds.{le_trans_z}
use Rattle.whole_interval.proofs.interval.mul.Goals as goal

pub returns : goal.returns
returns c =
    let a = c.args.a.now in
    let b = c.args.b.now in
    let ra = c.requires.a in
    let rb = c.requires.b in
    let al : FitsSigned w128 a.lo = search rules in
    let ah : FitsSigned w128 a.hi = search rules in
    let bl : FitsSigned w128 b.lo = search rules in
    let bh : FitsSigned w128 b.hi = search rules in
    let a_high = le_trans_z ra.ordered ra.high in
    let a_low = le_trans_z ra.low ra.ordered in
    let b_high = le_trans_z rb.ordered rb.high in
    let b_low = le_trans_z rb.low rb.ordered in
    let p : FitsSigned w128 (a.lo *ℤ b.lo) = mul_fits a.lo b.lo ra.low a_high rb.low b_high in
    let q : FitsSigned w128 (a.lo *ℤ b.hi) = mul_fits a.lo b.hi ra.low a_high b_low rb.high in
    let r : FitsSigned w128 (a.hi *ℤ b.lo) = mul_fits a.hi b.lo a_low ra.high rb.low b_high in
    let s : FitsSigned w128 (a.hi *ℤ b.hi) = mul_fits a.hi b.hi a_low ra.high b_low rb.high in
    let lo : FitsSigned w128 c.least_over.result = search rules in
    let hi : FitsSigned w128 c.greatest_over.result = search rules in
    let e = simp to_z-of_z at c.least_over.ensures in
    let f = simp to_z-of_z at c.greatest_over.ensures in
    let same = mul_is a b c.least_over.result c.greatest_over.result e f in
    record {
      exact = simp to_z-of_z same;
      ordered = simp to_z-of_z (ordered_as same (mul_ordered a b ra.ordered rb.ordered));
      encloses = λ f g h k. simp to_z-of_z (holds_as _ same (mul_holds a b f g h k));
    }
