use Rattle.std.proofs.Common.{rules, FitsSigned, arith, pos, ◌+ℤ◌, ◌<ℤ◌, ◌≤ℤ◌}
use Rattle.std.proofs.lemmas.Int.{to_z-of_z, ints}
use Rattle.std.specs.Int.{int_rem_euclid}
use mir.Syntax.{w128}
use Rattle.terrain_base.specs.Division.{IsCeil}
use Rattle.terrain_base.proofs.Quotients.{ceil_is, ceil_more, ceil_once, ceil_same}
use Rattle.terrain_base.proofs.division.ceil_div.Goals as goal

pub returns-then-rem_euclid-gt0 : goal.returns-then-rem_euclid-gt0
returns-then-rem_euclid-gt0 c =
    let a : FitsSigned w128 c.args.a = search rules in
    let b : FitsSigned w128 c.args.b = search rules in
    let q : FitsSigned w128 c.div_euclid-down.result = search rules in
    let s : FitsSigned w128 (c.div_euclid-down.result +ℤ pos 1) = search rules in
    let r : FitsSigned w128 c.rem_euclid.result = search rules in
    let value = simp to_z-of_z at c.rem_euclid.ensures.value in
    let down = simp to_z-of_z at c.div_euclid-down.ensures in
    let left : pos 0 <ℤ int_rem_euclid c.args.a c.args.b = omega
    (arith, ints, c.if-rem_euclid-gt0.true, value) in
    let up : IsCeil c.args.a c.args.b (c.div_euclid-down.result +ℤ pos 1) = rw down
    (ceil_more c.args.a c.args.b c.requires left) in
    record {
      exact = simp to_z-of_z (ceil_once c.args.a c.args.b _ _ c.requires up
          (ceil_is c.args.a c.args.b c.requires));
      ceil = simp to_z-of_z up;
    }

pub returns-else-rem_euclid-gt0 : goal.returns-else-rem_euclid-gt0
returns-else-rem_euclid-gt0 c =
    let a : FitsSigned w128 c.args.a = search rules in
    let b : FitsSigned w128 c.args.b = search rules in
    let q : FitsSigned w128 c.div_euclid-down.result = search rules in
    let r : FitsSigned w128 c.rem_euclid.result = search rules in
    let value = simp to_z-of_z at c.rem_euclid.ensures.value in
    let down = simp to_z-of_z at c.div_euclid-down.ensures in
    let none : int_rem_euclid c.args.a c.args.b ≤ℤ pos 0 = omega
    (arith, ints, c.if-rem_euclid-gt0.false, value) in
    let low : pos 0 ≤ℤ int_rem_euclid c.args.a c.args.b = omega
    (arith, ints, c.rem_euclid.ensures.lower_bound, value) in
    let same : IsCeil c.args.a c.args.b c.div_euclid-down.result = rw down
    (ceil_same c.args.a c.args.b c.requires low none) in
    record {
      exact = simp to_z-of_z (ceil_once c.args.a c.args.b _ _ c.requires same
          (ceil_is c.args.a c.args.b c.requires));
      ceil = simp to_z-of_z same;
    }
