-- The rows on the right sides of all three.
use Rattle.std.proofs.Common.{arith, rules, FitsSigned, w64}
use Rattle.std.proofs.lemmas.Int.{ints, to_z-of_z}
use Rattle.lattice_sweep.proofs.Climbs.{lowest, held_is}
use Rattle.lattice_sweep.proofs.rows.held.Goals as goal

pub side-bc-requires-clause-point : goal.side-bc-requires-clause-point
side-bc-requires-clause-point c =
    let north = c.args.north.now in
    let u_fits = c.ranges.u in
    let least = c.requires.north.least north.from (lowest north c.requires.some) in
    let greatest = c.requires.north.greatest north.from (lowest north c.requires.some) in
    let v_fits : FitsSigned w64 c.at-v.result = omega (arith, ints, least, greatest, c.at-v.ensures) in
    simp to_z-of_z (record {
      west = c.requires.west;
      east = omega (arith, ints, c.requires.east);
      south = omega (arith, ints, least, c.at-v.ensures);
      north = omega (arith, ints, greatest, c.at-v.ensures);
    })

pub side-ca-requires-clause-point : goal.side-ca-requires-clause-point
side-ca-requires-clause-point c =
    let north = c.args.north.now in
    let u_fits = c.ranges.u in
    let least = c.requires.north.least north.from (lowest north c.requires.some) in
    let greatest = c.requires.north.greatest north.from (lowest north c.requires.some) in
    let v_fits : FitsSigned w64 c.at-v.result = omega (arith, ints, least, greatest, c.at-v.ensures) in
    simp to_z-of_z (record {
      west = c.requires.west;
      east = omega (arith, ints, c.requires.east);
      south = omega (arith, ints, least, c.at-v.ensures);
      north = omega (arith, ints, greatest, c.at-v.ensures);
    })

pub returns : goal.returns
returns c =
    let t = c.args.tri.now in let north = c.args.north.now in
    let u_fits = c.ranges.u in
    let v_fits : FitsSigned w64 c.at-v.result = search rules in
    let north_fits : FitsSigned w64 north.step = search rules in
    let step_fits : FitsSigned w64 c.pace-step.result = omega (arith, ints, c.pace-step.ensures.low, c.pace-step.ensures.high) in
    let ab_fits : FitsSigned w64 c.side-ab.result = omega (arith, ints, c.side-ab.ensures.size) in
    let bc_fits : FitsSigned w64 c.side-bc.result = omega (arith, ints, c.side-bc.ensures.size) in
    let ca_fits : FitsSigned w64 c.side-ca.result = omega (arith, ints, c.side-ca.ensures.size) in
    let ab_rise_fits : FitsSigned w64 c.side_rise.result = omega (arith, ints, c.side_rise.ensures.size) in
    let bc_rise_fits : FitsSigned w64 c.side_rise-2.result = omega (arith, ints, c.side_rise-2.ensures.size) in
    let ca_rise_fits : FitsSigned w64 c.side_rise-3.result = omega (arith, ints, c.side_rise-3.ensures.size) in
    let step = simp to_z-of_z at c.pace-step.ensures.value in
    let ab = simp to_z-of_z at c.side-ab.ensures.value in
    let bc = simp to_z-of_z at c.side-bc.ensures.value in
    let ca = simp to_z-of_z at c.side-ca.ensures.value in
    let ab_up = simp to_z-of_z at c.side_rise.ensures.value in
    let bc_up = simp to_z-of_z at c.side_rise-2.ensures.value in
    let ca_up = simp to_z-of_z at c.side_rise-3.ensures.value in
    let kept_ab = simp to_z-of_z at c.kept-by_ab.ensures.rows in
    let kept_bc = simp to_z-of_z at c.kept-by_bc.ensures.rows in
    let kept_ca = simp to_z-of_z at c.kept.ensures.rows in
    held_is t c.args.u north c.kept-by_ab.result c.kept-by_bc.result c.kept.result c.at-v.result c.pace-step.result
    c.side-ab.result c.side-bc.result c.side-ca.result c.side_rise.result c.side_rise-2.result c.side_rise-3.result
    c.requires.north c.requires.some c.at-v.ensures step ab bc ca ab_up bc_up ca_up kept_ab kept_bc kept_ca
