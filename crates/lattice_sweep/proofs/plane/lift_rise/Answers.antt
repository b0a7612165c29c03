-- Three products of heights and rises.
use Rattle.std.proofs.Common.{◌≡◌, ap, sym, ◌∙◌, arith, rules, FitsSigned, w64, w32}
use Rattle.std.specs.Prelude.{ℤ, pos, ◌+ℤ◌, ◌-ℤ◌, ◌*ℤ◌}
use Rattle.std.proofs.lemmas.Int.{ints, to_z-of_z}
use Rattle.mesh_plane.specs.Surface.{lift_of}
use Rattle.lattice_sweep.proofs.Areas.{sum_of}
use Rattle.lattice_sweep.proofs.Climbs.{lift_up}
use Rattle.lattice_sweep.proofs.plane.lift_rise.Goals as goal

pub overflow_add-result-2 : goal.overflow_add-result-2
overflow_add-result-2 c =
    let a_fits : FitsSigned w64 c.weighted-a.result = omega (arith, ints, c.weighted-a.ensures.size) in
    let b_fits : FitsSigned w64 c.weighted-b.result = omega (arith, ints, c.weighted-b.ensures.size) in
    let c_fits : FitsSigned w64 c.weighted-c.result = omega (arith, ints, c.weighted-c.ensures.size) in
    let ab_fits : FitsSigned w64 (c.weighted-a.result +ℤ c.weighted-b.result) =
    omega (arith, ints, c.weighted-a.ensures.size, c.weighted-b.ensures.size) in
    simp to_z-of_z
    (omega (arith, ints, c.weighted-a.ensures.size, c.weighted-b.ensures.size, c.weighted-c.ensures.size))

pub returns-clause-value : goal.returns-clause-value
returns-clause-value c u v =
    let t = c.args.tri.now in let step = c.args.step in
    let step_fits = c.ranges.step in
    let ha_fits : FitsSigned w32 t.a.h = search rules in let hb_fits : FitsSigned w32 t.b.h = search rules in
    let hc_fits : FitsSigned w32 t.c.h = search rules in
    let ab_fits : FitsSigned w64 c.side_rise-ab.result = omega (arith, ints, c.side_rise-ab.ensures.size) in
    let bc_fits : FitsSigned w64 c.side_rise-bc.result = omega (arith, ints, c.side_rise-bc.ensures.size) in
    let ca_fits : FitsSigned w64 c.side_rise-ca.result = omega (arith, ints, c.side_rise-ca.ensures.size) in
    let a_fits : FitsSigned w64 c.weighted-a.result = omega (arith, ints, c.weighted-a.ensures.size) in
    let b_fits : FitsSigned w64 c.weighted-b.result = omega (arith, ints, c.weighted-b.ensures.size) in
    let c_fits : FitsSigned w64 c.weighted-c.result = omega (arith, ints, c.weighted-c.ensures.size) in
    let two_fit : FitsSigned w64 (c.weighted-a.result +ℤ c.weighted-b.result) =
    omega (arith, ints, c.weighted-a.ensures.size, c.weighted-b.ensures.size) in
    let all_fit : FitsSigned w64 ((c.weighted-a.result +ℤ c.weighted-b.result) +ℤ c.weighted-c.result) =
    omega (arith, ints, c.weighted-a.ensures.size, c.weighted-b.ensures.size, c.weighted-c.ensures.size) in
    let ka_fits : FitsSigned w64 c.from.result = search rules in let kb_fits : FitsSigned w64 c.from-2.result = search rules in
    let kc_fits : FitsSigned w64 c.from-3.result = search rules in
    let ab = simp to_z-of_z at c.side_rise-ab.ensures.value in
    let bc = simp to_z-of_z at c.side_rise-bc.ensures.value in
    let ca = simp to_z-of_z at c.side_rise-ca.ensures.value in
    let ha = simp to_z-of_z at c.from.ensures in
    let hb = simp to_z-of_z at c.from-2.ensures in
    let hc = simp to_z-of_z at c.from-3.ensures in
    let wa = simp to_z-of_z at c.weighted-a.ensures.value in
    let wb = simp to_z-of_z at c.weighted-b.ensures.value in
    let wc = simp to_z-of_z at c.weighted-c.ensures.value in
    let rise : (c.weighted-a.result +ℤ c.weighted-b.result) +ℤ c.weighted-c.result
    ≡ (t.a.h *ℤ ((t.c.u -ℤ t.b.u) *ℤ step) +ℤ t.b.h *ℤ ((t.a.u -ℤ t.c.u) *ℤ step)) +ℤ t.c.h *ℤ ((t.b.u -ℤ t.a.u) *ℤ step) =
    sum_of wa wb wc ha hb hc bc ca ab in
    simp to_z-of_z (lift_up t (pos 10125) u v step ∙ ap (λ (z : ℤ). lift_of t (pos 10125) u v +ℤ z) (sym rise))

pub returns-clause-size : goal.returns-clause-size
returns-clause-size c =
    let a_fits : FitsSigned w64 c.weighted-a.result = omega (arith, ints, c.weighted-a.ensures.size) in
    let b_fits : FitsSigned w64 c.weighted-b.result = omega (arith, ints, c.weighted-b.ensures.size) in
    let c_fits : FitsSigned w64 c.weighted-c.result = omega (arith, ints, c.weighted-c.ensures.size) in
    let two_fit : FitsSigned w64 (c.weighted-a.result +ℤ c.weighted-b.result) =
    omega (arith, ints, c.weighted-a.ensures.size, c.weighted-b.ensures.size) in
    let all_fit : FitsSigned w64 ((c.weighted-a.result +ℤ c.weighted-b.result) +ℤ c.weighted-c.result) =
    omega (arith, ints, c.weighted-a.ensures.size, c.weighted-b.ensures.size, c.weighted-c.ensures.size) in
    simp to_z-of_z (omega (arith, ints, c.weighted-a.ensures.size, c.weighted-b.ensures.size, c.weighted-c.ensures.size))
