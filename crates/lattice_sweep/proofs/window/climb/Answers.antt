-- Row by row, with the lift of each.
use Rattle.std.proofs.Common.{◌≡◌, ℕ, ◌+◌, arith, rules, refl, subst, sym, FitsSigned, w64, to_z}
use Rattle.std.specs.Prelude.{ℤ, pos, ◌+ℤ◌, ◌-ℤ◌, ◌*ℤ◌, ◌≤ℤ◌}
use Rattle.std.proofs.lemmas.Int.{ints, to_z-of_z}
use Rattle.cell_mosaic.specs.Cells.{Shapes, HasPost}
use Rattle.cell_mosaic.proofs.Keeping.{told_next, leaves_none, leaves_ok, leaves_then, leaves_err}
use Rattle.mesh_plane.specs.Plane.{TriangleHolds}
use Rattle.mesh_plane.specs.Surface.{lift_of}
use Rattle.lattice_sweep.specs.Axis.{point_of}
use Rattle.lattice_sweep.specs.Plane.{IsLift}
use Rattle.lattice_sweep.specs.Sweep.{HeldGap, IsRaised}
use Rattle.lattice_sweep.proofs.Raising.{raised_none}
use Rattle.lattice_sweep.proofs.Climbs.{lowest}
use Rattle.lattice_sweep.proofs.Lifts.{lift_there, next_lift}
use Rattle.lattice_sweep.proofs.Windows.{tile_point, one_row, no_row, all_rows, post_raised}
use Rattle.lattice_sweep.proofs.window.climb.Goals as goal

pub lift_within-lowest-requires-clause-point : goal.lift_within-lowest-requires-clause-point
lift_within-lowest-requires-clause-point g c =
    let w = c.args.window.now in let rows = c.args.rows.now in
    let has = ((c.requires.rows rows.from).0 (lowest rows c.requires.some)).0 in
    let u_fits : FitsSigned w64 c.at.result = search rules in
    let v_fits : FitsSigned w64 c.at-2.result = search rules in
    simp to_z-of_z (tile_point w.east w.north c.args.col rows.from c.at.result c.at-2.result c.requires.window.east c.requires.window.north
    c.requires.col has c.at.ensures c.at-2.ensures)

-- the lowest of the rows is held
pub returns-in-None-clause-value : goal.returns-in-None-clause-value
returns-in-None-clause-value g c told is =
    let w = c.args.window.now in let rows = c.args.rows.now in let t = c.args.tri.now in
    let has = (c.requires.rows rows.from).0 (lowest rows c.requires.some) in
    let u_fits : FitsSigned w64 c.at.result = search rules in
    let v_fits : FitsSigned w64 c.at-2.result = search rules in
    let apart = simp to_z-of_z at c.in-None.ensures in
    absurd (apart (subst (λ (x : ℤ). TriangleHolds (pos 10125) x c.at-2.result t) (sym c.at.ensures)
    (subst (λ (y : ℤ). TriangleHolds (pos 10125) (point_of w.east c.args.col) y t) (sym c.at-2.ensures) has.1)))

pub loop-row-init : goal.loop-row-init
loop-row-init g c =
    let w = c.args.window.now in let rows = c.args.rows.now in let t = c.args.tri.now in
    let u_fits : FitsSigned w64 c.at.result = search rules in
    let v_fits : FitsSigned w64 c.at-2.result = search rules in
    let lift_fits : FitsSigned w64 c.in-Some.lift = search rules in
    let is_lift : IsLift t c.at.result c.at-2.result c.in-Some.lift = simp to_z-of_z at c.in-Some.ensures in
    let value : c.in-Some.lift ≡ lift_of t (pos 10125) (point_of w.east c.args.col) (point_of w.north rows.from) =
    subst (λ (x : ℤ). c.in-Some.lift ≡ lift_of t (pos 10125) x (point_of w.north rows.from)) c.at.ensures
    (subst (λ (y : ℤ). c.in-Some.lift ≡ lift_of t (pos 10125) c.at.result y) c.at-2.ensures is_lift.value) in (
      leaves_none c.args.worst,
      λ told is. raised_none (no_row told w.key c.args.col t (point_of w.east c.args.col) w.north rows c.requires.rows),
      c.requires.worst,
      λ some. simp to_z-of_z value,
    )

pub post-requires : goal.post-requires
post-requires g c =
    let w = c.args.window.now in let row = c.loop-row.row in
    let has = ((c.requires.rows row).0 (record { from = c.loop-row.auto.row; to = c.loop-row-test.true })).0 in
    record {
      held = subst (λ (s : Shapes). HasPost s w.key c.args.col row) (sym c.loop-row.invariant.0.keeps.shape) (c.requires.window.posts c.args.col row c.requires.col has);
    }

pub returns-in_err-post-clause-leaves : goal.returns-in_err-post-clause-leaves
returns-in_err-post-clause-leaves g c =
    leaves_then c.loop-row.invariant.0 (leaves_err c.from_residual.result c.from_residual.ensures.1 c.in_err-post.ensures.leaves)

pub post_gap-requires-clause-low : goal.post_gap-requires-clause-low
post_gap-requires-clause-low g c =
    let w = c.args.window.now in let row = c.loop-row.row in let lift = to_z w64 c.loop-row.lift-bits in
    let has = (c.requires.rows row).0 (record { from = c.loop-row.auto.row; to = c.loop-row-test.true }) in
    let area_fits : FitsSigned w64 c.area-area.result = omega (arith, ints, c.area-area.ensures.size) in
    let is_lift = lift_there c.args.tri.now (point_of w.east c.args.col) (point_of w.north row) lift c.requires.tri has.1 (c.loop-row.invariant.3 c.loop-row-test.true) in
    let low : ((pos 0 -ℤ pos 16000) *ℤ c.area-area.result) ≤ℤ lift =
    subst (λ (z : ℤ). ((pos 0 -ℤ pos 16000) *ℤ z) ≤ℤ lift) (sym c.area-area.ensures.value) is_lift.low in
    simp to_z-of_z low

pub post_gap-requires-clause-high : goal.post_gap-requires-clause-high
post_gap-requires-clause-high g c =
    let w = c.args.window.now in let row = c.loop-row.row in let lift = to_z w64 c.loop-row.lift-bits in
    let has = (c.requires.rows row).0 (record { from = c.loop-row.auto.row; to = c.loop-row-test.true }) in
    let area_fits : FitsSigned w64 c.area-area.result = omega (arith, ints, c.area-area.ensures.size) in
    let is_lift = lift_there c.args.tri.now (point_of w.east c.args.col) (point_of w.north row) lift c.requires.tri has.1 (c.loop-row.invariant.3 c.loop-row-test.true) in
    let high : lift ≤ℤ (pos 16000 *ℤ c.area-area.result) =
    subst (λ (z : ℤ). lift ≤ℤ (pos 16000 *ℤ z)) (sym c.area-area.ensures.value) is_lift.high in
    simp to_z-of_z high

pub overflow_add-lift : goal.overflow_add-lift
overflow_add-lift g c =
    let w = c.args.window.now in let row = c.loop-row.row in let lift = to_z w64 c.loop-row.lift-bits in
    let has = (c.requires.rows row).0 (record { from = c.loop-row.auto.row; to = c.loop-row-test.true }) in
    let rise_fits : FitsSigned w64 c.lift_rise-rise.result = omega (arith, ints, c.lift_rise-rise.ensures.size) in
    let is_lift = lift_there c.args.tri.now (point_of w.east c.args.col) (point_of w.north row) lift c.requires.tri has.1 (c.loop-row.invariant.3 c.loop-row-test.true) in
    let low : ((pos 0 -ℤ pos 16000) *ℤ c.area-area.result) ≤ℤ lift =
    subst (λ (z : ℤ). ((pos 0 -ℤ pos 16000) *ℤ z) ≤ℤ lift) (sym c.area-area.ensures.value) is_lift.low in
    let high : lift ≤ℤ (pos 16000 *ℤ c.area-area.result) =
    subst (λ (z : ℤ). lift ≤ℤ (pos 16000 *ℤ z)) (sym c.area-area.ensures.value) is_lift.high in
    simp to_z-of_z (omega (arith, ints, low, high, c.area-area.ensures.size, c.lift_rise-rise.ensures.size))

pub loop-row-preserved : goal.loop-row-preserved
loop-row-preserved g c =
    let inv = c.loop-row.invariant in
    let w = c.args.window.now in let t = c.args.tri.now in let col = c.args.col in let row = c.loop-row.row in
    let lift = to_z w64 c.loop-row.lift-bits in let rise = c.lift_rise-rise.result in let area = c.area-area.result in
    let u = point_of w.east col in let v = point_of w.north row in
    let from = c.loop-row.auto.row in
    let has = (c.requires.rows row).0 (record { from = from; to = c.loop-row-test.true }) in
    let area_fits : FitsSigned w64 area = omega (arith, ints, c.area-area.ensures.size) in
    let rise_fits : FitsSigned w64 rise = omega (arith, ints, c.lift_rise-rise.ensures.size) in
    let pace_fits : FitsSigned w64 c.pace.result = omega (arith, ints, c.pace.ensures.low, c.pace.ensures.high) in
    let step_fits : FitsSigned w64 w.north.step = search rules in
    let is_lift = lift_there t u v lift c.requires.tri has.1 (inv.3 c.loop-row-test.true) in
    let low : ((pos 0 -ℤ pos 16000) *ℤ area) ≤ℤ lift =
    subst (λ (z : ℤ). ((pos 0 -ℤ pos 16000) *ℤ z) ≤ℤ lift) (sym c.area-area.ensures.value) is_lift.low in
    let high : lift ≤ℤ (pos 16000 *ℤ area) =
    subst (λ (z : ℤ). lift ≤ℤ (pos 16000 *ℤ z)) (sym c.area-area.ensures.value) is_lift.high in
    let sum_fits : FitsSigned w64 (lift +ℤ rise) =
    omega (arith, ints, low, high, c.area-area.ensures.size, c.lift_rise-rise.ensures.size) in
    let step = simp to_z-of_z at c.pace.ensures.value in
    let up = simp to_z-of_z at c.lift_rise-rise.ensures.value in
    let metres = simp to_z-of_z at c.post_gap.ensures.metres in
    let size = simp to_z-of_z at c.post_gap.ensures.size in
    let in_area : pos c.post_gap.result ≤ℤ (pos 32000 *ℤ area) = size in (
      leaves_then inv.0 (leaves_ok c.max-most.result c.in_ok-post.ensures.leaves),
      λ told is. one_row told w.key col t u w.north row v has.0 refl (inv.1 told is)
          (subst (λ (k : ℕ). IsRaised (HeldGap told w.key col row t u v) c.loop-row.most k) (sym c.max-most.ensures)
          (post_raised told w.key col row t u v c.in_ok-post.post (c.in_ok-post.ensures.value told (told_next inv.0 told is))
          lift area c.post_gap.result c.loop-row.most is_lift c.area-area.ensures.value c.post_gap.ensures.void metres)),
      omega (arith, ints, c.max-most.ensures, in_area, c.area-area.ensures.value, inv.2),
      λ more.
          let next = (c.requires.rows (row + 1)).0 (record { from = omega (arith, from); to = more }) in
          let value : lift +ℤ rise ≡ lift_of t (pos 10125) u (point_of w.north (row + 1)) =
          next_lift t u w.north row c.pace.result lift rise c.requires.window.north has.0 next.0 step up is_lift.value in
          simp to_z-of_z value,
    )

pub returns-clause-value : goal.returns-clause-value
returns-clause-value g c told is =
    let w = c.args.window.now in
    all_rows told w.key c.args.col c.args.tri.now (point_of w.east c.args.col) w.north c.args.rows.now c.requires.rows c.loop-row.row c.loop-row-test.false
    (c.loop-row.invariant.1 told is)
