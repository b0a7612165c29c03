-- Triangle by triangle.
use Rattle.std.proofs.Common.{subst, sym}
use Rattle.cell_mosaic.specs.Cells.{Shapes}
use Rattle.cell_mosaic.proofs.Keeping.{told_next, leaves_then, leaves_err}
use Rattle.mesh_plane.specs.declared.corner.Tri.{Tri}
use Rattle.tile_mesh.specs.Plane.{triangles_in}
use Rattle.lattice_sweep.specs.Plane.{IsTerrainTri}
use Rattle.lattice_sweep.specs.Sweep.{IsWindow}
use Rattle.lattice_sweep.specs.Bound.{GapIn, IsRaisedBound}
use Rattle.post_bound.proofs.Meshes.{this_triangle, long_enough, all_done}
use Rattle.post_bound.proofs.OneByOne.{one_triangle, every_triangle}
use Rattle.post_bound.proofs.window.every_triangle.Goals as goal

pub raise-requires-clause-tri : goal.raise-requires-clause-tri
raise-requires-clause-tri g c =
    let mesh = c.args.mesh.now in let k = c.loop-numbers.numbers-index in let t = c.triangle-tri.result in
    subst IsTerrainTri (this_triangle mesh c.triangles-numbers-items.result.now c.points.result.now k _ t c.triangles-numbers-items.ensures c.points.ensures c.loop-numbers-test.true c.triangle-tri.ensures t)
    (c.requires.mesh.triangles k t (long_enough mesh c.triangles-numbers-items.result.now k c.triangles-numbers-items.ensures c.loop-numbers-test.true))

pub raise-requires-clause-window : goal.raise-requires-clause-window
raise-requires-clause-window g c =
    subst (λ (s : Shapes). IsWindow s c.args.window.now) (sym c.loop-numbers.invariant.0.keeps.shape) c.requires.window

pub raise-requires-clause-bound : goal.raise-requires-clause-bound
raise-requires-clause-bound g c = c.loop-numbers.invariant.2

pub loop-numbers-preserved : goal.loop-numbers-preserved
loop-numbers-preserved g c =
    let inv = c.loop-numbers.invariant in let e = c.in_ok-most.ensures in
    let mesh = c.args.mesh.now in let k = c.loop-numbers.numbers-index in let t = c.triangle-tri.result in
    let w = c.args.window.now in (
      leaves_then inv.0 e.leaves,
      λ told is. one_triangle told w.key (triangles_in mesh) w.east w.north k t (long_enough mesh c.triangles-numbers-items.result.now k c.triangles-numbers-items.ensures c.loop-numbers-test.true) c.requires.mesh.triangles (inv.1 told is)
          (subst (λ (x : Tri). IsRaisedBound (GapIn told w.key x w.east w.north) c.loop-numbers.most c.in_ok-most.most)
          (sym (this_triangle mesh c.triangles-numbers-items.result.now c.points.result.now k _ t c.triangles-numbers-items.ensures c.points.ensures c.loop-numbers-test.true c.triangle-tri.ensures t)) (e.value told (told_next inv.0 told is))),
      e.few,
    )

pub returns-in_err-most-clause-leaves : goal.returns-in_err-most-clause-leaves
returns-in_err-most-clause-leaves g c =
    leaves_then c.loop-numbers.invariant.0 (leaves_err c.from_residual.result c.from_residual.ensures.1 c.in_err-most.ensures.leaves)

pub returns-clause-value : goal.returns-clause-value
returns-clause-value g c told is =
    let mesh = c.args.mesh.now in let w = c.args.window.now in
    every_triangle told w.key (triangles_in mesh) w.east w.north c.loop-numbers.numbers-index
    (all_done mesh c.triangles-numbers-items.result.now c.loop-numbers.numbers-index c.triangles-numbers-items.ensures c.loop-numbers-test.false) (c.loop-numbers.invariant.1 told is)
