use Rattle.std.proofs.Common.{◌≡◌, ◌≤◌, ℕ, Some, Ok}
use Rattle.cell_mosaic.specs.Cells.{Cells}
use Rattle.cell_mosaic.specs.Source.{Leaves}
use Rattle.tile_mesh.specs.Plane.{triangles_in}
use Rattle.lattice_sweep.specs.Bound.{IsRaisedBound}
use Rattle.post_bound.specs.Window.{OfTriangles}
use Rattle.post_bound.proofs.window.every_triangle.Given as goal

abbrev pub invariant-loop-numbers : goal.invariant-loop-numbers
invariant-loop-numbers g l =
    let source = g.P.PostSource in
    let store = g.S.Store in
    let w = l.window in
    (Leaves {T = ℕ} source.cells source.shapes source.sure source.spoilt store.holds store.log store.faults l.fn.src l.src l.fn.store l.store (Ok l.most))
    × ((told : Cells) → source.cells l.fn.src (store.holds l.fn.store) ≡ Some told
    → IsRaisedBound (OfTriangles told w.key (triangles_in l.mesh) w.east w.north l.numbers-index) l.bound l.most)
    × (l.most ≤ 32000)
