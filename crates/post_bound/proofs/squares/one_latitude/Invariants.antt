use Rattle.std.proofs.Common.{◌≡◌, ◌≤◌, ℕ, Some, Ok}
use Rattle.cell_mosaic.specs.Cells.{Cells}
use Rattle.cell_mosaic.specs.Source.{Leaves}
use Rattle.tile_mesh.specs.Plane.{triangles_in}
use Rattle.lattice_sweep.specs.Bound.{IsRaisedBound}
use Rattle.post_bound.specs.Squares.{GapAmong, BeforeDegree}
use Rattle.post_bound.proofs.squares.one_latitude.Given as goal

abbrev pub invariant-loop-degree : goal.invariant-loop-degree
invariant-loop-degree g l =
    let source = g.P.PostSource in
    let store = g.S.Store in
    (Leaves {T = ℕ} source.cells source.shapes source.sure source.spoilt store.holds store.log store.faults l.fn.src l.src l.fn.store l.store (Ok l.most))
    × ((told : Cells) → source.cells l.fn.src (store.holds l.fn.store) ≡ Some told
    → IsRaisedBound (GapAmong (BeforeDegree l.lat l.degree) told l.tile (triangles_in l.mesh)) l.bound l.most)
    × (l.most ≤ 32000)
