use Rattle.std.proofs.Common.{◌≡◌, ◌≤◌, ℕ, Some, Ok}
use Rattle.cell_mosaic.specs.Cells.{Cells}
use Rattle.cell_mosaic.specs.Source.{Leaves}
use Rattle.tile_mesh.specs.Plane.{triangles_in}
use Rattle.lattice_sweep.specs.Bound.{IsRaisedBound}
use Rattle.post_bound.specs.Squares.{GapAmong, BeforeLatitude}
use Rattle.post_bound.proofs.posts.post_bound.Given as goal

abbrev pub invariant-loop-lat : goal.invariant-loop-lat
invariant-loop-lat g l =
    let source = g.P.PostSource in
    let store = g.S.Store in
    (Leaves {T = ℕ} source.cells source.shapes source.sure source.spoilt store.holds store.log store.faults l.fn.src l.src l.fn.store l.store (Ok l.bound))
    × ((told : Cells) → source.cells l.fn.src (store.holds l.fn.store) ≡ Some told
    → IsRaisedBound (GapAmong (BeforeLatitude l.lat) told l.tile (triangles_in l.mesh)) 0 l.bound)
    × (l.bound ≤ 32000)
