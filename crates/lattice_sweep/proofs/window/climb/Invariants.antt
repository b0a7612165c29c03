use Rattle.std.proofs.Common.{◌≡◌, pos, ◌*ℤ◌, ◌≤ℤ◌, ◌<◌, ℕ, Some, Ok}
use Rattle.cell_mosaic.specs.Cells.{Cells}
use Rattle.cell_mosaic.specs.Source.{Leaves}
use Rattle.mesh_plane.specs.Surface.{lift_of, gap_under}
use Rattle.lattice_sweep.specs.Axis.{point_of}
use Rattle.lattice_sweep.specs.Sweep.{InColumn, IsRaised}
use Rattle.lattice_sweep.proofs.window.climb.Given as goal

abbrev pub invariant-loop-row : goal.invariant-loop-row
invariant-loop-row g l =
    let source = g.P.PostSource in
    let store = g.S.Store in
    let w = l.window in
    (Leaves {T = ℕ} source.cells source.shapes source.sure source.spoilt store.holds store.log store.faults l.fn.src l.src l.fn.store l.store (Ok l.most))
    × ((told : Cells) → source.cells l.fn.src (store.holds l.fn.store) ≡ Some told → IsRaised (InColumn told w.key l.col l.tri (point_of w.east l.col) w.north l.row) l.worst l.most)
    × (pos l.most ≤ℤ (pos 32000 *ℤ gap_under l.tri (pos 10125)))
    × (l.row < l.rows.to → l.lift ≡ lift_of l.tri (pos 10125) (point_of w.east l.col) (point_of w.north l.row))
