use Rattle.std.proofs.Common.{◌≡◌, pos, ◌*ℤ◌, ◌≤ℤ◌, ℕ, Some, Ok}
use Rattle.cell_mosaic.specs.Cells.{Cells}
use Rattle.cell_mosaic.specs.Source.{Leaves}
use Rattle.mesh_plane.specs.Surface.{gap_under}
use Rattle.lattice_sweep.specs.Sweep.{InWindow, IsRaised}
use Rattle.lattice_sweep.proofs.window.sweep.Given as goal

abbrev pub invariant-loop-col : goal.invariant-loop-col
invariant-loop-col g l =
    let source = g.P.PostSource in
    let store = g.S.Store in
    let w = l.window in
    (Leaves {T = ℕ} source.cells source.shapes source.sure source.spoilt store.holds store.log store.faults l.fn.src l.src l.fn.store l.store (Ok l.worst))
    × ((told : Cells) → source.cells l.fn.src (store.holds l.fn.store) ≡ Some told → IsRaised (InWindow told w.key l.tri w.east w.north l.col) 0 l.worst)
    × (pos l.worst ≤ℤ (pos 32000 *ℤ gap_under l.tri (pos 10125)))
