use Rattle.std.proofs.Common.{◌≡◌, length}
use Rattle.std.specs.Slice.Iter.{iter_rest}
use Rattle.tile_deps.specs.Squares.{touching}
use Rattle.tile_deps.proofs.cells_of.CellsOfIterator.next.Given as goal

abbrev pub invariant-loop-square : goal.invariant-loop-square
invariant-loop-square l = touching l.initial.self-inside.tile (iter_rest l.initial.self-inside.later) ≡ touching l.self-inside.tile (iter_rest l.self-inside.later)

abbrev pub decreases-loop-square : goal.decreases-loop-square
decreases-loop-square l = length (iter_rest l.self-inside.later)
