-- All so far are counter-clockwise.
use Rattle.std.proofs.Common.{ℕ, ◌<◌, slice_index_or}
use Rattle.mesh_plane.specs.declared.corner.Tri.{Tri}
use Rattle.mesh_plane.specs.Plane.{IsCounterClockwise}
use Rattle.mesh_check.proofs.auditing.first_turned_back.Given as goal

abbrev pub invariant-loop-number : goal.invariant-loop-number
invariant-loop-number l = (k : ℕ) (d : Tri) → k < l.number → IsCounterClockwise (slice_index_or l.triangles k d)
