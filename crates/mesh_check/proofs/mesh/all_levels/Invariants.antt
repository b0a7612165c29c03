-- The levels so far.
use Rattle.std.proofs.Common.{◌≡◌, ◌∷◌, map, take}
use Rattle.mesh_check.proofs.mesh.all_levels.Given as goal

abbrev pub invariant-loop-vertex : goal.invariant-loop-vertex
invariant-loop-vertex l = l.levels.items ≡ 0 ∷ (32767 ∷ map (λ codes. codes.v) (take l.vertex l.mesh.vertices))
