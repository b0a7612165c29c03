-- The crossings so far are those of the triangles so far.
use Rattle.std.proofs.Common.{take}
use Rattle.mesh_query.specs.Found.{at_place}
use Rattle.mesh_query.specs.Added.{all_sides, AreCrossings}
use Rattle.mesh_query.proofs.collect.crossings_of.Given as goal

abbrev pub invariant-loop-tri : goal.invariant-loop-tri
invariant-loop-tri l = AreCrossings (at_place l.from) (at_place l.to) (all_sides (take l.tri-index l.tris)) l.found.items
