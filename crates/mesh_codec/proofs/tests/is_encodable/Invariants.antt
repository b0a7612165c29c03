use Rattle.std.proofs.Common.{take}
use Rattle.terrain_base.specs.FirstUse.{IsByFirstUse, corners}
use Rattle.mesh_codec.proofs.tests.is_encodable.Given as goal

abbrev pub invariant-loop-triangle : goal.invariant-loop-triangle
invariant-loop-triangle l = IsByFirstUse l.mark (corners (take l.triangle-index l.triangle-items))
