-- Two triangles of one number are one.
use Rattle.std.proofs.lemmas.Int.{to_z-of_z}
use Rattle.mesh_check.proofs.level.agree.Goals as goal

pub returns-else-lower-upper : goal.returns-else-lower-upper
returns-else-lower-upper c =
    let range = c.ranges.v in
    simp to_z-of_z at c.same_height.ensures
