-- Where the first two sides are at least 0, the third decides.
use Rattle.std.proofs.Common.{sym, ◌∙◌}
use Rattle.std.proofs.lemmas.Int.{to_z-of_z}
use Rattle.mesh_plane.proofs.corner.within.Goals as goal
use Rattle.mesh_plane.proofs.corner.within.Goals.{then-is_left, else-is_left}

pub returns-then-is_left-2 : goal.returns-then-is_left-2
returns-then-is_left-2 c =
    let scale = c.ranges.scale in let u = c.ranges.u in let v = c.ranges.v in
    let third = simp to_z-of_z at c.is_left-then-is_left-2.ensures in
    let first = simp to_z-of_z at c.is_left.ensures in
    elim c.if-is_left.branch [
      | then-is_left w ↦
          let second = simp to_z-of_z at w.is_left-then-is_left.ensures in
          let ab = first.0 w.if-is_left.true in
          let bc = second.0 (sym w.value-is ∙ c.if-is_left-2.true) in
          (λ t. record { ab = ab; bc = bc; ca = third.0 t }, λ h. third.1 h.ca)
      | else-is_left w ↦ cc (w.value-is, w.if-is_left.false, c.if-is_left-2.true)
    ]
