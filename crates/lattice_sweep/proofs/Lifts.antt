-- Lifts where the triangle holds a column's rows.
use Rattle.std.proofs.Common.{◌≡◌, ℕ, ◌+◌, sym, ap, ◌∙◌, subst}
use Rattle.std.specs.Prelude.{ℤ, pos, ◌+ℤ◌, ◌-ℤ◌, ◌*ℤ◌, ◌≤ℤ◌}
use Rattle.std.specs.Int.{int_min}
use Rattle.mesh_plane.specs.declared.corner.Tri.{Tri}
use Rattle.mesh_plane.specs.Plane.{TriangleHolds}
use Rattle.mesh_plane.specs.Surface.{lift_of, gap_under}
use Rattle.mesh_plane.proofs.SurfaceLaws.{surface_law}
use Rattle.lattice_sweep.specs.declared.axis.Axis.{Axis}
use Rattle.lattice_sweep.specs.Axis.{point_of, Has, IsOnSide}
use Rattle.lattice_sweep.specs.Plane.{IsTerrainTri, IsLift}
use Rattle.lattice_sweep.proofs.Climbs.{next_point}

-- the lift of the next row
pub next_lift : (t : Tri) (u : ℤ) (north : Axis) (row : ℕ) (step lift rise : ℤ) → IsOnSide north → Has north row → Has north (row + 1)
    → step ≡ int_min north.step (pos 331765875)
    → ((u v : ℤ) → lift_of t (pos 10125) u (v +ℤ step) ≡ lift_of t (pos 10125) u v +ℤ rise)
    → lift ≡ lift_of t (pos 10125) u (point_of north row) → lift +ℤ rise ≡ lift_of t (pos 10125) u (point_of north (row + 1))
next_lift t u north row step lift rise on has next step_is up is =
    ap (λ (z : ℤ). z +ℤ rise) is ∙ sym (up u (point_of north row))
    ∙ ap (λ (z : ℤ). lift_of t (pos 10125) u z) (sym (next_point north row step on has next step_is))

-- a lift where the triangle holds the point is within the heights
pub lift_there : (t : Tri) (u v lift : ℤ) → IsTerrainTri t → TriangleHolds (pos 10125) u v t → lift ≡ lift_of t (pos 10125) u v → IsLift t u v lift
lift_there t u v lift is held value =
    let b = surface_law.between t (pos 10125) u v (pos 0 -ℤ pos 16000) (pos 16000) is.heights held in record {
      held = held;
      value = value;
      low = subst (λ (z : ℤ). ((pos 0 -ℤ pos 16000) *ℤ gap_under t (pos 10125)) ≤ℤ z) (sym value) b.0;
      high = subst (λ (z : ℤ). z ≤ℤ (pos 16000 *ℤ gap_under t (pos 10125))) (sym value) b.1;
    }
