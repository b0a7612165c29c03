-- Lists over the four sectors of a frame agree with their neighbours, where each shows the segments at its ends.
use Rattle.std.proofs.Common.{◌≡◌, ap, arith, ◌∙◌, List}
use Rattle.std.specs.Prelude.{ℤ, pos}
use Rattle.std.proofs.lemmas.Int.{ints}
use Rattle.terrain_base.specs.declared.side.Side.{Side}
use Rattle.mesh_plane.specs.Plane.{Point}
use Rattle.mesh_plane.specs.Triangles.{Triple}
use Rattle.mesh_plane.specs.Fan.{Rect}
use Rattle.mesh_plane.specs.Strip.{across}
use Rattle.mesh_plane.proofs.Turns.{turn}
use Rattle.mesh_plane.proofs.Tilings.{Held, Tiling}
use Rattle.mesh_plane.proofs.Sides.{next, border, start_of, end_across}
use Rattle.mesh_plane.proofs.Frames.{SectorOf, OpenSectorOf, IsInner, is_outside, corner_turn, corner_end}
use Rattle.mesh_plane.proofs.Heights.{OneLevel, Cross}
use Rattle.mesh_plane.proofs.Edges.{HasEdge}
use Rattle.mesh_plane.proofs.StripHeights.{segment_cross}

-- `outer` and `inner` are the ends of the segment where the sector of a side begins
module _ {A : Type 0} (at : A → Point) (z : A → ℤ) (r q : Rect) (i : IsInner r q) (outer inner : Side → A)
    (at_outer : (side : Side) → at (outer side) ≡ start_of side r)
    (at_inner : (side : Side) → at (inner side) ≡ start_of side q) (ts : Side → List (Triple A))
    (tiled : (side : Side) → Tiling at (SectorOf r q side) (OpenSectorOf r q side) (ts side))
    (first : (side : Side) → HasEdge at z (outer side) (inner side) (ts side))
    (last : (side : Side) → HasEdge at z (outer (next side)) (inner (next side)) (ts side)) (p : Point)
    (one : (side : Side) → OneLevel at z p (ts side)) where
  corners_are : (side : Side) → turn (at (outer side)) (at (inner side)) p ≡ turn (start_of side r) (start_of side q) p
  corners_are side =
      ap (λ k. turn k (at (inner side)) p) (at_outer side) ∙ ap (λ k. turn (start_of side r) k p) (at_inner side)

  -- what two neighbours hold lies on the segment between them
  on_both : (side : Side) → Held at p (ts side) → Held at p (ts (next side))
      → turn (at (outer (next side))) (at (inner (next side))) p ≡ pos 0
  on_both side h k =
      omega (
        arith,
        ints,
        corners_are (next side) ∙ corner_end r q side p,
        corners_are (next side) ∙ corner_turn r q (next side) p,
        ((tiled side).within p h).second,
        ((tiled (next side)).within p k).first,
      )

  pub neighbours : (side : Side) → Cross at z p (ts side) (ts (next side))
  neighbours side =
      segment_cross at z p side (border side r) (border side q) (outer (next side)) (inner (next side)) (ts side)
      (ts (next side)) (is_outside r q i side) (ap (across side) (at_outer (next side)) ∙ end_across side r)
      (ap (across side) (at_inner (next side)) ∙ end_across side q)
      (λ h. (((tiled side).within p h).above, ((tiled side).within p h).below))
      (λ h k. on_both side h k) (last side) (first (next side)) (one side) (one (next side))
