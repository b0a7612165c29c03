-- The strips of a mesh run from corner to corner.
use Rattle.std.proofs.Common.{◌≡◌, ℕ, ap, ◌∙◌, arith, List, [], ◌∷◌, map}
use Rattle.std.specs.Prelude.{ℤ, pos, ◌≤ℤ◌}
use Rattle.std.proofs.lemmas.Int.{ints}
use Rattle.mesh_plane.specs.Strip as strips
use Rattle.mesh_plane.specs.Strip.{along}
use Rattle.mesh_plane.specs.Triangles.{Triple, Step, strip, outer_end, inner_end}
use Rattle.mesh_plane.proofs.StripFrames.{Runs}
use Rattle.mesh_plane.proofs.StripHeights.{inners}
use Rattle.terrain_base.specs.declared.side.Side.{Side}
use Rattle.tile_mesh.specs.declared.point.GridPoint.{GridPoint}
use Rattle.tile_mesh.specs.Kept.{Rises, RisesTo66}
use Rattle.tile_mesh.specs.Merge.{merge}
use Rattle.tile_mesh.specs.Rule.{strip_triangles}
use Rattle.tile_mesh.specs.Sides.{outer_at, inner_at, step_at}
use Rattle.tile_mesh.proofs.Merges.{merge_ascends, merge_outer, merge_inner, merge_inners, rises_climbs, rises_last}
use Rattle.tile_mesh.proofs.Placing.{at, line_up, outer_line, inner_line, outer_along, placed_ascend, placed_outer_end, placed_inner_end, placed_inners}

module _ (grid : List ℤ) (s : ℤ) (h : pos 1 ≤ℤ s) where
  -- the triangles are those of a strip along a side, whose inner points after the first have these indexes
  pub record IsStrip (side : Side) (ends : List ℕ) (ts : List (Triple GridPoint)) : Type 0 where
    pub first : Step GridPoint
    pub rest : List (Step GridPoint)
    pub list : ts ≡ strip side (outer_at side 0) (inner_at side 1) (first ∷ rest)
    pub runs : Runs (at grid s) side (outer_line grid s side) (inner_line grid s side)
        (outer_at side 0) (inner_at side 1) (outer_at side 66) (inner_at side 65) first rest
    pub line : inners (first ∷ rest) ≡ map (inner_at side) ends

  from_steps : (side : Side) (ends : List ℕ) (ts : List (Triple GridPoint)) (steps : List (Step GridPoint))
      → ts ≡ strip side (outer_at side 0) (inner_at side 1) steps
      → strips.Ascend (at grid s) side (outer_line grid s side) (inner_line grid s side)
      (outer_at side 0) (inner_at side 1) steps
      → outer_end (outer_at side 0) steps ≡ outer_at side 66
      → inner_end (inner_at side 1) steps ≡ inner_at side 65
      → inners steps ≡ map (inner_at side) ends → IsStrip side ends ts
  from_steps side ends ts [] e a o n l =
      absurd (omega (
        arith,
        ints,
        ap (λ (p : GridPoint). along side (at grid s p)) o,
        outer_along grid s side 0,
        outer_along grid s side 66,
        line_up grid s h 0 66 (omega arith),
      ))
  from_steps side ends ts (t ∷ steps) e a o n l = record {
    first = t;
    rest = steps;
    list = e;
    runs = record { ascends = a; outer_to = o; inner_to = n };
    line = l;
  }

  pub strip_is : (side : Side) (kept ends : List ℕ) → RisesTo66 kept → Rises 1 ends 65
      → IsStrip side ends (strip_triangles side kept (1 ∷ ends))
  strip_is side [] ends k e = elim k [ ]
  strip_is side (x ∷ xs) ends k e =
      let m = merge xs ends in
      from_steps side ends (strip_triangles side (x ∷ xs) (1 ∷ ends)) (map (step_at side) m)
      (ap (λ (o : ℕ). strip side (outer_at side o) (inner_at side 1) (map (step_at side) m)) k.0)
      (placed_ascend grid s h side 0 1 m
      (merge_ascends 0 1 xs ends (rises_climbs 0 66 xs k.1) (rises_climbs 1 65 ends e)))
      (placed_outer_end side 0 m ∙ ap (outer_at side) (merge_outer 0 xs ends ∙ rises_last 0 66 xs k.1))
      (placed_inner_end side 1 m ∙ ap (inner_at side) (merge_inner 1 xs ends ∙ rises_last 1 65 ends e))
      (placed_inners side m ∙ ap (λ (is : List ℕ). map (inner_at side) is) (merge_inners xs ends))
