-- Grid points placed in the plane, at a scale.
use Rattle.std.proofs.Common.{◌≡◌, ℕ, ◌*◌, ◌/◌, ◌<◌, refl, ap, arith, List, [], ◌∷◌, map}
use Rattle.std.specs.Prelude.{ℤ, pos, ◌*ℤ◌, ◌≤ℤ◌, ◌<ℤ◌}
use Rattle.std.proofs.lemmas.Int.{ints}
use Rattle.mesh_plane.specs.Plane.{Point, point}
use Rattle.mesh_plane.specs.Strip as strips
use Rattle.mesh_plane.specs.Strip.{along, across}
use Rattle.mesh_plane.specs.Triangles.{Step, Outer, Inner, outer_end, inner_end}
use Rattle.mesh_plane.proofs.StripHeights.{inners}
use Rattle.mesh_plane.proofs.Scales.{scaled, grow_lt}
use Rattle.terrain_base.specs.Grid.{line_position, height_in}
use Rattle.terrain_base.specs.declared.side.Side.{Side}
use Rattle.terrain_base.specs.declared.side.Side.TheVariants.{West, South, East, North}
use Rattle.tile_mesh.specs.declared.point.GridPoint.{GridPoint}
use Rattle.tile_mesh.specs.Sides.{outer_at, inner_at, step_at}
use Rattle.tile_mesh.proofs.Merges.{Ascend}

-- where a grid point lies on the tile
abbrev pub place : GridPoint → Point
place p = point (pos (line_position p.i)) (pos (line_position p.j))

abbrev pub height : List ℤ → GridPoint → ℤ
height grid p = height_in grid p.i p.j

-- grid lines ascend
lines_apart : (i j : ℕ) → i < j → 32767 * i / 66 < 32767 * j / 66
lines_apart i j h = omega (arith, h)

module _ (grid : List ℤ) (s : ℤ) where
  abbrev pub at : GridPoint → Point
  at = scaled place (height grid) s

  abbrev pub line : ℕ → ℤ
  line i = s *ℤ pos (line_position i)

  pub line_up : pos 1 ≤ℤ s → (i j : ℕ) → i < j → line i <ℤ line j
  line_up h i j l = grow_lt s (pos (line_position i)) (pos (line_position j)) h (omega (arith, ints, lines_apart i j l))

  -- the lines of a strip
  abbrev pub outer_line : Side → ℤ
  outer_line West = line 0
  outer_line South = line 0
  outer_line East = line 66
  outer_line North = line 66

  abbrev pub inner_line : Side → ℤ
  inner_line West = line 1
  inner_line South = line 1
  inner_line East = line 65
  inner_line North = line 65

  pub outer_along : (side : Side) (i : ℕ) → along side (at (outer_at side i)) ≡ line i
  outer_along West i = refl
  outer_along South i = refl
  outer_along East i = refl
  outer_along North i = refl

  pub inner_along : (side : Side) (i : ℕ) → along side (at (inner_at side i)) ≡ line i
  inner_along West i = refl
  inner_along South i = refl
  inner_along East i = refl
  inner_along North i = refl

  pub outer_across : (side : Side) (i : ℕ) → across side (at (outer_at side i)) ≡ outer_line side
  outer_across West i = refl
  outer_across South i = refl
  outer_across East i = refl
  outer_across North i = refl

  pub inner_across : (side : Side) (i : ℕ) → across side (at (inner_at side i)) ≡ inner_line side
  inner_across West i = refl
  inner_across South i = refl
  inner_across East i = refl
  inner_across North i = refl

  along_less : (x y : ℤ) (i j : ℕ) → pos 1 ≤ℤ s → x ≡ line i → y ≡ line j → i < j → x <ℤ y
  along_less x y i j h e f l = omega (arith, ints, e, f, line_up h i j l)

  pub placed_ascend : pos 1 ≤ℤ s → (side : Side) (o n : ℕ) (steps : List (Step ℕ)) → Ascend o n steps
      → strips.Ascend at side (outer_line side) (inner_line side) (outer_at side o) (inner_at side n)
      (map (step_at side) steps)
  placed_ascend h side o n [] a = tt
  placed_ascend h side o n (Outer x ∷ steps) a = (
    outer_across side x,
    along_less _ _ o x h (outer_along side o) (outer_along side x) a.0,
    placed_ascend h side x n steps a.1,
  )
  placed_ascend h side o n (Inner x ∷ steps) a = (
    inner_across side x,
    along_less _ _ n x h (inner_along side n) (inner_along side x) a.0,
    placed_ascend h side o x steps a.1,
  )

-- the ends and the inner points of a placed list
pub placed_outer_end : (side : Side) (o : ℕ) (steps : List (Step ℕ))
    → outer_end (outer_at side o) (map (step_at side) steps) ≡ outer_at side (outer_end o steps)
placed_outer_end side o [] = refl
placed_outer_end side o (Outer x ∷ steps) = placed_outer_end side x steps
placed_outer_end side o (Inner x ∷ steps) = placed_outer_end side o steps

pub placed_inner_end : (side : Side) (n : ℕ) (steps : List (Step ℕ))
    → inner_end (inner_at side n) (map (step_at side) steps) ≡ inner_at side (inner_end n steps)
placed_inner_end side n [] = refl
placed_inner_end side n (Outer x ∷ steps) = placed_inner_end side n steps
placed_inner_end side n (Inner x ∷ steps) = placed_inner_end side x steps

pub placed_inners : (side : Side) (steps : List (Step ℕ))
    → inners (map (step_at side) steps) ≡ map (inner_at side) (inners steps)
placed_inners side [] = refl
placed_inners side (Outer x ∷ steps) = placed_inners side steps
placed_inners side (Inner x ∷ steps) = ap (λ (ps : List GridPoint). inner_at side x ∷ ps) (placed_inners side steps)
