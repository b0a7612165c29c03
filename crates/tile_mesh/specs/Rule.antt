-- The triangles of a tile, over its grid points.
use Rattle.std.specs.Prelude.{ℕ, zero, suc, ◌+◌, ◌-◌, ◌*◌, ◌^◌, Bool, List, [], ◌∷◌, ◌++◌, map, if◌then◌else◌}
use Rattle.mesh_plane.specs.Triangles.{Triple, strip}
use Rattle.mesh_plane.specs.Quadtree.{line_of, leaves}
use Rattle.quad_split.specs.Midpoints.{midpoints_of}
use Rattle.terrain_base.specs.declared.side.Side.{Side}
use Rattle.terrain_base.specs.declared.side.Side.TheVariants.{West, South, East, North}
use Rattle.tile_mesh.specs.declared.point.GridPoint.{GridPoint}
use Rattle.tile_mesh.specs.Sides.{grid_point, outer_at, inner_at, step_at}
use Rattle.tile_mesh.specs.Merge.{merge}

-- the strip of a side, of which the outer and the inner points have these indexes, from the first point of
-- each line on
abbrev pub strip_triangles : Side → List ℕ → List ℕ → List (Triple GridPoint)
strip_triangles side [] inner = []
strip_triangles side (o ∷ outer) [] = []
strip_triangles side (o ∷ outer) (n ∷ inner) =
    strip side (outer_at side o) (inner_at side n) (map (step_at side) (merge outer inner))

-- whether the node of level k that lies at this place along a side of the quadtree's square is split
abbrev pub border_split : (ℕ → ℕ → ℕ → Bool) → Side → ℕ → ℕ → Bool
border_split split West k m = split k 0 m
border_split split South k m = split k m 0
border_split split East k m = split k (2 ^ (6 - k) - 1) m
border_split split North k m = split k m (2 ^ (6 - k) - 1)

-- the far ends of the leaves along a side, within the node of level k at this place
abbrev pub leaf_ends : (ℕ → ℕ → Bool) → ℕ → ℕ → List ℕ
leaf_ends split zero m = line_of zero (m + 1) ∷ []
leaf_ends split (suc k) m =
    if split (suc k) m then leaf_ends split k (2 * m) ++ leaf_ends split k (2 * m + 1)
    else line_of (suc k) (m + 1) ∷ []

-- the corners of leaves on the line beside an edge, by their index along it
unfoldable pub inner_points : (ℕ → ℕ → ℕ → Bool) → Side → List ℕ
inner_points split side = 1 ∷ leaf_ends (border_split split side) 6 0

-- those of the whole quadtree, whose root has the side 64
unfoldable pub leaf_triangles : (ℕ → ℕ → ℕ → Bool) → List (Triple GridPoint)
leaf_triangles split = leaves grid_point split (midpoints_of split) 6 0 0

-- the strip of a side
unfoldable pub border_triangles : (ℕ → ℕ → ℕ → Bool) → (Side → List ℕ) → Side → List (Triple GridPoint)
border_triangles split kept side = strip_triangles side (kept side) (inner_points split side)

-- all triangles, where split says which nodes are split, and kept which points of an edge are kept
unfoldable pub triangles_of : (ℕ → ℕ → ℕ → Bool) → (Side → List ℕ) → List (Triple GridPoint)
triangles_of split kept =
    border_triangles split kept South ++ (border_triangles split kept East
    ++ (border_triangles split kept North ++ (border_triangles split kept West ++ leaf_triangles split)))
