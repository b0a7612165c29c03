-- Which sides of the leaves have midpoints, and which lines between nodes are broken in their middle.
use Rattle.std.specs.Prelude.{ℕ, ◌+◌, ◌-◌, ◌||◌, Bool}
use Rattle.mesh_plane.specs.Quadtree.{Midpoints}

-- the line along the south side of the node (x, y) of level k is broken: the node or that to the south is
-- split. At row 0 both are the node itself
abbrev pub is_south_broken : (ℕ → ℕ → ℕ → Bool) → ℕ → ℕ → ℕ → Bool
is_south_broken split k x y = split k x y || split k x (y - 1)

-- the line along its west side is broken: the node or that to the west is split
abbrev pub is_west_broken : (ℕ → ℕ → ℕ → Bool) → ℕ → ℕ → ℕ → Bool
is_west_broken split k x y = split k x y || split k (x - 1) y

-- a leaf has the midpoint of a side where the node of the same side across that side is split. At the
-- border of the square there is none: to the west and south the leaf itself, which is not split, has its
-- place
abbrev pub midpoints_of : (ℕ → ℕ → ℕ → Bool) → ℕ → ℕ → ℕ → Midpoints
midpoints_of split k x y = record {
  south = split k x (y - 1);
  east = split k (x + 1) y;
  north = split k x (y + 1);
  west = split k (x - 1) y;
}
