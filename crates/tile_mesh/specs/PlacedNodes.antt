-- Nodes of the quadtree with their places on the grid.
use Rattle.std.specs.Prelude.{◌≡◌, ℕ, ◌+◌, ◌-◌, ◌*◌, ◌^◌, ◌≤◌, List}
use Rattle.mesh_plane.specs.Triangles.{Triple, fan}
use Rattle.mesh_plane.specs.Fan.{Ring, round}
use Rattle.mesh_plane.specs.Quadtree.{midpoint, Midpoints}
use Rattle.tile_mesh.specs.declared.leaves.PlacedNode.{PlacedNode}
use Rattle.tile_mesh.specs.declared.leaves.Midpoints as leaf
use Rattle.tile_mesh.specs.declared.point.GridPoint.{GridPoint}
use Rattle.tile_mesh.specs.Sides.{grid_point}

abbrev pub as_midpoints : leaf.Midpoints → Midpoints
as_midpoints m = record { south = m.south; east = m.east; north = m.north; west = m.west }

-- the corner and the side are those of the place
pub record IsPlacedNode (s : PlacedNode) : Type 0 where
  pub level : s.level ≤ 6
  pub side : s.side ≡ 2 ^ s.level
  pub west : s.i ≡ 1 + s.x * 2 ^ s.level
  pub south : s.j ≡ 1 + s.y * 2 ^ s.level
  pub east : s.i + s.side ≤ 65
  pub north : s.j + s.side ≤ 65

-- a quarter of a node
pub record IsQuarter (s : PlacedNode) (a b : ℕ) (q : PlacedNode) : Type 0 where
  pub node : IsPlacedNode q
  pub level : q.level ≡ s.level - 1
  pub x : q.x ≡ 2 * s.x + a
  pub y : q.y ≡ 2 * s.y + b

-- the ring of a leaf with this south-west corner and half side
abbrev pub ring_at : ℕ → ℕ → ℕ → Midpoints → Ring GridPoint
ring_at half i j m = record {
  south_west = grid_point i j;
  south = midpoint m.south (grid_point (i + half) j);
  south_east = grid_point (i + 2 * half) j;
  east = midpoint m.east (grid_point (i + 2 * half) (j + half));
  north_east = grid_point (i + 2 * half) (j + 2 * half);
  north = midpoint m.north (grid_point (i + half) (j + 2 * half));
  north_west = grid_point i (j + 2 * half);
  west = midpoint m.west (grid_point i (j + half));
}

-- the triangles of that leaf
abbrev pub leaf_at : ℕ → ℕ → ℕ → Midpoints → List (Triple GridPoint)
leaf_at half i j m =
    fan (grid_point (i + half) (j + half)) (grid_point i j) (round (ring_at half i j m))
