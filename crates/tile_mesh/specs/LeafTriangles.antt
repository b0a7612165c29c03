-- What the triangles of the leaves are.
use Rattle.std.specs.Prelude.{◌≡◌, ◌≢◌, ◌↔◌, ℕ, zero, suc, ℤ, Bool, List, flat_map, AllPairs, Contains}
use Rattle.mesh_plane.specs.Triangles.{Triple}
use Rattle.mesh_plane.specs.Quadtree.{leaf, smallest}
use Rattle.quad_split.specs.Midpoints.{midpoints_of}
use Rattle.quad_split.specs.Split.{is_split}
use Rattle.tile_mesh.specs.declared.point.GridPoint.{GridPoint}
use Rattle.tile_mesh.specs.InnerPoints.{IsLeaf}
use Rattle.tile_mesh.specs.Rule.{leaf_triangles}
use Rattle.tile_mesh.specs.Sides.{grid_point}

-- a node of the quadtree: its level, and its column and row among the nodes of this level
pub record NodePlace : Type 0 where
  pub level : ℕ
  pub x : ℕ
  pub y : ℕ

-- the triangles of a leaf: two of one of side 1, else the fan round its centre
abbrev pub triangles_at : (ℕ → ℕ → ℕ → Bool) → ℕ → ℕ → ℕ → List (Triple GridPoint)
triangles_at split zero x y = smallest grid_point x y
triangles_at split (suc k) x y = leaf grid_point k x y (midpoints_of split (suc k) x y)

-- the nodes are exactly the leaves, each once, and the triangles of the quadtree are theirs, in this order
pub record AreLeaves (grid : List ℤ) (tol : ℕ) : Type 0 where
  pub nodes : List NodePlace
  pub members : (n : NodePlace) → Contains nodes n ↔ IsLeaf grid tol n.level n.x n.y
  pub once : AllPairs (λ n m. n ≢ m) nodes
  pub triangles : leaf_triangles (is_split grid tol)
      ≡ flat_map (λ n. triangles_at (is_split grid tol) n.level n.x n.y) nodes

abbrev pub LeavesLaw : Type 0
LeavesLaw = (grid : List ℤ) (tol : ℕ) → AreLeaves grid tol
