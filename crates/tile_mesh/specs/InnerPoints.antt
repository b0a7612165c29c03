-- What the inner points of a strip are.
use Rattle.std.specs.Prelude.{◌≡◌, ◌↔◌, ◌⊎◌, ℕ, suc, ◌+◌, ◌/◌, ◌<◌, ◌≤◌, ℤ, true, false, List, All, AllPairs, Contains}
use Rattle.mesh_plane.specs.Quadtree.{line_of}
use Rattle.quad_split.specs.Node.{is_node}
use Rattle.quad_split.specs.Split.{is_split}
use Rattle.terrain_base.specs.declared.side.Side.{Side}
use Rattle.tile_mesh.specs.declared.point.GridPoint.{GridPoint}
use Rattle.tile_mesh.specs.Rule.{inner_points}
use Rattle.tile_mesh.specs.Sides.{inner_at}

-- the node (x, y) of level k is a leaf: it is not split, and it is the root or its parent is split
pub record IsLeaf (grid : List ℤ) (tol k x y : ℕ) : Type 0 where
  pub place : is_node k x y ≡ true
  pub whole : is_split grid tol k x y ≡ false
  pub parent : (k ≡ 6) ⊎ (is_split grid tol (suc k) (x / 2) (y / 2) ≡ true)

-- the grid point is a corner of the node (x, y) of level k
pub record IsCornerOf (k x y : ℕ) (p : GridPoint) : Type 0 where
  pub column : (p.i ≡ line_of k x) ⊎ (p.i ≡ line_of k (x + 1))
  pub row : (p.j ≡ line_of k y) ⊎ (p.j ≡ line_of k (y + 1))

-- the grid point is a corner of some leaf
pub record IsLeafCorner (grid : List ℤ) (tol : ℕ) (p : GridPoint) : Type 0 where
  pub level : ℕ
  pub x : ℕ
  pub y : ℕ
  pub leaf : IsLeaf grid tol level x y
  pub corner : IsCornerOf level x y p

-- the indexes ascend from 1 to 65, and are those of exactly the points of the line beside the edge that are
-- corners of leaves
pub record AreInnerPoints (grid : List ℤ) (tol : ℕ) (side : Side) (indexes : List ℕ) : Type 0 where
  pub first : Contains indexes 1
  pub last : Contains indexes 65
  pub within : All (λ i. (1 ≤ i) × (i ≤ 65)) indexes
  pub order : AllPairs (λ i j. i < j) indexes
  pub members : (i : ℕ) → Contains indexes i ↔ IsLeafCorner grid tol (inner_at side i)

abbrev pub InnerLaw : Type 0
InnerLaw = (grid : List ℤ) (tol : ℕ) (side : Side)
    → AreInnerPoints grid tol side (inner_points (is_split grid tol) side)
