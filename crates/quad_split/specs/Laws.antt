-- What holds of the split rule for every grid and every tolerance.
use Rattle.std.specs.Prelude.{◌≡◌, ◌↔◌, ◌⊎◌, ℕ, suc, ◌+◌, ◌*◌, ◌<◌, ◌≤◌, ℤ, IsTrue, true, false, Bool, List, All}
use Rattle.mesh_plane.specs.Quadtree.{line_of, leaf, Midpoints}
use Rattle.mesh_plane.specs.Triangles.{tri_of}
use Rattle.quad_split.specs.Fan.{grid_corner}
use Rattle.quad_split.specs.Node.{is_node}
use Rattle.quad_split.specs.Fits.{Follows, Fits, fits_at}
use Rattle.quad_split.specs.Split.{is_split}
use Rattle.quad_split.specs.Midpoints.{is_south_broken, is_west_broken, midpoints_of}

-- a node fits by its test exactly where its twelve triangles follow the heights
abbrev pub FitLaw : Type 0
FitLaw = (grid : List ℤ) (tol k x y : ℕ) → IsTrue (fits_at grid tol (suc k) x y) ↔ Fits grid tol k x y

-- a square between grid lines
pub record Lines : Type 0 where
  pub west : ℕ
  pub south : ℕ
  pub east : ℕ
  pub north : ℕ

-- the grid lines of the node (x, y) of level k
abbrev pub lines_of : ℕ → ℕ → ℕ → Lines
lines_of k x y = record {
  west = line_of k x;
  south = line_of k y;
  east = line_of k (x + 1);
  north = line_of k (y + 1);
}

-- the square a lies in the square b
pub record LiesIn (a b : Lines) : Type 0 where
  pub west : b.west ≤ a.west
  pub south : b.south ≤ a.south
  pub east : a.east ≤ b.east
  pub north : a.north ≤ b.north

-- the parts from a to b and from c to d of a line have a part of positive length in common
abbrev pub Overlap : ℕ → ℕ → ℕ → ℕ → Type 0
Overlap a b c d = (a < d) × (c < b)

-- the squares lie beside each other and share a part of positive length of a side
abbrev pub LiesBeside : Lines → Lines → Type 0
LiesBeside a b = (((a.east ≡ b.west) ⊎ (b.east ≡ a.west)) × Overlap a.south a.north b.south b.north)
    ⊎ (((a.north ≡ b.south) ⊎ (b.north ≡ a.south)) × Overlap a.west a.east b.west b.east)

-- a node (x, y) of level k that is split and lies in the square, or beside it
pub record SplitNear (grid : List ℤ) (tol k : ℕ) (square : Lines) : Type 0 where
  pub x : ℕ
  pub y : ℕ
  pub place : is_node k x y ≡ true
  pub split : is_split grid tol k x y ≡ true
  pub near : LiesIn (lines_of k x y) square ⊎ LiesBeside (lines_of k x y) square

-- a node of side 1 is not split; a larger one is split exactly where it does not fit, or where a node of half
-- its side is split that lies in it or beside it; what is no node is not split
pub record SplitLaw : Type 0 where
  pub smallest : (grid : List ℤ) (tol x y : ℕ) → is_split grid tol 0 x y ≡ false
  pub larger : (grid : List ℤ) (tol k x y : ℕ) → is_node (suc k) x y ≡ true
      → IsTrue (is_split grid tol (suc k) x y)
      ↔ ((¬ Fits grid tol k x y) ⊎ SplitNear grid tol k (lines_of (suc k) x y))
  pub outside : (grid : List ℤ) (tol k x y : ℕ) → is_node k x y ≡ false → is_split grid tol k x y ≡ false

-- a node that is not split fits, and the triangles of its leaf follow the heights, whichever of its sides
-- have midpoints
pub record LeafLaw : Type 0 where
  pub fits : (grid : List ℤ) (tol k x y : ℕ) → is_node (suc k) x y ≡ true
      → is_split grid tol (suc k) x y ≡ false
      → Fits grid tol k x y
  pub triangles : (grid : List ℤ) (tol k x y : ℕ) (midpoints : Midpoints) → is_node (suc k) x y ≡ true
      → is_split grid tol (suc k) x y ≡ false
      → All (λ t. Follows grid tol (tri_of t)) (leaf (grid_corner grid) k x y midpoints)

-- the lines round the node (x, y) of level k are broken in the middle
pub record AreBroken (split : ℕ → ℕ → ℕ → Bool) (k x y : ℕ) : Type 0 where
  pub south : is_south_broken split k x y ≡ true
  pub north : is_south_broken split k x (y + 1) ≡ true
  pub west : is_west_broken split k x y ≡ true
  pub east : is_west_broken split k (x + 1) y ≡ true

-- its midpoints are where these lines are broken
pub record AreWhereBroken (split : ℕ → ℕ → ℕ → Bool) (k x y : ℕ) (midpoints : Midpoints) : Type 0 where
  pub south : midpoints.south ≡ is_south_broken split k x y
  pub north : midpoints.north ≡ is_south_broken split k x (y + 1)
  pub west : midpoints.west ≡ is_west_broken split k x y
  pub east : midpoints.east ≡ is_west_broken split k (x + 1) y

-- the halves of the sides of the node (x, y) of level k + 1 are whole
pub record AreHalvesWhole (split : ℕ → ℕ → ℕ → Bool) (k x y : ℕ) : Type 0 where
  pub south : (is_south_broken split k (2 * x) (2 * y) ≡ false)
      × (is_south_broken split k (2 * x + 1) (2 * y) ≡ false)
  pub north : (is_south_broken split k (2 * x) (2 * (y + 1)) ≡ false)
      × (is_south_broken split k (2 * x + 1) (2 * (y + 1)) ≡ false)
  pub west : (is_west_broken split k (2 * x) (2 * y) ≡ false)
      × (is_west_broken split k (2 * x) (2 * y + 1) ≡ false)
  pub east : (is_west_broken split k (2 * (x + 1)) (2 * y) ≡ false)
      × (is_west_broken split k (2 * (x + 1)) (2 * y + 1) ≡ false)

-- the lines round a node that is split are broken; those round a leaf are broken exactly where it has
-- midpoints, and their halves are whole
pub record LineLaw : Type 0 where
  pub broken : (grid : List ℤ) (tol k x y : ℕ) → is_split grid tol k x y ≡ true
      → AreBroken (is_split grid tol) k x y
  pub midpoints : (grid : List ℤ) (tol k x y : ℕ) → is_split grid tol k x y ≡ false
      → AreWhereBroken (is_split grid tol) k x y (midpoints_of (is_split grid tol) k x y)
  pub whole : (grid : List ℤ) (tol k x y : ℕ) → is_node (suc k) x y ≡ true
      → is_split grid tol (suc k) x y ≡ false
      → AreHalvesWhole (is_split grid tol) k x y
