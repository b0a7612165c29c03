-- The triangles of the leaves of a quadtree over the lines of a grid.
use Rattle.std.specs.Prelude.{ℕ, zero, suc, ◌+◌, ◌*◌, ◌^◌, Bool, List, [], ◌∷◌, ◌++◌, if◌then◌else◌}
use Rattle.mesh_plane.specs.Triangles.{Triple, fan}
use Rattle.mesh_plane.specs.Fan.{Ring, round}

-- the grid line at which the node x of level k begins: nodes of level k are 2^k lines wide, and the first
-- one begins
-- at line 1
abbrev pub line_of : ℕ → ℕ → ℕ
line_of k x = 1 + x * 2 ^ k

-- a leaf of side 1, by its south-west, south-east, north-east and north-west corners
abbrev pub halves : {A : Type 0} → A → A → A → A → List (Triple A)
halves sw se ne nw = record { a = sw; b = se; c = ne } ∷ record { a = sw; b = ne; c = nw } ∷ []

-- the midpoint of a side, or none
abbrev pub midpoint : {A : Type 0} → Bool → A → List A
midpoint has m = if has then m ∷ [] else []

-- which sides of a leaf have midpoints
pub record Midpoints : Type 0 where
  pub south : Bool
  pub east : Bool
  pub north : Bool
  pub west : Bool

module _ {A : Type 0} (grid : ℕ → ℕ → A) where
  -- the ring of a leaf of level k + 1: its corners, and the midpoints of some sides between them
  abbrev pub leaf_ring : ℕ → ℕ → ℕ → Midpoints → Ring A
  leaf_ring k x y m = record {
    south_west = grid (line_of (suc k) x) (line_of (suc k) y);
    south = midpoint m.south (grid (line_of k (2 * x + 1)) (line_of (suc k) y));
    south_east = grid (line_of (suc k) (x + 1)) (line_of (suc k) y);
    east = midpoint m.east (grid (line_of (suc k) (x + 1)) (line_of k (2 * y + 1)));
    north_east = grid (line_of (suc k) (x + 1)) (line_of (suc k) (y + 1));
    north = midpoint m.north (grid (line_of k (2 * x + 1)) (line_of (suc k) (y + 1)));
    north_west = grid (line_of (suc k) x) (line_of (suc k) (y + 1));
    west = midpoint m.west (grid (line_of (suc k) x) (line_of k (2 * y + 1)));
  }

  -- the triangles of a leaf of level k + 1: its centre with each two neighbours on its ring
  abbrev pub leaf : ℕ → ℕ → ℕ → Midpoints → List (Triple A)
  leaf k x y m =
      let ring = leaf_ring k x y m in
      fan (grid (line_of k (2 * x + 1)) (line_of k (2 * y + 1))) ring.south_west (round ring)

  -- those of a node of level 0
  abbrev pub smallest : ℕ → ℕ → List (Triple A)
  smallest x y =
      halves (grid (line_of zero x) (line_of zero y)) (grid (line_of zero (x + 1)) (line_of zero y))
      (grid (line_of zero (x + 1)) (line_of zero (y + 1))) (grid (line_of zero x) (line_of zero (y + 1)))

  -- those of all leaves of the node (x, y) of level k, where p says which nodes are split and m which sides
  -- of a leaf
  -- have midpoints: south-west, south-east, north-west and north-east quarters in this order
  abbrev pub leaves : (ℕ → ℕ → ℕ → Bool) → (ℕ → ℕ → ℕ → Midpoints) → ℕ → ℕ → ℕ → List (Triple A)
  leaves p m zero x y = smallest x y
  leaves p m (suc k) x y = if p (suc k) x y
      then leaves p m k (2 * x) (2 * y) ++ (leaves p m k (2 * x + 1) (2 * y)
      ++ (leaves p m k (2 * x) (2 * y + 1) ++ leaves p m k (2 * x + 1) (2 * y + 1)))
      else leaf k x y (m (suc k) x y)
