-- Triangles over grid points, and rectangles of the grid that hold all that they hold.
use Rattle.std.specs.Prelude.{ℕ, suc, ◌+◌, ◌*◌, ◌≤◌, ℤ, ◌&&◌, Bool, List}
use Rattle.std.specs.List.{list_all}
use Rattle.terrain_base.specs.Height.{IsHeight}
use Rattle.mesh_plane.specs.declared.corner.Corner.{Corner}
use Rattle.mesh_plane.specs.declared.corner.Tri.{Tri}
use Rattle.mesh_plane.specs.Plane.{IsTileTri, IsCounterClockwise}
use Rattle.mesh_plane.specs.Triangles.{tri_of}
use Rattle.mesh_plane.specs.Quadtree.{line_of}
use Rattle.quad_split.specs.Fan.{grid_corner, side_triangles}
use Rattle.quad_split.specs.Fits.{HoldsPoint, follows, follows_at}
use Rattle.quad_split.specs.declared.triangle.GridPoint.{GridPoint}
use Rattle.quad_split.specs.declared.triangle.Window.{Window}
use Rattle.quad_split.specs.declared.fan.FanSide.{FanSide}
use Rattle.quad_split.specs.declared.fan.Fan.{Fan}

-- ---- grid points and windows
pub record IsOnGrid (p : GridPoint) : Type 0 where
  pub column : p.i ≤ 66
  pub row : p.j ≤ 66

-- the window lies on the grid
pub record IsWindow (window : Window) : Type 0 where
  pub columns : window.west ≤ window.east
  pub east : window.east ≤ 66
  pub rows : window.south ≤ window.north
  pub north : window.north ≤ 66

-- the grid point lies in the window
pub record IsInWindow (window : Window) (p : GridPoint) : Type 0 where
  pub west : window.west ≤ p.i
  pub east : p.i ≤ window.east
  pub south : window.south ≤ p.j
  pub north : p.j ≤ window.north

-- ---- triangles
-- the grid point at its height
abbrev pub corner_at : List ℤ → GridPoint → Corner
corner_at heights p = grid_corner heights p.i p.j

abbrev pub tri_at : List ℤ → GridPoint → GridPoint → GridPoint → Tri
tri_at heights a b c = record { a = corner_at heights a; b = corner_at heights b; c = corner_at heights c }

-- the corners have heights that grid points may have
pub record AreHeights (t : Tri) : Type 0 where
  pub a : IsHeight t.a.h
  pub b : IsHeight t.b.h
  pub c : IsHeight t.c.h

-- the triangle is counter-clockwise and lies on the tile, and the grid points that it holds are in the window
pub record IsTriOf (window : Window) (t : Tri) : Type 0 where
  pub tile : IsTileTri t
  pub heights : AreHeights t
  pub counter_clockwise : IsCounterClockwise t
  pub west : (i j : ℕ) → i ≤ 66 → j ≤ 66 → HoldsPoint t i j → window.west ≤ i
  pub east : (i j : ℕ) → i ≤ 66 → j ≤ 66 → HoldsPoint t i j → i ≤ window.east
  pub south : (i j : ℕ) → i ≤ 66 → j ≤ 66 → HoldsPoint t i j → window.south ≤ j
  pub north : (i j : ℕ) → i ≤ 66 → j ≤ 66 → HoldsPoint t i j → j ≤ window.north

-- ---- the sides of a node
-- the points of the side lie on the grid, and its three triangles are counter-clockwise
pub record IsSideOf (heights : List ℤ) (side : FanSide) : Type 0 where
  pub centre : IsOnGrid side.centre
  pub a : IsOnGrid side.a
  pub middle : IsOnGrid side.middle
  pub b : IsOnGrid side.b
  pub whole : IsCounterClockwise (tri_at heights side.centre side.a side.b)
  pub first : IsCounterClockwise (tri_at heights side.centre side.a side.middle)
  pub second : IsCounterClockwise (tri_at heights side.centre side.middle side.b)

-- so it is with all four sides
pub record AreSidesOf (heights : List ℤ) (fan : Fan) : Type 0 where
  pub south : IsSideOf heights fan.south
  pub east : IsSideOf heights fan.east
  pub north : IsSideOf heights fan.north
  pub west : IsSideOf heights fan.west

-- the three triangles of a side follow the heights, and those of all four sides
abbrev pub side_follows : List ℤ → ℕ → FanSide → Bool
side_follows grid tol side =
    list_all (λ t. follows grid tol (tri_of t))
    (side_triangles (corner_at grid side.centre) (corner_at grid side.a) (corner_at grid side.middle)
    (corner_at grid side.b))

abbrev pub sides_follow : List ℤ → ℕ → Fan → Bool
sides_follow grid tol fan =
    side_follows grid tol fan.south
    && (side_follows grid tol fan.east && (side_follows grid tol fan.north && side_follows grid tol fan.west))

-- the triangle of a whole side follows the height at the side's midpoint, and those of all four sides
abbrev pub middle_follows : List ℤ → ℕ → FanSide → Bool
middle_follows grid tol side =
    follows_at grid tol (tri_at grid side.centre side.a side.b) side.middle.i side.middle.j

abbrev pub middles_follow : List ℤ → ℕ → Fan → Bool
middles_follow grid tol fan =
    middle_follows grid tol fan.south
    && (middle_follows grid tol fan.east && (middle_follows grid tol fan.north && middle_follows grid tol fan.west))

abbrev pub grid_point : ℕ → ℕ → GridPoint
grid_point i j = record { i = i; j = j }

-- a side from a to b with its midpoint, and the centre of its node
abbrev pub side_between : GridPoint → GridPoint → GridPoint → GridPoint → FanSide
side_between centre a middle b = record { centre = centre; a = a; middle = middle; b = b }

-- the sides of the node (x, y) of level k + 1
abbrev pub fan_at : ℕ → ℕ → ℕ → Fan
fan_at k x y =
    let at = grid_point in
    let west = line_of (suc k) x in let middle = line_of k (2 * x + 1) in
    let east = line_of (suc k) (x + 1) in
    let south = line_of (suc k) y in let level = line_of k (2 * y + 1) in
    let north = line_of (suc k) (y + 1) in
    record {
      south = side_between (at middle level) (at west south) (at middle south) (at east south);
      east = side_between (at middle level) (at east south) (at east level) (at east north);
      north = side_between (at middle level) (at east north) (at middle north) (at west north);
      west = side_between (at middle level) (at west north) (at west level) (at west south);
    }
