-- The twelve triangles of a node are counter-clockwise, over points of the grid.
use Rattle.std.proofs.Common.{◌≡◌, ℕ, suc, ◌+◌, ◌*◌, ◌<◌, ◌≤◌, refl, arith, true, false, List, length, map, get_or, subst}
use Rattle.std.specs.Prelude.{ℤ, pos, ◌≤ℤ◌, ◌<ℤ◌}
use Rattle.std.proofs.lemmas.Int.{ints}
use Rattle.terrain_base.specs.Grid as grid
use Rattle.mesh_plane.specs.declared.corner.Corner.{Corner}
use Rattle.mesh_plane.specs.declared.corner.Tri.{Tri}
use Rattle.mesh_plane.specs.Plane.{Point, point, IsCounterClockwise}
use Rattle.mesh_plane.specs.Triangles.{tri_of}
use Rattle.mesh_plane.specs.Fan.{Rect, grown, InRect}
use Rattle.mesh_plane.specs.Cover.{Tiles}
use Rattle.mesh_plane.specs.Quadtree.{line_of, Midpoints, leaf_ring, leaf}
use Rattle.mesh_plane.proofs.FanProof.{fan_law}
use Rattle.mesh_plane.proofs.Quads.{node, leaf_is_ring, leaf_inside, first_half, second_half}
use Rattle.quad_split.specs.Fan.{grid_corner}
use Rattle.quad_split.specs.Window.{IsOnGrid, IsSideOf, AreSidesOf, fan_at, grid_point}

-- where a corner lies
abbrev pub at : Corner → Point
at k = point k.u k.v

-- the place of a grid line
abbrev pub place : ℕ → ℤ
place i = pos (grid.line_position i)

pub up : (i j : ℕ) → i < j → place i <ℤ place j
up i j h = omega (arith, ints)

pub back : (i j : ℕ) → place i ≤ℤ place j → i ≤ j
back i j h = omega (arith, ints)

-- no side has a midpoint, and each
abbrev pub no_midpoints : Midpoints
no_midpoints = record { south = false; east = false; north = false; west = false }

abbrev pub all_midpoints : Midpoints
all_midpoints = record { south = true; east = true; north = true; west = true }

module _ (heights : List ℤ) (k x y : ℕ) where
  on : (i j : ℕ) → at (grid_corner heights i j) ≡ point (place i) (place j)
  on i j = refl

  abbrev box : Rect
  box = node at (grid_corner heights) place up on (suc k) x y

  abbrev triangles : Midpoints → List Tri
  triangles m = map tri_of (leaf (grid_corner heights) k x y m)

  -- the fan tiles the node's rectangle
  fan_tiles_node : (m : Midpoints) → Tiles (λ s u v. InRect (grown s box) (point u v)) (triangles m)
  fan_tiles_node m =
      fan_law box (grid_corner heights (line_of k (2 * x + 1)) (line_of k (2 * y + 1)))
      (leaf_ring (grid_corner heights) k x y m)
      (leaf_inside at (grid_corner heights) place up on k x y)
      (leaf_is_ring at (grid_corner heights) place up on k x y m)

  one : (m : Midpoints) (t : Tri) (n : ℕ) → n < length (triangles m) → get_or (triangles m) n t ≡ t → IsCounterClockwise t
  one m t n l e = subst (λ (t : Tri). IsCounterClockwise t) e ((fan_tiles_node m).counter_clockwise n t l)

  module _ (within_x : line_of (suc k) (x + 1) ≤ 66) (within_y : line_of (suc k) (y + 1) ≤ 66) where
    abbrev W : ℕ
    W = line_of (suc k) x

    abbrev X : ℕ
    X = line_of k (2 * x + 1)

    abbrev E : ℕ
    E = line_of (suc k) (x + 1)

    abbrev S : ℕ
    S = line_of (suc k) y

    abbrev Y : ℕ
    Y = line_of k (2 * y + 1)

    abbrev N : ℕ
    N = line_of (suc k) (y + 1)

    on_grid : (i j : ℕ) → i ≤ 66 → j ≤ 66 → IsOnGrid (grid_point i j)
    on_grid i j h k = record { column = h; row = k }

    hx : X ≤ 66
    hx = omega (arith, second_half k x)

    hw : W ≤ 66
    hw = omega (arith, first_half k x, hx)

    hy : Y ≤ 66
    hy = omega (arith, second_half k y)

    hs : S ≤ 66
    hs = omega (arith, first_half k y, hy)

    south_is_good : IsSideOf heights (fan_at k x y).south
    south_is_good = record {
      centre = on_grid X Y hx hy;
      a = on_grid W S hw hs;
      middle = on_grid X S hx hs;
      b = on_grid E S within_x hs;
      whole = one no_midpoints _ 0 (omega arith) refl;
      first = one all_midpoints _ 0 (omega arith) refl;
      second = one all_midpoints _ 1 (omega arith) refl;
    }

    east_is_good : IsSideOf heights (fan_at k x y).east
    east_is_good = record {
      centre = on_grid X Y hx hy;
      a = on_grid E S within_x hs;
      middle = on_grid E Y within_x hy;
      b = on_grid E N within_x within_y;
      whole = one no_midpoints _ 1 (omega arith) refl;
      first = one all_midpoints _ 2 (omega arith) refl;
      second = one all_midpoints _ 3 (omega arith) refl;
    }

    north_is_good : IsSideOf heights (fan_at k x y).north
    north_is_good = record {
      centre = on_grid X Y hx hy;
      a = on_grid E N within_x within_y;
      middle = on_grid X N hx within_y;
      b = on_grid W N hw within_y;
      whole = one no_midpoints _ 2 (omega arith) refl;
      first = one all_midpoints _ 4 (omega arith) refl;
      second = one all_midpoints _ 5 (omega arith) refl;
    }

    west_is_good : IsSideOf heights (fan_at k x y).west
    west_is_good = record {
      centre = on_grid X Y hx hy;
      a = on_grid W N hw within_y;
      middle = on_grid W Y hw hy;
      b = on_grid W S hw hs;
      whole = one no_midpoints _ 3 (omega arith) refl;
      first = one all_midpoints _ 6 (omega arith) refl;
      second = one all_midpoints _ 7 (omega arith) refl;
    }

    pub sides_are_good : AreSidesOf heights (fan_at k x y)
    sides_are_good = record {
      south = south_is_good;
      east = east_is_good;
      north = north_is_good;
      west = west_is_good;
    }
