-- Whether the triangles of a node follow the heights of the grid.
use Rattle.std.specs.Prelude.{ℕ, zero, suc, ◌≤◌, ℤ, pos, ◌*ℤ◌, ◌≤ℤ◌, int_le, not, ◌&&◌, ◌||◌, Bool, true, List, All}
use Rattle.std.specs.List.{list_all}
use Rattle.terrain_base.specs.Grid.{line_position, height_in}
use Rattle.mesh_plane.specs.declared.corner.Tri.{Tri}
use Rattle.mesh_plane.specs.Plane.{side_of, TriangleHolds}
use Rattle.mesh_plane.specs.Surface.{gap_over, gap_under}
use Rattle.mesh_plane.specs.Triangles.{tri_of}
use Rattle.quad_split.specs.Fan.{grid_corner, fan_triangles}

-- the closed triangle holds the grid point
abbrev pub HoldsPoint : Tri → ℕ → ℕ → Type 0
HoldsPoint t i j = TriangleHolds (pos 1) (pos (line_position i)) (pos (line_position j)) t

-- the height at the grid point is within the tolerance of the triangle's plane
abbrev pub IsNearPlane : List ℤ → ℕ → Tri → ℕ → ℕ → Type 0
IsNearPlane grid tol t i j =
    gap_over t (pos 1) (pos (line_position i)) (pos (line_position j)) (height_in grid i j)
    ≤ℤ (pos tol *ℤ gap_under t (pos 1))

-- the height at each grid point that the closed triangle holds is
abbrev pub Follows : List ℤ → ℕ → Tri → Type 0
Follows grid tol t = (i j : ℕ) → i ≤ 66 → j ≤ 66 → HoldsPoint t i j → IsNearPlane grid tol t i j

-- so it is with each of the twelve triangles of the node (x, y) of level k + 1
abbrev pub Fits : List ℤ → ℕ → ℕ → ℕ → ℕ → Type 0
Fits grid tol k x y = All (λ t. Follows grid tol (tri_of t)) (fan_triangles (grid_corner grid) k x y)

-- the same, as tests
unfoldable pub holds_point : Tri → ℕ → ℕ → Bool
holds_point t i j =
    int_le (pos 0) (side_of t.a t.b (pos 1) (pos (line_position i)) (pos (line_position j)))
    && (int_le (pos 0) (side_of t.b t.c (pos 1) (pos (line_position i)) (pos (line_position j)))
    && int_le (pos 0) (side_of t.c t.a (pos 1) (pos (line_position i)) (pos (line_position j))))

unfoldable pub is_near_plane : List ℤ → ℕ → Tri → ℕ → ℕ → Bool
is_near_plane grid tol t i j =
    int_le (gap_over t (pos 1) (pos (line_position i)) (pos (line_position j)) (height_in grid i j))
    (pos tol *ℤ gap_under t (pos 1))

unfoldable pub follows_at : List ℤ → ℕ → Tri → ℕ → ℕ → Bool
follows_at grid tol t i j = not (holds_point t i j) || is_near_plane grid tol t i j

-- at n grid points of the row j from column i on, and at m such points of n rows from row j on
abbrev pub follows_row : List ℤ → ℕ → Tri → ℕ → ℕ → ℕ → Bool
follows_row grid tol t i j zero = true
follows_row grid tol t i j (suc n) = follows_at grid tol t i j && follows_row grid tol t (suc i) j n

abbrev pub follows_rows : List ℤ → ℕ → Tri → ℕ → ℕ → ℕ → ℕ → Bool
follows_rows grid tol t i j m zero = true
follows_rows grid tol t i j m (suc n) = follows_row grid tol t i j m && follows_rows grid tol t i (suc j) m n

-- at all 67 by 67 grid points
unfoldable pub follows : List ℤ → ℕ → Tri → Bool
follows grid tol t = follows_rows grid tol t 0 0 67 67

-- the node (x, y) of level k fits; one of level 0 has no centre
unfoldable pub fits_at : List ℤ → ℕ → ℕ → ℕ → ℕ → Bool
fits_at grid tol zero x y = true
fits_at grid tol (suc k) x y =
    list_all (λ t. follows grid tol (tri_of t)) (fan_triangles (grid_corner grid) k x y)
