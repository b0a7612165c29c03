-- What the numbering of points by first use gives, for triangles of any kind.
use Rattle.std.specs.Prelude.{◌≡◌, ◌↔◌, ℕ, ◌<◌, List, [], length, map, slice_index_or, All, AllPairs, Contains}
use Rattle.std.specs.List.{position_or_len}
use Rattle.mesh_plane.specs.Triangles.{Triple}
use Rattle.terrain_base.specs.declared.indexes.Indexes.{Indexes}
use Rattle.tile_mesh.specs.declared.point.GridPoint.{GridPoint}
use Rattle.tile_mesh.specs.Sides.{grid_point}
use Rattle.tile_mesh.specs.Numbers.{point_eq, triple, first_uses, corners, numbered}

-- the place at which a point is used first, among all corners of the triangles in their order
abbrev pub first_use : List (Triple GridPoint) → GridPoint → ℕ
first_use ts p = position_or_len (point_eq p) (corners ts)

-- the corners that a triangle's numbers name, where each is below the number of points
abbrev pub named : List GridPoint → Indexes → Triple GridPoint
named points t =
    let at = λ (n : ℕ). slice_index_or points n (grid_point 0 0) in triple (at t.a) (at t.b) (at t.c)

-- all three numbers of a triangle are of points, of so many
pub record ArePoints (count : ℕ) (t : Indexes) : Type 0 where
  pub a : t.a < count
  pub b : t.b < count
  pub c : t.c < count

-- the points are exactly the corners of the triangles, each once, in the order of their first use; and the
-- numbers of each triangle are those of points, and name its corners
pub record IsNumbering (ts : List (Triple GridPoint)) (points : List GridPoint)
    (is : List Indexes) : Type 0 where
  pub members : (p : GridPoint) → Contains points p ↔ Contains (corners ts) p
  pub order : AllPairs (λ p q. first_use ts p < first_use ts q) points
  pub within : All (ArePoints (length points)) is
  pub names : map (named points) is ≡ ts

abbrev pub NumberingLaw : Type 0
NumberingLaw = (ts : List (Triple GridPoint))
    → let points = first_uses [] (corners ts) in IsNumbering ts points (map (numbered points) ts)
