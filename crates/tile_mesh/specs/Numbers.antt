-- Points numbered by first use.
use Rattle.std.specs.Prelude.{◌≡◌, ℕ, ◌≤◌, Bool, true, List, [], ◌∷◌, ◌++◌, nat_eq, ◌&&◌, if◌then◌else◌, Option, None, slice_index_or, position}
use Rattle.std.specs.List.{position_or_len, list_any}
use Rattle.terrain_base.specs.Grid.{spot}
use Rattle.mesh_plane.specs.Triangles.{Triple}
use Rattle.terrain_base.specs.declared.indexes.Indexes.{Indexes}
use Rattle.tile_mesh.specs.declared.point.GridPoint.{GridPoint}

pub record IsOnGrid (p : GridPoint) : Type 0 where
  pub column : p.i ≤ 66
  pub row : p.j ≤ 66

abbrev pub point_eq : GridPoint → GridPoint → Bool
point_eq a b = nat_eq a.i b.i && nat_eq a.j b.j

abbrev pub AreOnGrid : List GridPoint → Type 0
AreOnGrid points = (p : GridPoint) → list_any (point_eq p) points ≡ true → (p.i ≤ 66) × (p.j ≤ 66)

abbrev pub triple : GridPoint → GridPoint → GridPoint → Triple GridPoint
triple a b c = record { a = a; b = b; c = c }

-- the points and this one, which comes last if it is not among them
abbrev pub with_point : List GridPoint → GridPoint → List GridPoint
with_point points p = if list_any (point_eq p) points then points else points ++ p ∷ []

-- the points and these, one after the other
abbrev pub with_points : List GridPoint → List GridPoint → List GridPoint
with_points points [] = points
with_points points (p ∷ ps) = with_points (with_point points p) ps

-- a table of all grid points, row by row from the south, has the place of each among the points, or none
abbrev pub ArePlaces : List (Option ℕ) → List GridPoint → Type 0
ArePlaces places points =
    (p : GridPoint) → IsOnGrid p
    → slice_index_or places (spot p.i p.j) None ≡ position (point_eq p) points

-- the points that are not among those seen, each where it comes first
abbrev pub first_uses : List GridPoint → List GridPoint → List GridPoint
first_uses seen [] = []
first_uses seen (p ∷ points) =
    if list_any (point_eq p) seen then first_uses seen points
    else p ∷ first_uses (seen ++ p ∷ []) points

-- the corners of triangles, in their order
abbrev pub corners : List (Triple GridPoint) → List GridPoint
corners [] = []
corners (t ∷ ts) = t.a ∷ t.b ∷ t.c ∷ corners ts

-- the triangle by the places of its corners in a list
abbrev pub numbered : List GridPoint → Triple GridPoint → Indexes
numbered points t = record {
  a = position_or_len (point_eq t.a) points;
  b = position_or_len (point_eq t.b) points;
  c = position_or_len (point_eq t.c) points;
}

-- the triangles by the numbers that their corners get, where some points have theirs already
abbrev pub numbered_on : List GridPoint → List (Triple GridPoint) → List Indexes
numbered_on points [] = []
numbered_on points (t ∷ ts) =
    numbered (with_points points (t.a ∷ t.b ∷ t.c ∷ [])) t
    ∷ numbered_on (with_points points (t.a ∷ t.b ∷ t.c ∷ [])) ts

-- the triangles ts were added
pub record Adds (ts : List (Triple GridPoint)) (ps ps' : List GridPoint)
    (is is' : List Indexes) : Type 0 where
  pub points : ps' ≡ with_points ps (corners ts)
  pub triangles : is' ≡ is ++ numbered_on ps ts
