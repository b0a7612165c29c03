-- The crossings of a segment with sides.
use Rattle.std.specs.Prelude.{List, [], ◌∷◌, flat_map, All, Any}
use Rattle.mesh_plane.specs.declared.corner.Corner.{Corner}
use Rattle.mesh_plane.specs.declared.corner.Tri.{Tri}
use Rattle.mesh_plane.specs.Plane.{Point}
use Rattle.mesh_query.specs.declared.rank.Ranked.{Ranked}
use Rattle.mesh_query.specs.Crossing.{CrossesOut}
use Rattle.mesh_query.specs.Found.{IsCrossing}
use Rattle.mesh_query.specs.Rank.{IsRanked}

-- a side, taken from its corner a to its corner b
pub record DirectedSide : Type 0 where
  pub a : Corner
  pub b : Corner

abbrev pub side : Corner → Corner → DirectedSide
side a b = record { a = a; b = b }

-- the three sides of a triangle, each taken both ways
abbrev pub sides_of : Tri → List DirectedSide
sides_of t = side t.a t.b ∷ side t.b t.a ∷ side t.b t.c ∷ side t.c t.b ∷ side t.c t.a ∷ side t.a t.c ∷ []

abbrev pub all_sides : List Tri → List DirectedSide
all_sides ts = flat_map sides_of ts

-- each crossing found is that of one of the sides, from its left to its right, and each side that is crossed has one
pub record AreCrossings (p q : Point) (sides : List DirectedSide) (found : List Ranked) : Type 0 where
  pub ranked : All IsRanked found
  pub each : All (λ r. Any (λ s. IsCrossing p q s.a s.b r.crossing) sides) found
  pub every : All (λ s. CrossesOut p q s.a s.b → Any (λ r. IsCrossing p q s.a s.b r.crossing) found) sides
