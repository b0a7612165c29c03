-- Vertices numbered by first use in a list of triangles (quantized-mesh-1.0, IndexData).
use Rattle.std.specs.Prelude.{ℕ, ◌<◌, List, [], ◌∷◌, take, flat_map, slice_index, Contains}
use Rattle.terrain_base.specs.declared.indexes.Indexes.{Indexes}

-- the numbers of a triangle's corners, and those of all triangles, in their order
abbrev pub corners_of : Indexes → List ℕ
corners_of triangle = triangle.a ∷ triangle.b ∷ triangle.c ∷ []

abbrev pub corners : List Indexes → List ℕ
corners triangles = flat_map corners_of triangles

-- numbers, of so many, stand in a list by first use: where one stands, each lower one stood before it, and
-- each of them stands there
pub record IsByFirstUse (count : ℕ) (numbers : List ℕ) : Type 0 where
  pub in_order : (place lower : ℕ) → lower < slice_index numbers place → Contains (take place numbers) lower
  pub used : (number : ℕ) → number < count → Contains numbers number
