-- Lists of triangles over corners of any kind: fans round a point, and strips between two lines.
use Rattle.std.specs.Prelude.{List, [], ◌∷◌}
use Rattle.terrain_base.specs.declared.side.Side.{Side}
use Rattle.terrain_base.specs.declared.side.Side.TheVariants.{West, South, East, North}
use Rattle.mesh_plane.specs.declared.corner.Corner.{Corner}
use Rattle.mesh_plane.specs.declared.corner.Tri.{Tri}

-- three corners in their order
pub record Triple (A : Type 0) : Type 0 where
  pub a : A
  pub b : A
  pub c : A

-- the triangle of three corners
abbrev pub tri_of : Triple Corner → Tri
tri_of t = record { a = t.a; b = t.b; c = t.c }

-- the triangles of c with each two neighbours on a ring, of which o is the first
abbrev pub fan : {A : Type 0} → A → A → List A → List (Triple A)
fan c o [] = []
fan c o (r ∷ rs) = record { a = c; b = o; c = r } ∷ fan c r rs

-- the next point of a strip lies on its outer line, or on its inner one
pub data Step (A : Type 0) : Type 0 where
  Outer : A → Step A
  Inner : A → Step A

-- the triangle of an outer point, an inner one and the next point after them, counter-clockwise where south
-- and
-- north strips run eastwards, and west and east ones northwards
abbrev pub cornered : {A : Type 0} → Side → A → A → A → Triple A
cornered South o n next = record { a = o; b = next; c = n }
cornered East o n next = record { a = o; b = next; c = n }
cornered North o n next = record { a = o; b = n; c = next }
cornered West o n next = record { a = o; b = n; c = next }

-- the triangles of a strip from the outer point o and the inner point n on
abbrev pub strip : {A : Type 0} → Side → A → A → List (Step A) → List (Triple A)
strip side o n [] = []
strip side o n (Outer x ∷ steps) = cornered side o n x ∷ strip side x n steps
strip side o n (Inner x ∷ steps) = cornered side o n x ∷ strip side o x steps

-- where the strip ends on its outer line, and on its inner one
abbrev pub outer_end : {A : Type 0} → A → List (Step A) → A
outer_end o [] = o
outer_end o (Outer x ∷ steps) = outer_end x steps
outer_end o (Inner x ∷ steps) = outer_end o steps

abbrev pub inner_end : {A : Type 0} → A → List (Step A) → A
inner_end n [] = n
inner_end n (Outer x ∷ steps) = inner_end n steps
inner_end n (Inner x ∷ steps) = inner_end x steps
