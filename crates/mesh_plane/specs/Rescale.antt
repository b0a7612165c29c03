-- The same triangles with heights in another unit.
use Rattle.std.specs.Prelude.{◌≡◌, ℕ, ℤ, pos, ◌+ℤ◌, ◌*ℤ◌, ◌≤ℤ◌, List, map}
use Rattle.mesh_plane.specs.declared.corner.Corner.{Corner}
use Rattle.mesh_plane.specs.declared.corner.Tri.{Tri}
use Rattle.mesh_plane.specs.Plane.{Point}
use Rattle.mesh_plane.specs.Cover.{Covers}
use Rattle.mesh_plane.specs.Triangles.{Triple}

-- the vertex of a number, by the places and the heights of all vertices
abbrev pub vertex_by : (ℕ → Point) → (ℕ → ℤ) → ℕ → Corner
vertex_by at z i = record { u = (at i).u; v = (at i).v; h = z i }

abbrev pub tri_by : (ℕ → Point) → (ℕ → ℤ) → Triple ℕ → Tri
tri_by at z t = record { a = vertex_by at z t.a; b = vertex_by at z t.b; c = vertex_by at z t.c }

-- where n times each new height is k and m times the old one, triangles that cover the tile still do
abbrev pub RescaleLaw : Type 0
RescaleLaw = (at : ℕ → Point) (z w : ℕ → ℤ) (n k m : ℤ) (ts : List (Triple ℕ)) → pos 1 ≤ℤ n
    → ((i : ℕ) → n *ℤ w i ≡ k +ℤ m *ℤ z i)
    → Covers (map (tri_by at z) ts) → Covers (map (tri_by at w) ts)
