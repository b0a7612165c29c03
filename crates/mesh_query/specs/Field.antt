-- A mesh in metres that covers its tile.
use Rattle.std.specs.Prelude.{ℕ, pos, ◌<◌, ◌^◌, List, length, map, slice_index_or, All}
use Rattle.std.specs.List.{AllZip}
use Rattle.terrain_base.specs.declared.indexes.Indexes.{Indexes}
use Rattle.mesh_codec.specs.Mesh.{IsTriangle}
use Rattle.mesh_codec.specs.Tile.{header_in, vertex_list}
use Rattle.mesh_plane.specs.declared.corner.Corner.{Corner}
use Rattle.mesh_plane.specs.declared.corner.Tri.{Tri}
use Rattle.mesh_plane.specs.Plane.{IsOnTile}
use Rattle.mesh_plane.specs.Cover.{Covers}
use Rattle.mesh_query.specs.Metres.{IsCorner, IsLow}

-- the vertices in metres, and the triangles by their numbers
pub record MetreMesh : Type 0 where
  pub corners : List Corner
  pub indexes : List Indexes

-- the vertex of a number
abbrev pub corner_at : List Corner → ℕ → Corner
corner_at corners k = slice_index_or corners k (record { u = pos 0; v = pos 0; h = pos 0 })

-- a triangle by its corners
abbrev pub tri_at : List Corner → Indexes → Tri
tri_at corners t = record { a = corner_at corners t.a; b = corner_at corners t.b; c = corner_at corners t.c }

-- the triangles in metres
abbrev pub triangles_of : MetreMesh → List Tri
triangles_of mesh = map (tri_at mesh.corners) mesh.indexes

-- what each field keeps: its corners lie on the tile and within 65535 metres, and its triangles cover the tile once
pub record IsMetreMesh (mesh : MetreMesh) : Type 0 where
  pub on_tile : All IsOnTile mesh.corners
  pub low : All IsLow mesh.corners
  pub few : length mesh.corners < 2 ^ 32
  pub few_triangles : length mesh.indexes < 2 ^ 32
  pub numbers : All (IsTriangle (length mesh.corners)) mesh.indexes
  pub covers : Covers (triangles_of mesh)

-- each vertex is one of the codes, in metres, at its place
abbrev pub AreCorners : List ℕ → List Corner → Type 0
AreCorners bytes corners = AllZip (IsCorner (header_in bytes)) (vertex_list bytes) corners
