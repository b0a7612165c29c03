-- A mesh in the plane of the tile's u and v (quantized-mesh-1.0), with its heights.
use Rattle.std.specs.Prelude.{ℕ, ℤ, pos, List, map, slice_index_or}
use Rattle.mesh_plane.specs.declared.corner.Corner.{Corner}
use Rattle.mesh_plane.specs.declared.corner.Tri.{Tri}
use Rattle.terrain_base.specs.Grid.{line_position}
use Rattle.terrain_base.specs.declared.indexes.Indexes.{Indexes}
use Rattle.terrain_base.specs.declared.side.Side.{Side}
use Rattle.tile_mesh.specs.declared.point.MeshPoint.{MeshPoint}
use Rattle.tile_mesh.specs.Mesh.{Mesh, edge_of, vertex_at, kept_on}
use Rattle.tile_mesh.specs.Sides.{outer_at}

-- a vertex in the plane: u and v in tile units, the height in metres
abbrev pub point_corner : MeshPoint → Corner
point_corner p = record { u = pos (line_position p.i); v = pos (line_position p.j); h = p.metres }

-- the vertex of this number, where it is below their count
abbrev pub vertex : List MeshPoint → ℕ → MeshPoint
vertex points n = slice_index_or points n (record { i = 0; j = 0; metres = pos 0 })

-- the triangle of three vertices
abbrev pub triangle_of : List MeshPoint → Indexes → Tri
triangle_of points t = record {
  a = point_corner (vertex points t.a);
  b = point_corner (vertex points t.b);
  c = point_corner (vertex points t.c);
}

-- the triangles of a mesh
abbrev pub triangles_in : Mesh → List Tri
triangles_in mesh = map (triangle_of mesh.points) mesh.triangles

-- the vertices of an edge's list
abbrev pub edge_vertices : Mesh → Side → List MeshPoint
edge_vertices mesh side = map (vertex mesh.points) (edge_of mesh side)

-- the kept points of an edge, as vertices
abbrev pub kept_vertices : List ℤ → ℕ → Side → List MeshPoint
kept_vertices grid tol side = map (λ i. vertex_at grid (outer_at side i)) (kept_on grid tol side)
