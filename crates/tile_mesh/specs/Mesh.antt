-- The mesh of triangles over grid points.
use Rattle.std.specs.Prelude.{◌≡◌, ℕ, ℤ, List, [], map, filter_map, position}
use Rattle.std.specs.List.{range_with_len}
use Rattle.terrain_base.specs.Grid.{IsGrid, height_in, tolerance_of}
use Rattle.terrain_base.specs.declared.indexes.Indexes.{Indexes}
use Rattle.mesh_plane.specs.Triangles.{Triple}
use Rattle.edge_decimate.specs.KeptPoints.{kept_points}
use Rattle.quad_split.specs.Split.{is_split}
use Rattle.terrain_base.specs.declared.side.Side.{Side}
use Rattle.terrain_base.specs.declared.side.Side.TheVariants.{West, South, East, North}
use Rattle.tile_mesh.specs.declared.point.GridPoint.{GridPoint}
use Rattle.tile_mesh.specs.declared.point.MeshPoint.{MeshPoint}
use Rattle.tile_mesh.specs.Sides.{outer_at}
use Rattle.tile_mesh.specs.Rule.{triangles_of}
use Rattle.tile_mesh.specs.Numbers.{point_eq, first_uses, corners, numbered}

-- the vertices, the triangles by their vertices' numbers, and the numbers of the vertices on each edge
-- (quantized-mesh-1.0, VertexData, IndexData and EdgeIndices)
pub record Mesh : Type 0 where
  pub points : List MeshPoint
  pub triangles : List Indexes
  pub west : List ℕ
  pub south : List ℕ
  pub east : List ℕ
  pub north : List ℕ

abbrev pub edge_of : Mesh → Side → List ℕ
edge_of mesh West = mesh.west
edge_of mesh South = mesh.south
edge_of mesh East = mesh.east
edge_of mesh North = mesh.north

-- the vertex at a grid point
abbrev pub vertex_at : List ℤ → GridPoint → MeshPoint
vertex_at grid p = record { i = p.i; j = p.j; metres = height_in grid p.i p.j }

-- the grid points of an edge, by ascending u or v
unfoldable pub edge_points : Side → List GridPoint
edge_points side = map (outer_at side) (range_with_len 0 67)

-- the heights along an edge
unfoldable pub edge_heights : List ℤ → Side → List ℤ
edge_heights grid side = map (λ i. (vertex_at grid (outer_at side i)).metres) (range_with_len 0 67)

-- the numbers of its grid points that are vertices
abbrev pub edge_numbers : List GridPoint → Side → List ℕ
edge_numbers points side = filter_map (λ p. position (point_eq p) points) (edge_points side)

-- the mesh of these triangles over these points of a grid
abbrev pub mesh_on : List ℤ → List GridPoint → List Indexes → Mesh
mesh_on grid points triangles = record {
  points = map (vertex_at grid) points;
  triangles = triangles;
  west = edge_numbers points West;
  south = edge_numbers points South;
  east = edge_numbers points East;
  north = edge_numbers points North;
}

-- the mesh of triangles over a grid: the points in order of first use
abbrev pub mesh_from : List ℤ → List (Triple GridPoint) → Mesh
mesh_from grid ts =
    let points = first_uses [] (corners ts) in mesh_on grid points (map (numbered points) ts)

-- the kept points of an edge, by their index along it
abbrev pub kept_on : List ℤ → ℕ → Side → List ℕ
kept_on grid tol side = kept_points (edge_heights grid side) tol

-- the mesh of a grid at a level
unfoldable pub mesh_of_grid : List ℤ → ℕ → Mesh
mesh_of_grid grid z =
    let tol = tolerance_of z in mesh_from grid (triangles_of (is_split grid tol) (kept_on grid tol))

-- the mesh is that of some grid with heights in range, at this level
pub record IsMeshAt (z : ℕ) (m : Mesh) : Type 0 where
  pub grid : List ℤ
  pub in_range : IsGrid grid
  pub mesh : m ≡ mesh_of_grid grid z
