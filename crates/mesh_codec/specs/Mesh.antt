-- A mesh of codes: the vertices, triangles and edge lists of a tile (quantized-mesh-1.0, vertex data, index
-- data and edge indices).
use Rattle.std.specs.Prelude.{◌≢◌, ℕ, ◌^◌, ◌<◌, ◌≤◌, List, [], ◌∷◌, ◌++◌, length, All}
use Rattle.terrain_base.specs.declared.indexes.Indexes.{Indexes}
use Rattle.terrain_base.specs.FirstUse.{IsByFirstUse, corners}
use Rattle.mesh_codec.specs.declared.codes.Codes.{Codes}
use Rattle.mesh_codec.specs.declared.refusal.Array.{Array}
use Rattle.mesh_codec.specs.declared.refusal.Array.TheVariants.{U, V, Height}
use Rattle.terrain_base.specs.declared.side.Side.{Side}
use Rattle.terrain_base.specs.declared.side.Side.TheVariants.{West, South, East, North}

-- the vertices by number, the triangles by their vertices, and the vertices along each edge of the tile
pub record Mesh : Type 0 where
  pub vertices : List Codes
  pub triangles : List Indexes
  pub west : List ℕ
  pub south : List ℕ
  pub east : List ℕ
  pub north : List ℕ

abbrev pub empty_mesh : Mesh
empty_mesh = record { vertices = []; triangles = []; west = []; south = []; east = []; north = [] }

-- the vertices along an edge
abbrev pub edge_of : Mesh → Side → List ℕ
edge_of mesh West = mesh.west
edge_of mesh South = mesh.south
edge_of mesh East = mesh.east
edge_of mesh North = mesh.north

-- the mesh with another list along an edge
abbrev pub with_list : Mesh → Side → List ℕ → Mesh
with_list mesh West list = record mesh { west = list }
with_list mesh South list = record mesh { south = list }
with_list mesh East list = record mesh { east = list }
with_list mesh North list = record mesh { north = list }

-- the mesh with one vertex more along an edge
abbrev pub with_edge : Mesh → Side → ℕ → Mesh
with_edge mesh edge vertex = with_list mesh edge (edge_of mesh edge ++ vertex ∷ [])

-- codes from 0 to 32767
pub record IsVertex (codes : Codes) : Type 0 where
  pub u : codes.u ≤ 32767
  pub v : codes.v ≤ 32767
  pub height : codes.height ≤ 32767

-- the corners are vertices, of so many
pub record IsTriangle (vertices : ℕ) (triangle : Indexes) : Type 0 where
  pub a : triangle.a < vertices
  pub b : triangle.b < vertices
  pub c : triangle.c < vertices

-- a list of vertices, of so many, that a count of four bytes can count
pub record IsEdge (vertices : ℕ) (list : List ℕ) : Type 0 where
  pub each : All (λ vertex. vertex < vertices) list
  pub few : length list < 2 ^ 32

-- a vertex's code in an array
abbrev pub coordinate : Array → Codes → ℕ
coordinate U codes = codes.u
coordinate V codes = codes.v
coordinate Height codes = codes.height

-- what each mesh of codes keeps
pub record IsMesh (mesh : Mesh) : Type 0 where
  pub vertices : All IsVertex mesh.vertices
  pub few_vertices : length mesh.vertices < 2 ^ 32
  pub triangles : All (IsTriangle (length mesh.vertices)) mesh.triangles
  pub few_triangles : length mesh.triangles < 2 ^ 32
  pub west : IsEdge (length mesh.vertices) mesh.west
  pub south : IsEdge (length mesh.vertices) mesh.south
  pub east : IsEdge (length mesh.vertices) mesh.east
  pub north : IsEdge (length mesh.vertices) mesh.north

-- The vertices are numbered by first use in the triangles, and each is used. There are not exactly 65536 of
-- them: a code of two bytes could then not reach from the high water mark 65536 back to vertex 0.
pub record IsEncodable (mesh : Mesh) : Type 0 where
  pub numbered : IsByFirstUse (length mesh.vertices) (corners mesh.triangles)
  pub reaches_back : length mesh.vertices ≢ 65536
