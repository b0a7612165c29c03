-- What is known of bytes that were read, and of iterators over them.
use Rattle.std.specs.Prelude.{◌≡◌, ℕ, pos, ◌+◌, ◌*◌, ◌≤◌, List, length, None}
use Rattle.common_laws.specs.First.{first_of}
use Rattle.mesh_codec.specs.declared.codes.Codes.{Codes}
use Rattle.mesh_codec.specs.declared.refusal.Array.TheVariants.{U, V, Height}
use Rattle.mesh_codec.specs.Text.{index_width, index_data_at}
use Rattle.mesh_codec.specs.Difference.{sum_before}
use Rattle.mesh_codec.specs.HighWater.{mark_at}
use Rattle.mesh_codec.specs.Layout.{vertices_in, triangles_in, array_at}
use Rattle.mesh_codec.specs.Refusal.{tile_refusal_of, extension_conditions}

-- the bytes are a tile
pub record IsTile (bytes : List ℕ) : Type 0 where
  pub accepted : tile_refusal_of bytes ≡ None

-- an array is read up to a place, and this is the code before it
pub record IsReadTo (bytes : List ℕ) (at k code : ℕ) : Type 0 where
  pub sum : sum_before bytes at k ≡ pos code
  pub small : code ≤ 32767

-- the vertices of a tile are read up to a place, and these are the codes before it
pub record AreVerticesRead (bytes : List ℕ) (vertices k : ℕ) (before : Codes) : Type 0 where
  pub tile : IsTile bytes
  pub count : vertices ≡ vertices_in bytes
  pub within : k ≤ vertices
  pub u_read : IsReadTo bytes (array_at vertices U) k before.u
  pub v_read : IsReadTo bytes (array_at vertices V) k before.v
  pub height_read : IsReadTo bytes (array_at vertices Height) k before.height

-- the indexes are read up to a place, and this is the high water mark there
pub record IsMarkedTo (bytes : List ℕ) (vertices k mark : ℕ) : Type 0 where
  pub mark_is : mark_at (index_width vertices) bytes (index_data_at vertices + 4) k ≡ mark
  pub few : mark ≤ vertices

-- the triangles of a tile are read up to a place
pub record AreTrianglesRead (bytes : List ℕ) (vertices triangles k mark : ℕ) : Type 0 where
  pub tile : IsTile bytes
  pub vertex_count : vertices ≡ vertices_in bytes
  pub triangle_count : triangles ≡ triangles_in bytes
  pub within : k ≤ triangles
  pub marked : IsMarkedTo bytes vertices (3 * k) mark

-- an edge's list lies within the bytes, and is read up to a place
pub record IsListRead (bytes : List ℕ) (vertices at count k : ℕ) : Type 0 where
  pub fits : at + index_width vertices * count ≤ length bytes
  pub within : k ≤ count

-- the extensions from an offset on fit
pub record AreExtensions (bytes : List ℕ) (at : ℕ) : Type 0 where
  pub within : at ≤ length bytes
  pub fit : first_of (extension_conditions bytes at) ≡ None
