-- What is promised of the two files of a tile.
use Rattle.std.specs.Prelude.{◌≡◌, ℕ, ◌+◌, ◌*◌, ◌^◌, ◌≤◌, ℤ, pos, ◌-ℤ◌, ◌*ℤ◌, ◌≤ℤ◌, unsigned_abs}
use Rattle.std.specs.Prelude.{List, map, length, All, Option, Some, IfSome}
use Rattle.std.specs.List.{AllZip}
use Rattle.terrain_base.specs.declared.tile.TileId.{TileId}
use Rattle.terrain_base.specs.Grid.{line_position, tolerance_of}
use Rattle.tms_tree.specs.declared.place.Place.{Place}
use Rattle.tms_tree.specs.Place.{place_of}
use Rattle.cell_mosaic.specs.Cells.{Cells}
use Rattle.resample.specs.Height.{height_at}
use Rattle.float_bits.specs.Binary64.{IsBits64}
use Rattle.mesh_plane.specs.declared.corner.Tri.{Tri}
use Rattle.mesh_plane.specs.Cover.{Covers}
use Rattle.mesh_plane.specs.Surface.{Surface}
use Rattle.mesh_codec.specs.declared.codes.Codes.{Codes}
use Rattle.mesh_codec.specs.declared.header.Header.{Header}
use Rattle.mesh_codec.specs.Mesh.{Mesh}
use Rattle.ecef_boxes.specs.declared.ecef_box.EcefBox.{EcefBox}
use Rattle.ecef_boxes.specs.Box.{box_of}
use Rattle.bound_spheres.specs.declared.sphere.Sphere.{Sphere}
use Rattle.bound_spheres.specs.Sphere.{IsReached}
use Rattle.bound_spheres.specs.Horizon.{IsHidden}
use Rattle.post_bound.specs.Bound.{KeepsBound}
use Rattle.tile_rule.specs.Seen.{Vertex, IsSeen, triangles_of}
use Rattle.tile_rule.specs.Tile.{centre_of, horizon_point, note_text}

-- the bytes have this sight, and no other
pub record IsOnlySight (bytes : List ℕ) (header : Header) (mesh : Mesh) (vertices : List Vertex) : Type 0 where
  pub seen : IsSeen bytes header mesh vertices
  pub only : (other : Header) (other_mesh : Mesh) (others : List Vertex) → IsSeen bytes other other_mesh others
      → (other ≡ header) × (other_mesh ≡ mesh) × (others ≡ vertices)

-- at each grid point the surface is within the level's tolerance of the height
pub record KeepsHeights (fill : ℤ) (cells : Cells) (tile : TileId) (ts : List Tri) : Type 0 where
  pub near : (i j : ℕ) → i ≤ 66 → j ≤ 66 → (over under : ℤ)
      → Surface ts (pos 1) (pos (line_position i)) (pos (line_position j)) over under
      → pos (unsigned_abs (over -ℤ height_at fill cells (place_of tile i j) *ℤ under))
      ≤ℤ (pos (tolerance_of tile.z) *ℤ under)

-- where a vertex lies: the tile's corner and its u and v
abbrev pub place_at : TileId → Codes → Place
place_at tile codes = record { p = tile.x * 32767 + codes.u; q = tile.y * 32767 + codes.v; d = 2 ^ tile.z * 32767 }

abbrev pub boxes_of : TileId → List Vertex → List EcefBox
boxes_of tile vertices = map (λ vertex. box_of (place_at tile vertex.codes) vertex.metres) vertices

-- the patterns are those of the numbers in units of 1/2^shift
abbrev pub ArePatterns : ℕ → List ℤ → List ℕ → Type 0
ArePatterns shift numbers bits = AllZip (λ n b. IsBits64 n shift b) numbers bits

-- the header's sphere, in whole numbers of 2^-8 m, reaches every corner of the box of each vertex
pub record HasSphere (header : Header) (sphere : Sphere) (boxes : List EcefBox) : Type 0 where
  pub centre : ArePatterns 8 (centre_of sphere) header.sphere_centre
  pub radius : IsBits64 sphere.radius 8 header.radius
  pub reaches : All (IsReached sphere sphere.radius) boxes

-- the header's horizon point is this multiple of the scaled centre, and hides every corner of the scaled boxes
pub record HasHorizon (header : Header) (sphere : Sphere) (boxes : List EcefBox) (m : ℕ) : Type 0 where
  pub point : ArePatterns 28 (horizon_point (Some m) sphere) header.horizon
  pub hidden : IsHidden m sphere boxes

-- Both files are well made, whatever the cells are: the terrain is seen in one way; the note says how many vertices and
-- triangles it has; with metres as heights the triangles cover the tile once; the sphere goes round the vertices; and a
-- horizon that the note names is certified.
pub record IsWellMade (tile : TileId) (terrain note : List ℕ) : Type 0 where
  pub header : Header
  pub mesh : Mesh
  pub vertices : List Vertex
  pub sphere : Sphere
  pub bound : ℕ
  pub horizon : Option ℕ
  pub sight : IsOnlySight terrain header mesh vertices
  pub says : note ≡ note_text bound tile.z (length mesh.vertices) (length mesh.triangles) horizon
  pub covers : Covers (triangles_of mesh vertices)
  pub round : HasSphere header sphere (boxes_of tile vertices)
  pub horizon_is : IfSome horizon (HasHorizon header sphere (boxes_of tile vertices))

-- Both files are good: well made, and the surface that is seen keeps the heights of the cells and the note's bound.
pub record IsGoodTile (fill : ℤ) (cells : Cells) (tile : TileId) (terrain note : List ℕ) : Type 0 where
  pub made : IsWellMade tile terrain note
  pub tolerance : KeepsHeights fill cells tile (triangles_of made.mesh made.vertices)
  pub posts : KeepsBound cells tile (triangles_of made.mesh made.vertices) made.bound
