-- The two files of a tile, as a function of params, cells and tile.
use Rattle.std.specs.Prelude.{ℕ, ◌*◌, ℤ, pos, ◌+ℤ◌, ◌-ℤ◌, ◌*ℤ◌, codes, decimal}
use Rattle.std.specs.Prelude.{List, [], ◌∷◌, ◌++◌, length, map, Option, Some, None}
use Rattle.terrain_base.specs.declared.params.Params.{Params}
use Rattle.terrain_base.specs.declared.tile.TileId.{TileId}
use Rattle.terrain_base.specs.Grid.{line_position, tolerance_of}
use Rattle.tms_tree.specs.Place.{place_of}
use Rattle.cell_mosaic.specs.Cells.{Cells}
use Rattle.resample.specs.Height.{grid_of}
use Rattle.tile_mesh.specs.declared.point.MeshPoint.{MeshPoint}
use Rattle.tile_mesh.specs.Mesh as mesh
use Rattle.float_bits.specs.Binary32.{bits32_of}
use Rattle.float_bits.specs.Binary64.{bits64_of}
use Rattle.post_bound.specs.Rule.{bound_of}
use Rattle.post_bound.specs.Span.{least_metres, most_metres}
use Rattle.height_lattice.specs.declared.height_frame.HeightFrame.{HeightFrame}
use Rattle.height_lattice.specs.HeightCode.{code_of}
use Rattle.height_lattice.specs.HeightFrame.{frame_of}
use Rattle.ecef_boxes.specs.declared.ecef_box.EcefBox.{EcefBox}
use Rattle.ecef_boxes.specs.Box.{box_of}
use Rattle.bound_spheres.specs.declared.sphere.Sphere.{Sphere}
use Rattle.bound_spheres.specs.Sphere.{sphere_of}
use Rattle.bound_spheres.specs.FarPoint.{far_point_of}
use Rattle.mesh_codec.specs.declared.codes.Codes.{Codes}
use Rattle.mesh_codec.specs.declared.header.Header.{Header}
use Rattle.mesh_codec.specs.Mesh as coded
use Rattle.mesh_codec.specs.Text.{tile_text}
use Rattle.bound_spheres.specs.Horizon.{scaled_centre, horizon_of}

-- ---- the mesh by its codes

-- the mesh rule over the heights of the tile's grid points
unfoldable pub mesh_of_tile : Params → Cells → TileId → mesh.Mesh
mesh_of_tile params cells tile = mesh.mesh_of_grid (grid_of params.fill cells tile) tile.z

unfoldable pub frame_in : mesh.Mesh → HeightFrame
frame_in m = frame_of (least_metres m.points) (most_metres m.points)

-- a vertex by its codes
abbrev pub codes_of : HeightFrame → MeshPoint → Codes
codes_of frame p = record { u = line_position p.i; v = line_position p.j; height = code_of frame p.metres }

abbrev pub coded_by : HeightFrame → mesh.Mesh → coded.Mesh
coded_by frame m = record {
  vertices = map (codes_of frame) m.points;
  triangles = m.triangles;
  west = m.west;
  south = m.south;
  east = m.east;
  north = m.north;
}

-- the mesh by its codes
unfoldable pub coded_mesh : mesh.Mesh → coded.Mesh
coded_mesh m = coded_by (frame_in m) m

-- ---- the header

-- the boxes of the vertices
abbrev pub vertex_box : TileId → MeshPoint → EcefBox
vertex_box tile p = box_of (place_of tile p.i p.j) p.metres

abbrev pub boxes_in : TileId → mesh.Mesh → List EcefBox
boxes_in tile m = map (vertex_box tile) m.points

-- their sphere, and the certified multiple of its scaled centre, if there is one
unfoldable pub sphere_in : TileId → mesh.Mesh → Sphere
sphere_in tile m = sphere_of (boxes_in tile m)

unfoldable pub horizon_in : TileId → mesh.Mesh → Option ℕ
horizon_in tile m = horizon_of (sphere_in tile m) (boxes_in tile m)

-- the horizon point in units of 2^-28 of the axes: four times the multiple of the scaled centre, else the far point
abbrev pub horizon_point : Option ℕ → Sphere → List ℤ
horizon_point None sphere = far_point_of sphere
horizon_point (Some m) sphere =
    let c = scaled_centre sphere in
    (pos (4 * m) *ℤ c.x) ∷ (pos (4 * m) *ℤ c.y) ∷ (pos (4 * m) *ℤ c.z) ∷ []

-- a point's coordinates as patterns, in units of 1/2^shift
abbrev pub patterns : ℕ → List ℤ → List ℕ
patterns shift point = map (λ n. bits64_of n shift) point

abbrev pub centre_of : Sphere → List ℤ
centre_of sphere = sphere.x ∷ sphere.y ∷ sphere.z ∷ []

-- the header over a frame, a sphere and a horizon point
abbrev pub header_of : HeightFrame → Sphere → List ℤ → Header
header_of frame sphere horizon = record {
  centre = patterns 8 (centre_of sphere);
  least = bits32_of frame.base;
  greatest = bits32_of (frame.base +ℤ pos frame.range);
  sphere_centre = patterns 8 (centre_of sphere);
  radius = bits64_of sphere.radius 8;
  horizon = patterns 28 horizon;
}

unfoldable pub header_in : TileId → mesh.Mesh → Header
header_in tile m = header_of (frame_in m) (sphere_in tile m) (horizon_point (horizon_in tile m) (sphere_in tile m))

-- ---- the files

-- the terrain file of a mesh: the one spelling of its header and its codes
unfoldable pub terrain_in : TileId → mesh.Mesh → List ℕ
terrain_in tile m = tile_text (header_in tile m) (coded_mesh m)

abbrev pub terrain_of : Params → Cells → TileId → List ℕ
terrain_of params cells tile = terrain_in tile (mesh_of_tile params cells tile)

abbrev pub multiple_or_none : Option ℕ → List ℕ
multiple_or_none None = codes "none"
multiple_or_none (Some m) = decimal m

-- the note: `bound B tolerance T vertices V triangles W horizon M` and a line feed
unfoldable pub note_text : (bound level vertices triangles : ℕ) (horizon : Option ℕ) → List ℕ
note_text bound level vertices triangles horizon =
    codes "bound " ++ (decimal bound
    ++ (codes " tolerance " ++ (decimal (tolerance_of level)
    ++ (codes " vertices " ++ (decimal vertices
    ++ (codes " triangles " ++ (decimal triangles
    ++ (codes " horizon " ++ (multiple_or_none horizon ++ codes "\n")))))))))

-- the note of a mesh with this bound
unfoldable pub note_in : ℕ → TileId → mesh.Mesh → List ℕ
note_in bound tile m = note_text bound tile.z (length m.points) (length m.triangles) (horizon_in tile m)

-- the note of a tile
abbrev pub note_of : Params → Cells → TileId → List ℕ
note_of params cells tile =
    let m = mesh_of_tile params cells tile in note_in (bound_of cells tile m) tile m

-- ---- both

pub record Contents : Type 0 where
  pub terrain : List ℕ
  pub note : List ℕ

-- the files of a mesh with this bound
abbrev pub contents_in : ℕ → TileId → mesh.Mesh → Contents
contents_in bound tile m = record { terrain = terrain_in tile m; note = note_in bound tile m }

-- the files of a tile
abbrev pub contents_of : Params → Cells → TileId → Contents
contents_of params cells tile = record { terrain = terrain_of params cells tile; note = note_of params cells tile }
