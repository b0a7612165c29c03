-- What is made of the mesh of a tile is what the tile's files are.
use Rattle.std.proofs.Common.{◌≡◌, ℕ, ℤ, List, Option, length, ap, ◌∙◌}
use Rattle.terrain_base.specs.declared.params.Params.{Params}
use Rattle.terrain_base.specs.declared.tile.TileId.{TileId}
use Rattle.cell_mosaic.specs.Cells.{Cells}
use Rattle.post_bound.specs.Rule.{bound_of}
use Rattle.resample.specs.Height.{grid_of}
use Rattle.tile_mesh.specs.Mesh.{Mesh, mesh_of_grid}
use Rattle.tile_rule.specs.Tile.{mesh_of_tile, horizon_in, terrain_in, terrain_of, note_in, note_of, note_text}

pub mesh_is : (params : Params) (told : Cells) (tile : TileId) (grid : List ℤ) (mesh : Mesh) → grid ≡ grid_of params.fill told tile
    → mesh ≡ mesh_of_grid grid tile.z → mesh ≡ mesh_of_tile params told tile
unfolding mesh_of_tile
mesh_is params told tile grid mesh heights made = made ∙ ap (λ g. mesh_of_grid g tile.z) heights

pub terrain_is : (params : Params) (told : Cells) (tile : TileId) (mesh : Mesh) (bytes : List ℕ) → mesh ≡ mesh_of_tile params told tile
    → bytes ≡ terrain_in tile mesh → bytes ≡ terrain_of params told tile
terrain_is params told tile mesh bytes is made = made ∙ ap (terrain_in tile) is

note_here : (tile : TileId) (mesh : Mesh) (note : List ℕ) (bound : ℕ) (horizon : Option ℕ) → horizon ≡ horizon_in tile mesh
    → note ≡ note_text bound tile.z (length mesh.points) (length mesh.triangles) horizon → note ≡ note_in bound tile mesh
unfolding note_in
note_here tile mesh note bound horizon multiple made = made ∙ ap (note_text bound tile.z (length mesh.points) (length mesh.triangles)) multiple

pub note_is : (params : Params) (told : Cells) (tile : TileId) (mesh : Mesh) (note : List ℕ) (bound : ℕ) (horizon : Option ℕ) → mesh ≡ mesh_of_tile params told tile
    → bound ≡ bound_of told tile mesh → horizon ≡ horizon_in tile mesh
    → note ≡ note_text bound tile.z (length mesh.points) (length mesh.triangles) horizon → note ≡ note_of params told tile
note_is params told tile mesh note bound horizon is far multiple made =
    note_here tile mesh note bound horizon multiple made ∙ ap (λ b. note_in b tile mesh) far
    ∙ ap (λ m. note_in (bound_of told tile m) tile m) is
