-- The laws of the two files of a tile, for all params, cells and tiles.
use Rattle.std.specs.Prelude.{◌≡◌, ℕ, ℤ, List}
use Rattle.terrain_base.specs.declared.params.Params.{Params}
use Rattle.terrain_base.specs.declared.tile.TileId.{TileId}
use Rattle.terrain_base.specs.Grid.{IsGrid}
use Rattle.tms_tree.specs.Neighbour.{IsEastOf, IsNorthOf}
use Rattle.cell_mosaic.specs.Cells.{Cells, AreSound}
use Rattle.tile_mesh.specs.Mesh as mesh
use Rattle.post_bound.specs.Laws.{AgreeNear}
use Rattle.tile_rule.specs.GoodTile.{IsGoodTile, IsWellMade}
use Rattle.tile_rule.specs.Seams.{MeetEast, MeetNorth}
use Rattle.tile_rule.specs.Tile.{terrain_in, note_in, terrain_of, note_of}

-- the files of the mesh of each grid are well made, with whatever bound
abbrev pub WellMadeLaw : Type 0
WellMadeLaw = (tile : TileId) (grid : List ℤ) (bound : ℕ) → IsGrid grid
    → let m = mesh.mesh_of_grid grid tile.z in IsWellMade tile (terrain_in tile m) (note_in bound tile m)

-- the files of each tile are good
abbrev pub GoodLaw : Type 0
GoodLaw = (params : Params) (cells : Cells) (tile : TileId) → AreSound cells
    → IsGoodTile params.fill cells tile (terrain_of params cells tile) (note_of params cells tile)

-- each two neighbours meet, across the antimeridian too
abbrev pub EastLaw : Type 0
EastLaw = (params : Params) (cells : Cells) (tile other : TileId) → AreSound cells → IsEastOf tile other
    → MeetEast (terrain_of params cells tile) (terrain_of params cells other)

abbrev pub NorthLaw : Type 0
NorthLaw = (params : Params) (cells : Cells) (tile other : TileId) → AreSound cells → IsNorthOf tile other
    → MeetNorth (terrain_of params cells tile) (terrain_of params cells other)

-- the terrain depends on the cells alone that touch the tile
abbrev pub TerrainIsLocal : Type 0
TerrainIsLocal = (params : Params) (cells others : Cells) (tile : TileId) → AgreeNear tile cells others
    → terrain_of params cells tile ≡ terrain_of params others tile

-- and so does the note
abbrev pub NoteIsLocal : Type 0
NoteIsLocal = (params : Params) (cells others : Cells) (tile : TileId) → AgreeNear tile cells others
    → note_of params cells tile ≡ note_of params others tile
