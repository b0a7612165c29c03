-- The laws of a tile's two files, for all params, cells and tiles.
use Rattle.std.proofs.Common.{◌≡◌, ℕ, arith, sym, ap, ◌∙◌}
use Rattle.terrain_base.specs.declared.params.Params.{Params}
use Rattle.terrain_base.specs.declared.tile.TileId.{TileId}
use Rattle.terrain_base.specs.Grid.{IsGrid}
use Rattle.tms_tree.specs.Neighbour.{IsEastOf, IsNorthOf}
use Rattle.tms_tree.specs.Place.{SamePlace, place_of}
use Rattle.tms_tree.proofs.Places.{place_fits}
use Rattle.cell_mosaic.specs.Cells.{Cells, AreSound}
use Rattle.resample.specs.Height.{grid_of, height_at}
use Rattle.resample.proofs.Grids.{grid_has_heights}
use Rattle.resample.proofs.Local.{grid_local}
use Rattle.resample.proofs.Ranges.{grid_is}
use Rattle.resample.proofs.Turns.{turn_changes_nothing}
use Rattle.tile_mesh.specs.Mesh.{mesh_of_grid}
use Rattle.post_bound.specs.Laws.{AgreeNear, BoundIsLocalLaw, BoundKeepsLaw}
use Rattle.post_bound.specs.Rule.{bound_of}
use Rattle.tile_rule.specs.Laws.{GoodLaw, EastLaw, NorthLaw, TerrainIsLocal, NoteIsLocal}
use Rattle.tile_rule.specs.Tile.{mesh_of_tile, terrain_in, note_in}
use Rattle.tile_rule.proofs.Good.{good}
use Rattle.tile_rule.proofs.Seams.{meet_east, meet_north}

grid_of_tile : (params : Params) (cells : Cells) (tile : TileId) → AreSound cells → IsGrid (grid_of params.fill cells tile)
grid_of_tile params cells tile sound = grid_is params.fill cells tile (record { above = params.fill_above; below = params.fill_below }) sound

pub good_law : BoundKeepsLaw → GoodLaw
unfolding mesh_of_tile
good_law keeps params cells tile sound =
    let grid = grid_of params.fill cells tile in
    let is = grid_of_tile params cells tile sound in
    good params.fill cells tile (bound_of cells tile (mesh_of_grid grid tile.z)) is (keeps cells tile grid sound is)

-- ---- neighbours
pub east_law : ((tile east : TileId) (j : ℕ) → IsEastOf tile east → SamePlace (place_of tile 66 j) (place_of east 0 j)) → EastLaw
unfolding mesh_of_tile
east_law shared params cells tile other sound is =
    meet_east tile other (grid_of params.fill cells tile) (grid_of params.fill cells other) is.level
    (grid_of_tile params cells tile sound) (grid_of_tile params cells other sound) (λ j h.
    grid_has_heights params.fill cells tile 66 j (omega arith) h
    ∙ turn_changes_nothing params.fill cells (place_of tile 66 j) (place_of other 0 j) (place_fits tile 66 j (omega arith) h) (place_fits other 0 j (omega arith) h) (shared tile other j is)
    ∙ sym (grid_has_heights params.fill cells other 0 j (omega arith) h))

pub north_law : ((tile north : TileId) (i : ℕ) → IsNorthOf tile north → place_of tile i 66 ≡ place_of north i 0) → NorthLaw
unfolding mesh_of_tile
north_law shared params cells tile other sound is =
    meet_north tile other (grid_of params.fill cells tile) (grid_of params.fill cells other) is.level
    (grid_of_tile params cells tile sound) (grid_of_tile params cells other sound) (λ i h.
    grid_has_heights params.fill cells tile i 66 h (omega arith)
    ∙ ap (height_at params.fill cells) (shared tile other i is)
    ∙ sym (grid_has_heights params.fill cells other i 0 h (omega arith)))

-- ---- locality
mesh_local : (params : Params) (cells others : Cells) (tile : TileId) → AgreeNear tile cells others → mesh_of_tile params cells tile ≡ mesh_of_tile params others tile
unfolding mesh_of_tile
mesh_local params cells others tile same = ap (λ grid. mesh_of_grid grid tile.z) (grid_local params.fill cells others tile same)

pub terrain_local : TerrainIsLocal
terrain_local params cells others tile same = ap (terrain_in tile) (mesh_local params cells others tile same)

pub note_local : BoundIsLocalLaw → NoteIsLocal
note_local local params cells others tile same =
    ap (λ m. note_in (bound_of cells tile m) tile m) (mesh_local params cells others tile same)
    ∙ ap (λ n. note_in n tile (mesh_of_tile params others tile)) (local cells others tile (mesh_of_tile params others tile) same)
