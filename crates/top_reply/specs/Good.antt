-- The good geometry of a database.
use Rattle.std.specs.Prelude.{◌≡◌, true, List, ℕ, Some}
use Rattle.std.specs.FinMap.{get}
use Rattle.terrain_base.specs.declared.name.Key.TheVariants.{Terrain, Note}
use Rattle.terrain_base.specs.declared.tile.TileId.{TileId}
use Rattle.terrain_base.specs.Step.{Files}
use Rattle.tms_tree.specs.Neighbour.{IsEastOf, IsNorthOf}
use Rattle.tile_rule.specs.GoodTile.{IsGoodTile}
use Rattle.tile_rule.specs.Seams.{MeetEast, MeetNorth}
use Rattle.database.specs.State.{State, tile_exists}

-- the files of a tile are held, and they are good: its triangles cover it once, keep the level's tolerance at the grid
-- points and the printed bound at the posts, and its sphere reaches every vertex's box
pub record HoldsGoodTile (s : State) (files : Files) (tile : TileId) : Type 0 where
  pub terrain : List ℕ
  pub note : List ℕ
  pub terrain_is : get files (Terrain tile) ≡ Some terrain
  pub note_is : get files (Note tile) ≡ Some note
  pub good : IsGoodTile s.params.fill s.cells tile terrain note

-- each tile that exists is good, and each two that are held side by side equal each other along the edge they share
pub record IsGoodDatabase (s : State) (files : Files) : Type 0 where
  pub tiles : (tile : TileId) → tile_exists s tile ≡ true → HoldsGoodTile s files tile
  pub east : (tile other : TileId) (terrain terrain' : List ℕ) → IsEastOf tile other
      → get files (Terrain tile) ≡ Some terrain → get files (Terrain other) ≡ Some terrain' → MeetEast terrain terrain'
  pub north : (tile other : TileId) (terrain terrain' : List ℕ) → IsNorthOf tile other
      → get files (Terrain tile) ≡ Some terrain → get files (Terrain other) ≡ Some terrain' → MeetNorth terrain terrain'
