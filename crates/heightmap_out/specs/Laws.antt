-- What heightmaps come to.
use Rattle.std.specs.Prelude.{◌≡◌, ℕ, ℤ, pos, negsuc, ◌+ℤ◌, ◌*ℤ◌, ◌≤◌, ◌≤ℤ◌, true}
use Rattle.terrain_base.specs.declared.params.Params.{Params}
use Rattle.terrain_base.specs.declared.tile.TileId.{TileId}
use Rattle.cell_mosaic.specs.Cells.{Cells}
use Rattle.cell_mosaic.specs.Summaries.{summaries_of}
use Rattle.heightmap_out.specs.Sample.{number_of, sample_of}
use Rattle.heightmap_out.specs.Mask.{mask_of}
use Rattle.heightmap_out.specs.Tile.{heightmap_of}
use Rattle.heightmap_out.specs.View.{has_tile_length, sample_in, mask_in}

-- a tile reads back: it has the length of one, and its samples and its mask are those that it was made of
pub record ReadsBack (params : Params) (cells : Cells) (tile : TileId) : Type 0 where
  pub long : has_tile_length (heightmap_of params cells tile) ≡ true
  pub samples : (line place : ℕ) → line ≤ 64 → place ≤ 64 →
      sample_in (heightmap_of params cells tile) line place ≡ sample_of params.fill cells tile line place
  pub mask : mask_in (heightmap_of params cells tile) ≡ mask_of params.cap (summaries_of cells) tile

-- a number of samples stands for a height: n / 5 - 1000 metres; below -1000 metres it is the least, above 12107 the
-- greatest
pub record StandsForHeights : Type 0 where
  pub within : (metres : ℤ) → negsuc 999 ≤ℤ metres → metres ≤ℤ pos 12107 →
      pos (number_of metres) ≡ pos 5 *ℤ (metres +ℤ pos 1000)
  pub below : (metres : ℤ) → metres ≤ℤ negsuc 999 → number_of metres ≡ 0
  pub above : (metres : ℤ) → pos 12107 ≤ℤ metres → number_of metres ≡ 65535
