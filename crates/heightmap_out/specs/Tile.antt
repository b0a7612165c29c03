-- A tile as a heightmap: the samples, the child tile mask, and the water mask, which is one byte for a tile that is all
-- land or all water (heightmap-1.0).
use Rattle.std.specs.Prelude.{ℕ, ◌/◌, ◌%◌, List, [], ◌∷◌, ◌++◌, flat_map}
use Rattle.terrain_base.specs.declared.params.Params.{Params}
use Rattle.terrain_base.specs.declared.tile.TileId.{TileId}
use Rattle.cell_mosaic.specs.Cells.{Cells}
use Rattle.cell_mosaic.specs.Summaries.{summaries_of}
use Rattle.heightmap_out.specs.Sample.{samples_of}
use Rattle.heightmap_out.specs.Mask.{mask_of}

-- the two bytes of a sample, the lower one first
abbrev pub bytes_of : ℕ → List ℕ
bytes_of number = (number % 256) ∷ (number / 256 % 256) ∷ []

-- the byte of a tile that is all land
abbrev pub land : ℕ
land = 0

unfoldable pub heightmap_text : List ℕ → ℕ → List ℕ
heightmap_text samples mask = flat_map bytes_of samples ++ mask ∷ land ∷ []

-- the tile over these cells
unfoldable pub heightmap_of : Params → Cells → TileId → List ℕ
heightmap_of params cells tile =
    heightmap_text (samples_of params.fill cells tile) (mask_of params.cap (summaries_of cells) tile)
