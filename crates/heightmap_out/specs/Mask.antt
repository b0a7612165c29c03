-- Which children a tile has (heightmap-1.0, child tile mask: bit 0 is the south-west child, bit 1 the south-east, bit 2
-- the north-west, bit 3 the north-east).
use Rattle.std.specs.Prelude.{ℕ, ◌+◌, ◌*◌, List, if◌then◌else◌}
use Rattle.terrain_base.specs.declared.summary.Summary.{Summary}
use Rattle.terrain_base.specs.declared.tile.TileId.{TileId}
use Rattle.availability.specs.Existence.{exists_at}

-- the bit, where the tile of this level, row and column exists
abbrev pub bit_of : ℕ → List Summary → ℕ → ℕ → ℕ → ℕ → ℕ
bit_of cap cells z row column bit = if exists_at cap cells z row column then bit else 0

-- rows count from the south and columns from the west, and below the deepest level there is no tile
unfoldable pub mask_of : ℕ → List Summary → TileId → ℕ
mask_of cap cells tile =
    bit_of cap cells (tile.z + 1) (2 * tile.y) (2 * tile.x) 1 +
    bit_of cap cells (tile.z + 1) (2 * tile.y) (2 * tile.x + 1) 2 +
    bit_of cap cells (tile.z + 1) (2 * tile.y + 1) (2 * tile.x) 4 +
    bit_of cap cells (tile.z + 1) (2 * tile.y + 1) (2 * tile.x + 1) 8
