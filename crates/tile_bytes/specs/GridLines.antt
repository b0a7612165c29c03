-- The grid lines of a tile as meridians and parallels.
use Rattle.std.specs.Prelude.{ℕ, List, map}
use Rattle.std.specs.List.{range_with_len}
use Rattle.terrain_base.specs.declared.tile.TileId.{TileId}
use Rattle.tms_tree.specs.Place.{place_of}
use Rattle.ecef_boxes.specs.Lines.{meridian_of, parallel_of}
use Rattle.ecef_boxes.specs.declared.line.Meridian.{Meridian}
use Rattle.ecef_boxes.specs.declared.line.Parallel.{Parallel}

-- the meridian of a column, counted from the west
abbrev pub meridian_at : TileId → ℕ → Meridian
meridian_at tile i = meridian_of (place_of tile i 0).p (place_of tile i 0).d

-- the parallel of a row, counted from the south
abbrev pub parallel_at : TileId → ℕ → Parallel
parallel_at tile j = parallel_of (place_of tile 0 j).q (place_of tile 0 j).d

-- those of so many columns or rows
abbrev pub meridians_of : TileId → ℕ → List Meridian
meridians_of tile count = map (meridian_at tile) (range_with_len 0 count)

abbrev pub parallels_of : TileId → ℕ → List Parallel
parallels_of tile count = map (parallel_at tile) (range_with_len 0 count)
