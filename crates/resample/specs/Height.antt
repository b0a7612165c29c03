-- The height at a place, and the heights of a tile's grid points.
use Rattle.std.specs.Prelude.{◌≡◌, ℕ, ◌<◌, ◌/◌, ◌%◌, ℤ, pos, not, List, map, Option, Some, None, slice_index_or}
use Rattle.std.specs.List.{filter, find, range_with_len}
use Rattle.terrain_base.specs.declared.tile.TileId.{TileId}
use Rattle.terrain_base.specs.declared.post.Post.{Post}
use Rattle.terrain_base.specs.declared.post.Post.TheVariants.{Void, Metres}
use Rattle.tms_tree.specs.declared.place.Place.{Place}
use Rattle.tms_tree.specs.Place.{place_of}
use Rattle.dted_cell.specs.Cell.{is_void_post}
use Rattle.cell_mosaic.specs.Cells.{Cells, has_cell}
use Rattle.cell_mosaic.specs.Candidates.{candidates_of}
use Rattle.cell_mosaic.specs.Value.{value_at}

abbrev pub height_or : ℤ → Option Post → ℤ
height_or fill None = fill
height_or fill (Some Void) = fill
height_or fill (Some (Metres metres)) = metres

-- the first that is not void, or the fill
abbrev pub first_height : ℤ → List Post → ℤ
first_height fill posts = height_or fill (find (λ post. not (is_void_post post)) posts)

-- the first value that is not void, in the order of the candidates, of those that have a cell; or the fill
unfoldable pub height_at : ℤ → Cells → Place → ℤ
height_at fill cells place =
    first_height fill (map (λ square. value_at cells square place) (filter (has_cell cells) (candidates_of place)))

-- the height at the tile's grid point of this number, counted row by row from the south, each row from the west
abbrev pub height_of : ℤ → Cells → TileId → ℕ → ℤ
height_of fill cells tile k = height_at fill cells (place_of tile (k % 67) (k / 67))

-- the heights at the tile's grid points, in this order
unfoldable pub grid_of : ℤ → Cells → TileId → List ℤ
grid_of fill cells tile = map (height_of fill cells tile) (range_with_len 0 4489)

-- so many first points of the grid have their heights
abbrev pub HasFirst : ℤ → Cells → TileId → List ℤ → ℕ → Type 0
HasFirst fill cells tile grid k = (n : ℕ) → n < k → slice_index_or grid n (pos 0) ≡ height_of fill cells tile n
