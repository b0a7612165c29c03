-- The squares of a list of cells.
use Rattle.std.specs.Prelude.{◌==◌, Bool, ◌&&◌, List, map}
use Rattle.std.specs.List.{dedup, filter}
use Rattle.terrain_base.specs.declared.square.Square.{Square}
use Rattle.terrain_base.specs.declared.summary.Summary.{Summary}
use Rattle.terrain_base.specs.declared.tile.TileId.{TileId}
use Rattle.tms_tree.specs.Touch.{touches_of}

abbrev pub same_square : Square → Square → Bool
same_square a b = (a.lat == b.lat) && (a.lon == b.lon)

-- the square of each cell, once where cells of one square follow each other
unfoldable pub squares_of : List Summary → List Square
squares_of cells = dedup same_square (map (λ cell. cell.square) cells)

-- those that touch the tile
abbrev pub touching : TileId → List Square → List Square
touching tile squares = filter (touches_of tile) squares
