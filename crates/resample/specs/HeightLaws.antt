-- What heights and grids are held to.
use Rattle.std.specs.Prelude.{◌≡◌, ℕ, ◌≤◌, ℤ, true}
use Rattle.std.specs.FinMap.{get}
use Rattle.terrain_base.specs.declared.cell_key.CellKey.{CellKey}
use Rattle.tms_tree.specs.Degrees.{RectangleHolds, square_rectangle}
use Rattle.tms_tree.specs.Touch.{touches_of}
use Rattle.terrain_base.specs.declared.tile.TileId.{TileId}
use Rattle.terrain_base.specs.Grid.{IsGrid, height_in}
use Rattle.terrain_base.specs.Height.{IsHeight}
use Rattle.tms_tree.specs.declared.place.Place.{Place}
use Rattle.tms_tree.specs.Place.{IsPlace, SamePlace, place_of, point_of}
use Rattle.cell_mosaic.specs.Cells.{Cells, AreSound}
use Rattle.resample.specs.Height.{height_at, grid_of}

-- a grid has the height of the place at each of its points
abbrev pub GridHasHeights : Type 0
GridHasHeights = (fill : ℤ) (cells : Cells) (tile : TileId) (i j : ℕ) → i ≤ 66 → j ≤ 66
    → height_in (grid_of fill cells tile) i j ≡ height_at fill cells (place_of tile i j)

-- a whole turn of longitude changes no height
abbrev pub TurnChangesNothing : Type 0
TurnChangesNothing = (fill : ℤ) (cells : Cells) (a b : Place) → IsPlace a → IsPlace b → SamePlace a b
    → height_at fill cells a ≡ height_at fill cells b

-- the height depends on the cells alone that hold the place
abbrev pub HeightIsLocal : Type 0
HeightIsLocal = (fill : ℤ) (cells others : Cells) (place : Place) → IsPlace place
    → ((key : CellKey) → RectangleHolds (square_rectangle key.square) (point_of place) → get cells key ≡ get others key)
    → height_at fill cells place ≡ height_at fill others place

-- the grid depends on the cells alone that touch the tile
abbrev pub GridIsLocal : Type 0
GridIsLocal = (fill : ℤ) (cells others : Cells) (tile : TileId)
    → ((key : CellKey) → touches_of tile key.square ≡ true → get cells key ≡ get others key)
    → grid_of fill cells tile ≡ grid_of fill others tile

-- heights are from -16000 to 16000 metres
abbrev pub HeightsInRange : Type 0
HeightsInRange = (fill : ℤ) (cells : Cells) (place : Place) → IsHeight fill → AreSound cells → IsPlace place
    → IsHeight (height_at fill cells place)

abbrev pub GridsInRange : Type 0
GridsInRange = (fill : ℤ) (cells : Cells) (tile : TileId) → IsHeight fill → AreSound cells
    → IsGrid (grid_of fill cells tile)
