-- The grid points of a tile that lie in one square, and points that get their heights.
use Rattle.std.specs.Prelude.{◌≡◌, ℕ, ◌<◌, ◌≤◌, ◌⊎◌, IfSome, ℤ, List}
use Rattle.terrain_base.specs.declared.tile.TileId.{TileId}
use Rattle.terrain_base.specs.Grid.{height_in}
use Rattle.terrain_base.specs.Level.{rows_of, columns_of}
use Rattle.tms_tree.specs.Place.{place_of}
use Rattle.cell_mosaic.specs.Cells.{Cells, Shapes, finest_of}
use Rattle.resample.specs.declared.block.Block.{Block}
use Rattle.resample.specs.Height.{height_at}
use Rattle.resample.specs.Line.{IsRun, column_units, row_units, parts_of}

-- the block's runs are runs of its tile's lines, its square is the one of their degrees, where there is one, and its
-- posts are those of the square's finest cell
pub record IsBlock (shapes : Shapes) (block : Block) : Type 0 where
  pub across : IsRun (column_units block.tile) (parts_of block.tile) block.columns
  pub along : IsRun (row_units block.tile) (parts_of block.tile) block.rows
  pub lon : block.columns.degrees < 360 → block.square.lon ≡ block.columns.degrees
  pub lat : block.rows.degrees < 180 → block.square.lat ≡ block.rows.degrees
  pub finest_is : block.finest ≡ finest_of shapes block.square
  pub posts : IfSome block.finest (λ level. (block.posts_across ≡ columns_of block.square level)
      × (block.posts_along ≡ rows_of level))

-- the grid has the height of the place at its point in column i and row j
abbrev pub HasHeight : ℤ → Cells → TileId → List ℤ → ℕ → ℕ → Type 0
HasHeight fill cells tile grid i j = height_in grid i j ≡ height_at fill cells (place_of tile i j)

abbrev pub IsFrom : ℕ → ℕ → ℕ → Type 0
IsFrom first end k = (first ≤ k) × (k < end)

-- from the one grid to the other, the points of the columns from `west` to before `east` and of the rows from `south`
-- to before `north` got their heights, and no point lost its own
abbrev pub Fills : ℤ → Cells → TileId → ℕ → ℕ → ℕ → ℕ → List ℤ → List ℤ → Type 0
Fills fill cells tile west east south north grid grid' = (i j : ℕ) → i ≤ 66 → j ≤ 66
    → (IsFrom west east i × IsFrom south north j) ⊎ HasHeight fill cells tile grid i j
    → HasHeight fill cells tile grid' i j
