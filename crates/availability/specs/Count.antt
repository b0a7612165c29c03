-- How many tiles exist.
use Rattle.std.specs.Prelude.{ℕ, zero, suc, ◌+◌, ◌-◌, ◌^◌, Bool, cond, List, ◌≢◌, ◌↔◌}
use Rattle.std.specs.List.{AllPairs, Contains}
use Rattle.terrain_base.specs.declared.summary.Summary.{Summary}
use Rattle.terrain_base.specs.declared.tile.TileId.{TileId}
use Rattle.availability.specs.declared.row_run.RowRun.{RowRun}
use Rattle.availability.specs.Existence.{exists_at, Exists}

-- f(0) + f(1) + .. + f(n - 1)
unfoldable pub sum_below : (ℕ → ℕ) → ℕ → ℕ
sum_below f zero = 0
sum_below f (suc n) = sum_below f n + f n

-- how many of the places pass that lie in one of so many rows and one of so many columns
abbrev pub count_of : (ℕ → ℕ → Bool) → ℕ → ℕ → ℕ
count_of test columns rows = sum_below (λ row. sum_below (λ column. cond (test row column) 1 0) columns) rows

-- how many tiles of level z exist
abbrev pub level_count_of : ℕ → List Summary → ℕ → ℕ
level_count_of cap cells z = count_of (exists_at cap cells z) (2 ^ (z + 1)) (2 ^ z)

-- how many tiles of the levels from 0 to the cap exist
unfoldable pub tile_count_of : ℕ → List Summary → ℕ
tile_count_of cap cells = sum_below (level_count_of cap cells) (cap + 1)

-- how many columns a run has
abbrev pub columns_of : RowRun → ℕ
columns_of run = run.end + 1 - run.start

-- a list that has each existing tile once and no other
pub record ListsTiles (cap : ℕ) (cells : List Summary) (tiles : List TileId) : Type 0 where
  pub once : AllPairs (λ a b. a ≢ b) tiles
  pub exact : (tile : TileId) → Contains tiles tile ↔ Exists cap cells tile
