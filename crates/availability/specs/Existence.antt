-- Which tiles exist, of the levels from 0 to a cap, over cells of which square and level are known.
use Rattle.std.specs.Prelude.{◌≡◌, ℕ, ◌+◌, ◌^◌, ◌≤◌, min, ◌==◌, nat_le, nat_lt, List, Bool, true, ◌&&◌, ◌||◌, ◌⊎◌}
use Rattle.std.specs.List.{list_any, Contains}
use Rattle.terrain_base.specs.Level.{depth_of}
use Rattle.terrain_base.specs.declared.summary.Summary.{Summary}
use Rattle.terrain_base.specs.declared.tile.TileId.{TileId}
use Rattle.tms_tree.specs.Touch.{Overlaps, crosses_at, overlaps_of, touches_of}

-- the deepest level of a cell's tiles: that of its DTED level, cut at the cap
abbrev pub reach_of : ℕ → Summary → ℕ
reach_of cap cell = min (depth_of cell.level) cap

-- the cell is deep enough for the tile, and their insides share a point
pub record Makes (cap : ℕ) (tile : TileId) (cell : Summary) : Type 0 where
  pub deep : tile.z ≤ reach_of cap cell
  pub overlaps : Overlaps tile cell.square

-- both tiles of level 0 exist; another one exists where one of the cells makes it
abbrev pub Exists : ℕ → List Summary → TileId → Type 0
Exists cap cells tile = (tile.z ≡ 0) ⊎ ((cell : Summary) × Contains cells cell × Makes cap tile cell)

-- ---- the same as tests

abbrev pub makes_of : ℕ → TileId → Summary → Bool
makes_of cap tile cell = nat_le tile.z (reach_of cap cell) && overlaps_of tile cell.square

unfoldable pub exists_of : ℕ → List Summary → TileId → Bool
exists_of cap cells tile = (tile.z == 0) || list_any (makes_of cap tile) cells

-- ---- the same for a level, a row and a column, of which there may be no tile

-- levels 0 to 14 have 2^z rows and 2^(z+1) columns (TMS 1.0.0, global-geodetic)
abbrev pub is_tile : ℕ → ℕ → ℕ → Bool
is_tile z row column = nat_le z 14 && (nat_lt row (2 ^ z) && nat_lt column (2 ^ (z + 1)))

abbrev pub makes_at : ℕ → ℕ → ℕ → ℕ → Summary → Bool
makes_at cap z row column cell =
    nat_le z (reach_of cap cell) && (crosses_at z row cell.square.lat && crosses_at z column cell.square.lon)

abbrev pub exists_at : ℕ → List Summary → ℕ → ℕ → ℕ → Bool
exists_at cap cells z row column = is_tile z row column && ((z == 0) || list_any (makes_at cap z row column) cells)

-- ---- what existence depends on

-- each of the cells whose square touches the tile is among the others
abbrev pub HasNear : TileId → List Summary → List Summary → Type 0
HasNear tile cells others = (cell : Summary) → touches_of tile cell.square ≡ true → Contains cells cell
    → Contains others cell
