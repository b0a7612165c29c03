-- The gaps at the posts of several cells.
use Rattle.std.specs.Prelude.{◌≡◌, ℕ, ℤ, pos, ◌+ℤ◌, ◌*ℤ◌, ◌<ℤ◌, ◌<◌, List}
use Rattle.terrain_base.specs.declared.square.Square.{Square}
use Rattle.terrain_base.specs.declared.cell_key.CellKey.{CellKey}
use Rattle.terrain_base.specs.declared.tile.TileId.{TileId}
use Rattle.cell_mosaic.specs.Cells.{Cells}
use Rattle.mesh_plane.specs.declared.corner.Tri.{Tri}
use Rattle.post_bound.specs.Window.{WindowGap}

-- a gap at a cell of a key, so many turns of the globe further, that P names
pub record GapAmong (P : CellKey → ℤ → Type 0) (cells : Cells) (tile : TileId) (ts : List Tri) (gap : ℕ)
    (under : ℤ) : Type 0 where
  pub key : CellKey
  pub turns : ℤ
  pub named : P key turns
  pub at : WindowGap cells tile ts key turns gap under

-- any cell
abbrev pub Everywhere : CellKey → ℤ → Type 0
Everywhere key turns = Unit {0}

-- this one
pub record IsAt (this : CellKey) (round : ℤ) (key : CellKey) (turns : ℤ) : Type 0 where
  pub is_key : key ≡ this
  pub is_turns : turns ≡ round

-- those of a square
pub record InSquare (square : Square) (round : ℤ) (key : CellKey) (turns : ℤ) : Type 0 where
  pub is_square : key.square ≡ square
  pub is_turns : turns ≡ round

-- the degree of longitude, turned, from a turn of the globe west of 180 degrees west
abbrev pub degree_of : CellKey → ℤ → ℤ
degree_of key turns = (pos key.square.lon +ℤ pos 360 *ℤ turns) +ℤ pos 360

-- those of a degree of latitude, in one degree of longitude and in those before one
pub record InDegree (lat degree : ℕ) (key : CellKey) (turns : ℤ) : Type 0 where
  pub is_lat : key.square.lat ≡ lat
  pub is_degree : degree_of key turns ≡ pos degree

pub record BeforeDegree (lat end : ℕ) (key : CellKey) (turns : ℤ) : Type 0 where
  pub is_lat : key.square.lat ≡ lat
  pub before : degree_of key turns <ℤ pos end

-- those of one degree of latitude, and of those before one
pub record InLatitude (lat : ℕ) (key : CellKey) (turns : ℤ) : Type 0 where
  pub is_lat : key.square.lat ≡ lat

pub record BeforeLatitude (end : ℕ) (key : CellKey) (turns : ℤ) : Type 0 where
  pub before : key.square.lat < end
