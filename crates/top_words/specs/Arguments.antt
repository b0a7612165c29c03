-- What arguments are spelled as.
use Rattle.std.specs.Prelude.{◌≡◌, ◌≤◌, ◌<◌, ◌^◌, ℕ, ℤ, List, decimal, unsigned_abs}
use Rattle.std.specs.Fmt.{signed_decimal}
use Rattle.terrain_base.specs.declared.cell_key.CellKey.{CellKey}
use Rattle.terrain_base.specs.declared.params.Params.{Params}
use Rattle.terrain_base.specs.declared.tile.TileId.{TileId}
use Rattle.terrain_base.specs.Level.{level_number}
use Rattle.terrain_base.specs.SquareText.{square_text}
use Rattle.mesh_query.specs.declared.spot.Spot.{Spot}
use Rattle.mesh_query.specs.Way.{IsSpot}
use Rattle.sight_line.specs.declared.eye.Eye.{Eye}
use Rattle.sight_line.specs.Line.{IsEye}

-- a cell's key: its square, and its level's number
pub record IsKeyText (square_word level_word : List ℕ) (key : CellKey) : Type 0 where
  pub square : square_word ≡ square_text key.square
  pub level : level_word ≡ decimal (level_number key.level)

-- a database's params: the deepest level, and the fill in metres
pub record IsParamsText (cap_word fill_word : List ℕ) (params : Params) : Type 0 where
  pub cap : cap_word ≡ decimal params.cap
  pub fill : fill_word ≡ signed_decimal params.fill

-- a tile: level, column and row
pub record IsTileText (z x y : List ℕ) (tile : TileId) : Type 0 where
  pub level : z ≡ decimal tile.z
  pub column : x ≡ decimal tile.x
  pub row : y ≡ decimal tile.y

-- a trial: at most 64 commands, and a number of 64 bits
pub record IsTrialText (count_word number_word : List ℕ) (counted numbered : ℕ) : Type 0 where
  pub count : count_word ≡ decimal counted
  pub number : number_word ≡ decimal numbered
  pub few : counted ≤ 64
  pub small : numbered < 2 ^ 64

-- a level, and a place in whole arc-seconds east of 180 degrees west and north of the south pole
pub record IsPlaceText (level_word east_word north_word : List ℕ) (level east north : ℕ) : Type 0 where
  pub level_is : level_word ≡ decimal level
  pub east_is : east_word ≡ decimal east
  pub north_is : north_word ≡ decimal north
  pub level_in_range : level ≤ 14
  pub east_in_range : east ≤ 1295999
  pub north_in_range : north ≤ 648000

-- a spot of the tile: u, then v
pub record IsSpotText (u v : List ℕ) (spot : Spot) : Type 0 where
  pub u_is : u ≡ decimal spot.u
  pub v_is : v ≡ decimal spot.v
  pub good : IsSpot spot

-- an eye: its spot, and its height in metres
pub record IsEyeText (u v metres : List ℕ) (eye : Eye) : Type 0 where
  pub u_is : u ≡ decimal eye.spot.u
  pub v_is : v ≡ decimal eye.spot.v
  pub metres_is : metres ≡ signed_decimal eye.metres
  pub good : IsEye eye
