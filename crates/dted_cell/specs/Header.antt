-- The header of a cell: user header label, data set identification and accuracy description
-- (MIL-PRF-89020, UHL, DSI and ACC records). Offsets count from the end of the lead.
use Rattle.std.specs.Prelude.{
  ◌≡◌,
  ℕ,
  ◌+◌,
  ◌-◌,
  ◌*◌,
  ◌%◌,
  ◌≤◌,
  ◌⊎◌,
  ◌==◌,
  Bool,
  ◌&&◌,
  List,
  codes,
  slice_index,
  Option,
  Some,
  None,
  unwrap_or,
  if◌then◌else◌,
}
use Rattle.std.proofs.Math.Nat.{mod-lt}
use Rattle.std.proofs.Common.{lit<}
use Rattle.terrain_base.specs.declared.square.Square.{Square}
use Rattle.terrain_base.specs.declared.level.CellLevel.{CellLevel}
use Rattle.terrain_base.specs.declared.level.CellLevel.TheVariants.{Zero, One, Two}
use Rattle.terrain_base.specs.Level.{lat_step_of, lon_step_of, rows_of, columns_of}
use Rattle.dted_cell.specs.Field.{number_at, HasNumber, Spells}

-- the letters of the hemispheres
abbrev pub east : ℕ
east = 69

abbrev pub west : ℕ
west = 87

abbrev pub north : ℕ
north = 78

abbrev pub south : ℕ
south = 83

-- ---- what the fields say, as numbers

-- an angle's degrees, from the end of the half that its second letter names
abbrev pub degrees_from : List ℕ → ℕ → ℕ → ℕ → ℕ
degrees_from text at half letter =
    let degrees = number_at text at (at + 3) in
    if slice_index text (at + 7) == letter then half + degrees else (half - degrees)

-- the origin's degrees east of 180 degrees west, of which 360 is 0, and north of the south pole
abbrev pub degrees_east : List ℕ → ℕ
degrees_east text = degrees_from text 4 180 east

abbrev pub degrees_north : List ℕ → ℕ
degrees_north text = degrees_from text 12 90 north

-- an angle's minutes and seconds are 0
abbrev pub is_whole : List ℕ → ℕ → Bool
is_whole text at = number_at text (at + 3) (at + 5) == 0 && number_at text (at + 5) (at + 7) == 0

-- the square at these degrees (of 90 degrees north, where no square is, this makes one at the south pole)
unfoldable pub square_of : ℕ → ℕ → Square
square_of lon lat = record {
  lat = lat % 180;
  lon = lon % 360;
  lat_in_range = mod-lt lat (lit< tt);
  lon_in_range = mod-lt lon (lit< tt);
}

-- the square at the origin
unfoldable pub square_at : List ℕ → Square
square_at text = square_of (degrees_east text) (degrees_north text)

-- the level whose posts lie this far apart in latitude, in tenths of an arc-second
abbrev pub level_of_interval : ℕ → Option CellLevel
level_of_interval tenths =
    if tenths == 300 then Some Zero else
    (if tenths == 30 then Some One else
    (if tenths == 10 then Some Two else None))

-- the level of the latitude interval (of no level's interval, this makes level 2)
unfoldable pub level_at : List ℕ → CellLevel
level_at text = unwrap_or (level_of_interval (number_at text 24 28)) Two

-- the series designator of a level
abbrev pub series_of : CellLevel → List ℕ
series_of Zero = codes "DTED0"
series_of One = codes "DTED1"
series_of Two = codes "DTED2"

-- ---- a good header, by positions

-- an angle of whole degrees: three characters of degrees, two of minutes, two of seconds, and the letter of a
-- hemisphere
pub record IsAngle (text : List ℕ) (at most degrees letter : ℕ) : Type 0 where
  pub degrees_field : HasNumber text at (at + 3) degrees
  pub in_range : degrees ≤ most
  pub minutes : HasNumber text (at + 3) (at + 5) 0
  pub seconds : HasNumber text (at + 5) (at + 7) 0
  pub hemisphere : slice_index text (at + 7) ≡ letter

-- the origin's longitude is so many whole degrees east of 180 degrees west: 180 E is 180 W
abbrev pub IsLongitude : List ℕ → ℕ → Type 0
IsLongitude text lon =
    ((degrees : ℕ) × IsAngle text 4 180 degrees east × (lon ≡ (180 + degrees) % 360)) ⊎
    ((degrees : ℕ) × IsAngle text 4 180 degrees west × (lon ≡ 180 - degrees))

-- the origin's latitude is so many whole degrees north of the south pole
abbrev pub IsLatitude : List ℕ → ℕ → Type 0
IsLatitude text lat =
    ((degrees : ℕ) × IsAngle text 12 90 degrees north × (lat ≡ 90 + degrees)) ⊎
    ((degrees : ℕ) × IsAngle text 12 90 degrees south × (lat ≡ 90 - degrees))

-- the header of a square's cell of this level; intervals are in tenths of an arc-second
pub record IsHeader (text : List ℕ) (square : Square) (level : CellLevel) : Type 0 where
  pub user_label : Spells text 0 (codes "UHL1")
  pub longitude : IsLongitude text square.lon
  pub latitude : IsLatitude text square.lat
  pub lon_interval : HasNumber text 20 24 (10 * lon_step_of square level)
  pub lat_interval : HasNumber text 24 28 (10 * lat_step_of level)
  pub columns : HasNumber text 47 51 (columns_of square level)
  pub rows : HasNumber text 51 55 (rows_of level)
  pub data_set_label : Spells text 80 (codes "DSI")
  pub series : Spells text 139 (series_of level)
  pub datum : Spells text 224 (codes "WGS84")
  pub accuracy_label : Spells text 728 (codes "ACC")
