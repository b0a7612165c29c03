-- The header that is written: user header label, data set identification and accuracy description
-- (MIL-PRF-89020, UHL, DSI and ACC records). A byte that no field names is blank.
use Rattle.std.specs.Prelude.{
  ℕ,
  ◌+◌,
  ◌-◌,
  ◌*◌,
  ◌/◌,
  ◌%◌,
  nat_le,
  List,
  [],
  ◌∷◌,
  ◌++◌,
  codes,
  replicate,
  if◌then◌else◌,
}
use Rattle.terrain_base.specs.declared.square.Square.{Square}
use Rattle.terrain_base.specs.declared.level.CellLevel.{CellLevel}
use Rattle.terrain_base.specs.Level.{lat_step_of, lon_step_of, rows_of, columns_of}
use Rattle.dted_cell.specs.Header.{east, west, north, south, series_of}

-- a number below 1000 in three decimal digits, and one below 10000 in four
abbrev pub three_digits : ℕ → List ℕ
three_digits n = (48 + n / 100) ∷ (48 + n / 10 % 10) ∷ (48 + n % 10) ∷ []

abbrev pub four_digits : ℕ → List ℕ
four_digits n = (48 + n / 1000) ∷ (48 + n / 100 % 10) ∷ (48 + n / 10 % 10) ∷ (48 + n % 10) ∷ []

abbrev pub blanks : ℕ → List ℕ
blanks count = replicate count 32

-- a longitude's degrees from the prime meridian, and the letter of its hemisphere
abbrev pub degrees_of_lon : ℕ → ℕ
degrees_of_lon lon = if nat_le 180 lon then lon - 180 else (180 - lon)

abbrev pub letter_of_lon : ℕ → ℕ
letter_of_lon lon = if nat_le 180 lon then east else west

-- a latitude's degrees from the equator, and the letter of its hemisphere
abbrev pub degrees_of_lat : ℕ → ℕ
degrees_of_lat lat = if nat_le 90 lat then lat - 90 else (90 - lat)

abbrev pub letter_of_lat : ℕ → ℕ
letter_of_lat lat = if nat_le 90 lat then north else south

-- the 80 bytes of the user header label: the origin, the intervals in tenths of an arc-second from byte 20 on,
-- and from byte 47 on how many meridians there are and how many posts each has
unfoldable pub user_label : Square → CellLevel → List ℕ
user_label square level =
    codes "UHL1" ++
    three_digits (degrees_of_lon square.lon) ++ codes "0000" ++ letter_of_lon square.lon ∷
    three_digits (degrees_of_lat square.lat) ++ codes "0000" ++ letter_of_lat square.lat ∷
    four_digits (10 * lon_step_of square level) ++
    four_digits (10 * lat_step_of level) ++
    blanks 19 ++
    four_digits (columns_of square level) ++
    four_digits (rows_of level) ++
    blanks 25

-- the 648 bytes of the data set identification: the series at byte 59 and the datum at byte 144
unfoldable pub data_set : CellLevel → List ℕ
data_set level = codes "DSI" ++ blanks 56 ++ series_of level ++ blanks 80 ++ codes "WGS84" ++ blanks 499

-- the 2700 bytes of the accuracy description
unfoldable pub accuracy : List ℕ
accuracy = codes "ACC" ++ blanks 2697

unfoldable pub header_text : Square → CellLevel → List ℕ
header_text square level = user_label square level ++ data_set level ++ accuracy
