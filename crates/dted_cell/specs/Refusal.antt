-- Which refusal a file gets: the first whose condition holds, in the order below.
use Rattle.std.specs.Prelude.{
  ℕ,
  ◌+◌,
  ◌*◌,
  ◌==◌,
  nat_lt,
  nat_le,
  Bool,
  not,
  ◌&&◌,
  ◌||◌,
  List,
  [],
  ◌∷◌,
  ◌++◌,
  length,
  map,
  flat_map,
  codes,
  slice_index,
  Option,
  is_some,
}
use Rattle.std.specs.List.{range_with_len}
use Rattle.common_laws.specs.First.{◌when◌, first_of}
use Rattle.terrain_base.specs.Level.{lon_step_of, rows_of, columns_of}
use Rattle.dted_cell.specs.declared.refusal.CellRefusal.{CellRefusal}
use Rattle.dted_cell.specs.declared.refusal.CellRefusal.TheVariants.{
  TooShort,
  NoUhl,
  BadField,
  OffDegree,
  WrongSpacing,
  WrongCounts,
  NoDsi,
  SeriesDisagrees,
  NotWgs84,
  NoAcc,
  BadSentinel,
  BadColumn,
  BadChecksum,
  HeightOutOfRange,
}
use Rattle.dted_cell.specs.Field.{number_at, is_number, spells, word_at}
use Rattle.dted_cell.specs.Lead.{lead_of, text_behind_lead}
use Rattle.dted_cell.specs.Elevation.{signed_of, is_out_of_range}
use Rattle.dted_cell.specs.Header.{
  east,
  west,
  north,
  south,
  is_whole,
  degrees_north,
  square_at,
  level_of_interval,
  level_at,
  series_of,
}
use Rattle.dted_cell.specs.Cell.{columns_in, rows_in}
use Rattle.dted_cell.specs.Record.{record_at, elevation_at, longitude_count, stated_sum, plain_sum}

-- ---- the header's conditions

-- the file ends before it has so many bytes behind the lead
abbrev pub is_shorter : List ℕ → ℕ → Bool
is_shorter bytes most = nat_lt (length bytes) (lead_of bytes + most)

-- degrees, from 0 to the most
abbrev pub is_degrees : List ℕ → ℕ → ℕ → ℕ → Bool
is_degrees text from to most = is_number text from to && nat_le (number_at text from to) most

-- one of two letters
abbrev pub is_letter : List ℕ → ℕ → ℕ → ℕ → Bool
is_letter text at one other = slice_index text at == one || slice_index text at == other

-- an angle's fields: degrees, minutes, seconds and the hemisphere's letter
unfoldable pub angle_conditions : List ℕ → ℕ → ℕ → ℕ → ℕ → List (Option CellRefusal)
angle_conditions text at most one other =
    (BadField at when not (is_degrees text at (at + 3) most)) ∷
    (BadField (at + 3) when not (is_number text (at + 3) (at + 5))) ∷
    (BadField (at + 5) when not (is_number text (at + 5) (at + 7))) ∷
    (BadField (at + 7) when not (is_letter text (at + 7) one other)) ∷ []

-- the intervals and the counts
unfoldable pub lattice_conditions : List ℕ → List (Option CellRefusal)
lattice_conditions text =
    (BadField 20 when not (is_number text 20 24)) ∷
    (BadField 24 when not (is_number text 24 28)) ∷
    (BadField 47 when not (is_number text 47 51)) ∷
    (BadField 51 when not (is_number text 51 55)) ∷ []

-- the longitude at 4, 7, 9 and 11, the latitude at 12, 15, 17 and 19, then the rest
unfoldable pub field_conditions : List ℕ → List (Option CellRefusal)
field_conditions text =
    angle_conditions text 4 180 east west ++
    angle_conditions text 12 90 north south ++
    lattice_conditions text

-- the origin is no corner of a square
abbrev pub is_off_degree : List ℕ → Bool
is_off_degree text = not (is_whole text 4 && is_whole text 12) || degrees_north text == 180

-- the latitude interval is no level's, or the longitude interval is not that of its level and zone
abbrev pub has_wrong_spacing : List ℕ → Bool
has_wrong_spacing text =
    not (is_some (level_of_interval (number_at text 24 28))) ||
    not (number_at text 20 24 == 10 * lon_step_of (square_at text) (level_at text))

-- the counts are not the columns and rows of that level and zone
abbrev pub has_wrong_counts : List ℕ → Bool
has_wrong_counts text =
    not (number_at text 47 51 == columns_of (square_at text) (level_at text)) ||
    not (number_at text 51 55 == rows_of (level_at text))

unfoldable pub shape_conditions : List ℕ → List (Option CellRefusal)
shape_conditions text =
    (OffDegree when is_off_degree text) ∷
    (WrongSpacing when has_wrong_spacing text) ∷
    (WrongCounts when has_wrong_counts text) ∷ []

unfoldable pub label_conditions : List ℕ → List (Option CellRefusal)
label_conditions text =
    (NoDsi when not (spells text 80 (codes "DSI"))) ∷
    (SeriesDisagrees when not (spells text 139 (series_of (level_at text)))) ∷
    (NotWgs84 when not (spells text 224 (codes "WGS84"))) ∷
    (NoAcc when not (spells text 728 (codes "ACC"))) ∷ []

-- the text's
unfoldable pub text_conditions : List ℕ → List (Option CellRefusal)
text_conditions text =
    (NoUhl when not (spells text 0 (codes "UHL1"))) ∷
    field_conditions text ++ shape_conditions text ++ label_conditions text

unfoldable pub header_conditions : List ℕ → List (Option CellRefusal)
header_conditions bytes =
    (TooShort (lead_of bytes + 3428) (length bytes) when is_shorter bytes 3428) ∷
    text_conditions (text_behind_lead bytes)

-- ---- the data's conditions

-- an elevation is neither void nor in range
abbrev pub height_condition : List ℕ → ℕ → ℕ → ℕ → Option CellRefusal
height_condition text rows col row =
    let word = word_at text (elevation_at rows col row) in
    (HeightOutOfRange col row (signed_of word) when is_out_of_range word)

-- a record's conditions, its elevations from the southernmost on
abbrev pub record_conditions : List ℕ → ℕ → ℕ → List (Option CellRefusal)
record_conditions text rows col =
    (BadSentinel col when not (slice_index text (record_at rows col) == 170)) ∷
    (BadColumn col when not (longitude_count text rows col == col)) ∷
    (BadChecksum col (stated_sum text rows col) (plain_sum text rows col) when
    not (stated_sum text rows col == plain_sum text rows col)) ∷
    map (height_condition text rows col) (range_with_len 0 rows)

-- the file ends before its last record does; then record by record, from the west on
unfoldable pub data_conditions : List ℕ → ℕ → ℕ → List (Option CellRefusal)
data_conditions bytes columns rows =
    (TooShort (lead_of bytes + record_at rows columns) (length bytes) when
    is_shorter bytes (record_at rows columns)) ∷
    flat_map (record_conditions (text_behind_lead bytes) rows) (range_with_len 0 columns)

-- ---- all of them, in order

unfoldable pub conditions_of : List ℕ → List (Option CellRefusal)
conditions_of bytes = header_conditions bytes ++ data_conditions bytes (columns_in bytes) (rows_in bytes)

-- the refusal of a file, and none where it is a cell
unfoldable pub refusal_of : List ℕ → Option CellRefusal
refusal_of bytes = first_of (conditions_of bytes)
