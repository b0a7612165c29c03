-- The names of HGT files: the south-west corner of the square, in degrees (SRTM Topography, data formats).
use Rattle.std.specs.Prelude.{
  ◌≡◌,
  ◌≢◌,
  ℕ,
  zero,
  suc,
  ◌+◌,
  ◌-◌,
  ◌*◌,
  ◌<◌,
  ◌==◌,
  nat_le,
  Bool,
  ◌&&◌,
  ◌||◌,
  List,
  ◌++◌,
  length,
  drop,
  codes,
  slice_index,
  Option,
  Some,
  None,
  if◌then◌else◌,
}
use Rattle.std.specs.Char.{is_ascii_digit, to_ascii_uppercase}
use Rattle.std.specs.Str.{str_eq_ignore_ascii_case}
use Rattle.terrain_base.specs.declared.square.Square.{Square}
use Rattle.dted_cell.specs.Header.{east, west, north, south, square_of}

-- the byte '/'
abbrev pub slash : ℕ
slash = 47

-- how many of the first bytes stand before the part that follows the last '/' among them
abbrev pub part_start : List ℕ → ℕ → ℕ
part_start name zero = 0
part_start name (suc count) = if slice_index name count == slash then suc count else part_start name count

-- what follows the last '/', or all where there is none
unfoldable pub last_part : List ℕ → List ℕ
last_part name = drop (part_start name (length name)) name

-- the byte at a place is this letter, in either case
abbrev pub is_letter : List ℕ → ℕ → ℕ → Bool
is_letter part at letter = to_ascii_uppercase (slice_index part at) == letter

-- the number of the decimal digit at a place
abbrev pub digit_at : List ℕ → ℕ → ℕ
digit_at part at = slice_index part at - 48

-- N or S and two digits
abbrev pub spells_latitude : List ℕ → Bool
spells_latitude part =
    (is_letter part 0 north || is_letter part 0 south) &&
    is_ascii_digit (slice_index part 1) && is_ascii_digit (slice_index part 2)

abbrev pub degrees_of_latitude : List ℕ → ℕ
degrees_of_latitude part = 10 * digit_at part 1 + digit_at part 2

-- E or W and three digits
abbrev pub spells_longitude : List ℕ → Bool
spells_longitude part =
    (is_letter part 3 east || is_letter part 3 west) &&
    is_ascii_digit (slice_index part 4) && is_ascii_digit (slice_index part 5) && is_ascii_digit (slice_index part 6)

abbrev pub degrees_of_longitude : List ℕ → ℕ
degrees_of_longitude part = 100 * digit_at part 4 + 10 * digit_at part 5 + digit_at part 6

-- the degrees north of the south pole, and east of 180 degrees west
abbrev pub latitude_of : List ℕ → ℕ
latitude_of part =
    if is_letter part 0 north then 90 + degrees_of_latitude part else (90 - degrees_of_latitude part)

abbrev pub longitude_of : List ℕ → ℕ
longitude_of part =
    if is_letter part 3 east then 180 + degrees_of_longitude part else (180 - degrees_of_longitude part)

-- `.hgt` at the end
abbrev pub has_suffix : List ℕ → Bool
has_suffix part = str_eq_ignore_ascii_case (drop 7 part) (codes ".hgt")

-- at most 90 degrees from the equator, and 180 from Greenwich
abbrev pub is_on_earth : List ℕ → Bool
is_on_earth part = nat_le (degrees_of_latitude part) 90 && nat_le (degrees_of_longitude part) 180

-- N or S, two digits, E or W, three digits, and `.hgt`, of a place on earth
unfoldable pub spells_corner : List ℕ → Bool
spells_corner part =
    length part == 11 && spells_latitude part && spells_longitude part &&
    has_suffix part && is_on_earth part

-- the square of a corner: 180 E is 180 W, and no square has its south side at 90 N
abbrev pub square_at : List ℕ → Option Square
square_at part =
    if latitude_of part == 180 then None else Some (square_of (longitude_of part) (latitude_of part))

-- the square that a file's name says
unfoldable pub square_named : List ℕ → Option Square
square_named name = if spells_corner (last_part name) then square_at (last_part name) else None

-- the part is the end of the name behind its last '/', or the whole of a name without one
pub record IsLastPart (name part : List ℕ) : Type 0 where
  pub folder : List ℕ
  pub split : name ≡ folder ++ part
  pub behind : (k : ℕ) → k < length folder → k + 1 ≡ length folder → slice_index name k ≡ slash
  pub plain : (k : ℕ) → k < length part → slice_index part k ≢ slash
