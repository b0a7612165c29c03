-- A whole cell: a file of DTED (MIL-PRF-89020), by positions and as what is read of it.
use Rattle.std.specs.Prelude.{
  ◌≡◌,
  ℕ,
  ℤ,
  ◌+◌,
  ◌*◌,
  ◌<◌,
  ◌≤◌,
  ◌≤ℤ◌,
  Bool,
  true,
  false,
  List,
  [],
  length,
  map,
  fold,
  sum_by,
  count_by,
  slice_range,
  slice_index_or,
  Option,
  Some,
  None,
}
use Rattle.std.specs.List.{range_with_len}
use Rattle.std.specs.Int.{int_min, int_max}
use Rattle.terrain_base.specs.declared.square.Square.{Square}
use Rattle.terrain_base.specs.declared.level.CellLevel.{CellLevel}
use Rattle.terrain_base.specs.declared.post.Post.{Post}
use Rattle.terrain_base.specs.declared.post.Post.TheVariants.{Void, Metres}
use Rattle.terrain_base.specs.declared.post.Extremes.{Extremes}
use Rattle.terrain_base.specs.Level.{rows_of, columns_of}
use Rattle.dted_cell.specs.Field.{word_at}
use Rattle.dted_cell.specs.Lead.{text_behind_lead}
use Rattle.dted_cell.specs.Elevation.{post_of, IsElevation}
use Rattle.dted_cell.specs.Header.{square_at, level_at, IsHeader}
use Rattle.dted_cell.specs.Record.{record_at, elevation_at, IsRecord}

-- ---- by positions

-- the posts, a list for each column, stand at their places
pub record HasPosts (text : List ℕ) (columns rows : ℕ) (posts : List (List Post)) : Type 0 where
  pub column_count : length posts ≡ columns
  pub row_count : (col : ℕ) → col < columns → length (slice_index_or posts col []) ≡ rows
  pub each : (col row : ℕ) → col < columns → row < rows →
      slice_index_or (slice_index_or posts col []) row Void ≡ post_of (word_at text (elevation_at rows col row))

-- the file is the cell of this square, of this level, with these posts by column and row
pub record IsCell
    (bytes : List ℕ) (square : Square) (level : CellLevel) (posts : List (List Post)) : Type 0 where
  pub header : IsHeader (text_behind_lead bytes) square level
  pub long_enough : record_at (rows_of level) (columns_of square level) ≤ length (text_behind_lead bytes)
  pub records : (col : ℕ) → col < columns_of square level → IsRecord (text_behind_lead bytes) (rows_of level) col
  pub at_places : HasPosts (text_behind_lead bytes) (columns_of square level) (rows_of level) posts

-- the file is a cell
abbrev pub IsSomeCell : List ℕ → Type 0
IsSomeCell bytes =
    (square : Square) × (level : CellLevel) × (posts : List (List Post)) × IsCell bytes square level posts

-- ---- what is read

unfoldable pub square_in : List ℕ → Square
square_in bytes = square_at (text_behind_lead bytes)

unfoldable pub level_in : List ℕ → CellLevel
level_in bytes = level_at (text_behind_lead bytes)

unfoldable pub columns_in : List ℕ → ℕ
columns_in bytes = columns_of (square_in bytes) (level_in bytes)

unfoldable pub rows_in : List ℕ → ℕ
rows_in bytes = rows_of (level_in bytes)

-- the post of a column and a row
unfoldable pub post_in : List ℕ → ℕ → ℕ → Post
post_in bytes col row = post_of (word_at (text_behind_lead bytes) (elevation_at (rows_in bytes) col row))

-- the elevations of a column, two bytes each, as they stand
unfoldable pub profile_in : List ℕ → ℕ → List ℕ
profile_in bytes col =
    let rows = rows_in bytes in
    slice_range (text_behind_lead bytes) (elevation_at rows col 0) (elevation_at rows col rows)

-- the post of a row in a column's elevations
abbrev pub post_of_row : List ℕ → ℕ → Post
post_of_row elevations row = post_of (word_at elevations (2 * row))

-- the word of each row in a column's elevations is an elevation
abbrev pub AreElevations : List ℕ → Type 0
AreElevations elevations = (row : ℕ) → 2 * row + 2 ≤ length elevations → IsElevation (word_at elevations (2 * row))

-- the posts of a column, from the south on
abbrev pub column_in : List ℕ → ℕ → List Post
column_in bytes col = map (post_in bytes col) (range_with_len 0 (rows_in bytes))

-- all posts, from the west on
unfoldable pub posts_in : List ℕ → List (List Post)
posts_in bytes = map (column_in bytes) (range_with_len 0 (columns_in bytes))

abbrev pub is_void_post : Post → Bool
is_void_post Void = true
is_void_post (Metres metres) = false

-- how many posts are void
unfoldable pub voids_in : List ℕ → ℕ
voids_in bytes = sum_by (count_by is_void_post) (posts_in bytes)

-- extremes with one post more
abbrev pub widened : Option Extremes → Post → Option Extremes
widened extremes Void = extremes
widened None (Metres z) = Some (record { least = z; greatest = z })
widened (Some e) (Metres z) = Some (record { least = int_min e.least z; greatest = int_max e.greatest z })

-- the least and the greatest post
unfoldable pub extremes_in : List ℕ → Option Extremes
extremes_in bytes = fold (fold widened) None (posts_in bytes)

-- some post of the file is so many metres
abbrev pub HasHeight : List ℕ → ℤ → Type 0
HasHeight bytes metres =
    (col row : ℕ) × (col < columns_in bytes) × (row < rows_in bytes) × (post_in bytes col row ≡ Metres metres)

-- every post is void
abbrev pub IsAllVoid : List ℕ → Type 0
IsAllVoid bytes = (col row : ℕ) → col < columns_in bytes → row < rows_in bytes → post_in bytes col row ≡ Void

-- both numbers are heights of posts, and each post's height lies between them
pub record BoundsPosts (bytes : List ℕ) (extremes : Extremes) : Type 0 where
  pub has_least : HasHeight bytes extremes.least
  pub has_greatest : HasHeight bytes extremes.greatest
  pub between : (metres : ℤ) → HasHeight bytes metres →
      (extremes.least ≤ℤ metres) × (metres ≤ℤ extremes.greatest)
