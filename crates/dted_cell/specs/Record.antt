-- The data records of a cell, one for each meridian from west to east (MIL-PRF-89020, data record).
use Rattle.std.specs.Prelude.{◌≡◌, ℕ, ◌+◌, ◌*◌, ◌<◌, List, map, sum, take, slice_index, slice_range}
use Rattle.dted_cell.specs.Field.{word_at, long_at}
use Rattle.std.specs.List.{range_with_len}
use Rattle.terrain_base.specs.declared.post.Post.{Post}
use Rattle.dted_cell.specs.Elevation.{post_of, IsElevation}

-- where the record of a column begins, behind a header of 3428 bytes: each record has 8 bytes, two for each row, and
-- 4 of checksum
abbrev pub record_at : ℕ → ℕ → ℕ
record_at rows col = 3428 + col * (12 + 2 * rows)

-- where the elevation of a row stands, the southernmost first
abbrev pub elevation_at : ℕ → ℕ → ℕ → ℕ
elevation_at rows col row = record_at rows col + 8 + 2 * row

-- the longitude count, the checksum that the record states, and the sum of the bytes before it
abbrev pub longitude_count : List ℕ → ℕ → ℕ → ℕ
longitude_count text rows col = word_at text (record_at rows col + 4)

abbrev pub stated_sum : List ℕ → ℕ → ℕ → ℕ
stated_sum text rows col = long_at text (elevation_at rows col rows)

abbrev pub plain_sum : List ℕ → ℕ → ℕ → ℕ
plain_sum text rows col = sum (slice_range text (record_at rows col) (elevation_at rows col rows))

-- the record of a column is good
pub record IsRecord (text : List ℕ) (rows col : ℕ) : Type 0 where
  pub sentinel : slice_index text (record_at rows col) ≡ 170
  pub column : longitude_count text rows col ≡ col
  pub checksum : stated_sum text rows col ≡ plain_sum text rows col
  pub heights : (row : ℕ) → row < rows → IsElevation (word_at text (elevation_at rows col row))

-- the posts of a record, from the south on
abbrev pub posts_at : List ℕ → ℕ → ℕ → List Post
posts_at text rows col = map (λ row. post_of (word_at text (elevation_at rows col row))) (range_with_len 0 rows)

-- ---- a record by its own bytes

-- the bytes of a record: the sentinel, the longitude count, the elevations and the checksum of what stands before it
pub record AreRecord (bytes : List ℕ) (rows col : ℕ) : Type 0 where
  pub sentinel : slice_index bytes 0 ≡ 170
  pub column : word_at bytes 4 ≡ col
  pub checksum : long_at bytes (8 + 2 * rows) ≡ sum (take (8 + 2 * rows) bytes)
  pub heights : (row : ℕ) → row < rows → IsElevation (word_at bytes (8 + 2 * row))

-- its posts, from the south on
abbrev pub posts_of : List ℕ → ℕ → List Post
posts_of bytes rows = map (λ row. post_of (word_at bytes (8 + 2 * row))) (range_with_len 0 rows)
