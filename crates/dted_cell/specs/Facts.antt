-- A cell in short, and what is read of one front to back.
use Rattle.std.specs.Prelude.{◌≡◌, ℕ, ◌+◌, ◌*◌, ◌<◌, ◌++◌, List, length, map, fold, sum_by, count_by, None}
use Rattle.std.specs.List.{range_with_len}
use Rattle.common_laws.specs.First.{first_of}
use Rattle.dted_cell.specs.declared.counts.Counts.{Counts}
use Rattle.dted_cell.specs.declared.header.Header.{Header}
use Rattle.dted_cell.specs.declared.facts.CellFacts.{CellFacts}
use Rattle.dted_cell.specs.Lead.{lead_of}
use Rattle.dted_cell.specs.Fields.{SaysHeader}
use Rattle.dted_cell.specs.Record.{posts_at, posts_of, IsRecord, AreRecord}
use Rattle.dted_cell.specs.Cell.{square_in, level_in, voids_in, extremes_in, is_void_post, widened}
use Rattle.dted_cell.specs.Refusal.{header_conditions, refusal_of}

-- what the cell of a file is in short
pub record AreFacts (bytes : List ℕ) (facts : CellFacts) : Type 0 where
  pub accepted : refusal_of bytes ≡ None
  pub square_is : facts.square ≡ square_in bytes
  pub level_is : facts.level ≡ level_in bytes
  pub voids_are : facts.voids ≡ voids_in bytes
  pub extremes_are : facts.extremes ≡ extremes_in bytes

-- ---- front to back

-- a file's first bytes are a good header, with no lead before it
pub record IsFront (front : List ℕ) (header : Header) : Type 0 where
  pub length_is : length front ≡ 3428
  pub unlabelled : lead_of front ≡ 0
  pub accepted : first_of (header_conditions front) ≡ None
  pub says : SaysHeader front header

-- a column's record is good, and these are the counts of its posts
pub record IsColumn (bytes : List ℕ) (rows col : ℕ) (counts : Counts) : Type 0 where
  pub length_is : length bytes ≡ 12 + 2 * rows
  pub good : AreRecord bytes rows col
  pub voids_are : counts.voids ≡ count_by is_void_post (posts_of bytes rows)
  pub extremes_are : counts.extremes ≡ fold widened None (posts_of bytes rows)

-- the first records of a text are good, and these are the counts of their posts
pub record HasColumns (text : List ℕ) (rows columns : ℕ) (counts : Counts) : Type 0 where
  pub records : (col : ℕ) → col < columns → IsRecord text rows col
  pub voids_are : counts.voids ≡ sum_by (count_by is_void_post) (map (posts_at text rows) (range_with_len 0 columns))
  pub extremes_are : counts.extremes ≡ fold (fold widened) None (map (posts_at text rows) (range_with_len 0 columns))

-- bytes are the first records of every text in which they follow a header
pub record AreRecords (bytes : List ℕ) (rows columns : ℕ) (counts : Counts) : Type 0 where
  pub length_is : length bytes ≡ columns * (12 + 2 * rows)
  pub each : (header rest : List ℕ) → length header ≡ 3428 → HasColumns (header ++ bytes ++ rest) rows columns counts
