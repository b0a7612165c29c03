-- What a view's fields are, by the bytes that it is seen as.
use Rattle.std.proofs.Common.{◌≡◌, ℕ, ◌+◌, ◌-◌, ◌*◌, ◌<◌, ◌≤◌, List, None, length, drop, slice_index, slice_range, refl, sym, ◌∙◌, ap, arith, get_or-take, get_or-drop}
use Rattle.std.proofs.Math.Nat.{mul-le-mul_right}
use Rattle.dted_cell.specs.Field.{word_at}
use Rattle.dted_cell.specs.Lead.{lead_of, text_behind_lead}
use Rattle.dted_cell.specs.Elevation.{post_of}
use Rattle.dted_cell.specs.Record.{record_at, elevation_at}
use Rattle.dted_cell.specs.Refusal.{refusal_of}
use Rattle.dted_cell.specs.Cell.{square_in, level_in, columns_in, rows_in, post_in, profile_in, post_of_row, voids_in, extremes_in}
use Rattle.dted_cell.proofs.WholeCells.{cell_by}
use Rattle.dted_cell.specs.Counts.{IsCounted}
use Rattle.dted_cell.specs.declared.counts.Counts.{Counts}
use Rattle.dted_cell.specs.Facts.{AreFacts}
use Rattle.dted_cell.specs.Good.{IsGood}
use Rattle.dted_cell.specs.declared.header.Header.{Header}

module _ (bytes value : List ℕ) (header : Header) (good : IsGood bytes header) (same : bytes ≡ value) where
  pub view_square : header.square ≡ square_in value
  view_square = good.says.square_is ∙ ap square_in same

  pub view_level : header.level ≡ level_in value
  view_level = good.says.level_is ∙ ap level_in same

  pub view_columns : header.columns ≡ columns_in value
  view_columns = good.says.columns_are ∙ ap columns_in same

  pub view_rows : header.rows ≡ rows_in value
  view_rows = good.says.rows_are ∙ ap rows_in same

  pub view_lead : header.lead ≡ lead_of bytes
  view_lead = good.says.lead_is

  pub view_accepted : refusal_of value ≡ None
  view_accepted = sym (ap refusal_of same) ∙ good.accepted

  pub view_long : record_at (rows_in value) (columns_in value) ≤ length (text_behind_lead value)
  unfolding columns_in rows_in
  view_long = (cell_by value (sym (ap refusal_of same) ∙ good.accepted)).long_enough

module _ (bytes value : List ℕ) (counts : Counts) (counted : IsCounted bytes counts) (same : bytes ≡ value) where
  pub view_voids : counts.voids ≡ voids_in value
  view_voids = counted.voids_are ∙ ap voids_in same

  pub view_extremes : counts.extremes ≡ extremes_in value
  view_extremes = counted.extremes_are ∙ ap extremes_in same

pub view_facts : (bytes value : List ℕ) (header : Header) (counts : Counts) → IsGood bytes header → IsCounted bytes counts → bytes ≡ value → AreFacts value (record { square = header.square; level = header.level; voids = counts.voids; extremes = counts.extremes })
view_facts bytes value header counts good counted same = record {
  accepted = view_accepted bytes value header good same;
  square_is = view_square bytes value header good same;
  level_is = view_level bytes value header good same;
  voids_are = view_voids bytes value counts counted same;
  extremes_are = view_extremes bytes value counts counted same;
}

-- ---- a column's elevations
pub profile_fits : (length rows columns col : ℕ) → record_at rows columns ≤ length → col < columns → elevation_at rows col rows ≤ length
profile_fits length rows columns col long h =
    let more : col + 1 ≤ columns = omega arith in
    omega (arith, mul-le-mul_right (12 + 2 * rows) more)

pub byte_within : (text : List ℕ) (a n i : ℕ) → i < n → slice_index (slice_range text a (a + n)) i ≡ slice_index text (a + i)
byte_within text a n i h =
    let size : a + n - a ≡ n = omega arith in
    rw size (get_or-take n (drop a text) i 0 h ∙ get_or-drop a text i 0)

pub row_within : (text : List ℕ) (rows col row : ℕ) → row < rows → word_at (slice_range text (elevation_at rows col 0) (elevation_at rows col rows)) (2 * row) ≡ word_at text (elevation_at rows col row)
row_within text rows col row h =
    let start = record_at rows col + 8 in
    let zeroth : elevation_at rows col 0 ≡ start = omega arith in
    let next : start + (2 * row + 1) ≡ start + 2 * row + 1 = omega arith in
    rw (zeroth, byte_within text start (2 * rows) (2 * row) (omega arith), byte_within text start (2 * rows) (2 * row + 1) (omega arith), next) refl

pub profile_post : (bytes : List ℕ) (col row : ℕ) → row < rows_in bytes → post_of_row (profile_in bytes col) row ≡ post_in bytes col row
unfolding profile_in post_in
profile_post bytes col row h = ap post_of (row_within (text_behind_lead bytes) (rows_in bytes) col row h)

pub profile_is : (bytes text : List ℕ) (start rows col : ℕ) → text ≡ text_behind_lead bytes → rows ≡ rows_in bytes → start ≡ record_at rows col → slice_range text (start + 8) (start + 8 + 2 * rows) ≡ profile_in bytes col
unfolding profile_in
profile_is bytes text start rows col t r s =
    let zeroth : elevation_at rows col 0 ≡ record_at rows col + 8 = omega arith in
    rw (t, s) (ap (λ n. slice_range (text_behind_lead bytes) n (elevation_at rows col rows)) (sym zeroth) ∙ ap (λ n. slice_range (text_behind_lead bytes) (elevation_at n col 0) (elevation_at n col n)) r)

pub start_fits : (text : List ℕ) (start rows columns col : ℕ) → record_at rows columns ≤ length text → col < columns → start ≡ record_at rows col → start + 8 + 2 * rows ≤ length text
start_fits text start rows columns col long h s = omega (arith, profile_fits (length text) rows columns col long h)
