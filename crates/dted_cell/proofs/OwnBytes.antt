-- A data record by its own bytes, and where it stands in a text.
use Rattle.std.proofs.Common.{◌≡◌, ℕ, ◌+◌, ◌-◌, ◌*◌, ◌<◌, ◌≤◌, ◌++◌, List, map, length, take, drop, slice_index, slice_range, sum, refl, sym, ap, ap₂, ◌∙◌, subst, arith, append_assoc, fold, count_by, Option, None, IsSome, IfSome, ◌↔◌}
use Rattle.std.specs.List.{range_with_len}
use Rattle.std.proofs.Math.Seq.{drop-append_seam, take-append_seam}
use Rattle.std.proofs.lemmas.List.{take-take}
use Rattle.std.proofs.lemmas.List.FromFn.{length-map-range_with_len, get_or-map-range_with_len, fill_by_all}
use Rattle.terrain_base.specs.declared.post.Post.{Post}
use Rattle.terrain_base.specs.declared.post.Post.TheVariants.{Void}
use Rattle.dted_cell.specs.Field.{word_at, long_at}
use Rattle.dted_cell.specs.Elevation.{post_of, IsElevation}
use Rattle.dted_cell.specs.Record.{record_at, elevation_at, longitude_count, stated_sum, plain_sum, posts_at, posts_of, AreRecord, IsRecord}
use Rattle.dted_cell.specs.declared.counts.Counts.{Counts}
use Rattle.dted_cell.specs.Cell.{is_void_post, post_of_row, widened}
use Rattle.dted_cell.proofs.Records.{sums_meet}
use Rattle.dted_cell.proofs.Views.{byte_within}

-- the word at a place of a part
word_part : (text : List ℕ) (a n i : ℕ) → i + 2 ≤ n → word_at (slice_range text a (a + n)) i ≡ word_at text (a + i)
word_part text a n i h =
    let next : a + (i + 1) ≡ a + i + 1 = omega arith in
    rw (byte_within text a n i (omega arith), byte_within text a n (i + 1) (omega arith), next) refl

-- posts are the same where their words are
posts_by_words : (f g : ℕ → ℕ) (rows : ℕ) → ((row : ℕ) → row < rows → f row ≡ g row) → map (λ row. post_of (f row)) (range_with_len 0 rows) ≡ map (λ row. post_of (g row)) (range_with_len 0 rows)
posts_by_words f g rows same =
    let by_row : ℕ → Post = λ row. post_of (f row) in
    fill_by_all (λ row. post_of (g row)) (map by_row (range_with_len 0 rows)) rows Void (length-map-range_with_len by_row 0 rows)
    (λ row h. get_or-map-range_with_len by_row 0 rows row row Void h (omega arith) ∙ ap post_of (same row h))

-- ---- the elevations of a record
pub own_word : (bytes : List ℕ) (rows row : ℕ) → row < rows → word_at (slice_range bytes 8 (8 + 2 * rows)) (2 * row) ≡ word_at bytes (8 + 2 * row)
own_word bytes rows row h = word_part bytes 8 (2 * rows) (2 * row) (omega arith)

pub own_posts : (bytes : List ℕ) (rows : ℕ) → map (post_of_row (slice_range bytes 8 (8 + 2 * rows))) (range_with_len 0 rows) ≡ posts_of bytes rows
own_posts bytes rows =
    posts_by_words (λ row. word_at (slice_range bytes 8 (8 + 2 * rows)) (2 * row)) (λ row. word_at bytes (8 + 2 * row)) rows (λ row h. own_word bytes rows row h)

pub own_sum : (bytes : List ℕ) (rows : ℕ) → sum (take 8 bytes) + sum (slice_range bytes 8 (8 + 2 * rows)) ≡ sum (take (8 + 2 * rows) bytes)
own_sum bytes rows =
    let size : 8 + 2 * rows - 0 ≡ 8 + 2 * rows = omega arith in
    sums_meet bytes 0 (2 * rows) ∙ ap (λ k. sum (take k bytes)) size

-- ---- a record in a text
module _ (text : List ℕ) (rows col : ℕ) where
  own : List ℕ
  own = slice_range text (record_at rows col) (record_at rows col + (12 + 2 * rows))

  start_byte : slice_index own 0 ≡ slice_index text (record_at rows col)
  unfolding own
  start_byte =
      let zeroth : record_at rows col + 0 ≡ record_at rows col = omega arith in
      byte_within text (record_at rows col) (12 + 2 * rows) 0 (omega arith) ∙ ap (slice_index text) zeroth

  count_word : word_at own 4 ≡ longitude_count text rows col
  unfolding own
  count_word = word_part text (record_at rows col) (12 + 2 * rows) 4 (omega arith)

  row_word : (row : ℕ) → row < rows → word_at own (8 + 2 * row) ≡ word_at text (elevation_at rows col row)
  unfolding own
  row_word row h =
      let place : record_at rows col + (8 + 2 * row) ≡ elevation_at rows col row = omega arith in
      word_part text (record_at rows col) (12 + 2 * rows) (8 + 2 * row) (omega arith) ∙ ap (word_at text) place

  stated_there : long_at own (8 + 2 * rows) ≡ stated_sum text rows col
  unfolding own
  stated_there =
      let place : record_at rows col + (8 + 2 * rows) ≡ elevation_at rows col rows = omega arith in
      let next : record_at rows col + (8 + 2 * rows + 2) ≡ elevation_at rows col rows + 2 = omega arith in
      ap₂ (λ high low. 65536 * high + low)
      (word_part text (record_at rows col) (12 + 2 * rows) (8 + 2 * rows) (omega arith) ∙ ap (word_at text) place)
      (word_part text (record_at rows col) (12 + 2 * rows) (8 + 2 * rows + 2) (omega arith) ∙ ap (word_at text) next)

  sum_there : sum (take (8 + 2 * rows) own) ≡ plain_sum text rows col
  unfolding own
  sum_there =
      let whole : record_at rows col + (12 + 2 * rows) - record_at rows col ≡ 12 + 2 * rows = omega arith in
      let summed : elevation_at rows col rows - record_at rows col ≡ 8 + 2 * rows = omega arith in
      let rest = drop (record_at rows col) text in
      ap (λ n. sum (take (8 + 2 * rows) (take n rest))) whole ∙ ap sum (take-take (8 + 2 * rows) (12 + 2 * rows) rest (omega arith)) ∙ ap (λ n. sum (take n rest)) (sym summed)

  posts_there : posts_of own rows ≡ posts_at text rows col
  posts_there = posts_by_words (λ row. word_at own (8 + 2 * row)) (λ row. word_at text (elevation_at rows col row)) rows row_word

  good_there : AreRecord own rows col → IsRecord text rows col
  good_there good = record {
    sentinel = sym start_byte ∙ good.sentinel;
    column = sym count_word ∙ good.column;
    checksum = sym stated_there ∙ good.checksum ∙ sum_there;
    heights = λ row h. subst IsElevation (row_word row h) (good.heights row h);
  }

  good_own : IsRecord text rows col → AreRecord own rows col
  good_own good = record {
    sentinel = start_byte ∙ good.sentinel;
    column = count_word ∙ good.column;
    checksum = stated_there ∙ good.checksum ∙ sym sum_there;
    heights = λ row h. subst IsElevation (sym (row_word row h)) (good.heights row h);
  }

  -- the same of any bytes that stand there
  module _ (record_bytes : List ℕ) (here : record_bytes ≡ slice_range text (record_at rows col) (record_at rows col + (12 + 2 * rows))) where
    pub to_text : AreRecord record_bytes rows col → IsRecord text rows col
    unfolding own
    to_text good = good_there (subst (λ bytes. AreRecord bytes rows col) here good)

    pub from_text : IsRecord text rows col → AreRecord record_bytes rows col
    unfolding own
    from_text good = subst (λ bytes. AreRecord bytes rows col) (sym here) (good_own good)

    pub posts_in_text : posts_of record_bytes rows ≡ posts_at text rows col
    unfolding own
    posts_in_text = ap (λ bytes. posts_of bytes rows) here ∙ posts_there

-- the bytes between a front and the rest
pub part_between : (before part rest : List ℕ) (start n : ℕ) → length before ≡ start → length part ≡ n → part ≡ slice_range (before ++ part ++ rest) start (start + n)
part_between before part rest start n here long =
    let size : start + n - start ≡ n = omega arith in
    sym (
    ap (λ k. take k (drop start (before ++ part ++ rest))) size
    ∙ ap (λ k. take n (drop k (before ++ part ++ rest))) (sym here)
    ∙ ap (λ (text : List ℕ). take n (drop (length before) text)) (append_assoc before part rest)
    ∙ ap (take n) (drop-append_seam before (part ++ rest))
    ∙ ap (λ k. take k (part ++ rest)) (sym long)
    ∙ take-append_seam part rest
    )

-- ---- the part of a text that is a record
record_part : (text : List ℕ) (rows col start n : ℕ) → start ≡ record_at rows col → n ≡ 12 + 2 * rows → slice_range text start (start + n) ≡ slice_range text (record_at rows col) (record_at rows col + (12 + 2 * rows))
record_part text rows col start n s e = rw (s, e) refl

pub good_part : (text : List ℕ) (rows col start n : ℕ) (found : Option Counts) → start ≡ record_at rows col → n ≡ 12 + 2 * rows → (IsSome found ↔ AreRecord (slice_range text start (start + n)) rows col) → IsSome found ↔ IsRecord text rows col
good_part text rows col start n found s e good =
    let here = record_part text rows col start n s e in
    let bytes = slice_range text start (start + n) in
    (λ some. to_text text rows col bytes here (good.0 some), λ is. good.1 (from_text text rows col bytes here is))

pub posts_of_part : (text : List ℕ) (rows col start n : ℕ) → start ≡ record_at rows col → n ≡ 12 + 2 * rows → posts_of (slice_range text start (start + n)) rows ≡ posts_at text rows col
posts_of_part text rows col start n s e = posts_in_text text rows col (slice_range text start (start + n)) (record_part text rows col start n s e)

pub voids_of_part : (text : List ℕ) (rows col start n : ℕ) (found : Option Counts) → start ≡ record_at rows col → n ≡ 12 + 2 * rows → IfSome found (λ counts. counts.voids ≡ count_by is_void_post (posts_of (slice_range text start (start + n)) rows)) → IfSome found (λ counts. counts.voids ≡ count_by is_void_post (posts_at text rows col))
voids_of_part text rows col start n found s e h = subst (λ posts. IfSome found (λ counts. counts.voids ≡ count_by is_void_post posts)) (posts_of_part text rows col start n s e) h

pub extremes_of_part : (text : List ℕ) (rows col start n : ℕ) (found : Option Counts) → start ≡ record_at rows col → n ≡ 12 + 2 * rows → IfSome found (λ counts. counts.extremes ≡ fold widened None (posts_of (slice_range text start (start + n)) rows)) → IfSome found (λ counts. counts.extremes ≡ fold widened None (posts_at text rows col))
extremes_of_part text rows col start n found s e h = subst (λ posts. IfSome found (λ counts. counts.extremes ≡ fold widened None posts)) (posts_of_part text rows col start n s e) h
