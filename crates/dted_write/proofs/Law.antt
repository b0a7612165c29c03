-- What is written is a cell of its posts.
use Rattle.std.proofs.Common.{◌≡◌, ℕ, ℤ, pos, negsuc, zero, suc, ◌+◌, ◌-◌, ◌*◌, ◌/◌, ◌<◌, ◌≤◌, true, false, ◌==◌, nat_lt, List, [], ◌++◌, length, get_or, sum, map, refl, ap, sym, ◌∙◌, subst, arith, length-append, inl, inr}
use Rattle.std.proofs.lemmas.Int.{ints}
use Rattle.std.proofs.lemmas.Nat.{mul-add-lt}
use Rattle.std.proofs.lemmas.Bool.Decides.{nat_tests}
use Rattle.std.specs.List.{flat_map, range_with_len, slice_range}
use Rattle.terrain_base.specs.declared.square.Square.{Square}
use Rattle.terrain_base.specs.declared.level.CellLevel.{CellLevel}
use Rattle.terrain_base.specs.declared.level.CellLevel.TheVariants.{Zero, One, Two}
use Rattle.terrain_base.specs.declared.post.Post.{Post}
use Rattle.terrain_base.specs.declared.post.Post.TheVariants.{Void, Metres}
use Rattle.terrain_base.specs.Height.{IsHeight}
use Rattle.terrain_base.specs.Level.{lon_step_of, rows_of, columns_of}
use Rattle.dted_cell.specs.Field.{word_at, long_at}
use Rattle.dted_cell.specs.Lead.{text_behind_lead}
use Rattle.dted_cell.specs.Elevation.{IsElevation, post_of}
use Rattle.dted_cell.specs.Header.{IsHeader}
use Rattle.dted_cell.specs.Record.{record_at, elevation_at, plain_sum, IsRecord}
use Rattle.dted_cell.specs.Cell.{HasPosts, IsCell}
use Rattle.dted_write.specs.declared.grid.PostGrid.{PostGrid}
use Rattle.dted_write.specs.Post.{IsPost}
use Rattle.dted_write.specs.Grid.{post_at}
use Rattle.dted_write.specs.Header.{user_label, header_text}
use Rattle.dted_write.specs.Record.{word_of, four_bytes, counted_posts, record_text}
use Rattle.dted_write.specs.Cell.{column_of, record_from, columns_from, cell_text}
use Rattle.dted_write.proofs.Records.{length_column}
use Rattle.dted_write.proofs.Headers.{header_length, header_is, no_lead, step_range}
use Rattle.dted_write.proofs.Written.{Parted, parted, byte_in, high_in, low_in, sum_in, two_value, four_value, length_record, counted_slice, sum_counted}

-- ---- the word of a post
record IsWordOf (post : Post) (word : ℕ) : Type 0 where
  fits : word < 65536
  elevation : IsElevation word
  back : post_of word ≡ post

word_plus : (n : ℕ) → word_of (Metres (pos n)) ≡ n
word_plus n = let t : nat_lt n 0 ≡ false = grind (arith, nat_tests) in rw t refl

height_word : (m : ℤ) → IsHeight m → IsWordOf (Metres m) (word_of (Metres m))
height_word (pos n) h =
    let small : n ≤ 16000 = omega (arith, ints, h.below) in
    let plain : nat_lt n 32768 ≡ true = grind (arith, nat_tests) in
    let some : (n == 65535) ≡ false = grind (arith, nat_tests) in
    let good : IsWordOf (Metres (pos n)) n = record { fits = omega arith; elevation = inr (omega arith); back = rw (some, plain) refl } in
    subst (IsWordOf (Metres (pos n))) (sym (word_plus n)) good
height_word (negsuc n) h =
    let small : suc n ≤ 16000 = omega (arith, ints, h.above) in
    let plain : nat_lt (32768 + suc n) 32768 ≡ false = grind (arith, nat_tests) in
    let some : (32768 + suc n == 65535) ≡ false = grind (arith, nat_tests) in
    let less : 32768 + suc n - 32768 ≡ suc n = omega arith in
    record { fits = omega arith; elevation = inr (omega arith); back = rw (some, plain, less) refl }

post_word : (p : Post) → IsPost p → IsWordOf p (word_of p)
post_word Void h = record { fits = omega arith; elevation = inl refl; back = refl }
post_word (Metres m) h = height_word m (h m refl)

-- ---- a column's posts
nth : (f : ℕ → Post) (k n i : ℕ) → i < n → get_or (map f (range_with_len k n)) i Void ≡ f (k + i)
nth f k zero i h = absurd (omega arith)
nth f k (suc n) zero h = let same : k + 0 ≡ k = omega arith in rw same refl
nth f k (suc n) (suc i) h = let same : k + 1 + i ≡ k + suc i = omega arith in nth f (k + 1) n i (omega arith) ∙ ap f same

nth_column : (f : ℕ → List Post) (k n i : ℕ) → i < n → get_or (map f (range_with_len k n)) i [] ≡ f (k + i)
nth_column f k zero i h = absurd (omega arith)
nth_column f k (suc n) zero h = let same : k + 0 ≡ k = omega arith in rw same refl
nth_column f k (suc n) (suc i) h = let same : k + 1 + i ≡ k + suc i = omega arith in nth_column f (k + 1) n i (omega arith) ∙ ap f same

length_columns : (f : ℕ → List Post) (k n : ℕ) → length (map f (range_with_len k n)) ≡ n
length_columns f k zero = refl
length_columns f k (suc n) = omega (arith, length_columns f (k + 1) n)

length_records : (post : ℕ → ℕ → Post) (rows k n : ℕ) → length (flat_map (record_from post rows) (range_with_len k n)) ≡ n * (12 + 2 * rows)
length_records post rows k zero = omega arith
length_records post rows k (suc n) = omega (arith, length-append (record_from post rows k) (flat_map (record_from post rows) (range_with_len (k + 1) n)), length_record k (column_of post rows k), length_column (post k) 0 rows, length_records post rows (k + 1) n)

stated_by : (text : List ℕ) (at a b c d : ℕ) → get_or text (at + 0) 0 ≡ a → get_or text (at + 1) 0 ≡ b → get_or text (at + 2) 0 ≡ c → get_or text (at + 3) 0 ≡ d → long_at text at ≡ 65536 * (256 * a + b) + (256 * c + d)
stated_by text at a b c d p q r s =
    let zeroth : at + 0 ≡ at = omega arith in
    let third : at + 2 + 1 ≡ at + 3 = omega arith in
    let p' = rw zeroth at p in
    rw (third, p', q, r, s) refl

-- ---- a column's record
module _ (text : List ℕ) (rows col : ℕ) (ps : List Post) (p : Parted text (record_at rows col) (record_text col ps)) (len : length ps ≡ rows) where
  word_here : (row : ℕ) → row < rows → IsPost (get_or ps row Void) → word_at text (elevation_at rows col row) ≡ word_of (get_or ps row Void)
  word_here row h good =
      let at = record_at rows col in
      let whole = length_record col ps in
      let high = byte_in text at (at + 8 + 2 * row) (8 + 2 * row) _ p (omega arith) (omega (arith, whole, len)) ∙ high_in col ps row (omega (arith, len)) in
      let low = byte_in text at (at + 8 + 2 * row + 1) (8 + 2 * row + 1) _ p (omega arith) (omega (arith, whole, len)) ∙ low_in col ps row (omega (arith, len)) in
      rw (high, low) (two_value (word_of (get_or ps row Void)) (post_word (get_or ps row Void) good).fits)

  record_is : rows ≤ 3601 → col < 65536 → ((row : ℕ) → row < rows → IsPost (get_or ps row Void)) → IsRecord text rows col
  unfolding record_text counted_posts
  record_is few narrow good =
      let at = record_at rows col in
      let whole = length_record col ps in
      let byte : (k : ℕ) → k < 4 → get_or text (elevation_at rows col rows + k) 0 ≡ get_or (four_bytes (sum (counted_posts col ps))) k 0 =
      λ k q. byte_in text at (elevation_at rows col rows + k) (8 + 2 * length ps + k) _ p (omega (arith, len)) (omega (arith, whole)) ∙ sum_in col ps k q in
      let stated = stated_by text (elevation_at rows col rows) _ _ _ _ (byte 0 (omega arith)) (byte 1 (omega arith)) (byte 2 (omega arith)) (byte 3 (omega arith)) in
      let end : at + (8 + 2 * length ps) ≡ elevation_at rows col rows = omega (arith, len) in
      let plain : plain_sum text rows col ≡ sum (counted_posts col ps) = ap (λ n. sum (slice_range text at n)) (sym end) ∙ ap sum (counted_slice text at col ps p) in
      let high = byte_in text at (at + 4) 4 _ p (omega arith) (omega (arith, whole)) in
      let low = byte_in text at (at + 4 + 1) 5 _ p (omega arith) (omega (arith, whole)) in
      record {
        sentinel = byte_in text at at 0 _ p (omega arith) (omega (arith, whole));
        column = rw (high, low) (two_value col narrow);
        checksum = stated ∙ four_value (sum (counted_posts col ps)) (sum_counted col ps narrow (omega (arith, len, few))) ∙ sym plain;
        heights = λ row h. subst IsElevation (sym (word_here row h (good row h))) (post_word (get_or ps row Void) (good row h)).elevation;
      }

rows_few : (level : CellLevel) → rows_of level ≤ 3601
rows_few Zero = omega arith
rows_few One = omega arith
rows_few Two = omega arith

columns_few : (step : ℕ) → 1 ≤ step → 3600 / step + 1 ≤ 65536
columns_few step h = omega (arith, h)

text_here : (square : Square) (level : CellLevel) (rest : List ℕ) → text_behind_lead (header_text square level ++ rest) ≡ header_text square level ++ rest
unfolding header_text user_label
text_here square level rest = no_lead _

-- ---- the file
pub written : (square : Square) (level : CellLevel) (post : ℕ → ℕ → Post) → ((col row : ℕ) → col < columns_of square level → row < rows_of level → IsPost (post col row)) → IsCell (cell_text square level post) square level (columns_from square level post)
unfolding cell_text columns_from
written square level post good =
    let rows = rows_of level in
    let columns = columns_of square level in
    let head = header_text square level in
    let rest = flat_map (record_from post rows) (range_with_len 0 columns) in
    let text = head ++ rest in
    let here : text_behind_lead text ≡ text = text_here square level rest in
    let part : (col : ℕ) → col < columns → Parted text (record_at rows col) (record_from post rows col) =
    λ col h.
    let number : 0 + col ≡ col = omega arith in
    let found = parted post rows head 0 columns col h in
    rw (header_length square level, number) at found in
    let len : (col : ℕ) → length (column_of post rows col) ≡ rows = λ col. length_column (post col) 0 rows in
    let posts : (col row : ℕ) → row < rows → get_or (column_of post rows col) row Void ≡ post col row = λ col row h.
    let number : 0 + row ≡ row = omega arith in
    nth (post col) 0 rows row h ∙ ap (post col) number in
    let column : (col : ℕ) → col < columns → get_or (map (column_of post rows) (range_with_len 0 columns)) col [] ≡ column_of post rows col = λ col h.
    let number : 0 + col ≡ col = omega arith in
    nth_column (column_of post rows) 0 columns col h ∙ ap (column_of post rows) number in
    let fine : (col row : ℕ) → col < columns → row < rows → IsPost (get_or (column_of post rows col) row Void) =
    λ col row h k. subst IsPost (sym (posts col row k)) (good col row h k) in
    let wide = columns_few (lon_step_of square level) (step_range square level).0 in
    let has : HasPosts text columns rows (map (column_of post rows) (range_with_len 0 columns)) = record {
      column_count = length_columns (column_of post rows) 0 columns;
      row_count = λ col h. ap length (column col h) ∙ len col;
      each = λ col row h k. ap (λ ps. get_or ps row Void) (column col h) ∙ sym (post_word _ (fine col row h k)).back
          ∙ ap post_of (sym (word_here text rows col (column_of post rows col) (part col h) (len col) row k (fine col row h k)));
    } in
    record {
      header = subst (λ t. IsHeader t square level) (sym here) (header_is square level rest);
      long_enough = rw here (omega (arith, length-append head rest, header_length square level, length_records post rows 0 columns));
      records = λ col h. subst (λ t. IsRecord t rows col) (sym here) (record_is text rows col (column_of post rows col) (part col h) (len col) (rows_few level) (omega (arith, h, wide)) (λ row k. fine col row h k));
      at_places = subst (λ t. HasPosts t columns rows (map (column_of post rows) (range_with_len 0 columns))) (sym here) has;
    }

-- a grid's posts are in range
pub grid_posts : (grid : PostGrid) (col row : ℕ) → col < columns_of grid.square grid.level → row < rows_of grid.level → IsPost (post_at grid col row)
unfolding post_at
grid_posts grid col row h k = grid.heights (col * rows_of grid.level + row) Void (omega (arith, mul-add-lt col (rows_of grid.level) row (columns_of grid.square grid.level) h k, grid.size))
