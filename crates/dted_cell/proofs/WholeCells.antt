-- A file without a refusal is a cell, and the other way round.
use Rattle.std.proofs.Common.{◌≡◌, ℕ, ◌+◌, ◌<◌, ◌≤◌, false, List, [], length, get_or, Some, None, IsOk, OnOk, ◌↔◌, Result, Ok, Err, refl, sym, ap, ◌∙◌, subst, arith, length-drop}
use Rattle.std.proofs.lemmas.Bool.{ltb-false, le-ltb}
use Rattle.std.proofs.lemmas.List.FromFn.{length-map-range_with_len, get_or-map-range_with_len, fill_by_all}
use Rattle.std.specs.Result.{result_err}
use Rattle.common_laws.proofs.First.{neither, not_when, none_of_flat, none_by_flat}
use Rattle.terrain_base.specs.declared.square.Square.{Square}
use Rattle.terrain_base.specs.declared.level.CellLevel.{CellLevel}
use Rattle.terrain_base.specs.declared.post.Post.{Post}
use Rattle.terrain_base.specs.declared.post.Post.TheVariants.{Void}
use Rattle.dted_cell.specs.declared.refusal.CellRefusal.{CellRefusal}
use Rattle.dted_cell.specs.Lead.{lead_of, text_behind_lead}
use Rattle.dted_cell.specs.Record.{record_at}
use Rattle.dted_cell.specs.Refusal.{is_shorter, header_conditions, record_conditions, data_conditions, refusal_of}
use Rattle.dted_cell.specs.Cell.{HasPosts, IsCell, IsSomeCell, square_in, level_in, columns_in, rows_in, post_in, column_in, posts_in}
use Rattle.dted_cell.proofs.Cells.{refusal_parts}
use Rattle.dted_cell.proofs.HeaderLaws.{header_by, by_header, square_here, by_level}
use Rattle.dted_cell.proofs.RecordLaws.{record_by, by_record}

-- ---- lengths
long_by : (bytes : List ℕ) (n : ℕ) → is_shorter bytes n ≡ false → n ≤ length (text_behind_lead bytes)
unfolding text_behind_lead
long_by bytes n e = omega (arith, ltb-false (length bytes) (lead_of bytes + n) e, length-drop (lead_of bytes) bytes)

pub by_long : (bytes : List ℕ) (n : ℕ) → n ≤ length (text_behind_lead bytes) → 0 < n → is_shorter bytes n ≡ false
unfolding text_behind_lead
by_long bytes n h p = le-ltb (length bytes) (lead_of bytes + n) (omega (arith, length-drop (lead_of bytes) bytes))

-- ---- the posts
posts_there : (bytes : List ℕ) → HasPosts (text_behind_lead bytes) (columns_in bytes) (rows_in bytes) (posts_in bytes)
unfolding posts_in post_in
posts_there bytes =
    let column : (col : ℕ) → col < columns_in bytes → get_or (posts_in bytes) col [] ≡ column_in bytes col =
    λ col h. get_or-map-range_with_len (column_in bytes) 0 (columns_in bytes) col col [] h (omega arith) in
    record {
      column_count = length-map-range_with_len (column_in bytes) 0 (columns_in bytes);
      row_count = λ col h. ap length (column col h) ∙ length-map-range_with_len (post_in bytes col) 0 (rows_in bytes);
      each = λ col row h k. ap (λ (c : List Post). get_or c row Void) (column col h) ∙ get_or-map-range_with_len (post_in bytes col) 0 (rows_in bytes) row row Void k (omega arith);
    }

posts_only : (bytes : List ℕ) (posts : List (List Post)) → HasPosts (text_behind_lead bytes) (columns_in bytes) (rows_in bytes) posts → posts ≡ posts_in bytes
unfolding posts_in post_in
posts_only bytes posts has =
    fill_by_all (column_in bytes) posts (columns_in bytes) [] has.column_count
    (λ col h. fill_by_all (post_in bytes col) (get_or posts col []) (rows_in bytes) Void (has.row_count col h) (λ row k. has.each col row h k))

-- ---- the file
pub cell_by : (bytes : List ℕ) → refusal_of bytes ≡ None → IsCell bytes (square_in bytes) (level_in bytes) (posts_in bytes)
unfolding header_conditions data_conditions square_in level_in columns_in rows_in
cell_by bytes e =
    let parts = neither _ _ (sym (refusal_parts bytes) ∙ e) in
    let header = neither _ _ parts.0 in
    let tail = neither _ _ parts.1 in
    record {
      header = header_by (text_behind_lead bytes) header.1;
      long_enough = long_by bytes (record_at (rows_in bytes) (columns_in bytes)) (not_when _ _ tail.0);
      records = λ col h. record_by (text_behind_lead bytes) (rows_in bytes) col (none_of_flat (record_conditions (text_behind_lead bytes) (rows_in bytes)) (columns_in bytes) col tail.1 h);
      at_places = posts_there bytes;
    }

here : (bytes : List ℕ) (posts : List (List Post)) → IsCell bytes (square_in bytes) (level_in bytes) posts → refusal_of bytes ≡ None
unfolding header_conditions data_conditions square_in level_in columns_in rows_in
here bytes posts cell =
    let long = cell.long_enough in
    let header_long : is_shorter bytes 3428 ≡ false = by_long bytes 3428 (omega arith) (omega arith) in
    let data_long : is_shorter bytes (record_at (rows_in bytes) (columns_in bytes)) ≡ false = by_long bytes _ long (omega arith) in
    refusal_parts bytes ∙ rw (header_long, by_header (text_behind_lead bytes) (square_in bytes) (level_in bytes) cell.header, data_long)
    (none_by_flat (record_conditions (text_behind_lead bytes) (rows_in bytes)) (columns_in bytes) (λ col u. by_record (text_behind_lead bytes) (rows_in bytes) col (cell.records col u)))

posts_here : (bytes : List ℕ) (posts : List (List Post)) → IsCell bytes (square_in bytes) (level_in bytes) posts → posts ≡ posts_in bytes
unfolding columns_in rows_in
posts_here bytes posts cell = posts_only bytes posts cell.at_places

-- what is known of a file that is a cell
pub record FoundCell (bytes : List ℕ) (square : Square) (level : CellLevel) (posts : List (List Post)) : Type 0 where
  pub accepted : refusal_of bytes ≡ None
  pub square_is : square ≡ square_in bytes
  pub level_is : level ≡ level_in bytes
  pub posts_are : posts ≡ posts_in bytes

pub by_cell : (bytes : List ℕ) (square : Square) (level : CellLevel) (posts : List (List Post)) → IsCell bytes square level posts → FoundCell bytes square level posts
unfolding square_in level_in
by_cell bytes square level posts cell =
    let square_is : square ≡ square_in bytes = square_here (text_behind_lead bytes) square level cell.header in
    let level_is : level ≡ level_in bytes = by_level (text_behind_lead bytes) square level cell.header in
    let moved = subst (λ l. IsCell bytes (square_in bytes) l posts) level_is (subst (λ s. IsCell bytes s level posts) square_is cell) in
    record { accepted = here bytes posts moved; square_is = square_is; level_is = level_is; posts_are = posts_here bytes posts moved }

-- ---- a call that answers by the refusal
pub some_cell : (bytes : List ℕ) → refusal_of bytes ≡ None → IsSomeCell bytes
some_cell bytes e = (square_in bytes, level_in bytes, posts_in bytes, cell_by bytes e)

pub no_cell : (bytes : List ℕ) (refusal : CellRefusal) → refusal_of bytes ≡ Some refusal → IsSomeCell bytes → ⊥
no_cell bytes refusal e (square, level, posts, cell) = let same = sym e ∙ (by_cell bytes square level posts cell).accepted in cc

pub ok_iff : (bytes : List ℕ) (result : Result (List ℕ) CellRefusal) → result_err result ≡ refusal_of bytes → IsOk result ↔ IsSomeCell bytes
ok_iff bytes (Ok v) e = (λ ok. some_cell bytes (sym e), λ cell. refl)
ok_iff bytes (Err x) e = (λ ok. cc, λ cell. absurd (no_cell bytes x (sym e) cell))

pub cell_on_ok : (bytes : List ℕ) (result : Result (List ℕ) CellRefusal) → result_err result ≡ refusal_of bytes → OnOk result (IsCell bytes (square_in bytes) (level_in bytes) (posts_in bytes))
cell_on_ok bytes (Ok v) e = cell_by bytes (sym e)
cell_on_ok bytes (Err x) e = tt
