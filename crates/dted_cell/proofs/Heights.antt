-- The posts of a cell are void or heights.
use Rattle.std.proofs.Common.{◌≡◌, ℕ, ◌+◌, ◌-◌, ◌%◌, ◌<◌, ◌≤◌, ◌==◌, true, false, List, None, drop, slice_index, cond, refl, sym, subst, inl, inr, arith, nat_lt, get_or-drop}
use Rattle.std.specs.Prelude.{pos, neg_ℤ}
use Rattle.std.proofs.lemmas.Int.{ints}
use Rattle.std.proofs.lemmas.Bool.{ltb-true, ltb-false}
use Rattle.std.proofs.lemmas.List.{length-take}
use Rattle.terrain_base.specs.declared.post.Post.{Post}
use Rattle.terrain_base.specs.declared.post.Post.TheVariants.{Void, Metres}
use Rattle.terrain_base.specs.Height.{IsHeight}
use Rattle.dted_cell.specs.Field.{word_at}
use Rattle.dted_cell.specs.Lead.{lead_of, text_behind_lead}
use Rattle.dted_cell.specs.Elevation.{post_of, signed_of, IsElevation, IsPost}
use Rattle.dted_cell.specs.Record.{elevation_at}
use Rattle.dted_cell.specs.Refusal.{refusal_of}
use Rattle.dted_cell.specs.Cell.{columns_in, rows_in, post_in, profile_in, AreElevations}
use Rattle.dted_cell.specs.CellLaws.{PostsAreHeights}
use Rattle.dted_cell.proofs.Views.{row_within}
use Rattle.dted_cell.proofs.WholeCells.{cell_by}

-- ---- one word

low : (w : ℕ) → w % 32768 ≤ 16000 → w < 32768 → IsHeight (pos w)
low w h l = record { above = omega (arith, ints); below = omega (arith, ints) }

high : (w : ℕ) → w % 32768 ≤ 16000 → 32768 ≤ w → w < 65536 → IsHeight (neg_ℤ (pos (w - 32768)))
high w h l u = record { above = omega (arith, ints); below = omega (arith, ints) }

signed : (w : ℕ) → w % 32768 ≤ 16000 → w < 65536 → IsHeight (signed_of w)
signed w h u = elim (nat_lt w 32768) as (λ b. nat_lt w 32768 ≡ b → IsHeight (cond b (pos w) (neg_ℤ (pos (w - 32768))))) [
  | true ↦ λ e. low w h (ltb-true _ _ e)
  | false ↦ λ e. high w h (ltb-false _ _ e) u
] refl

pub by_word : (w : ℕ) → IsElevation w → w < 65536 → IsPost (post_of w)
by_word w (inl e) u = rw e tt
by_word w (inr h) u = elim (w == 65535) as (λ b. IsPost (cond b Void (Metres (signed_of w)))) [
  | true ↦ tt
  | false ↦ signed w h u
]

pub post_is : (w : ℕ) (post : Post) → post ≡ post_of w → w < 65536 → IsElevation w → IsPost post
post_is w post same u elevation = subst IsPost (sym same) (by_word w elevation u)

-- ---- the words of a cell

-- the word of each place is an elevation
elevation_here : (bytes : List ℕ) (col row : ℕ) → refusal_of bytes ≡ None → col < columns_in bytes → row < rows_in bytes
    → IsElevation (word_at (text_behind_lead bytes) (elevation_at (rows_in bytes) col row))
unfolding columns_in rows_in
elevation_here bytes col row accepted h k = ((cell_by bytes accepted).records col h).heights row k

-- so are those of a column's elevations
pub profile_elevations : (bytes : List ℕ) (col : ℕ) → refusal_of bytes ≡ None → col < columns_in bytes → AreElevations (profile_in bytes col)
unfolding profile_in
profile_elevations bytes col accepted h row within =
    let rows = rows_in bytes in
    let from = elevation_at rows col 0 in
    let to = elevation_at rows col rows in
    let row_in : row < rows = omega (arith, length-take (to - from) (drop from (text_behind_lead bytes)), within) in
    subst IsElevation (sym (row_within (text_behind_lead bytes) rows col row row_in)) (elevation_here bytes col row accepted h row_in)

word_below : (bytes : List ℕ) (at : ℕ) → ((k : ℕ) → slice_index bytes k < 256) → word_at (text_behind_lead bytes) at < 65536
unfolding text_behind_lead
word_below bytes at small =
    omega (arith, get_or-drop (lead_of bytes) bytes at 0, get_or-drop (lead_of bytes) bytes (at + 1) 0, small (lead_of bytes + at), small (lead_of bytes + (at + 1)))

pub posts_are_heights : PostsAreHeights
unfolding post_in
posts_are_heights bytes small accepted col row h k =
    by_word _ (elevation_here bytes col row accepted h k) (word_below bytes (elevation_at (rows_in bytes) col row) small)
