-- The posts of a cell are void or heights.
use Rattle.std.proofs.Common.{◌≡◌, ℕ, ◌-◌, ◌*◌, ◌%◌, ◌<◌, ◌≤◌, ◌==◌, true, false, List, None, cond, refl, sym, ◌∙◌, subst, inl, inr, arith, nat_lt}
use Rattle.std.specs.Prelude.{pos, neg_ℤ}
use Rattle.std.proofs.lemmas.Int.{ints}
use Rattle.std.proofs.lemmas.Bool.{ltb-true, ltb-false}
use Rattle.terrain_base.specs.declared.post.Post.TheVariants.{Void, Metres}
use Rattle.terrain_base.specs.Height.{IsHeight}
use Rattle.dted_cell.specs.Elevation.{IsPost, post_of, signed_of, IsElevation}
use Rattle.dted_cell.specs.Field.{word_at}
use Rattle.dted_cell.specs.Lead.{text_behind_lead}
use Rattle.dted_cell.specs.Refusal.{refusal_of}
use Rattle.dted_cell.specs.Cell.{columns_in, rows_in, post_in, profile_in}
use Rattle.dted_cell.proofs.Views.{row_within}
use Rattle.dted_cell.proofs.WholeCells.{cell_by}

low : (w : ℕ) → w % 32768 ≤ 16000 → w < 32768 → IsHeight (pos w)
low w h l = record { above = omega (arith, ints); below = omega (arith, ints) }

high : (w : ℕ) → w % 32768 ≤ 16000 → 32768 ≤ w → w < 65536 → IsHeight (neg_ℤ (pos (w - 32768)))
high w h l u = record { above = omega (arith, ints); below = omega (arith, ints) }

signed : (w : ℕ) → w % 32768 ≤ 16000 → w < 65536 → IsHeight (signed_of w)
signed w h u = elim (nat_lt w 32768) as (λ b. nat_lt w 32768 ≡ b → IsHeight (cond b (pos w) (neg_ℤ (pos (w - 32768))))) [
  | true ↦ λ e. low w h (ltb-true _ _ e)
  | false ↦ λ e. high w h (ltb-false _ _ e) u
] refl

by_word : (w : ℕ) → IsElevation w → w < 65536 → IsPost (post_of w)
by_word w (inl e) u = rw e tt
by_word w (inr h) u = elim (w == 65535) as (λ b. IsPost (cond b Void (Metres (signed_of w)))) [
  | true ↦ tt
  | false ↦ signed w h u
]

-- a post of a cell is void or a height, where its word is one of two bytes
pub post_is_height : (bytes : List ℕ) (col row w : ℕ) → refusal_of bytes ≡ None → col < columns_in bytes → row < rows_in bytes → w < 65536 → w ≡ word_at (profile_in bytes col) (2 * row) → IsPost (post_in bytes col row)
unfolding columns_in rows_in profile_in post_in
post_is_height bytes col row w good h k u same =
    let e = same ∙ row_within (text_behind_lead bytes) (rows_in bytes) col row k in
    subst (λ n. IsPost (post_of n)) e (by_word w (subst IsElevation (sym e) (((cell_by bytes good).records col h).heights row k)) u)
