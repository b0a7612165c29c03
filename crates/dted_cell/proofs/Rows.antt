-- The posts of a column are the words of its elevations.
use Rattle.std.proofs.Common.{◌≡◌, ℕ, zero, suc, ◌+◌, ◌*◌, ◌≤◌, List, [], ◌∷◌, ◌++◌, length, map, take, get_or, cond, eqb, count_by, refl, sym, ap, ap₂, fold, None, inl, inr, ◌∙◌, ◌<◌, ◌↔◌, subst, arith, take_all, Fits, w8}
use Rattle.std.specs.List.{range_with_len}
use Rattle.std.specs.Simd.Lanes.{Each1}
use Rattle.std.proofs.lemmas.List.FromFn.{map-range_with_len_more}
use Rattle.std.proofs.lemmas.List.Sums.{sum_by-cons}
use Rattle.std.proofs.lemmas.Bool.{cases_Bool}
use Rattle.std.proofs.lemmas.Simd.{Each1-from_get_or}
use Rattle.terrain_base.specs.declared.post.Post.TheVariants.{Void, Metres}
use Rattle.dted_cell.specs.Elevation.{post_of, signed_of, IsElevation}
use Rattle.dted_cell.specs.Field.{word_at}
use Rattle.dted_cell.specs.Cell.{post_of_row, is_void_post, widened}
use Rattle.dted_cell.proofs.Keys.{AreWords, AreHeights, keys_give_extremes}
use Rattle.dted_cell.specs.Words.{words_of, key, low_key, least_of, greatest_of, extremes_from}
use Rattle.dted_cell.proofs.Passes.{word_more}

map_push : {Y : Type 0} (f : ℕ → Y) (us : List ℕ) (v : ℕ) → map f (us ++ v ∷ []) ≡ map f us ++ f v ∷ []
map_push f [] v = refl
map_push f (u ∷ us) v = ap (λ l. f u ∷ l) (map_push f us v)

rows_so_far : (n : ℕ) (xs : List ℕ) → 2 * n ≤ length xs → map (post_of_row xs) (range_with_len 0 n) ≡ map post_of (words_of (take (2 * n) xs))
rows_so_far zero xs h = refl
rows_so_far (suc n) xs h =
    let next : suc n ≡ n + 1 = omega arith in
    let w = 256 * get_or xs (2 * n) 0 + get_or xs (2 * n + 1) 0 in
    ap (λ k. map (post_of_row xs) (range_with_len 0 k)) next ∙ map-range_with_len_more (post_of_row xs) 0 n n (omega arith)
    ∙ ap (λ l. l ++ post_of w ∷ []) (rows_so_far n xs (omega (arith, h))) ∙ sym (map_push post_of (words_of (take (2 * n) xs)) w)
    ∙ ap (map post_of) (sym (word_more n xs (omega (arith, h)))) ∙ ap (λ k. map post_of (words_of (take (2 * k) xs))) (sym next)

pub rows_are_words : (rows : ℕ) (xs : List ℕ) → length xs ≡ 2 * rows → map (post_of_row xs) (range_with_len 0 rows) ≡ map post_of (words_of xs)
rows_are_words rows xs long = rows_so_far rows xs (omega (arith, long)) ∙ ap (λ l. map post_of (words_of l)) (take_all (2 * rows) xs (omega (arith, long)))

pub are_words : (xs : List ℕ) → Each1 (Fits w8) xs → AreWords (words_of xs)
are_words [] fits = tt
are_words (a ∷ []) fits = tt
are_words (a ∷ b ∷ rest) fits = (omega (arith, fits.0.fits, fits.1.0.fits), are_words rest fits.1.1)

void_is : (w : ℕ) → is_void_post (post_of w) ≡ eqb w 65535
void_is w = elim (cases_Bool (eqb w 65535)) [
  | inl is ↦ ap (λ b. is_void_post (cond b Void (Metres (signed_of w)))) is ∙ sym is
  | inr is_not ↦ ap (λ b. is_void_post (cond b Void (Metres (signed_of w)))) is_not ∙ sym is_not
]

voids_are : (ws : List ℕ) → count_by is_void_post (map post_of ws) ≡ count_by (λ w. eqb w 65535) ws
voids_are [] = refl
voids_are (w ∷ ws) =
    sum_by-cons (λ p. cond (is_void_post p) 1 0) (post_of w) (map post_of ws)
    ∙ ap₂ (λ b n. cond b 1 0 + n) (void_is w) (voids_are ws) ∙ sym (sum_by-cons (λ v. cond (eqb v 65535) 1 0) w ws)

pub voids_by_row : (rows : ℕ) (xs : List ℕ) → length xs ≡ 2 * rows → count_by (λ w. eqb w 65535) (words_of xs) ≡ count_by is_void_post (map (post_of_row xs) (range_with_len 0 rows))
voids_by_row rows xs long = sym (voids_are (words_of xs)) ∙ ap (count_by is_void_post) (sym (rows_are_words rows xs long))

pub fits_all : (xs : List ℕ) → ((k : ℕ) → Fits w8 (get_or xs k 0)) → AreWords (words_of xs)
fits_all xs fits = are_words xs (Each1-from_get_or (Fits w8) xs 0 (λ k lt. fits k))

pub extremes_by_row : (rows : ℕ) (xs : List ℕ) → length xs ≡ 2 * rows → AreHeights (words_of xs) → extremes_from (least_of (map low_key (words_of xs))) (greatest_of (map key (words_of xs))) ≡ fold widened None (map (post_of_row xs) (range_with_len 0 rows))
extremes_by_row rows xs long all = sym (keys_give_extremes (words_of xs) all) ∙ ap (fold widened None) (sym (rows_are_words rows xs long))

-- ---- by row
row_next : (row : ℕ) (a b : ℕ) (rest : List ℕ) → word_at (a ∷ b ∷ rest) (2 * suc row) ≡ word_at rest (2 * row)
row_next row a b rest =
    let is : 2 * suc row ≡ suc (suc (2 * row)) = omega arith in
    let after : suc (suc (2 * row)) + 1 ≡ suc (suc (2 * row + 1)) = omega arith in
    ap (λ n. 256 * get_or (a ∷ b ∷ rest) n 0 + get_or (a ∷ b ∷ rest) (n + 1) 0) is
    ∙ ap (λ n. 256 * get_or rest (2 * row) 0 + get_or (a ∷ b ∷ rest) n 0) after

to_rows : (rows : ℕ) (xs : List ℕ) → length xs ≡ 2 * rows → AreHeights (words_of xs) → (row : ℕ) → row < rows → IsElevation (word_at xs (2 * row))
to_rows zero xs long all row h = absurd (omega (arith, h))
to_rows (suc rows) [] long all row h = absurd (omega (arith, long))
to_rows (suc rows) (a ∷ []) long all row h = absurd (omega (arith, long))
to_rows (suc rows) (a ∷ b ∷ rest) long all zero h = all.1.0
to_rows (suc rows) (a ∷ b ∷ rest) long all (suc row) h =
    subst IsElevation (sym (row_next row a b rest)) (to_rows rows rest (omega (arith, long)) all.1.1 row (omega (arith, h)))

from_rows : (rows : ℕ) (xs : List ℕ) → length xs ≡ 2 * rows → ((n : ℕ) → get_or xs n 0 < 256) → ((row : ℕ) → row < rows → IsElevation (word_at xs (2 * row))) → AreHeights (words_of xs)
from_rows zero [] long fits each = tt
from_rows zero (a ∷ rest) long fits each = absurd (omega (arith, long))
from_rows (suc rows) [] long fits each = absurd (omega (arith, long))
from_rows (suc rows) (a ∷ []) long fits each = absurd (omega (arith, long))
from_rows (suc rows) (a ∷ b ∷ rest) long fits each = (
  omega (arith, fits 0, fits 1),
  (
    each 0 (omega arith),
    from_rows rows rest (omega (arith, long)) (λ n. fits (suc (suc n))) (λ row h. subst IsElevation (row_next row a b rest) (each (suc row) (omega (arith, h)))),
  ),
)

-- all words are elevations exactly where the word of each row is
pub rows_judged : (rows : ℕ) (xs : List ℕ) → length xs ≡ 2 * rows → ((n : ℕ) → get_or xs n 0 < 256) → AreHeights (words_of xs) ↔ ((row : ℕ) → row < rows → IsElevation (word_at xs (2 * row)))
rows_judged rows xs long fits = (to_rows rows xs long, from_rows rows xs long fits)
