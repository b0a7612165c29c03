-- The extremes are the least and the greatest of all heights.
use Rattle.std.proofs.Common.{int_lt, ◌≡◌, ℕ, zero, suc, ◌<◌, ◌⊎◌, ℤ, ◌≤ℤ◌, List, [], ◌∷◌, length, get_or, Option, Some, None, IsNone, IfSome, ◌↔◌, refl, sym, ◌∙◌, subst, inl, inr, arith}
use Rattle.std.proofs.lemmas.Int.{ints, clamps}
use Rattle.std.proofs.lemmas.Bool.{cond_both}
use Rattle.std.proofs.lemmas.List.FromFn.{length-map-range_with_len, get_or-map-range_with_len}
use Rattle.std.specs.Int.{int_min, int_max}
use Rattle.std.specs.List.{fold}
use Rattle.terrain_base.specs.declared.post.Post.{Post}
use Rattle.terrain_base.specs.declared.post.Post.TheVariants.{Void, Metres}
use Rattle.terrain_base.specs.declared.post.Extremes.{Extremes}
use Rattle.dted_cell.specs.Cell.{columns_in, rows_in, post_in, column_in, posts_in, widened, extremes_in, HasHeight, IsAllVoid, BoundsPosts}

-- ---- the least and the greatest of the heights that have a property
record Spans (Has : ℤ → Type 0) (e : Extremes) : Type 0 where
  has_least : Has e.least
  has_greatest : Has e.greatest
  between : (z : ℤ) → Has z → (e.least ≤ℤ z) × (z ≤ℤ e.greatest)

AreExtremes : (ℤ → Type 0) → Option Extremes → Type 0
AreExtremes Has None = (z : ℤ) → Has z → ⊥
AreExtremes Has (Some e) = Spans Has e

min_right : (x y : ℤ) → int_min x y ≤ℤ y
min_right x y = omega (arith, ints, clamps)

max_right : (x y : ℤ) → y ≤ℤ int_max x y
max_right x y = omega (arith, ints, clamps)

min_at : (x y z : ℤ) → y ≡ z → int_min x y ≤ℤ z
min_at x y z e = subst (λ w. int_min x y ≤ℤ w) e (min_right x y)

max_at : (x y z : ℤ) → y ≡ z → z ≤ℤ int_max x y
max_at x y z e = subst (λ w. w ≤ℤ int_max x y) e (max_right x y)

before_min : (x y z : ℤ) → x ≤ℤ z → int_min x y ≤ℤ z
before_min x y z h = omega (arith, ints, clamps)

past_max : (x y z : ℤ) → z ≤ℤ x → z ≤ℤ int_max x y
past_max x y z h = omega (arith, ints, clamps)

le_same : (x y : ℤ) → x ≡ y → x ≤ℤ y
le_same x y e = omega (arith, ints)

-- one post more
step : (Has : ℤ → Type 0) (o : Option Extremes) (post : Post) → AreExtremes Has o → AreExtremes (λ z. Has z ⊎ (post ≡ Metres z)) (widened o post)
unfolding AreExtremes
step Has None Void are = λ z h. elim h [ inl h ↦ are z h | inr e ↦ cc ]
step Has (Some e) Void are = record {
  has_least = inl are.has_least;
  has_greatest = inl are.has_greatest;
  between = λ z h. elim h [ inl h ↦ are.between z h | inr e ↦ cc ];
}
step Has None (Metres y) are = record {
  has_least = inr refl;
  has_greatest = inr refl;
  between = λ z h. elim h [ inl h ↦ absurd (are z h) | inr e ↦ (let same : y ≡ z = cc in le_same y z same, let same : z ≡ y = cc in le_same z y same) ];
}
step Has (Some e) (Metres y) are = record {
  has_least = cond_both (int_lt y e.least) y e.least (λ z. Has z ⊎ (Metres y ≡ Metres z)) (λ t. inr refl) (λ t. inl are.has_least);
  has_greatest = cond_both (int_lt y e.greatest) e.greatest y (λ z. Has z ⊎ (Metres y ≡ Metres z)) (λ t. inl are.has_greatest) (λ t. inr refl);
  between = λ z h. elim h [
    | inl h ↦ let old = are.between z h in (before_min e.least y z old.0, past_max e.greatest y z old.1)
    | inr same ↦ let is : y ≡ z = cc in (min_at e.least y z is, max_at e.greatest y z is)
  ];
}

-- the same heights under another name
along : (Has Other : ℤ → Type 0) (o : Option Extremes) → ((z : ℤ) → Has z → Other z) → ((z : ℤ) → Other z → Has z) → AreExtremes Has o → AreExtremes Other o
unfolding AreExtremes
along Has Other None to from are = λ z h. are z (from z h)
along Has Other (Some e) to from are = record { has_least = to _ are.has_least; has_greatest = to _ are.has_greatest; between = λ z h. are.between z (from z h) }

-- ---- the posts of a list, and of a list of lists
Among : List Post → ℤ → Type 0
Among [] z = ⊥
Among (post ∷ posts) z = (post ≡ Metres z) ⊎ Among posts z

over_list : (Has : ℤ → Type 0) (o : Option Extremes) (posts : List Post) → AreExtremes Has o → AreExtremes (λ z. Has z ⊎ Among posts z) (fold widened o posts)
unfolding Among
over_list Has o [] are = along Has (λ z. Has z ⊎ Among [] z) o (λ z h. inl h) (λ z h. elim h [ inl h ↦ h | inr none ↦ absurd none ]) are
over_list Has o (post ∷ posts) are =
    along (λ z. (Has z ⊎ (post ≡ Metres z)) ⊎ Among posts z) (λ z. Has z ⊎ Among (post ∷ posts) z) (fold widened (widened o post) posts)
    (λ z h. elim h [ inl old ↦ elim old [ inl h ↦ inl h | inr e ↦ inr (inl e) ] | inr later ↦ inr (inr later) ])
    (λ z h. elim h [ inl h ↦ inl (inl h) | inr more ↦ elim more [ inl e ↦ inl (inr e) | inr later ↦ inr later ] ])
    (over_list (λ z. Has z ⊎ (post ≡ Metres z)) (widened o post) posts (step Has o post are))

AmongAll : List (List Post) → ℤ → Type 0
AmongAll [] z = ⊥
AmongAll (posts ∷ more) z = Among posts z ⊎ AmongAll more z

over_all : (Has : ℤ → Type 0) (o : Option Extremes) (columns : List (List Post)) → AreExtremes Has o → AreExtremes (λ z. Has z ⊎ AmongAll columns z) (fold (fold widened) o columns)
unfolding AmongAll
over_all Has o [] are = along Has (λ z. Has z ⊎ AmongAll [] z) o (λ z h. inl h) (λ z h. elim h [ inl h ↦ h | inr none ↦ absurd none ]) are
over_all Has o (posts ∷ more) are =
    along (λ z. (Has z ⊎ Among posts z) ⊎ AmongAll more z) (λ z. Has z ⊎ AmongAll (posts ∷ more) z) (fold (fold widened) (fold widened o posts) more)
    (λ z h. elim h [ inl old ↦ elim old [ inl h ↦ inl h | inr e ↦ inr (inl e) ] | inr later ↦ inr (inr later) ])
    (λ z h. elim h [ inl h ↦ inl (inl h) | inr rest ↦ elim rest [ inl e ↦ inl (inr e) | inr later ↦ inr later ] ])
    (over_all (λ z. Has z ⊎ Among posts z) (fold widened o posts) more (over_list Has o posts are))

-- ---- by place
place_in : (posts : List Post) (z : ℤ) → Among posts z → (row : ℕ) × (row < length posts) × (get_or posts row Void ≡ Metres z)
unfolding Among
place_in [] z h = absurd h
place_in (post ∷ posts) z (inl e) = (0, omega arith, e)
place_in (post ∷ posts) z (inr h) = let later = place_in posts z h in (suc later.0, omega arith, later.2)

at_place : (posts : List Post) (z : ℤ) (row : ℕ) → get_or posts row Void ≡ Metres z → Among posts z
unfolding Among
at_place [] z row e = cc
at_place (post ∷ posts) z zero e = inl e
at_place (post ∷ posts) z (suc row) e = inr (at_place posts z row e)

column_of : (columns : List (List Post)) (z : ℤ) → AmongAll columns z → (col : ℕ) × (col < length columns) × Among (get_or columns col []) z
unfolding AmongAll
column_of [] z h = absurd h
column_of (posts ∷ more) z (inl h) = (0, omega arith, h)
column_of (posts ∷ more) z (inr h) = let later = column_of more z h in (suc later.0, omega arith, later.2)

at_column : (columns : List (List Post)) (z : ℤ) (col : ℕ) → Among (get_or columns col []) z → AmongAll columns z
unfolding Among AmongAll
at_column [] z col h = h
at_column (posts ∷ more) z zero h = inl h
at_column (posts ∷ more) z (suc col) h = inr (at_column more z col h)

-- ---- the posts of a file
column_is : (bytes : List ℕ) (col : ℕ) → col < columns_in bytes → get_or (posts_in bytes) col [] ≡ column_in bytes col
unfolding posts_in
column_is bytes col h = get_or-map-range_with_len (column_in bytes) 0 (columns_in bytes) col col [] h (omega arith)

columns_are : (bytes : List ℕ) → length (posts_in bytes) ≡ columns_in bytes
unfolding posts_in
columns_are bytes = length-map-range_with_len (column_in bytes) 0 (columns_in bytes)

post_is : (bytes : List ℕ) (col row : ℕ) → row < rows_in bytes → get_or (column_in bytes col) row Void ≡ post_in bytes col row
post_is bytes col row h = get_or-map-range_with_len (post_in bytes col) 0 (rows_in bytes) row row Void h (omega arith)

to_height : (bytes : List ℕ) (z : ℤ) → AmongAll (posts_in bytes) z → HasHeight bytes z
to_height bytes z h =
    let column = column_of (posts_in bytes) z h in
    let col_in : column.0 < columns_in bytes = omega (arith, columns_are bytes, column.1) in
    let row = place_in (column_in bytes column.0) z (rw (column_is bytes column.0 col_in) at column.2) in
    let row_in : row.0 < rows_in bytes = omega (arith, length-map-range_with_len (post_in bytes column.0) 0 (rows_in bytes), row.1) in
    (column.0, row.0, col_in, row_in, sym (post_is bytes column.0 row.0 row_in) ∙ row.2)

from_height : (bytes : List ℕ) (z : ℤ) → HasHeight bytes z → AmongAll (posts_in bytes) z
from_height bytes z (col, row, col_in, row_in, is) =
    at_column (posts_in bytes) z col (rw (column_is bytes col col_in) (at_place (column_in bytes col) z row (post_is bytes col row row_in ∙ is)))

extremes_are : (bytes : List ℕ) → AreExtremes (HasHeight bytes) (extremes_in bytes)
unfolding extremes_in AreExtremes
extremes_are bytes =
    along (λ z. ⊥ ⊎ AmongAll (posts_in bytes) z) (HasHeight bytes) (fold (fold widened) None (posts_in bytes))
    (λ z h. elim h [ inl none ↦ absurd none | inr h ↦ to_height bytes z h ])
    (λ z h. inr (from_height bytes z h))
    (over_all (λ z. ⊥) None (posts_in bytes) (λ z none. none))

-- ---- what a call says of them
void_by : (post : Post) → ((z : ℤ) → post ≡ Metres z → ⊥) → post ≡ Void
void_by Void h = refl
void_by (Metres z) h = absurd (h z refl)

none_by : (bytes : List ℕ) (o : Option Extremes) → AreExtremes (HasHeight bytes) o → IsNone o ↔ IsAllVoid bytes
unfolding AreExtremes
none_by bytes None are = (λ none col row c r. void_by (post_in bytes col row) (λ z e. are z (col, row, c, r, e)), λ all. refl)
none_by bytes (Some e) are =
    (λ none. cc, λ all. let (col, row, c, r, is) = are.has_least in let differs = sym is ∙ all col row c r in cc)

bounds_by : (bytes : List ℕ) (o : Option Extremes) → AreExtremes (HasHeight bytes) o → IfSome o (BoundsPosts bytes)
unfolding AreExtremes
bounds_by bytes None are = tt
bounds_by bytes (Some e) are = record { has_least = are.has_least; has_greatest = are.has_greatest; between = are.between }

pub no_extremes : (bytes : List ℕ) (o : Option Extremes) → o ≡ extremes_in bytes → IsNone o ↔ IsAllVoid bytes
no_extremes bytes o e = none_by bytes o (subst (AreExtremes (HasHeight bytes)) (sym e) (extremes_are bytes))

pub bounding : (bytes : List ℕ) (o : Option Extremes) → o ≡ extremes_in bytes → IfSome o (BoundsPosts bytes)
bounding bytes o e = bounds_by bytes o (subst (AreExtremes (HasHeight bytes)) (sym e) (extremes_are bytes))
