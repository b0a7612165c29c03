-- Columns one after another: their extremes are joined, and their posts are the file's.
use Rattle.std.proofs.Common.{◌≡◌, ℕ, ℤ, ◌+◌, List, [], ◌∷◌, fold, map, Option, Some, None, Result, Ok, Err, IfOk, refl, sym, ap, ap₂, ◌∙◌, arith}
use Rattle.std.proofs.lemmas.Int.{ints, clamps}
use Rattle.std.proofs.lemmas.List.FromFn.{sum_by-map-range_with_len_more, map-range_with_len_more}
use Rattle.std.proofs.lemmas.List.Sums.{fold_push}
use Rattle.std.specs.Int.{int_min, int_max}
use Rattle.std.specs.List.{range_with_len, sum_by, count_by}
use Rattle.terrain_base.specs.declared.post.Post.{Post}
use Rattle.terrain_base.specs.declared.post.Post.TheVariants.{Void, Metres}
use Rattle.terrain_base.specs.declared.post.Extremes.{Extremes}
use Rattle.dted_cell.specs.declared.refusal.CellRefusal.{CellRefusal}
use Rattle.dted_cell.specs.declared.counts.Counts.{Counts}
use Rattle.dted_cell.specs.Lead.{text_behind_lead}
use Rattle.dted_cell.specs.Record.{posts_at}
use Rattle.dted_cell.specs.Cell.{columns_in, rows_in, post_in, posts_in, is_void_post, voids_in, widened, extremes_in}
use Rattle.dted_cell.specs.Counts.{joined, IsCounted}

-- ---- with one column more
pub sum_next : {X : Type 0} (g : X → ℕ) (f : ℕ → X) (n : ℕ) → sum_by g (map f (range_with_len 0 (n + 1))) ≡ sum_by g (map f (range_with_len 0 n)) + g (f n)
sum_next g f n = sum_by-map-range_with_len_more g f 0 n n (omega arith)

pub fold_next : {X Y : Type 0} (step : Y → X → Y) (f : ℕ → X) (a : Y) (n : ℕ) → fold step a (map f (range_with_len 0 (n + 1))) ≡ step (fold step a (map f (range_with_len 0 n))) (f n)
fold_next step f a n = ap (fold step a) (map-range_with_len_more f 0 n n (omega arith)) ∙ fold_push step a (map f (range_with_len 0 n)) (f n)

-- ---- extremes of columns
min_assoc : (x y z : ℤ) → int_min (int_min x y) z ≡ int_min x (int_min y z)
min_assoc x y z = omega (arith, ints, clamps)

max_assoc : (x y z : ℤ) → int_max (int_max x y) z ≡ int_max x (int_max y z)
max_assoc x y z = omega (arith, ints, clamps)

-- what is joined to one post is joined to all
joined_step : (o p : Option Extremes) (post : Post) → joined (widened o post) p ≡ joined o (joined (widened None post) p)
joined_step None p Void = refl
joined_step (Some e) p Void = refl
joined_step None p (Metres z) = refl
joined_step (Some e) None (Metres z) = refl
joined_step (Some e) (Some f) (Metres z) = ap₂ (λ x y. Some (record { least = x; greatest = y })) (min_assoc e.least z f.least) (max_assoc e.greatest z f.greatest)

joined_none : (o : Option Extremes) → o ≡ joined o None
joined_none None = refl
joined_none (Some e) = refl

-- a column's extremes are joined to those before it
pub joined_column : (o : Option Extremes) (posts : List Post) → fold widened o posts ≡ joined o (fold widened None posts)
joined_column o [] = joined_none o
joined_column o (post ∷ posts) =
    joined_column (widened o post) posts ∙ joined_step o (fold widened None posts) post
    ∙ ap (joined o) (sym (joined_column (widened None post) posts))

-- with one column more
pub extremes_next : (f : ℕ → List Post) (n : ℕ) (before more : Option Extremes) → before ≡ fold (fold widened) None (map f (range_with_len 0 n)) → more ≡ fold widened None (f n) → joined before more ≡ fold (fold widened) None (map f (range_with_len 0 (n + 1)))
extremes_next f n before more is_before is_more =
    ap (joined before) is_more ∙ sym (joined_column before (f n)) ∙ ap (λ o. fold widened o (f n)) is_before ∙ sym (fold_next (fold widened) f None n)

-- ---- the posts of a file
posts_are : (bytes text : List ℕ) (columns rows : ℕ) → text ≡ text_behind_lead bytes → columns ≡ columns_in bytes → rows ≡ rows_in bytes → map (posts_at text rows) (range_with_len 0 columns) ≡ posts_in bytes
unfolding posts_in post_in
posts_are bytes text columns rows t c r = rw (t, c, r) refl

pub counted_by : (bytes text : List ℕ) (columns rows : ℕ) (counts : Counts) → text ≡ text_behind_lead bytes → columns ≡ columns_in bytes → rows ≡ rows_in bytes
    → counts.voids ≡ sum_by (count_by is_void_post) (map (posts_at text rows) (range_with_len 0 columns)) → counts.extremes ≡ fold (fold widened) None (map (posts_at text rows) (range_with_len 0 columns)) → IsCounted bytes counts
unfolding voids_in extremes_in
counted_by bytes text columns rows counts t c r voids extremes =
    let posts = posts_are bytes text columns rows t c r in
    record { voids_are = voids ∙ ap (sum_by (count_by is_void_post)) posts; extremes_are = extremes ∙ ap (fold (fold widened) None) posts }

-- the same of an answer
pub counted_if : (bytes text : List ℕ) (columns rows : ℕ) (result : Result Counts CellRefusal) → text ≡ text_behind_lead bytes → columns ≡ columns_in bytes → rows ≡ rows_in bytes
    → IfOk result (λ counts. counts.voids ≡ sum_by (count_by is_void_post) (map (posts_at text rows) (range_with_len 0 columns)))
    → IfOk result (λ counts. counts.extremes ≡ fold (fold widened) None (map (posts_at text rows) (range_with_len 0 columns)))
    → IfOk result (IsCounted bytes)
counted_if bytes text columns rows (Ok counts) t c r voids extremes = counted_by bytes text columns rows counts t c r voids extremes
counted_if bytes text columns rows (Err refusal) t c r voids extremes = tt
