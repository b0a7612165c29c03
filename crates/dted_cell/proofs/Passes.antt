-- A pass over elevations, block by block and then word by word.
use Rattle.std.proofs.Common.{◌≡◌, ℕ, zero, suc, ◌+◌, ◌*◌, ◌-◌, ◌<◌, ◌≤◌, Bool, true, false, cond, eqb, List, [], ◌∷◌, ◌++◌, length, take, drop, map, get_or, max, min, slice_range, count_by, sum, refl, sym, ap, ap₂, ◌∙◌, arith, take-add, drop-cons}
use Rattle.std.specs.Simd.Lanes.{zip2}
use Rattle.std.proofs.lemmas.List.{length-take, take_more}
use Rattle.std.proofs.lemmas.List.Sums.{sum_by-append, sum_by_more, sum_by_push}
use Rattle.dted_cell.specs.Words.{words_of, key, low_key, greatest_of, least_of}

words_append : (n : ℕ) (xs ys : List ℕ) → length xs ≡ 2 * n → words_of (xs ++ ys) ≡ words_of xs ++ words_of ys
words_append zero [] ys long = refl
words_append zero (a ∷ rest) ys long = absurd (omega (arith, long))
words_append (suc n) [] ys long = absurd (omega (arith, long))
words_append (suc n) (a ∷ []) ys long = absurd (omega (arith, long))
words_append (suc n) (a ∷ b ∷ rest) ys long = ap (λ ws. (256 * a + b) ∷ ws) (words_append n rest ys (omega (arith, long)))

-- words with m bytes more
pub words_more : (n m : ℕ) (xs : List ℕ) → 2 * n ≤ length xs → words_of (take (2 * n + m) xs) ≡ words_of (take (2 * n) xs) ++ words_of (slice_range xs (2 * n) (2 * n + m))
words_more n m xs inside =
    let cut : slice_range xs (2 * n) (2 * n + m) ≡ take m (drop (2 * n) xs) = ap (λ k. take k (drop (2 * n) xs)) (omega arith) in
    ap words_of (take-add (2 * n) m xs) ∙ words_append n (take (2 * n) xs) (take m (drop (2 * n) xs)) (omega (arith, length-take (2 * n) xs, inside))
    ∙ ap (λ ys. words_of (take (2 * n) xs) ++ words_of ys) (sym cut)

pub words_next : (b : ℕ) (xs : List ℕ) → 16 * b + 16 ≤ length xs → words_of (take (16 * (b + 1)) xs) ≡ words_of (take (16 * b) xs) ++ words_of (slice_range xs (16 * b) (16 * b + 16))
words_next b xs inside =
    let here : 16 * b ≡ 2 * (8 * b) = omega arith in
    let there : 16 * (b + 1) ≡ 2 * (8 * b) + 16 = omega arith in
    ap (λ n. words_of (take n xs)) there ∙ words_more (8 * b) 16 xs (omega (arith, inside))
    ∙ ap (λ n. words_of (take n xs) ++ words_of (slice_range xs n (n + 16))) (sym here)

-- ---- the least and the greatest of lanes
min_in : (x y u v : ℕ) → min (min x y) (min u v) ≡ min (min x u) (min y v)
min_in x y u v = omega arith

max_in : (x y u v : ℕ) → max (max x y) (max u v) ≡ max (max x u) (max y v)
max_in x y u v = omega arith

least_zip : (us vs : List ℕ) → length us ≡ length vs → least_of (zip2 min us vs) ≡ min (least_of us) (least_of vs)
least_zip [] [] long = refl
least_zip [] (v ∷ vs) long = absurd (omega (arith, long))
least_zip (u ∷ us) [] long = absurd (omega (arith, long))
least_zip (u ∷ us) (v ∷ vs) long = ap (λ n. min (min u v) n) (least_zip us vs (omega (arith, long))) ∙ min_in u v (least_of us) (least_of vs)

greatest_zip : (us vs : List ℕ) → length us ≡ length vs → greatest_of (zip2 max us vs) ≡ max (greatest_of us) (greatest_of vs)
greatest_zip [] [] long = refl
greatest_zip [] (v ∷ vs) long = absurd (omega (arith, long))
greatest_zip (u ∷ us) [] long = absurd (omega (arith, long))
greatest_zip (u ∷ us) (v ∷ vs) long = ap (λ n. max (max u v) n) (greatest_zip us vs (omega (arith, long))) ∙ max_in u v (greatest_of us) (greatest_of vs)

least_below : (vs : List ℕ) → least_of vs ≤ 65535
least_below [] = omega arith
least_below (v ∷ vs) = omega (arith, least_below vs)

least_nil : (n : ℕ) → n ≤ 65535 → n ≡ min 65535 n
least_nil n h = omega (arith, h)

min_assoc : (x y z : ℕ) → min x (min y z) ≡ min (min x y) z
min_assoc x y z = omega arith

max_nil : (n : ℕ) → n ≡ max 0 n
max_nil n = omega arith

max_assoc : (x y z : ℕ) → max x (max y z) ≡ max (max x y) z
max_assoc x y z = omega arith

least_append : (us vs : List ℕ) → least_of (us ++ vs) ≡ min (least_of us) (least_of vs)
least_append [] vs = least_nil (least_of vs) (least_below vs)
least_append (u ∷ us) vs = ap (λ n. min u n) (least_append us vs) ∙ min_assoc u (least_of us) (least_of vs)

greatest_append : (us vs : List ℕ) → greatest_of (us ++ vs) ≡ max (greatest_of us) (greatest_of vs)
greatest_append [] vs = max_nil (greatest_of vs)
greatest_append (u ∷ us) vs = ap (λ n. max u n) (greatest_append us vs) ∙ max_assoc u (greatest_of us) (greatest_of vs)

map_append : (f : ℕ → ℕ) (us vs : List ℕ) → map f (us ++ vs) ≡ map f us ++ map f vs
map_append f [] vs = refl
map_append f (u ∷ us) vs = ap (λ l. f u ∷ l) (map_append f us vs)

-- the accumulator of a block more
pub least_next : (acc keys so_far block all : List ℕ) → length acc ≡ length keys → least_of acc ≡ least_of (map low_key so_far) → keys ≡ map low_key block → all ≡ so_far ++ block → least_of (zip2 min acc keys) ≡ least_of (map low_key all)
least_next acc keys so_far block all long before now whole =
    least_zip acc keys long ∙ ap₂ min before (ap least_of now) ∙ sym (least_append (map low_key so_far) (map low_key block))
    ∙ ap least_of (sym (map_append low_key so_far block)) ∙ ap (λ l. least_of (map low_key l)) (sym whole)

pub greatest_next : (acc keys so_far block all : List ℕ) → length acc ≡ length keys → greatest_of acc ≡ greatest_of (map key so_far) → keys ≡ map key block → all ≡ so_far ++ block → greatest_of (zip2 max acc keys) ≡ greatest_of (map key all)
greatest_next acc keys so_far block all long before now whole =
    greatest_zip acc keys long ∙ ap₂ max before (ap greatest_of now) ∙ sym (greatest_append (map key so_far) (map key block))
    ∙ ap greatest_of (sym (map_append key so_far block)) ∙ ap (λ l. greatest_of (map key l)) (sym whole)

pub voids_next : (so_far block all : List ℕ) → all ≡ so_far ++ block → count_by (λ w. eqb w 65535) all ≡ count_by (λ w. eqb w 65535) so_far + count_by (λ w. eqb w 65535) block
voids_next so_far block all whole = ap (count_by (λ w. eqb w 65535)) whole ∙ sum_by-append (λ w. cond (eqb w 65535) 1 0) so_far block

-- one more element
min_top : (m x : ℕ) → m ≤ 65535 → min m (min x 65535) ≡ min m x
min_top m x h = omega (arith, h)

max_bottom : (m x : ℕ) → max m (max x 0) ≡ max m x
max_bottom m x = omega arith

least_push : (xs : List ℕ) (x : ℕ) → least_of (xs ++ x ∷ []) ≡ min (least_of xs) x
least_push xs x = least_append xs (x ∷ []) ∙ min_top (least_of xs) x (least_below xs)

greatest_push : (xs : List ℕ) (x : ℕ) → greatest_of (xs ++ x ∷ []) ≡ max (greatest_of xs) x
greatest_push xs x = greatest_append xs (x ∷ []) ∙ max_bottom (greatest_of xs) x

pub least_more : (xs : List ℕ) (i d : ℕ) → i < length xs → least_of (take (i + 1) xs) ≡ min (least_of (take i xs)) (get_or xs i d)
least_more xs i d h = ap least_of (take_more xs i d h) ∙ least_push (take i xs) (get_or xs i d)

pub greatest_more : (xs : List ℕ) (i d : ℕ) → i < length xs → greatest_of (take (i + 1) xs) ≡ max (greatest_of (take i xs)) (get_or xs i d)
greatest_more xs i d h = ap greatest_of (take_more xs i d h) ∙ greatest_push (take i xs) (get_or xs i d)

-- one word more
drop_next : (xs : List ℕ) (j : ℕ) → j < length xs → drop j xs ≡ get_or xs j 0 ∷ drop (j + 1) xs
drop_next xs j h = drop-cons xs j 0 h ∙ ap (λ k. get_or xs j 0 ∷ drop k xs) (let is : suc j ≡ j + 1 = omega arith in is)

one_word : (xs : List ℕ) (n : ℕ) → 2 * n + 2 ≤ length xs → slice_range xs (2 * n) (2 * n + 2) ≡ get_or xs (2 * n) 0 ∷ get_or xs (2 * n + 1) 0 ∷ []
one_word xs n h =
    let size : 2 * n + 2 - 2 * n ≡ 2 = omega arith in
    ap (λ k. take k (drop (2 * n) xs)) size ∙ ap (take 2) (drop_next xs (2 * n) (omega (arith, h)) ∙ ap (λ l. get_or xs (2 * n) 0 ∷ l) (drop_next xs (2 * n + 1) (omega (arith, h))))

pub word_more : (n : ℕ) (xs : List ℕ) → 2 * n + 2 ≤ length xs → words_of (take (2 * (n + 1)) xs) ≡ words_of (take (2 * n) xs) ++ (256 * get_or xs (2 * n) 0 + get_or xs (2 * n + 1) 0) ∷ []
word_more n xs h =
    let there : 2 * (n + 1) ≡ 2 * n + 2 = omega arith in
    ap (λ k. words_of (take k xs)) there ∙ words_more n 2 xs (omega (arith, h)) ∙ ap (λ l. words_of (take (2 * n) xs) ++ words_of l) (one_word xs n h)

pub sum_more_two : (n : ℕ) (xs : List ℕ) → 2 * n + 2 ≤ length xs → sum (take (2 * (n + 1)) xs) ≡ sum (take (2 * n) xs) + get_or xs (2 * n) 0 + get_or xs (2 * n + 1) 0
sum_more_two n xs h =
    let there : sum (take (2 * (n + 1)) xs) ≡ sum (take (2 * n + 1 + 1) xs) = ap (λ k. sum (take k xs)) (omega arith) in
    omega (arith, there, sum_by_more (λ x. x) xs (2 * n) 0 (omega (arith, h)), sum_by_more (λ x. x) xs (2 * n + 1) 0 (omega (arith, h)))

pub found_more : (n : ℕ) (xs : List ℕ) (w : ℕ) → 2 * n + 2 ≤ length xs → w ≡ 256 * get_or xs (2 * n) 0 + get_or xs (2 * n + 1) 0 →
    (count_by (λ v. eqb v 65535) (words_of (take (2 * (n + 1)) xs)) ≡ count_by (λ v. eqb v 65535) (words_of (take (2 * n) xs)) + cond (eqb w 65535) 1 0)
    × ((least_of (map low_key (words_of (take (2 * (n + 1)) xs))) ≡ min (least_of (map low_key (words_of (take (2 * n) xs)))) (low_key w))
    × (greatest_of (map key (words_of (take (2 * (n + 1)) xs))) ≡ max (greatest_of (map key (words_of (take (2 * n) xs)))) (key w)))
found_more n xs w h is =
    let so_far = words_of (take (2 * n) xs) in
    let all = words_of (take (2 * (n + 1)) xs) in
    let whole : all ≡ so_far ++ w ∷ [] = word_more n xs h ∙ ap (λ v. so_far ++ v ∷ []) (sym is) in
    let least = ap (λ l. least_of (map low_key l)) whole ∙ ap least_of (map_append low_key so_far (w ∷ [])) ∙ least_push (map low_key so_far) (low_key w) in
    let greatest = ap (λ l. greatest_of (map key l)) whole ∙ ap greatest_of (map_append key so_far (w ∷ [])) ∙ greatest_push (map key so_far) (key w) in
    (ap (count_by (λ v. eqb v 65535)) whole ∙ sum_by_push (λ v. cond (eqb v 65535) 1 0) so_far w, (least, greatest))

pub one_at_most : (b : Bool) → cond b 1 0 ≤ 1
one_at_most true = omega arith
one_at_most false = omega arith
