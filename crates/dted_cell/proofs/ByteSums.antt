-- Sums of bytes, by lanes and by elements.
use Rattle.std.proofs.Common.{◌≡◌, ℕ, ◌+◌, ◌-◌, ◌*◌, ◌<◌, ◌≤◌, ◌^◌, List, [], ◌∷◌, length, take, drop, get_or, slice_range, sum, refl, sym, ap, ◌∙◌, arith, Fits, w8, w32, take-add}
use Rattle.std.specs.Simd.Lanes.{sum_l, Each2}
use Rattle.std.proofs.lemmas.List.{length-take}
use Rattle.std.proofs.lemmas.List.Sums.{sum_by-append, sum_by-cons, sum_by-take-le, sum_by_more_le}
use Rattle.std.proofs.lemmas.Simd.{Each1-from_get_or, bytes_below, chunk-fits, sum_bound, adds_fit}

pub same_sum : (xs : List ℕ) → sum_l xs ≡ sum xs
same_sum [] = refl
same_sum (x ∷ xs) = ap (λ n. x + n) (same_sum xs) ∙ sym (sum_by-cons (λ y. y) x xs)

-- a sum with one block more
pub block_more : (n m : ℕ) (xs : List ℕ) → sum (take (n + m) xs) ≡ sum (take n xs) + sum (slice_range xs n (n + m))
block_more n m xs =
    let cut : slice_range xs n (n + m) ≡ take m (drop n xs) = ap (λ k. take k (drop n xs)) (omega arith) in
    ap sum (take-add n m xs) ∙ sum_by-append (λ x. x) (take n xs) (take m (drop n xs)) ∙ ap (λ ys. sum (take n xs) + sum ys) (sym cut)

-- the sums of the blocks so far, with one block more
pub next_block : (b : ℕ) (xs sums fours : List ℕ) → length sums ≡ 4 → length fours ≡ 4 → sum_l sums ≡ sum (take (16 * b) xs) → sum_l fours ≡ sum (slice_range xs (16 * b) (16 * b + 16)) → sum_l sums + sum_l fours ≡ sum (take (16 * (b + 1)) xs)
next_block b xs sums fours long more so_far block =
    let place : sum (take (16 * (b + 1)) xs) ≡ sum (take (16 * b + 16) xs) = ap (λ n. sum (take n xs)) (omega arith) in
    omega (arith, so_far, block, place, block_more (16 * b) 16 xs)

-- a sum of bytes
pub bytes_small : (xs : List ℕ) → ((k : ℕ) → Fits w8 (get_or xs k 0)) → sum xs ≤ 255 * length xs
bytes_small xs fits =
    let each = bytes_below xs (Each1-from_get_or (Fits w8) xs 0 (λ k lt. fits k)) in
    omega (arith, sum_bound 255 xs each, same_sum xs)

pub front_small : (xs : List ℕ) (n : ℕ) → ((k : ℕ) → Fits w8 (get_or xs k 0)) → length xs < 2 ^ 20 → sum (take n xs) < 2 ^ 32
front_small xs n fits short = omega (arith, bytes_small xs fits, sum_by-take-le (λ x. x) xs n, short)

-- what the code asks and gives
pub lanes_fit : (b : ℕ) (xs sums fours : List ℕ) → ((k : ℕ) → Fits w8 (get_or xs k 0)) → length xs < 2 ^ 20 → length sums ≡ 4 → length fours ≡ 4 → sum_l sums ≡ sum (take (16 * b) xs) → sum_l fours ≡ sum (slice_range xs (16 * b) (16 * b + 16)) → Each2 (λ x y. Fits w32 (x + y)) sums fours
lanes_fit b xs sums fours fits short long more so_far block =
    adds_fit w32 sums fours (omega (arith, next_block b xs sums fours long more so_far block, front_small xs (16 * (b + 1)) fits short))

pub one_more_fits : (xs : List ℕ) (at : ℕ) → ((k : ℕ) → Fits w8 (get_or xs k 0)) → length xs < 2 ^ 20 → at < length xs → sum (take at xs) + get_or xs at 0 < 2 ^ 32
one_more_fits xs at fits short inside = omega (arith, sum_by_more_le (λ x. x) xs at 0 inside, bytes_small xs fits, short)

-- a sum of a part's bytes
pub slice_small : (xs : List ℕ) (from to : ℕ) → ((k : ℕ) → Fits w8 (get_or xs k 0)) → sum (slice_range xs from to) ≤ 255 * (to - from)
slice_small xs from to fits =
    let part = slice_range xs from to in
    let each = bytes_below part (chunk-fits w8 from (to - from) xs fits) in
    omega (arith, sum_bound 255 part each, same_sum part, length-take (to - from) (drop from xs))
