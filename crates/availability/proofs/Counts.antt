-- The runs of a level have as many columns together as there are places in them.
use Rattle.std.specs.Prelude.{◌≡◌, ℕ, zero, suc, ◌+◌, ◌-◌, ◌*◌, ◌^◌, ◌<◌, ◌≤◌, ◌==◌, nat_le, nat_lt, min, Bool, true, false, cond, ◌&&◌, ◌||◌, List, [], ◌∷◌}
use Rattle.std.specs.List.{sum_by, list_any, AllByRecursion}
use Rattle.std.proofs.Common.{arith, add-one, inl, inr, refl, sym, ap, ◌∙◌}
use Rattle.std.proofs.lemmas.Bool.{cases_Bool, lt-ltb, ltb-true, and_parts, or_left, or_right}
use Rattle.std.proofs.lemmas.Bool.Decides.{nat_tests}
use Rattle.std.proofs.lemmas.List.Sums.{sum_by-cons}
use Rattle.std.proofs.Math.Nat.{pow-le-pow_right, mul-le-mul}
use Rattle.common_laws.proofs.Booleans.{one_at_most}
use Rattle.terrain_base.specs.declared.summary.Summary.{Summary}
use Rattle.tms_tree.proofs.Touching.{doubled}
use Rattle.availability.specs.Existence.{exists_at, is_tile, makes_at}
use Rattle.availability.specs.declared.row_run.RowRun.{RowRun}
use Rattle.availability.specs.Count.{sum_below, count_of, level_count_of, columns_of}
use Rattle.availability.specs.Runs.{has_at, is_in_runs, AreRuns}
use Rattle.availability.proofs.Ascending.{Ascend, has_from, ascend_from}
use Rattle.availability.proofs.OneList.{not_behind}

-- ---- sums

pub sum_plus : (f g h : ℕ → ℕ) → ((k : ℕ) → h k ≡ f k + g k) → (n : ℕ) → sum_below h n ≡ sum_below f n + sum_below g n
unfolding sum_below
sum_plus f g h e zero = refl
sum_plus f g h e (suc n) = let rest = sum_plus f g h e n in let here = e n in omega arith

pub sum_same : (f g : ℕ → ℕ) → ((k : ℕ) → f k ≡ g k) → (n : ℕ) → sum_below f n ≡ sum_below g n
unfolding sum_below
sum_same f g e zero = refl
sum_same f g e (suc n) = rw (sum_same f g e n, e n) refl

pub sum_none : (f : ℕ → ℕ) → ((k : ℕ) → f k ≡ 0) → (n : ℕ) → sum_below f n ≡ 0
unfolding sum_below
sum_none f e zero = refl
sum_none f e (suc n) = rw (sum_none f e n, e n) refl

pub sum_at_most : (f : ℕ → ℕ) (m : ℕ) → ((k : ℕ) → f k ≤ m) → (n : ℕ) → sum_below f n ≤ n * m
unfolding sum_below
sum_at_most f m h zero = omega arith
sum_at_most f m h (suc n) = let rest = sum_at_most f m h n in let here = h n in omega arith

-- one row of them
pub sum_one : (k v n : ℕ) → sum_below (λ row. cond (k == row) v 0) n ≡ cond (nat_lt k n) v 0
unfolding sum_below
sum_one k v zero = grind (arith, nat_tests)
sum_one k v (suc n) = let rest = sum_one k v n in grind (arith, nat_tests, rest)

between_more : (s e n x : ℕ) → x ≡ min n (e + 1) - s → x + cond (nat_le s n && nat_le n e) 1 0 ≡ min (suc n) (e + 1) - s
between_more s e n x h = grind (arith, nat_tests)

-- the columns from s to e
sum_between : (s e n : ℕ) → sum_below (λ column. cond (nat_le s column && nat_le column e) 1 0) n ≡ min n (e + 1) - s
unfolding sum_below
sum_between s e zero = omega arith
sum_between s e (suc n) = let rest = sum_between s e n in between_more s e n _ rest

-- ---- one run

within_all : (run : RowRun) (columns : ℕ) → run.end < columns → min columns (run.end + 1) - run.start ≡ columns_of run
within_all run columns h = omega arith

run_row : (run : RowRun) (columns row : ℕ) → run.end < columns → sum_below (λ column. cond (has_at row column run) 1 0) columns ≡ cond (run.row == row) (columns_of run) 0
run_row run columns row h =
    elim (cases_Bool (run.row == row)) [
      | inl e ↦ rw e (sum_between run.start run.end columns ∙ within_all run columns h)
      | inr e ↦ rw e (sum_none (λ column. 0) (λ k. refl) columns)
    ]

pub run_count : (run : RowRun) (columns rows : ℕ) → run.end < columns → run.row < rows → count_of (λ row column. has_at row column run) columns rows ≡ columns_of run
run_count run columns rows h g =
    sum_same (λ row. sum_below (λ column. cond (has_at row column run) 1 0) columns) (λ row. cond (run.row == row) (columns_of run) 0) (λ row. run_row run columns row h) rows
    ∙ sum_one run.row (columns_of run) rows
    ∙ ap (λ b. cond b (columns_of run) 0) (lt-ltb run.row rows g)

-- ---- all runs

pub one_or : (a b : Bool) → (a ≡ true → b ≡ false) → cond (a || b) 1 0 ≡ cond a 1 0 + cond b 1 0
one_or true b h = rw (h refl) refl
one_or false b h = omega arith

abbrev pub IsIn : ℕ → ℕ → RowRun → Type 0
IsIn columns rows run = (run.end < columns) × (run.row < rows)

pub runs_count : (runs : List RowRun) (columns rows : ℕ) → Ascend runs → AllByRecursion (IsIn columns rows) runs → count_of (is_in_runs runs) columns rows ≡ sum_by columns_of runs
runs_count [] columns rows h g = sum_none _ (λ row. sum_none (λ column. 0) (λ column. refl) columns) rows
runs_count (run ∷ later) columns rows h g =
    sum_plus (λ row. sum_below (λ column. cond (has_at row column run) 1 0) columns) (λ row. sum_below (λ column. cond (is_in_runs later row column) 1 0) columns)
    (λ row. sum_below (λ column. cond (is_in_runs (run ∷ later) row column) 1 0) columns)
    (λ row. sum_plus (λ column. cond (has_at row column run) 1 0) (λ column. cond (is_in_runs later row column) 1 0) (λ column. cond (is_in_runs (run ∷ later) row column) 1 0)
    (λ column. one_or (has_at row column run) (is_in_runs later row column) (λ e. not_behind run later row column h.1 e)) columns) rows
    ∙ ap (λ n. n + count_of (is_in_runs later) columns rows) (run_count run columns rows g.0.0 g.0.1)
    ∙ ap (λ n. columns_of run + n) (runs_count later columns rows h.2 g.1)
    ∙ sym (sum_by-cons columns_of run later)

-- ---- a level

-- the first and the last place of each run are in one
all_in : (columns rows : ℕ) (test : ℕ → ℕ → Bool) → ((r c : ℕ) → test r c ≡ true → (c < columns) × (r < rows))
    → (runs : List RowRun) → Ascend runs → ((r c : ℕ) → is_in_runs runs r c ≡ true → test r c ≡ true) → AllByRecursion (IsIn columns rows) runs
all_in columns rows test within [] h g = tt
all_in columns rows test within (run ∷ later) h g = (
  within run.row run.end (g run.row run.end (or_left _ _ (has_from run run.row run.end (record { row_is = refl; above = h.0; below = omega arith })))),
  all_in columns rows test within later h.2 (λ r c e. g r c (or_right (has_at r c run) _ e)),
)

pub count_same : (a b : ℕ → ℕ → Bool) (columns rows : ℕ) → ((r c : ℕ) → a r c ≡ b r c) → count_of a columns rows ≡ count_of b columns rows
count_same a b columns rows h =
    sum_same (λ r. sum_below (λ c. cond (a r c) 1 0) columns) (λ r. sum_below (λ c. cond (b r c) 1 0) columns)
    (λ r. sum_same (λ c. cond (a r c) 1 0) (λ c. cond (b r c) 1 0) (λ c. ap (λ t. cond t 1 0) (h r c)) columns) rows

count_at_most : (test : ℕ → ℕ → Bool) (columns rows : ℕ) → count_of test columns rows ≤ rows * columns
count_at_most test columns rows =
    sum_at_most (λ r. sum_below (λ c. cond (test r c) 1 0) columns) columns
    (λ r. let most = sum_at_most (λ c. cond (test r c) 1 0) 1 (λ c. one_at_most (test r c)) columns in omega (arith, most)) rows

exists_within : (cap : ℕ) (cells : List Summary) (z r c : ℕ) → exists_at cap cells z r c ≡ true → (c < 2 ^ (z + 1)) × (r < 2 ^ z)
exists_within cap cells z r c h =
    let tile = and_parts (nat_le z 14) (nat_lt r (2 ^ z) && nat_lt c (2 ^ (z + 1))) (and_parts (is_tile z r c) ((z == 0) || list_any (makes_at cap z r c) cells) h).0 in
    let both = and_parts (nat_lt r (2 ^ z)) (nat_lt c (2 ^ (z + 1))) tile.1 in
    (ltb-true c (2 ^ (z + 1)) both.1, ltb-true r (2 ^ z) both.0)

pub level_is : (cap : ℕ) (cells : List Summary) (z : ℕ) (runs : List RowRun) → AreRuns cap cells z runs → sum_by columns_of runs ≡ level_count_of cap cells z
level_is cap cells z runs h =
    let ascend = ascend_from runs h.nonempty h.apart in
    sym (runs_count runs (2 ^ (z + 1)) (2 ^ z) ascend
    (all_in (2 ^ (z + 1)) (2 ^ z) (exists_at cap cells z) (exists_within cap cells z) runs ascend (λ r c e. sym (h.exact r c) ∙ e)))
    ∙ count_same (is_in_runs runs) (exists_at cap cells z) (2 ^ (z + 1)) (2 ^ z) h.exact

pub level_few : (cap : ℕ) (cells : List Summary) (z : ℕ) → z ≤ 14 → level_count_of cap cells z ≤ 2 ^ 29
level_few cap cells z h =
    let most = count_at_most (exists_at cap cells z) (2 ^ (z + 1)) (2 ^ z) in
    let rows : 2 ^ z ≤ 2 ^ 14 = pow-le-pow_right (omega arith) h in
    let two = doubled z in
    let square : 2 ^ z * 2 ^ z ≤ 2 ^ 14 * 2 ^ 14 = mul-le-mul rows rows in
    let all : 2 ^ z * 2 ^ (z + 1) ≡ 2 ^ z * 2 ^ z + 2 ^ z * 2 ^ z = rw two (omega arith) in
    omega (arith, most, square, all)

-- ---- all levels

pub one_more_level : (f : ℕ → ℕ) (n : ℕ) → sum_below f (n + 1) ≡ sum_below f n + f n
unfolding sum_below
one_more_level f n = rw add-one refl

pub no_level : (f : ℕ → ℕ) → sum_below f 0 ≡ 0
unfolding sum_below
no_level f = refl
