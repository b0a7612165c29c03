-- The runs that are made column by column have the places that pass, and lie apart.
use Rattle.std.specs.Prelude.{◌≡◌, ℕ, zero, ◌+◌, ◌^◌, ◌<◌, ◌≤◌, ◌==◌, nat_le, nat_lt, ◌⊎◌, Bool, true, false, ◌&&◌, ◌||◌, List, [], ◌∷◌, suc}
use Rattle.std.specs.List.{AllByRecursion}
use Rattle.std.proofs.Common.{arith, inl, inr, refl, sym, ap, ◌∙◌}
use Rattle.std.proofs.lemmas.Bool.{and_parts, and_cases, and_left, eqb-true, eqb-false, eq-eqb, le-leb, lt-ltb, cond_both, cases_eq, lt-leb, ne_eqb}
use Rattle.std.proofs.lemmas.Bool.Decides.{nat_tests}
use Rattle.std.proofs.Math.Bool.{or-false}
use Rattle.common_laws.proofs.Lists.{all_weaker}
use Rattle.terrain_base.specs.declared.summary.Summary.{Summary}
use Rattle.availability.specs.declared.row_run.RowRun.{RowRun}
use Rattle.availability.specs.Existence.{exists_at, is_tile}
use Rattle.availability.specs.Runs.{has_at, is_in_runs, IsNonempty, IsApart, with_column, row_runs, rows_runs, runs_of, AreRuns}
use Rattle.availability.proofs.Ascending.{Ascend, apart_on, ascend_from, nonempty_of, apart_of}
use Rattle.availability.proofs.OneList.{one_list}

-- the run does not begin before the place
abbrev From : ℕ → ℕ → RowRun → Type 0
From row column run = (row < run.row) ⊎ ((row ≡ run.row) × (column ≤ run.start))

abbrev single : ℕ → ℕ → RowRun
single row column = record { row = row; start = column; end = column }

-- ---- one column more

-- the run that begins beside it is lengthened, or is not there
record Meets (row column : ℕ) (run : RowRun) : Type 0 where
  row_is : run.row ≡ row
  start_is : run.start ≡ column + 1

meets_parts : (row column : ℕ) (run : RowRun) → ((run.row == row) && (run.start == column + 1)) ≡ true → Meets row column run
meets_parts row column run h =
    let both = and_parts (run.row == row) (run.start == column + 1) h in
    record { row_is = eqb-true _ _ both.0; start_is = eqb-true _ _ both.1 }

single_apart : (row column : ℕ) (run : RowRun) → ((run.row == row) && (run.start == column + 1)) ≡ false → From row (column + 1) run → IsApart (single row column) run
single_apart row column run h (inl g) = inl g
single_apart row column run h (inr g) =
    elim (and_cases (run.row == row) (run.start == column + 1) h) [
      | inl e ↦ absurd (eqb-false run.row row e (sym g.0))
      | inr e ↦ let ne = eqb-false run.start (column + 1) e in inr (g.0, omega arith)
    ]

longer_apart : (row column : ℕ) (run next : RowRun) → run.row ≡ row → IsApart run next → IsApart (record { row = row; start = column; end = run.end }) next
longer_apart row column run next e (inl h) = inl (omega arith)
longer_apart row column run next e (inr h) = inr (omega arith, h.1)

pub with_ascend : (row column : ℕ) (east : List RowRun) → Ascend east → AllByRecursion (From row (column + 1)) east → Ascend (with_column row column east)
with_ascend row column [] h f = (omega arith, tt, tt)
with_ascend row column (run ∷ later) h f =
    cond_both ((run.row == row) && (run.start == column + 1)) (record { row = row; start = column; end = run.end } ∷ later) (single row column ∷ run ∷ later) Ascend
    (λ e.
    let m = meets_parts row column run e in
    let n = h.0 in
    let long : column ≤ run.end = omega (arith, m.start_is) in
    (long, all_weaker (IsApart run) (IsApart (record { row = row; start = column; end = run.end })) (λ x g. longer_apart row column run x m.row_is g) later h.1, h.2))
    (λ e.
    let first = single_apart row column run e f.0 in
    (omega arith, (first, all_weaker (IsApart run) (IsApart (single row column)) (λ x g. apart_on (single row column) run x h.0 first g) later h.1), h))

from_west_one : (row column : ℕ) (run : RowRun) → From row (column + 1) run → From row column run
from_west_one row column run (inl h) = inl h
from_west_one row column run (inr h) = inr (h.0, omega arith)

from_west : (row column : ℕ) (east : List RowRun) → AllByRecursion (From row (column + 1)) east → AllByRecursion (From row column) east
from_west row column east h = all_weaker (From row (column + 1)) (From row column) (λ x g. from_west_one row column x g) east h

pub with_from : (row column : ℕ) (east : List RowRun) → AllByRecursion (From row (column + 1)) east → AllByRecursion (From row column) (with_column row column east)
with_from row column [] f = (inr (refl, omega arith), tt)
with_from row column (run ∷ later) f =
    let rest = from_west row column (run ∷ later) f in
    cond_both ((run.row == row) && (run.start == column + 1)) (record { row = row; start = column; end = run.end } ∷ later) (single row column ∷ run ∷ later)
    (AllByRecursion (From row column))
    (λ e. (inr (refl, omega arith), rest.1))
    (λ e. (inr (refl, omega arith), rest))

-- ---- its places

one_column : (c x : ℕ) → (nat_le c x && nat_le x c) ≡ (c == x)
one_column c x = grind (arith, nat_tests)

column_beside : (c e x : ℕ) → c ≤ e → (nat_le c x && nat_le x e) ≡ ((c == x) || (nat_le (c + 1) x && nat_le x e))
column_beside c e x h = grind (arith, nat_tests)

spread : (r a b x : Bool) → ((r && (a || b)) || x) ≡ ((r && a) || ((r && b) || x))
spread true true b x = refl
spread true false b x = refl
spread false a b x = refl

longer_has : (row column : ℕ) (run : RowRun) (r c : ℕ) (x : Bool) → IsNonempty run → Meets row column run
    → (has_at r c (record { row = row; start = column; end = run.end }) || x) ≡ (((row == r) && (column == c)) || (has_at r c run || x))
longer_has row column run r c x n m =
    ap (λ b. ((row == r) && b) || x) (column_beside column run.end c (omega (arith, m.start_is)))
    ∙ spread (row == r) (column == c) (nat_le (column + 1) c && nat_le c run.end) x
    ∙ ap (λ s. ((row == r) && (column == c)) || (((row == r) && (nat_le s c && nat_le c run.end)) || x)) (sym m.start_is)
    ∙ ap (λ s. ((row == r) && (column == c)) || (((s == r) && (nat_le run.start c && nat_le c run.end)) || x)) (sym m.row_is)

pub with_places : (row column : ℕ) (east : List RowRun) (r c : ℕ) → Ascend east
    → is_in_runs (with_column row column east) r c ≡ (((row == r) && (column == c)) || is_in_runs east r c)
with_places row column [] r c h = ap (λ b. ((row == r) && b) || false) (one_column column c)
with_places row column (run ∷ later) r c h =
    cond_both ((run.row == row) && (run.start == column + 1)) (record { row = row; start = column; end = run.end } ∷ later) (single row column ∷ run ∷ later)
    (λ list. is_in_runs list r c ≡ (((row == r) && (column == c)) || is_in_runs (run ∷ later) r c))
    (λ e. longer_has row column run r c (is_in_runs later r c) h.0 (meets_parts row column run e))
    (λ e. ap (λ b. ((row == r) && b) || is_in_runs (run ∷ later) r c) (one_column column c))

-- ---- the columns of a row

and_false : (a b : Bool) → ((a && false) || b) ≡ b
and_false true b = refl
and_false false b = refl

pub and_true : (a : Bool) → (a && true) ≡ a
and_true true = refl
and_true false = refl

no_number : (column c : ℕ) → (nat_le column c && nat_lt c (column + 0)) ≡ false
no_number column c = grind (arith, nat_tests)

record RowOf (test : ℕ → ℕ → Bool) (row column left : ℕ) (later runs : List RowRun) : Type 0 where
  ascending : Ascend runs
  from : AllByRecursion (From row column) runs
  places : (r c : ℕ) → is_in_runs runs r c ≡ (((row == r) && ((nat_le column c && nat_lt c (column + left)) && test row c)) || is_in_runs later r c)

no_column : (column c : ℕ) (t : Bool) → ((nat_le column c && nat_lt c (column + 0)) && t) ≡ false
no_column column c t = and_left (nat_le column c && nat_lt c (column + 0)) t (no_number column c)

from_below : (row column : ℕ) (run : RowRun) → row < run.row → From row column run
from_below row column run h = inl h

-- of numbers from s on the first is told apart
peel : (s left x : ℕ) (t u : Bool) → (s ≡ x → t ≡ u)
    → (((s == x) && t) || ((nat_le (s + 1) x && nat_lt x (s + 1 + left)) && u)) ≡ ((nat_le s x && nat_lt x (s + suc left)) && u)
peel s left x t u same =
    elim (cases_eq s x) [
      | inl e ↦
          let a : (s == x) ≡ true = eq-eqb _ _ e in
          let b : nat_le (s + 1) x ≡ false = lt-leb _ _ (omega arith) in
          let c : nat_le s x ≡ true = le-leb _ _ (omega arith) in
          let d : nat_lt x (s + suc left) ≡ true = lt-ltb _ _ (omega arith) in
          rw (a, b, c, d, same e, or-false) refl
      | inr ne ↦
          let a : (s == x) ≡ false = ne_eqb _ _ ne in
          let b : nat_le (s + 1) x ≡ nat_le s x = grind (arith, nat_tests) in
          let c : s + 1 + left ≡ s + suc left = omega arith in
          rw (a, b, c) refl
    ]

row_more : (test : ℕ → ℕ → Bool) (row column left r c : ℕ) (x : Bool) → test row column ≡ true
    → (((row == r) && (column == c)) || (((row == r) && ((nat_le (column + 1) c && nat_lt c (column + 1 + left)) && test row c)) || x))
    ≡ (((row == r) && ((nat_le column c && nat_lt c (column + suc left)) && test row c)) || x)
row_more test row column left r c x h =
    sym (spread (row == r) (column == c) ((nat_le (column + 1) c && nat_lt c (column + 1 + left)) && test row c) x)
    ∙ ap (λ b. ((row == r) && (b || ((nat_le (column + 1) c && nat_lt c (column + 1 + left)) && test row c))) || x) (sym (and_true (column == c)) ∙ ap (λ b. (column == c) && b) (sym h))
    ∙ ap (λ b. ((row == r) && b) || x) (peel column left c (test row column) (test row c) (λ e. ap (test row) e))

row_as_before : (test : ℕ → ℕ → Bool) (row column left r c : ℕ) (x : Bool) → test row column ≡ false
    → (((row == r) && ((nat_le (column + 1) c && nat_lt c (column + 1 + left)) && test row c)) || x)
    ≡ (((row == r) && ((nat_le column c && nat_lt c (column + suc left)) && test row c)) || x)
row_as_before test row column left r c x h =
    ap (λ b. ((row == r) && b) || x)
    (sym (and_false (column == c) ((nat_le (column + 1) c && nat_lt c (column + 1 + left)) && test row c))
    ∙ ap (λ b. ((column == c) && b) || ((nat_le (column + 1) c && nat_lt c (column + 1 + left)) && test row c)) (sym h)
    ∙ peel column left c (test row column) (test row c) (λ e. ap (test row) e))

row_of : (test : ℕ → ℕ → Bool) (row column left : ℕ) (later : List RowRun) → Ascend later → AllByRecursion (λ run. row < run.row) later
    → RowOf test row column left later (row_runs test row column left later)
unfolding row_runs
row_of test row column zero later h f = record {
  ascending = h;
  from = all_weaker (λ run. row < run.row) (From row column) (λ x g. from_below row column x g) later f;
  places = λ r c. sym (ap (λ b. ((row == r) && b) || is_in_runs later r c) (no_column column c (test row c)) ∙ and_false (row == r) (is_in_runs later r c));
}
row_of test row column (suc left) later h f =
    let east = row_of test row (column + 1) left later h f in
    let list = row_runs test row (column + 1) left later in
    cond_both (test row column) (with_column row column list) list (RowOf test row column (suc left) later)
    (λ e. record {
      ascending = with_ascend row column list east.ascending east.from;
      from = with_from row column list east.from;
      places = λ r c. with_places row column list r c east.ascending ∙ ap (λ b. ((row == r) && (column == c)) || b) (east.places r c) ∙ row_more test row column left r c (is_in_runs later r c) e;
    })
    (λ e. record {
      ascending = east.ascending;
      from = from_west row column list east.from;
      places = λ r c. east.places r c ∙ row_as_before test row column left r c (is_in_runs later r c) e;
    })

-- ---- the rows

record RowsOf (test : ℕ → ℕ → Bool) (columns row left : ℕ) (runs : List RowRun) : Type 0 where
  ascending : Ascend runs
  from : AllByRecursion (λ run. row ≤ run.row) runs
  places : (r c : ℕ) → is_in_runs runs r c ≡ ((nat_le row r && nat_lt r (row + left)) && (nat_lt c columns && test r c))

row_at_least : (row : ℕ) (run : RowRun) → From row 0 run → row ≤ run.row
row_at_least row run (inl h) = omega arith
row_at_least row run (inr h) = omega arith

first_columns : (columns c : ℕ) → (nat_le 0 c && nat_lt c (0 + columns)) ≡ nat_lt c columns
first_columns columns c = grind (arith, nat_tests)

rows_of : (test : ℕ → ℕ → Bool) (columns row left : ℕ) → RowsOf test columns row left (rows_runs test columns row left)
unfolding rows_runs
rows_of test columns row zero = record { ascending = tt; from = tt; places = λ r c. sym (no_column row r (nat_lt c columns && test r c)) }
rows_of test columns row (suc left) =
    let north = rows_of test columns (row + 1) left in
    let list = rows_runs test columns (row + 1) left in
    let one = row_of test row 0 columns list north.ascending (all_weaker (λ run. row + 1 ≤ run.row) (λ run. row < run.row) (λ x g. omega arith) list north.from) in
    record {
      ascending = one.ascending;
      from = all_weaker (From row 0) (λ run. row ≤ run.row) (λ x g. row_at_least row x g) (row_runs test row 0 columns list) one.from;
      places = λ r c. one.places r c
          ∙ ap (λ b. ((row == r) && ((nat_le 0 c && nat_lt c (0 + columns)) && test row c)) || b) (north.places r c)
          ∙ ap (λ b. ((row == r) && (b && test row c)) || ((nat_le (row + 1) r && nat_lt r (row + 1 + left)) && (nat_lt c columns && test r c))) (first_columns columns c)
          ∙ peel row left r (nat_lt c columns && test row c) (nat_lt c columns && test r c) (λ e. ap (λ n. nat_lt c columns && test n c) e);
    }

-- ---- the runs of a level

level_places : (tile test : Bool) → (test ≡ true → tile ≡ true) → (tile && test) ≡ test
level_places true test h = refl
level_places false true h = h refl
level_places false false h = refl

and_both : (a b t : Bool) → (a && (b && t)) ≡ ((a && b) && t)
and_both true b t = refl
and_both false b t = refl

-- a tile of the level that exists is one
is_one : (cap : ℕ) (cells : List Summary) (z r c : ℕ) → exists_at cap cells z r c ≡ true → (nat_lt r (2 ^ z) && nat_lt c (2 ^ (z + 1))) ≡ true
is_one cap cells z r c h = (and_parts (nat_le z 14) (nat_lt r (2 ^ z) && nat_lt c (2 ^ (z + 1))) (and_parts (is_tile z r c) _ h).0).1

in_level : (z r c : ℕ) (t : Bool) → ((nat_le 0 r && nat_lt r (0 + 2 ^ z)) && (nat_lt c (2 ^ (z + 1)) && t)) ≡ ((nat_lt r (2 ^ z) && nat_lt c (2 ^ (z + 1))) && t)
in_level z r c t = ap (λ b. b && (nat_lt c (2 ^ (z + 1)) && t)) (first_columns (2 ^ z) r) ∙ and_both (nat_lt r (2 ^ z)) (nat_lt c (2 ^ (z + 1))) t

pub runs_ascend : (cap : ℕ) (cells : List Summary) (z : ℕ) → Ascend (runs_of cap cells z)
unfolding runs_of
runs_ascend cap cells z = (rows_of (exists_at cap cells z) (2 ^ (z + 1)) 0 (2 ^ z)).ascending

pub runs_places : (cap : ℕ) (cells : List Summary) (z r c : ℕ) → is_in_runs (runs_of cap cells z) r c ≡ exists_at cap cells z r c
unfolding runs_of
runs_places cap cells z r c =
    (rows_of (exists_at cap cells z) (2 ^ (z + 1)) 0 (2 ^ z)).places r c
    ∙ in_level z r c (exists_at cap cells z r c)
    ∙ level_places (nat_lt r (2 ^ z) && nat_lt c (2 ^ (z + 1))) (exists_at cap cells z r c) (is_one cap cells z r c)

pub runs_are : (cap z : ℕ) (cells : List Summary) → AreRuns cap cells z (runs_of cap cells z)
runs_are cap z cells = record {
  nonempty = nonempty_of (runs_of cap cells z) (runs_ascend cap cells z);
  apart = apart_of (runs_of cap cells z) (runs_ascend cap cells z);
  exact = runs_places cap cells z;
}

pub only_runs : (cap z : ℕ) (cells : List Summary) (list : List RowRun) → AreRuns cap cells z list → list ≡ runs_of cap cells z
only_runs cap z cells list h =
    one_list list (runs_of cap cells z) (ascend_from list h.nonempty h.apart) (runs_ascend cap cells z) (λ r c. h.exact r c ∙ sym (runs_places cap cells z r c))
