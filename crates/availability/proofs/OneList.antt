-- Two lists of maximal runs with the same places are one.
use Rattle.std.specs.Prelude.{◌≡◌, ℕ, ◌+◌, ◌<◌, ◌≤◌, ◌⊎◌, true, false, List, [], ◌∷◌}
use Rattle.std.specs.List.{AllByRecursion}
use Rattle.std.proofs.Common.{arith, inl, inr, refl, sym, subst, ◌∙◌}
use Rattle.std.proofs.lemmas.Bool.{or_cases, or_left, cases_Bool, false_from_ne_true, both_ways}
use Rattle.availability.specs.declared.row_run.RowRun.{RowRun}
use Rattle.availability.specs.Runs.{has_at, is_in_runs, IsNonempty, IsApart}
use Rattle.availability.proofs.Ascending.{Ascend, has_parts, has_from, Past, past_from}

-- the same places are in both
abbrev pub Same : List RowRun → List RowRun → Type 0
Same xs ys = (row column : ℕ) → is_in_runs xs row column ≡ is_in_runs ys row column

-- the place is not before the run
abbrev From : RowRun → ℕ → ℕ → Type 0
From run row column = (run.row < row) ⊎ ((run.row ≡ row) × (run.start ≤ column))

from_past : (run : RowRun) (row column : ℕ) → IsNonempty run → Past run row column → From run row column
from_past run row column n (inl h) = inl h
from_past run row column n (inr h) = inr (h.0, omega arith)

from_first : (run : RowRun) (later : List RowRun) (row column : ℕ) → Ascend (run ∷ later) → is_in_runs (run ∷ later) row column ≡ true → From run row column
from_first run later row column h e =
    elim (or_cases (has_at row column run) (is_in_runs later row column) e) [
      | inl g ↦ let has = has_parts run row column g in inr (has.row_is, has.above)
      | inr g ↦ from_past run row column h.0 (past_from run later row column h.1 g)
    ]

first_in : (run : RowRun) (later : List RowRun) → IsNonempty run → is_in_runs (run ∷ later) run.row run.start ≡ true
first_in run later n = or_left _ _ (has_from run run.row run.start (record { row_is = refl; above = omega arith; below = n }))

begins_with : (a b : RowRun) (xs ys : List RowRun) → Ascend (a ∷ xs) → Ascend (b ∷ ys) → Same (a ∷ xs) (b ∷ ys) → From a b.row b.start
begins_with a b xs ys h g same = from_first a xs b.row b.start h (same b.row b.start ∙ first_in b ys g.0)

-- the end is no less
end_reaches : (a b : RowRun) (xs ys : List RowRun) → Ascend (a ∷ xs) → Same (a ∷ xs) (b ∷ ys) → a.row ≡ b.row → a.start ≡ b.start → IsNonempty a → a.end < b.end → ⊥
end_reaches a b xs ys h same row start n less =
    let inside : has_at a.row (a.end + 1) b ≡ true = has_from b a.row (a.end + 1) (record { row_is = sym row; above = omega arith; below = omega arith }) in
    elim (or_cases (has_at a.row (a.end + 1) a) (is_in_runs xs a.row (a.end + 1)) (same a.row (a.end + 1) ∙ or_left _ (is_in_runs ys a.row (a.end + 1)) inside)) [
      | inl g ↦ let has = has_parts a a.row (a.end + 1) g in omega arith
      | inr g ↦ let past = past_from a xs a.row (a.end + 1) h.1 g in omega arith
    ]

run_same : (a b : RowRun) → a.row ≡ b.row → a.start ≡ b.start → a.end ≡ b.end → a ≡ b
run_same a b p q r = λ i. record { row = p i; start = q i; end = r i }

same_head : (a b : RowRun) (xs ys : List RowRun) → Ascend (a ∷ xs) → Ascend (b ∷ ys) → Same (a ∷ xs) (b ∷ ys) → a ≡ b
same_head a b xs ys h g same =
    let back : Same (b ∷ ys) (a ∷ xs) = λ row column. sym (same row column) in
    let one : From a b.row b.start = begins_with a b xs ys h g same in
    let two : From b a.row a.start = begins_with b a ys xs g h back in
    let row : a.row ≡ b.row = omega arith in
    let start : a.start ≡ b.start = omega arith in
    let low : b.end < a.end → ⊥ = end_reaches b a ys xs g back (sym row) (sym start) g.0 in
    let high : a.end < b.end → ⊥ = end_reaches a b xs ys h same row start h.0 in
    run_same a b row start (omega arith)

pub not_behind : (run : RowRun) (later : List RowRun) (row column : ℕ) → AllByRecursion (IsApart run) later → has_at row column run ≡ true → is_in_runs later row column ≡ false
not_behind run later row column h e =
    false_from_ne_true _ (λ g.
    let has = has_parts run row column e in
    let past = past_from run later row column h g in
    omega arith)

same_rest : (run : RowRun) (xs ys : List RowRun) → AllByRecursion (IsApart run) xs → AllByRecursion (IsApart run) ys → Same (run ∷ xs) (run ∷ ys) → Same xs ys
same_rest run xs ys h g same row column =
    elim (cases_Bool (has_at row column run)) [
      | inl e ↦ not_behind run xs row column h e ∙ sym (not_behind run ys row column g e)
      | inr e ↦ rw e at (same row column)
    ]

pub one_list : (xs ys : List RowRun) → Ascend xs → Ascend ys → Same xs ys → xs ≡ ys
one_list [] [] h g same = refl
one_list [] (b ∷ ys) h g same = absurd (both_ways false refl (same b.row b.start ∙ first_in b ys g.0))
one_list (a ∷ xs) [] h g same = absurd (both_ways false refl (sym (same a.row a.start) ∙ first_in a xs h.0))
one_list (a ∷ xs) (b ∷ ys) h g same =
    let head = same_head a b xs ys h g same in
    let behind : AllByRecursion (IsApart a) ys = subst (λ r. AllByRecursion (IsApart r) ys) (sym head) g.1 in
    let rest = one_list xs ys h.2 g.2 (same_rest a xs ys h.1 behind (subst (λ r. Same (a ∷ xs) (r ∷ ys)) (sym head) same)) in
    cc
