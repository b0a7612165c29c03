-- Runs that lie apart, by recursion on the list.
use Rattle.std.specs.Prelude.{◌≡◌, ℕ, ◌+◌, ◌<◌, ◌≤◌, ◌==◌, nat_le, ◌⊎◌, true, ◌&&◌, ⊤, List, [], ◌∷◌, suc}
use Rattle.std.specs.List.{All, AllPairs, AllByRecursion}
use Rattle.std.proofs.Common.{arith, inl, inr}
use Rattle.std.proofs.lemmas.Bool.{and_parts, and_from, or_cases, leb-true, le-leb, eqb-true, eq-eqb}
use Rattle.std.proofs.lemmas.List.Elements.{All-nil, All-cons, All-head, All-tail, All-from_recursion, recursion_from_All}
use Rattle.std.proofs.lemmas.List.Kept.{AllPairs-cons}
use Rattle.availability.specs.declared.row_run.RowRun.{RowRun}
use Rattle.availability.specs.Runs.{has_at, is_in_runs, IsNonempty, IsApart}

-- no run is empty, and each lies apart from those behind it
abbrev pub Ascend : List RowRun → Type 0
Ascend [] = ⊤
Ascend (run ∷ later) = IsNonempty run × AllByRecursion (IsApart run) later × Ascend later

pub nonempty_of : (runs : List RowRun) → Ascend runs → All IsNonempty runs
nonempty_of [] h = All-nil IsNonempty
nonempty_of (run ∷ later) h = All-cons IsNonempty run later h.0 (nonempty_of later h.2)

pub apart_of : (runs : List RowRun) → Ascend runs → AllPairs IsApart runs
apart_of [] h = λ i j d lt within. absurd (omega arith)
apart_of (run ∷ later) h = AllPairs-cons IsApart run later (All-from_recursion (IsApart run) later h.1) (apart_of later h.2)

pub ascend_from : (runs : List RowRun) → All IsNonempty runs → AllPairs IsApart runs → Ascend runs
ascend_from [] h g = tt
ascend_from (run ∷ later) h g = (
  All-head IsNonempty run later h,
  recursion_from_All (IsApart run) later (λ k d within. g 0 (suc k) d (omega arith) (omega arith)),
  ascend_from later (All-tail IsNonempty run later h) (λ i j d lt within. g (suc i) (suc j) d (omega arith) (omega arith)),
)

-- ---- a place in a run

pub record Has (run : RowRun) (row column : ℕ) : Type 0 where
  pub row_is : run.row ≡ row
  pub above : run.start ≤ column
  pub below : column ≤ run.end

pub has_parts : (run : RowRun) (row column : ℕ) → has_at row column run ≡ true → Has run row column
has_parts run row column h =
    let both = and_parts (run.row == row) (nat_le run.start column && nat_le column run.end) h in
    let ends = and_parts (nat_le run.start column) (nat_le column run.end) both.1 in
    record { row_is = eqb-true _ _ both.0; above = leb-true _ _ ends.0; below = leb-true _ _ ends.1 }

pub has_from : (run : RowRun) (row column : ℕ) → Has run row column → has_at row column run ≡ true
has_from run row column h = and_from _ _ (eq-eqb _ _ h.row_is) (and_from _ _ (le-leb _ _ h.above) (le-leb _ _ h.below))

-- the place lies behind the run, with a column between
abbrev pub Past : RowRun → ℕ → ℕ → Type 0
Past run row column = (run.row < row) ⊎ ((run.row ≡ row) × (run.end + 1 < column))

past_one : (run next : RowRun) (row column : ℕ) → IsApart run next → Has next row column → Past run row column
past_one run next row column (inl h) g = inl (omega arith)
past_one run next row column (inr h) g = inr (omega arith, omega arith)

pub past_from : (run : RowRun) (later : List RowRun) (row column : ℕ) → AllByRecursion (IsApart run) later → is_in_runs later row column ≡ true → Past run row column
past_from run [] row column h e = absurd (cc)
past_from run (next ∷ later) row column h e =
    elim (or_cases (has_at row column next) (is_in_runs later row column) e) [
      | inl g ↦ past_one run next row column h.0 (has_parts next row column g)
      | inr g ↦ past_from run later row column h.1 g
    ]

-- ---- transitivity

pub apart_on : (a b c : RowRun) → IsNonempty b → IsApart a b → IsApart b c → IsApart a c
apart_on a b c n (inl h) (inl g) = inl (omega arith)
apart_on a b c n (inl h) (inr g) = inl (omega arith)
apart_on a b c n (inr h) (inl g) = inl (omega arith)
apart_on a b c n (inr h) (inr g) = inr (omega arith, omega arith)
