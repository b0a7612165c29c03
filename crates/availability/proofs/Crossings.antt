-- One row more, and its run.
use Rattle.std.specs.Prelude.{◌≡◌, ℕ, ◌+◌, ◌≤◌, ◌==◌, nat_le, nat_lt, Bool, true, false, ◌&&◌, ◌||◌, List, [], ◌∷◌, ◌++◌}
use Rattle.std.proofs.Common.{arith, refl, ap, ◌∙◌}
use Rattle.std.proofs.lemmas.Bool.Decides.{nat_tests}
use Rattle.std.proofs.lemmas.List.Folds.{list_any-append}
use Rattle.tms_tree.specs.declared.touched.Run.{Run}
use Rattle.tms_tree.specs.Touched.{is_in_run}
use Rattle.availability.specs.declared.row_run.RowRun.{RowRun}
use Rattle.availability.specs.Runs.{has_at, is_in_runs}

one_more : (s row i : ℕ) → s ≤ i → ((nat_le s row && nat_lt row i) || (i == row)) ≡ (nat_le s row && nat_lt row (i + 1))
one_more s row i h = grind (arith, nat_tests)

gathered : (a b c d : Bool) → ((a || (b && c)) || ((d && c) || false)) ≡ (a || ((b || d) && c))
gathered true b c d = refl
gathered false true true true = refl
gathered false true true false = refl
gathered false true false true = refl
gathered false true false false = refl
gathered false false true true = refl
gathered false false true false = refl
gathered false false false true = refl
gathered false false false false = refl

pub row_added : (old list : List RowRun) (columns : Run) (s i row column : ℕ) → s ≤ i
    → is_in_runs list row column ≡ (is_in_runs old row column || ((nat_le s row && nat_lt row i) && is_in_run columns column))
    → is_in_runs (list ++ record { row = i; start = columns.start; end = columns.end } ∷ []) row column
    ≡ (is_in_runs old row column || ((nat_le s row && nat_lt row (i + 1)) && is_in_run columns column))
row_added old list columns s i row column h e =
    list_any-append (has_at row column) list (record { row = i; start = columns.start; end = columns.end } ∷ [])
    ∙ ap (λ b. b || (((i == row) && is_in_run columns column) || false)) e
    ∙ gathered (is_in_runs old row column) (nat_le s row && nat_lt row i) (is_in_run columns column) (i == row)
    ∙ ap (λ b. is_in_runs old row column || (b && is_in_run columns column)) (one_more s row i h)
