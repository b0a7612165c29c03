use Rattle.std.proofs.Common.{◌≡◌, sym, subst}
use Rattle.std.specs.Prelude.{List}
use Rattle.std.specs.List.{All, AllPairs}
use Rattle.std.proofs.lemmas.List.Sorted.{All-permutation}
use Rattle.std.proofs.lemmas.Result.{IfOk-weaker}
use Rattle.availability.specs.declared.row_run.RowRun.{RowRun}
use Rattle.availability.specs.Merge.{IsBehind, AreJoined}
use Rattle.availability.specs.Runs.{IsNonempty, AreRuns, runs_of}
use Rattle.availability.proofs.Levels.{are_runs}
use Rattle.availability.proofs.Merges.{rise_from, pairs_from}
use Rattle.availability.proofs.Scans.{only_runs}
use Rattle.availability.proofs.row_run.runs.Goals as goal

pub merged-requires-clause-nonempty : goal.merged-requires-clause-nonempty
merged-requires-clause-nonempty c =
    subst (All IsNonempty) (sym c.deref.ensures.value)
    (All-permutation IsNonempty c.in_ok-list.list.items c.sort.new.self.items c.in_ok-sort.ensures.permutation c.in_ok-list.ensures.nonempty)

pub merged-requires-clause-sorted : goal.merged-requires-clause-sorted
merged-requires-clause-sorted c =
    subst (AllPairs IsBehind) (sym c.deref.ensures.value) (pairs_from c.sort.new.self.items (rise_from c.sort.new.self.items c.in_ok-sort.ensures.sorted))

-- what is joined are the maximal runs
joined_are : (c : goal.After-drop-list-2) (runs : List RowRun) → AreJoined c.deref.result.now runs → AreRuns c.args.cap c.args.summaries.now c.args.z runs
joined_are c runs h =
    are_runs c.args.cap c.args.z c.args.summaries.now c.in_ok-list.list.items c.sort.new.self.items runs c.in_ok-list.ensures.places
    c.in_ok-sort.ensures.permutation (subst (λ sorted. AreJoined sorted runs) c.deref.ensures.value h)

pub returns-clause-value : goal.returns-clause-value
returns-clause-value c =
    IfOk-weaker c.merged.result (λ list. AreJoined c.deref.result.now list.items) (λ list. list.items ≡ runs_of c.args.cap c.args.summaries.now c.args.z)
    (λ list h. only_runs c.args.cap c.args.z c.args.summaries.now list.items (joined_are c list.items h)) c.merged.ensures

pub returns-clause-meaning : goal.returns-clause-meaning
returns-clause-meaning c =
    IfOk-weaker c.merged.result (λ list. AreJoined c.deref.result.now list.items) (λ list. AreRuns c.args.cap c.args.summaries.now c.args.z list.items)
    (λ list h. joined_are c list.items h) c.merged.ensures
