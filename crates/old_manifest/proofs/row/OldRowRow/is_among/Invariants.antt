use Rattle.std.specs.Prelude.{ℕ, ◌<◌, ◌≢◌, slice_index_or}
use Rattle.old_manifest.proofs.row.OldRowRow.is_among.Given as goal

abbrev pub invariant-loop-row : goal.invariant-loop-row
invariant-loop-row l = (k : ℕ) → k < l.row-index → slice_index_or l.rows k l.self ≢ l.self
