use Rattle.std.proofs.Common.{ℕ, ◌*◌, ◌≤◌, List}
use Rattle.std.specs.Io.KnownBytes.{Consumes}
use Rattle.dted_cell.specs.Facts.{AreRecords}
use Rattle.dted_cell.proofs.facts.read_columns.Given as goal

abbrev pub invariant-loop-col : goal.invariant-loop-col
invariant-loop-col g l = record {
  few : l.counts.voids ≤ l.col * l.rows;
  read : (records : List ℕ) × Consumes (g.R.Read.remaining l.initial.reader) (g.R.Read.remaining l.reader) records × AreRecords records l.rows l.col l.counts;
}
