use Rattle.std.specs.Prelude.{◌≡◌, ◌+◌, ◌++◌, map, length}
use Rattle.manifest_lines.specs.Line.{ended}
use Rattle.manifest_lines.specs.Manifest.{AreRowsOf}
use Rattle.manifest_lines.proofs.rows.read_rows.Given as goal

abbrev pub invariant-loop-line : goal.invariant-loop-line
invariant-loop-line g l = record {
  ascend : AreRowsOf g.R.Row.grammar l.version l.rows.items;
  number : length l.rows.items + 6 ≡ l.line;
  same : l.bytes ≡ ended (map g.R.Row.grammar.text l.rows.items) ++ l.rest;
}
