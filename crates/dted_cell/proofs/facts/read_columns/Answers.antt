use Rattle.std.proofs.Common.{◌+◌, ◌++◌, refl, arith}
use Rattle.dted_cell.specs.declared.counts.Counts.{Counts}
use Rattle.dted_cell.proofs.Streams.{consumes_then, next_records}
use Rattle.dted_cell.proofs.facts.read_columns.Goals as goal

pub loop-col-preserved : goal.loop-col-preserved
loop-col-preserved g c =
    let remaining = g.R.Read.remaining in
    let bytes = c.read_column.new.room in
    let before = c.loop-col.invariant.read in
    let column = rw c.in-Some.is at c.in_ok-column.ensures.column in
    let few = rw c.in-Some.is at c.in_ok-column.ensures.few in
    let both : Counts = record { voids = c.loop-col.counts.voids + c.in-Some.column.voids; extremes = c.join.result } in
    record {
      few = omega (arith, few, c.loop-col.invariant.few);
      read = (
        before.0 ++ bytes,
        consumes_then (remaining c.args.reader.now) (remaining c.loop-col.reader) (remaining c.read_column.new.reader) before.0 bytes before.1 column.0,
        next_records before.0 bytes c.args.rows c.loop-col.col c.loop-col.counts c.in-Some.column both before.2 column.1 refl c.join.ensures,
      );
    }
