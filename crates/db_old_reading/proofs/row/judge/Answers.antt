use Rattle.std.proofs.Common.{rules}
use Rattle.db_old_reading.proofs.row.judge.Goals as goal

pub returns-clause-sound : goal.returns-clause-sound
returns-clause-sound c = record {
  each = λ k. (c.type_inv.bytes k).fits;
  cell = record { accepted = search rules; square = search rules; level = search rules };
}
