use Rattle.std.proofs.Common.{refl}
use Rattle.db_engine.proofs.rows.row_in.Goals as goal

pub returns-clause-sound : goal.returns-clause-sound
returns-clause-sound c = record {
  each = λ k. (c.type_inv.bytes k).fits;
  cell = record { accepted = c.requires.cell; square = refl; level = refl };
}
