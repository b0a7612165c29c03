use Rattle.std.proofs.Common.{Ok, Err, sym, arith}
use Rattle.mesh_codec.proofs.FirstLaws.{ok_iff, some_tile}
use Rattle.mesh_codec.proofs.view.TileView.read.Goals as goal

pub returns-in-Ok-clause-ok : goal.returns-in-Ok-clause-ok
returns-in-Ok-clause-ok c = ok_iff c.args.bytes.now (Ok c.args.bytes.now) (λ k. omega (arith, c.type_inv.bytes k)) c.in-Ok.ensures

pub returns-in-Ok-clause-tile : goal.returns-in-Ok-clause-tile
returns-in-Ok-clause-tile c = some_tile c.args.bytes.now (λ k. omega (arith, c.type_inv.bytes k)) (sym c.in-Ok.ensures)

pub returns-in-Err-clause-ok : goal.returns-in-Err-clause-ok
returns-in-Err-clause-ok c = ok_iff c.args.bytes.now (Err c.in-Err.refusal) (λ k. omega (arith, c.type_inv.bytes k)) c.in-Err.ensures
