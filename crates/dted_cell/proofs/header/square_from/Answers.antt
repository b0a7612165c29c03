use Rattle.std.proofs.Common.{refl}
use Rattle.dted_cell.proofs.Squares.{square_found}
use Rattle.dted_cell.proofs.header.square_from.Goals as goal

pub returns : goal.returns
returns c = square_found _ c.args.lon c.args.lat c.requires c.if-lat-eq180.false refl refl
