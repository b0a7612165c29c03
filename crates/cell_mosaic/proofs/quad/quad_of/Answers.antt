use Rattle.cell_mosaic.proofs.Rounds.{row_small}
use Rattle.cell_mosaic.proofs.quad.quad_of.Goals as goal

pub side_of-sw-requires-clause-small : goal.side_of-sw-requires-clause-small
side_of-sw-requires-clause-small c = row_small c.args.cell.now c.args.row c.requires.in_row

pub side_of-se-requires-clause-small : goal.side_of-se-requires-clause-small
side_of-se-requires-clause-small c = row_small c.args.cell.now c.args.row c.requires.in_row
