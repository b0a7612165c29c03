use Rattle.std.proofs.Common.{◌∙◌}
use Rattle.cell_mosaic.proofs.WholeMaps.{is_held, is_found, round_found, told_round}
use Rattle.cell_mosaic.proofs.whole.WholeCellsPostSource.posts_round.Goals as goal

pub unreachable-requires : goal.unreachable-requires
unreachable-requires g c = is_held c.args.self.now.cells.entries c.args.key c.args.col c.args.row c.requires.sw c.in_default.ensures.value

pub quad_of-requires : goal.quad_of-requires
quad_of-requires g c =
    round_found c.args.self.now.cells.entries c.args.key c.args.col c.args.row c.args.on_column c.args.on_row c.in-Some.held.now c.args.self.now.good
    c.requires.sw c.requires.se c.requires.nw c.in-Some.ensures.value

pub returns-clause-value : goal.returns-clause-value
returns-clause-value g c told is =
    let found = is_found c.args.self.now.cells.entries c.args.key c.args.col c.args.row c.in-Some.held.now c.args.self.now.good c.requires.sw c.in-Some.ensures.value in
    c.quad_of.ensures.value
    ∙ told_round c.args.self.now.cells.entries c.args.key c.args.col c.args.row c.args.on_column c.args.on_row c.in-Some.held.now told found is
