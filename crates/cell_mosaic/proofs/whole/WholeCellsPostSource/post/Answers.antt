use Rattle.std.proofs.Common.{◌∙◌}
use Rattle.cell_mosaic.proofs.WholeMaps.{is_held, is_found, told_post}
use Rattle.cell_mosaic.proofs.whole.WholeCellsPostSource.post.Goals as goal

pub unreachable-requires : goal.unreachable-requires
unreachable-requires g c = is_held c.args.self.now.cells.entries c.args.key c.args.col c.args.row c.requires.held c.in_default.ensures.value

pub post_of-requires-clause-col : goal.post_of-requires-clause-col
post_of-requires-clause-col g c =
    (is_found c.args.self.now.cells.entries c.args.key c.args.col c.args.row c.in-Some.cell.now c.args.self.now.good c.requires.held c.in-Some.ensures.value).col_below

pub post_of-requires-clause-row : goal.post_of-requires-clause-row
post_of-requires-clause-row g c =
    (is_found c.args.self.now.cells.entries c.args.key c.args.col c.args.row c.in-Some.cell.now c.args.self.now.good c.requires.held c.in-Some.ensures.value).row_below

pub returns-clause-value : goal.returns-clause-value
returns-clause-value g c told is =
    let found = is_found c.args.self.now.cells.entries c.args.key c.args.col c.args.row c.in-Some.cell.now c.args.self.now.good c.requires.held c.in-Some.ensures.value in
    c.post_of.ensures.value ∙ told_post c.args.self.now.cells.entries c.args.key c.args.col c.args.row c.in-Some.cell.now told found is
