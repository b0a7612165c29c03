use Rattle.dted_cell.proofs.Extremes.{no_extremes, bounding}
use Rattle.dted_cell.proofs.Views.{view_extremes}
use Rattle.dted_cell.proofs.view.CellView.extremes.Goals as goal

pub returns-clause-none : goal.returns-clause-none
returns-clause-none c = no_extremes c.args.self.now c.self.inside.counts.extremes (view_extremes c.self.inside.bytes.now c.args.self.now c.self.inside.counts c.self.invariant.1 c.self.view_is)

pub returns-clause-bounds : goal.returns-clause-bounds
returns-clause-bounds c = bounding c.args.self.now c.self.inside.counts.extremes (view_extremes c.self.inside.bytes.now c.args.self.now c.self.inside.counts c.self.invariant.1 c.self.view_is)
