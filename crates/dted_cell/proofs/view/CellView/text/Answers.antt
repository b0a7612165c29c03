use Rattle.std.proofs.Common.{ap, ◌∙◌}
use Rattle.dted_cell.specs.Lead.{text_behind_lead}
use Rattle.dted_cell.proofs.Views.{view_long}
use Rattle.dted_cell.proofs.view.CellView.text.Goals as goal

pub returns-clause-long : goal.returns-clause-long
returns-clause-long c =
    rw (c.behind.ensures.text ∙ ap text_behind_lead c.self.view_is) (view_long c.self.inside.bytes.now c.args.self.now c.self.inside.header c.self.invariant.0 c.self.view_is)
