use Rattle.dted_cell.proofs.Leads.{labels_are, lead_is}
use Rattle.dted_cell.proofs.laws.lead_is_labels.Goals as goal

pub returns : goal.returns
returns c bytes = (_, labels_are bytes, lead_is bytes)
