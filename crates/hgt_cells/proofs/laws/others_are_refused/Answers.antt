use Rattle.hgt_cells.proofs.Refusals.{accepted, none_refused}
use Rattle.hgt_cells.proofs.laws.others_are_refused.Goals as goal

pub returns : goal.returns
returns c = λ bytes. (accepted bytes, none_refused bytes)
