use Rattle.hgt_cells.proofs.Refusals.{first_refused}
use Rattle.hgt_cells.proofs.laws.the_first_is_refused.Goals as goal

pub returns : goal.returns
returns c = first_refused
