use Rattle.hgt_cells.proofs.Parts.{last_part_is}
use Rattle.hgt_cells.proofs.laws.last_parts_are_plain.Goals as goal

pub returns : goal.returns
returns c = last_part_is
