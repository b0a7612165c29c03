use Rattle.dted_cell.proofs.Numbers.{number_parts, number_whole}
use Rattle.dted_cell.proofs.laws.number_field.Goals as goal

pub returns-clause-parts : goal.returns-clause-parts
returns-clause-parts c = number_parts

pub returns-clause-whole : goal.returns-clause-whole
returns-clause-whole c = number_whole
