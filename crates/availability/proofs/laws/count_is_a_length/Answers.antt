use Rattle.availability.proofs.Listings.{found_list}
use Rattle.availability.proofs.TileLists.{list_count}
use Rattle.availability.proofs.laws.count_is_a_length.Goals as goal

pub returns-clause-found : goal.returns-clause-found
returns-clause-found c = found_list

pub returns-clause-length : goal.returns-clause-length
returns-clause-length c = list_count
