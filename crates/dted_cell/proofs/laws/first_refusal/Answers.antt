use Rattle.common_laws.proofs.First.{first_found, first_only}
use Rattle.dted_cell.specs.Refusal.{conditions_of, refusal_of}
use Rattle.dted_cell.proofs.laws.first_refusal.Goals as goal

pub returns-clause-found : goal.returns-clause-found
unfolding refusal_of
returns-clause-found c bytes refusal is = first_found (conditions_of bytes) refusal is

pub returns-clause-only : goal.returns-clause-only
unfolding refusal_of
returns-clause-only c bytes refusal is = first_only (conditions_of bytes) refusal is
