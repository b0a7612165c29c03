use Rattle.availability.proofs.Scans.{runs_are, only_runs}
use Rattle.availability.proofs.laws.one_list_of_runs.Goals as goal

pub returns-clause-found : goal.returns-clause-found
returns-clause-found c = runs_are

pub returns-clause-only : goal.returns-clause-only
returns-clause-only c = only_runs
