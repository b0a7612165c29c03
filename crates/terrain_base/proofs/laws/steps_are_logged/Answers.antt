use Rattle.terrain_base.proofs.Stops.{log_of_told}
use Rattle.terrain_base.proofs.laws.steps_are_logged.Goals as goal

pub returns : goal.returns
returns c = log_of_told
