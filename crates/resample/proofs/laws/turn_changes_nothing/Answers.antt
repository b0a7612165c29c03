use Rattle.resample.proofs.Turns.{turn_changes_nothing}
use Rattle.resample.proofs.laws.turn_changes_nothing.Goals as goal

pub returns : goal.returns
returns c = turn_changes_nothing
