use Rattle.terrain_base.proofs.StoreMeanings.{stops_log_a_front}
use Rattle.terrain_base.proofs.laws.stops_log_a_front.Goals as goal

pub returns : goal.returns
returns c = stops_log_a_front
