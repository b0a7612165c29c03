use Rattle.availability.proofs.Deepest.{one_as_deep, none_deeper}
use Rattle.availability.proofs.laws.deepest_level_exists.Goals as goal

pub returns-clause-reached : goal.returns-clause-reached
returns-clause-reached c = one_as_deep

pub returns-clause-greatest : goal.returns-clause-greatest
returns-clause-greatest c = none_deeper
