use Rattle.std.specs.FinMap.{empty}
use Rattle.db_trial.proofs.Beginnings.{begin_keeps, begin_stops, no_keys}
use Rattle.db_trial.proofs.trial.begin.Goals as goal

pub returns-clause-keeps : goal.returns-clause-keeps
returns-clause-keeps g c =
    begin_keeps c.args.params c.init.result c.requires c.init.ensures.opened (c.init.ensures.ran empty c.requires no_keys) (c.init.ensures.starts empty c.requires no_keys)

pub returns-clause-stop : goal.returns-clause-stop
returns-clause-stop g c = begin_stops _ _ _ c.init.result c.requires c.init.ensures.refused

pub returns-clause-few : goal.returns-clause-few
returns-clause-few g c = c.init.ensures.few empty c.requires no_keys
