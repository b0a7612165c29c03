use Rattle.std.proofs.Common.{refl}
use Rattle.tile_deps.proofs.RunWalk.{last_of_run, rest_of_run}
use Rattle.tile_deps.proofs.existing.split.Goals as goal

pub returns-then-run : goal.returns-then-run
returns-then-run c = last_of_run c.args.run _ refl refl refl c.if-run.true

pub returns : goal.returns
returns c = rest_of_run c.args.run _ refl refl refl c.if-run.false
