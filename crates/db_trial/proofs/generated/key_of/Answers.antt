use Rattle.std.proofs.Common.{refl}
use Rattle.db_trial.proofs.Cells.{key_told}
use Rattle.db_trial.proofs.generated.key_of.Goals as goal

pub returns : goal.returns
returns c = key_told _ c.args.drawn refl refl refl
