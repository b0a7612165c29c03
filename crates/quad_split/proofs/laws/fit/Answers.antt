use Rattle.quad_split.proofs.Meanings.{fit_test}
use Rattle.quad_split.proofs.laws.fit.Goals as goal

pub returns : goal.returns
returns c = fit_test
