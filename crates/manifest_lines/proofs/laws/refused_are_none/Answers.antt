use Rattle.manifest_lines.proofs.Readers.{refused_is_none}
use Rattle.manifest_lines.proofs.laws.refused_are_none.Goals as goal

pub returns : goal.returns
returns g c = refused_is_none g.R.Row.grammar g.met.R.Row.sound
