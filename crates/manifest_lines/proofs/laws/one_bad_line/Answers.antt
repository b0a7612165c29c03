use Rattle.manifest_lines.proofs.Readers.{one_bad}
use Rattle.manifest_lines.proofs.laws.one_bad_line.Goals as goal

pub returns : goal.returns
returns g c = one_bad g.R.Row.grammar g.met.R.Row.sound
