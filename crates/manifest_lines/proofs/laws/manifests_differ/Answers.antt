use Rattle.manifest_lines.proofs.Readers.{one_text}
use Rattle.manifest_lines.proofs.laws.manifests_differ.Goals as goal

pub returns : goal.returns
returns g c = one_text g.R.Row.grammar g.met.R.Row.sound
