use Rattle.manifest_lines.proofs.Versions.{text_version}
use Rattle.manifest_lines.proofs.laws.texts_tell_versions.Goals as goal

pub returns : goal.returns
returns g c = text_version g.R.Row.grammar
