use Rattle.db_manifest.proofs.Texts.{version_is}
use Rattle.db_manifest.proofs.laws.version_is_three.Goals as goal

pub returns : goal.returns
returns c = version_is
