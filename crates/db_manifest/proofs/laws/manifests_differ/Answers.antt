use Rattle.db_manifest.proofs.Texts.{differ}
use Rattle.db_manifest.proofs.laws.manifests_differ.Goals as goal

pub returns : goal.returns
returns c = differ
