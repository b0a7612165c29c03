use Rattle.db_manifest.proofs.Texts.{none_of}
use Rattle.db_manifest.proofs.laws.refused_are_none.Goals as goal

pub returns : goal.returns
returns c = none_of
