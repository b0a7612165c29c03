use Rattle.manifest_lines.specs.declared.version.Version.TheVariants.{Three}
use Rattle.manifest_lines.specs.KeyRow.{key_grammar, key_sound}
use Rattle.manifest_lines.proofs.Readers.{one_bad}
use Rattle.db_manifest.proofs.laws.one_bad_line.Goals as goal

pub returns : goal.returns
returns c bytes a b = one_bad key_grammar key_sound Three bytes a b
