use Rattle.std.specs.Prelude.{◌≢◌, IsTrue}
use Rattle.std.proofs.Common.{◌∙◌}
use Rattle.manifest_lines.specs.declared.version.Version.TheVariants.{Two}
use Rattle.manifest_lines.proofs.Readers.{if_none}
use Rattle.old_manifest.specs.declared.row.OldRow.{OldRow}
use Rattle.old_manifest.specs.Rows.{old_suits, old_text}
use Rattle.old_manifest.proofs.OldKeys.{key_of}
use Rattle.old_manifest.proofs.row.read_key.Goals as goal

pub returns-in_err-key-clause-none : goal.returns-in_err-key-clause-none
returns-in_err-key-clause-none c =
    let none : (row : OldRow) → IsTrue (old_suits Two row.level) → c.args.line.now ≢ old_text row = λ row is e.
    let k = key_of row is in c.in_err-key.ensures.none k.0 (e ∙ k.1) in
    if_none _ none
