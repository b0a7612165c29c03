use Rattle.db_manifest.proofs.Texts.{as_third, text_third}
use Rattle.db_manifest.proofs.manifest.Manifest.read.Goals as goal

pub invariant_of-result : goal.invariant_of-result
invariant_of-result c = as_third c.in_ok-params.ensures.ok.good

pub returns-clause-ok : goal.returns-clause-ok
returns-clause-ok c =
    text_third c.args.bytes.now c.in_ok-params.field-0.params c.in_ok-params.field-0.state c.in_ok-params.field-0.rows.items c.in_ok-params.ensures.ok
