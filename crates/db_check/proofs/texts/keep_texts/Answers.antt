use Rattle.std.proofs.Common.{refl, subst, ◌∙◌}
use Rattle.std.proofs.lemmas.Result.{IfOk-weaker}
use Rattle.terrain_base.specs.declared.name.Key.TheVariants.{Manifest, Layer}
use Rattle.database.specs.Verdict.{difference_at, IsLeast}
use Rattle.db_files.proofs.RowKeys.{layer_is, text_is}
use Rattle.db_check.proofs.TileNames.{file_as, two_names}
use Rattle.db_check.proofs.texts.keep_texts.Goals as goal

pub returns-clause-least : goal.returns-clause-least
returns-clause-least g c = IfOk-weaker c.keep_compared-2.result _ _ (λ least tells files s names held p r before.
    let manifest = file_as s Manifest c.manifest.ensures
    (c.deref.ensures.value ∙ c.in_ok-manifest.ensures ∙ text_is s _ p r) refl in
    let layer = file_as s Layer c.layer.ensures
    (c.deref-2.ensures.value ∙ c.in_ok-layer.ensures ∙ layer_is s p r) refl in
    let one = c.in_ok-first.ensures.least files s names held manifest before in
    let two = tells files s _ (c.in_ok-first.ensures.same ∙ held) layer one in
    subst (λ all. IsLeast (difference_at s files) all least)
    (two_names names Manifest Layer c.manifest.ensures c.layer.ensures) two) c.keep_compared-2.ensures.least
