use Rattle.std.specs.Prelude.{◌<◌, ◌++◌, ◌∷◌, [], length}
use Rattle.std.proofs.Common.{arith, ap, ◌∙◌}
use Rattle.terrain_base.specs.Name.{row_text}
use Rattle.manifest_lines.specs.declared.version.Version.TheVariants.{Three}
use Rattle.manifest_lines.specs.Line.{ended}
use Rattle.manifest_lines.specs.KeyRow.{key_grammar}
use Rattle.manifest_lines.specs.Manifest.{head_lines}
use Rattle.manifest_lines.proofs.Readers.{write_next, write_end}
use Rattle.db_manifest.specs.Manifest.{manifest_text}
use Rattle.db_manifest.proofs.manifest.Manifest.write.Goals as goal

pub loop-row-preserved : goal.loop-row-preserved
loop-row-preserved c =
    let within : c.loop-row.row-index < length c.rows-rows.result.now = omega arith in
    let next = write_next key_grammar c.loop-row.text.items c.in_ok-text.text.items c.rows-rows.result.now c.loop-row.row-index c.row-item.result within c.loop-row.invariant in
    c.in_ok-push.ensures.items ∙ ap (λ t. t ++ 10 ∷ []) (c.in_ok-extend_from_slice.ensures.items ∙ ap (λ xs. c.loop-row.text.items ++ xs) (c.text.ensures ∙ ap row_text c.row-item.is)) ∙ next

pub returns : goal.returns
unfolding manifest_text
returns c =
    c.loop-row.invariant ∙ write_end key_grammar Three c.args.self.now c.in_ok-text.text.items c.rows-rows.result.now c.loop-row.row-index (omega arith) c.rows-rows.ensures.value
    (c.in_ok-text.ensures ∙ ap (λ p. ended (head_lines key_grammar Three p c.state.result (length c.rows-rows.result.now))) c.params.ensures
    ∙ ap (λ s. ended (head_lines key_grammar Three c.args.self.now.params s (length c.rows-rows.result.now))) c.state.ensures
    ∙ ap (λ rs. ended (head_lines key_grammar Three c.args.self.now.params c.args.self.now.state (length rs))) c.rows-rows.ensures.value)
