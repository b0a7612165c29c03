use Rattle.std.proofs.Common.{refl, ap, sym, ◌∙◌, string_bytes}
use Rattle.dted_cell.specs.Cell.{square_in}
use Rattle.cell_mosaic.specs.Whole.{key_in}
use Rattle.database.specs.Commands.{Add, Replace, Remove}
use Rattle.db_report.specs.declared.done.Edited.TheVariants.{Added, Replaced, Removed}
use Rattle.db_report.specs.Done.{edited_line_of}
use Rattle.top_reply.specs.Edits.{tiles_in}
use Rattle.terrain_top.proofs.EditsGo.{edit_goes, refused_goes}
use Rattle.terrain_top.proofs.edit.carry_out.Goals as goal

pub returns-in-Refused-clause-goes : goal.returns-in-Refused-clause-goes
returns-in-Refused-clause-goes g c = λ s h.
    rw c.in-Refused.is (refused_goes (string_bytes c.in-Refused.cause) s _ _ _ _ _ h c.requires (rw c.deref.ensures at c.refused.ensures.says) c.refused.ensures.memory)

pub returns-in-Add-clause-goes : goal.returns-in-Add-clause-goes
returns-in-Add-clause-goes g c = λ s h.
    let square = sym (c.square.ensures ∙ ap square_in c.view.ensures) in
    rw c.in-Add.is (edit_goes (Add (key_in c.in-Add.cell) c.in-Add.cell) s _ _ _ _ _ _ _ _ Added c.square.result (λ t. ap (λ place. edited_line_of Added place (tiles_in t)) square) _ _ c.add-outcome.result c.told.result
    h c.requires (c.add-outcome.ensures.edited s h) c.add-outcome.ensures.refused c.add-outcome.ensures.turned c.told.ensures.answers)

pub returns-in-Replace-clause-goes : goal.returns-in-Replace-clause-goes
returns-in-Replace-clause-goes g c = λ s h.
    let square = sym (c.square-in-Replace.ensures ∙ ap square_in c.view-in-Replace.ensures) in
    rw c.in-Replace.is (edit_goes (Replace (key_in c.in-Replace.cell) c.in-Replace.cell) s _ _ _ _ _ _ _ _ Replaced c.square-in-Replace.result (λ t. ap (λ place. edited_line_of Replaced place (tiles_in t)) square) _ _ c.replace-outcome.result c.told-in-Replace.result
    h c.requires (c.replace-outcome.ensures.edited s h) c.replace-outcome.ensures.refused c.replace-outcome.ensures.turned c.told-in-Replace.ensures.answers)

pub returns-in-Remove-clause-goes : goal.returns-in-Remove-clause-goes
returns-in-Remove-clause-goes g c = λ s h.
    rw c.in-Remove.is (edit_goes (Remove c.in-Remove.key) s _ _ _ _ _ _ _ _ Removed c.in-Remove.key.square (λ t. refl) _ _ c.remove-outcome.result c.told-in-Remove.result
    h c.requires (c.remove-outcome.ensures.edited s h) c.remove-outcome.ensures.refused c.remove-outcome.ensures.turned c.told-in-Remove.ensures.answers)
