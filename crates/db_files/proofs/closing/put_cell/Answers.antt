use Rattle.std.proofs.Common.{refl, sym, ap, ◌∙◌}
use Rattle.terrain_base.specs.declared.name.Key.TheVariants.{Cell}
use Rattle.terrain_base.specs.Step.{Erase}
use Rattle.terrain_base.specs.Overwrite.{step_to}
use Rattle.terrain_base.proofs.Runs.{first_fails, at_err, as_step, write_is}
use Rattle.db_files.specs.Serving.{bytes_of}
use Rattle.db_files.proofs.closing.put_cell.Goals as goal

pub returns-in_err-put-in-Some-clause-ran : goal.returns-in_err-put-in-Some-clause-ran
returns-in_err-put-in-Some-clause-ran g c =
    let step = write_is c.cell.ensures refl ∙ ap (λ o. step_to (bytes_of o) (Cell c.args.key)) (sym c.in-Some.is) in
    at_err c.from_residual.result _ c.from_residual.ensures.1 (first_fails (as_step step c.in_err-put-in-Some.ensures.does))

pub returns-in_err-delete-in-None-clause-ran : goal.returns-in_err-delete-in-None-clause-ran
returns-in_err-delete-in-None-clause-ran g c =
    let step = ap Erase c.cell-in-None.ensures ∙ ap (λ o. step_to (bytes_of o) (Cell c.args.key)) (sym c.in-None.is) in
    at_err c.from_residual-in_err-delete-in-None.result _ c.from_residual-in_err-delete-in-None.ensures.1 (first_fails (as_step step c.in_err-delete-in-None.ensures.does))
