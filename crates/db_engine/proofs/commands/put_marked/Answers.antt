use Rattle.std.proofs.Common.{refl, sym, ◌∙◌}
use Rattle.terrain_base.proofs.Runs.{one_done, first_fails, as_step, write_is, at_err}
use Rattle.db_engine.proofs.commands.put_marked.Goals as goal
use Rattle.db_files.proofs.Parts.{ran_behind}
use Rattle.db_files.proofs.RowKeys.{any_key}

pub returns-in_err-put-clause-ran : goal.returns-in_err-put-clause-ran
returns-in_err-put-clause-ran g c =
    at_err c.from_residual.result _ c.from_residual.ensures.1 (first_fails (as_step (write_is c.stage.ensures refl) c.in_err-put.ensures.does))

pub put_mark-requires-clause-fits : goal.put_mark-requires-clause-fits
put_mark-requires-clause-fits g c = sym (any_key c.args.rows.now c.args.key) ∙ c.requires.there

pub returns-clause-ran : goal.returns-clause-ran
returns-clause-ran g c = ran_behind c.put_mark.result (one_done (as_step (write_is c.stage.ensures refl) c.in_ok-put.ensures.does)) c.put_mark.ensures.ran
