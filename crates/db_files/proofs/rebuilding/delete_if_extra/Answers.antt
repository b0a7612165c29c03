use Rattle.std.proofs.Common.{sym, ◌∙◌, []}
use Rattle.cell_cache.specs.Cached.{shapes_of_rows}
use Rattle.terrain_base.proofs.Runs.{one_done, all_some, first_fails, at_err, some_as}
use Rattle.db_files.proofs.Alike.{alike_self, alike_some, erase_extra}
use Rattle.db_files.proofs.Fillings.{one_extra}
use Rattle.db_files.proofs.rebuilding.delete_if_extra.Goals as goal

pub returns-in_err-delete-clause-ran : goal.returns-in_err-delete-clause-ran
returns-in_err-delete-clause-ran g c = λ s p r.
    at_err c.from_residual.result _ c.from_residual.ensures.1 (some_as (sym (one_extra s c.args.name.now [] (sym (c.is_extra.ensures.extra s p r) ∙ c.if-is_extra.true))) (first_fails c.in_err-delete.ensures.does))

pub returns-in_err-delete-clause-alike : goal.returns-in_err-delete-clause-alike
returns-in_err-delete-clause-alike g c =
    let other = erase_extra c.args.rows.now c.args.name.now c.is_extra.result c.if-is_extra.true c.is_extra.ensures.kept in
    alike_some (shapes_of_rows c.args.rows.now) other (first_fails {rest = []} c.in_err-delete.ensures.does)

pub returns-then-is_extra-clause-alike : goal.returns-then-is_extra-clause-alike
returns-then-is_extra-clause-alike g c =
    let other = erase_extra c.args.rows.now c.args.name.now c.is_extra.result c.if-is_extra.true c.is_extra.ensures.kept in
    alike_some (shapes_of_rows c.args.rows.now) other (all_some (one_done c.in_ok-delete.ensures.does))

pub returns-clause-alike : goal.returns-clause-alike
returns-clause-alike g c = alike_self (shapes_of_rows c.args.rows.now) (g.S.Store.holds c.args.store.now)
