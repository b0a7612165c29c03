use Rattle.std.proofs.Common.{◌∙◌}
use Rattle.common_laws.proofs.Options.{if_err_is}
use Rattle.terrain_base.proofs.Runs.{at_ok, at_err, goes_on, both_done, quiet, not_yet}
use Rattle.db_engine.specs.Holding.{no_cells}
use Rattle.db_engine.proofs.EditTroubles.{no_rows_trouble}
use Rattle.db_engine.proofs.RowLists.{none_are_rows}
use Rattle.db_engine.proofs.Starts.{none_filling, started, full_stop}
use Rattle.db_engine.proofs.starting.init.Goals as goal

pub restart-requires : goal.restart-requires
restart-requires g c = record { rows = none_are_rows c.deref.result.now (c.deref.ensures.value ∙ c.new-rows.ensures.items) }

pub of-requires : goal.of-requires
of-requires g c = none_are_rows c.new-rows.result.items c.new-rows.ensures.items

pub returns-in_err-names-clause-ran : goal.returns-in_err-names-clause-ran
returns-in_err-names-clause-ran g c = λ files is none.
    at_err c.from_residual.result _ c.from_residual.ensures.1 (not_yet c.in_err-names.ensures.same c.in_err-names.ensures.quiet)

pub returns-in_err-names-clause-starts : goal.returns-in_err-names-clause-starts
returns-in_err-names-clause-starts g c = λ files is none.
    started c.args.params files c.from_residual.result is none (at_err c.from_residual.result _ c.from_residual.ensures.1 (not_yet c.in_err-names.ensures.same c.in_err-names.ensures.quiet))

pub returns-in_err-restart-clause-refused : goal.returns-in_err-restart-clause-refused
returns-in_err-restart-clause-refused g c =
    if_err_is c.from_residual-in_err-restart.result _ _ c.from_residual-in_err-restart.ensures.1 (λ files is.
    let filling = none_filling _ c.args.params _ files (c.in_ok-names.ensures.same ∙ is) (c.deref.ensures.value ∙ c.new-rows.ensures.items) in
    full_stop _ files _ _ _ (c.in_err-restart.ensures.stop files (no_cells c.args.params) filling))

pub returns-in_err-restart-clause-ran : goal.returns-in_err-restart-clause-ran
returns-in_err-restart-clause-ran g c = λ files is none.
    let filling = none_filling _ c.args.params _ files (c.in_ok-names.ensures.same ∙ is) (c.deref.ensures.value ∙ c.new-rows.ensures.items) in
    at_err c.from_residual-in_err-restart.result _ c.from_residual-in_err-restart.ensures.1 (goes_on (quiet c.in_ok-names.ensures.same c.in_ok-names.ensures.quiet) (c.in_err-restart.ensures.ran files (no_cells c.args.params) filling).err)

pub returns-in_err-restart-clause-starts : goal.returns-in_err-restart-clause-starts
returns-in_err-restart-clause-starts g c = λ files is none.
    let filling = none_filling _ c.args.params _ files (c.in_ok-names.ensures.same ∙ is) (c.deref.ensures.value ∙ c.new-rows.ensures.items) in
    started c.args.params files c.from_residual-in_err-restart.result is none (at_err c.from_residual-in_err-restart.result _ c.from_residual-in_err-restart.ensures.1 (goes_on (quiet c.in_ok-names.ensures.same c.in_ok-names.ensures.quiet) (c.in_err-restart.ensures.ran files (no_cells c.args.params) filling).err))

pub returns-clause-ran : goal.returns-clause-ran
returns-clause-ran g c = λ files is none.
    let filling = none_filling _ c.args.params _ files (c.in_ok-names.ensures.same ∙ is) (c.deref.ensures.value ∙ c.new-rows.ensures.items) in
    at_ok (both_done (quiet c.in_ok-names.ensures.same c.in_ok-names.ensures.quiet) (c.in_ok-restart.ensures.ran files (no_cells c.args.params) filling).ok)

pub returns-clause-starts : goal.returns-clause-starts
returns-clause-starts g c = λ files is none.
    let filling = none_filling _ c.args.params _ files (c.in_ok-names.ensures.same ∙ is) (c.deref.ensures.value ∙ c.new-rows.ensures.items) in
    started c.args.params files _ is none (at_ok (both_done (quiet c.in_ok-names.ensures.same c.in_ok-names.ensures.quiet) (c.in_ok-restart.ensures.ran files (no_cells c.args.params) filling).ok))

pub returns-in_err-restart-clause-few : goal.returns-in_err-restart-clause-few
returns-in_err-restart-clause-few g c = λ files is none.
    let filling = none_filling _ c.args.params _ files (c.in_ok-names.ensures.same ∙ is) (c.deref.ensures.value ∙ c.new-rows.ensures.items) in
    c.in_err-restart.ensures.few files (no_cells c.args.params) filling

pub returns-clause-few : goal.returns-clause-few
returns-clause-few g c = λ files is none.
    let filling = none_filling _ c.args.params _ files (c.in_ok-names.ensures.same ∙ is) (c.deref.ensures.value ∙ c.new-rows.ensures.items) in
    c.in_ok-restart.ensures.few files (no_cells c.args.params) filling

pub returns-in_err-restart-clause-kinds : goal.returns-in_err-restart-clause-kinds
returns-in_err-restart-clause-kinds g c =
    if_err_is c.from_residual-in_err-restart.result _ _ c.from_residual-in_err-restart.ensures.1 (no_rows_trouble _ _ _ (c.deref.ensures.value ∙ c.new-rows.ensures.items) c.in_err-restart.ensures.trouble)
