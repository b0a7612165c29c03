use Rattle.std.proofs.Common.{refl, sym, arith}
use Rattle.std.specs.FinMap.{get}
use Rattle.top_words.specs.Meant.{database_meant}
use Rattle.top_reply.specs.Cell.{cell_reply}
use Rattle.top_reply.specs.Convert.{convert_reply}
use Rattle.top_reply.specs.Database.{init_course}
use Rattle.terrain_top.proofs.Coming.{comes_as, turn_comes}
use Rattle.terrain_top.proofs.Commands.{audit_comes, read_comes, some_cell_reply, some_convert_reply, told_cell, told_convert, told_audit, told_init, told_migrate, told_trial, told_database}
use Rattle.terrain_top.proofs.top.answer_to.Goals as goal

pub returns-in-Init-clause-comes : goal.returns-in-Init-clause-comes
returns-in-Init-clause-comes g c = rw c.in-Init.is (λ course of.
    comes_as (init_course c.in-Init.params of.files) course _ _ c.answer_to_init.result (sym of.is)
    (turn_comes (init_course c.in-Init.params of.files) _ _ c.answer_to_init.result (c.answer_to_init.ensures.goes of.files of.store_tells) refl))

pub returns-in-Init-clause-told : goal.returns-in-Init-clause-told
returns-in-Init-clause-told g c = rw c.in-Init.is (λ held library store files.
    told_init c.in-Init.params (g.St.Store.holds c.args.store.now) (g.Li.Library.holds c.args.files.now) held library c.answer_to_init.result store)

pub returns-in-Database-clause-told : goal.returns-in-Database-clause-told
returns-in-Database-clause-told g c = rw c.in-Database.is (λ held library store files.
    told_database (database_meant c.in-Database.command) (g.St.Store.holds c.args.store.now) (g.Li.Library.holds c.args.files.now) held library c.answer_to_database.result store files
    (c.answer_to_database.ensures.told held library store files))

pub returns-in-Cell-clause-comes : goal.returns-in-Cell-clause-comes
returns-in-Cell-clause-comes g c = rw c.in-Cell.is (λ course of.
    read_comes (λ books. cell_reply c.in-Cell.file.now (get books c.in-Cell.file.now)) of.books (g.Li.Library.holds c.args.files.now) course _ _ c.answer_to_cell.result of.library_tells of.is
    (some_cell_reply c.in-Cell.file.now (get of.books c.in-Cell.file.now)) c.answer_to_cell.ensures.says c.answer_to_cell.ensures.asks.only refl refl refl (omega arith))

pub returns-in-Cell-clause-told : goal.returns-in-Cell-clause-told
returns-in-Cell-clause-told g c = rw c.in-Cell.is (λ held library store files.
    told_cell c.in-Cell.file.now (g.St.Store.holds c.args.store.now) (g.Li.Library.holds c.args.files.now) held library c.answer_to_cell.result files)

pub returns-in-Audit-clause-comes : goal.returns-in-Audit-clause-comes
returns-in-Audit-clause-comes g c = rw c.in-Audit.is (λ course of.
    audit_comes c.in-Audit.file.now of.books (g.Li.Library.holds c.args.files.now) course _ _ c.answer_to_audit.result of.library_tells of.is
    c.answer_to_audit.ensures.says c.answer_to_audit.ensures.asks.only refl refl refl (omega arith))

pub returns-in-Audit-clause-told : goal.returns-in-Audit-clause-told
returns-in-Audit-clause-told g c = rw c.in-Audit.is (λ held library store files.
    told_audit c.in-Audit.file.now (g.St.Store.holds c.args.store.now) (g.Li.Library.holds c.args.files.now) held library c.answer_to_audit.result files c.answer_to_audit.ensures.says)

pub returns-in-Migrate-clause-comes : goal.returns-in-Migrate-clause-comes
returns-in-Migrate-clause-comes g c = rw c.in-Migrate.is (λ course of.
    turn_comes course _ _ c.answer_to_migrate.result (c.answer_to_migrate.ensures.goes of.files course of.store_tells of.is) refl)

pub returns-in-Migrate-clause-told : goal.returns-in-Migrate-clause-told
returns-in-Migrate-clause-told g c = rw c.in-Migrate.is (λ held library store files.
    told_migrate (g.St.Store.holds c.args.store.now) (g.Li.Library.holds c.args.files.now) held library c.answer_to_migrate.result store
    (c.answer_to_migrate.ensures.has held store))

pub returns-in-Convert-clause-comes : goal.returns-in-Convert-clause-comes
returns-in-Convert-clause-comes g c = rw c.in-Convert.is (λ course of.
    read_comes (λ books. convert_reply c.in-Convert.file.now (get books c.in-Convert.file.now)) of.books (g.Li.Library.holds c.args.files.now) course _ _ c.answer_to_convert.result of.library_tells of.is
    (some_convert_reply c.in-Convert.file.now (get of.books c.in-Convert.file.now)) c.answer_to_convert.ensures.says c.answer_to_convert.ensures.asks.only refl refl refl (omega arith))

pub returns-in-Convert-clause-told : goal.returns-in-Convert-clause-told
returns-in-Convert-clause-told g c = rw c.in-Convert.is (λ held library store files.
    told_convert c.in-Convert.file.now (g.St.Store.holds c.args.store.now) (g.Li.Library.holds c.args.files.now) held library c.answer_to_convert.result files)

pub returns-in-Trial-clause-comes : goal.returns-in-Trial-clause-comes
returns-in-Trial-clause-comes g c = rw c.in-Trial.is (λ course of. c.answer_to_trial.ensures.comes _ _ _ course of.is)

pub returns-in-Trial-clause-told : goal.returns-in-Trial-clause-told
returns-in-Trial-clause-told g c = rw c.in-Trial.is (λ held library store files.
    told_trial c.in-Trial.count c.in-Trial.number (g.St.Store.holds c.args.store.now) (g.Li.Library.holds c.args.files.now) held library c.answer_to_trial.result c.answer_to_trial.ensures.told)
