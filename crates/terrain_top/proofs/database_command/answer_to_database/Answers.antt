use Rattle.std.proofs.Common.{refl}
use Rattle.top_words.specs.Meant.{database_meant}
use Rattle.top_reply.specs.Course.{world}
use Rattle.terrain_top.proofs.Settled.{settled, settled_told, not_settled, not_settled_told}
use Rattle.terrain_top.proofs.database_command.answer_to_database.Goals as goal

pub returns-in-Ok-clause-comes : goal.returns-in-Ok-clause-comes
returns-in-Ok-clause-comes g c = λ held library opening course is tells opens of.
    settled (database_meant c.args.command.now) library held _ _ _ is c.in-Ok.opened c.answer_opened.result (c.in-Ok.ensures.opened held is) (λ s m reads. (c.in-Ok.ensures.ran held s m is reads).ok)
    (λ s m reads. c.in-Ok.ensures.few held s m is reads) refl (λ s files rest h files_is asked. c.answer_opened.ensures.comes s files library rest h files_is tells asked) opening course opens of

pub returns-in-Ok-clause-told : goal.returns-in-Ok-clause-told
returns-in-Ok-clause-told g c = λ held library is tells.
    settled_told (database_meant c.args.command.now) library held _ _ _ is c.in-Ok.opened c.answer_opened.result (c.in-Ok.ensures.opened held is) (λ s m reads. (c.in-Ok.ensures.ran held s m is reads).ok)
    (λ s m reads. c.in-Ok.ensures.few held s m is reads) refl (λ s files rest h files_is asked. c.answer_opened.ensures.comes s files library rest h files_is tells asked)
    (λ s files h files_is. c.answer_opened.ensures.has s files library h files_is)

pub returns-in-Err-clause-comes : goal.returns-in-Err-clause-comes
returns-in-Err-clause-comes g c = λ held library opening course is tells opens of.
    not_settled (database_meant c.args.command.now) library held _ _ is c.in-Err.answer c.answer_of.result (c.in-Err.ensures.refused held is) refl c.answer_of.ensures.says c.answer_of.ensures.stops
    opening course opens of (c.in-Err.ensures.left held opening is opens) (λ s m reads. c.in-Err.ensures.stop held s m is reads) (λ s m reads. (c.in-Err.ensures.ran held s m is reads).err)

pub returns-in-Err-clause-told : goal.returns-in-Err-clause-told
returns-in-Err-clause-told g c = λ held library is tells.
    not_settled_told (database_meant c.args.command.now) library held (world (g.St.Store.holds c.args.store.now) (g.St.Store.log c.args.store.now) (g.Si.Sink.taken c.args.out.now) c.args.work.now) (world (g.St.Store.holds c.settle.new.store) (g.St.Store.log c.settle.new.store) (g.Si.Sink.taken c.args.out.now) c.settle.new.work) is c.in-Err.answer c.answer_of.result (c.in-Err.ensures.refused held is) refl c.answer_of.ensures.says c.answer_of.ensures.stops
