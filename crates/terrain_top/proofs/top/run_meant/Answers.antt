use Rattle.std.proofs.Common.{sym}
use Rattle.top_reply.specs.Course.{said}
use Rattle.top_reply.specs.Top.{usage_reply}
use Rattle.terrain_top.proofs.Commands.{as_goes, no_command}
use Rattle.terrain_top.proofs.Coming.{answered, passes_goes}
use Rattle.terrain_top.proofs.top.run_meant.Goals as goal

pub returns-in-Some-clause-replies : goal.returns-in-Some-clause-replies
returns-in-Some-clause-replies g c = rw c.in-Some.is (λ course is.
    rw c.status_of.ensures (passes_goes course _ _ c.run_command.result (c.run_command.ensures.passes course is)))

pub returns-in-Some-clause-told : goal.returns-in-Some-clause-told
returns-in-Some-clause-told g c = rw c.in-Some.is (λ held library store files is.
    answered c.run_command.result (rw c.status_of.ensures at is) (c.run_command.ensures.told held library store files))

pub returns-in-None-clause-replies : goal.returns-in-None-clause-replies
returns-in-None-clause-replies g c = rw c.in-None.is (λ course of.
    as_goes (said usage_reply) course _ _ c.run_usage.result (sym of.is) (c.run_usage.ensures.goes _ _ _))

pub returns-in-None-clause-told : goal.returns-in-None-clause-told
returns-in-None-clause-told g c = rw c.in-None.is (λ held library store files answer.
    no_command (g.St.Store.holds c.args.store.now) (g.Li.Library.holds c.args.files.now) held library)
