use Rattle.std.proofs.Common.{ap, ◌∙◌, subst, ◌++◌, option_map, arith}
use Rattle.terrain_base.specs.Sink.{FrontTaken}
use Rattle.top_reply.specs.Top.{usage_reply}
use Rattle.terrain_top.proofs.Coming.{said_done, said_stops}
use Rattle.terrain_top.proofs.top.run_usage.Goals as goal

pub returns-in-Ok-clause-goes : goal.returns-in-Ok-clause-goes
returns-in-Ok-clause-goes g c = λ held log tiles.
    said_done usage_reply held log _ _ tiles (c.in-Ok.ensures.all ∙ ap (λ text. option_map (λ taken. taken ++ text) (g.Si.Sink.taken c.args.out.now)) c.as_bytes.ensures.value)

pub returns-in-Err-clause-goes : goal.returns-in-Err-clause-goes
returns-in-Err-clause-goes g c = λ held log tiles. rw c.status_of_stop.ensures
    (said_stops usage_reply held log _ _ tiles c.in-Err.stop c.in-Err.ensures.only (omega arith)
    (subst (λ text. FrontTaken (g.Si.Sink.taken c.args.out.now) text (g.Si.Sink.taken c.print.new.out)) c.as_bytes.ensures.value c.in-Err.ensures.front))
