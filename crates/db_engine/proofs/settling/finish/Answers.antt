use Rattle.std.proofs.Common.{refl, sym, ap, subst, ◌≤◌, ◌+◌}
use Rattle.terrain_base.specs.Step.{Erase}
use Rattle.database.specs.Commands.{settling}
use Rattle.terrain_base.proofs.Runs.{first_fails, at_err, as_step, some_as}
use Rattle.db_engine.specs.Settling.{count_settling}
use Rattle.db_engine.proofs.Settles.{put_known, drop_known, rebuild_known, ran_mark}
use Rattle.db_engine.proofs.settling.finish.Goals as goal

pub returns-in_err-delete-in-Closed-clause-ran : goal.returns-in_err-delete-in-Closed-clause-ran
returns-in_err-delete-in-Closed-clause-ran g c = λ s known.
    at_err c.from_residual.result _ c.from_residual.ensures.1
    (some_as (ap (λ m. settling m known.files s) (sym c.in-Closed.is)) (first_fails (as_step (ap Erase c.stage.ensures) c.in_err-delete-in-Closed.ensures.does)))

pub returns-in-Put-clause-ran : goal.returns-in-Put-clause-ran
returns-in-Put-clause-ran g c = λ s known.
    let staged = put_known _ c.args.reading.now s c.in-Put.key _ _ c.in-Put.is known refl c.deref.ensures.value in
    ran_mark known.files s (sym c.in-Put.is) (c.put_staged.ensures.ran s staged)

pub returns-in-Put-clause-stop : goal.returns-in-Put-clause-stop
returns-in-Put-clause-stop g c = λ s known.
    let staged = put_known _ c.args.reading.now s c.in-Put.key _ _ c.in-Put.is known refl c.deref.ensures.value in
    c.put_staged.ensures.stop s staged

pub returns-in-Put-clause-few : goal.returns-in-Put-clause-few
returns-in-Put-clause-few g c = λ s known.
    let staged = put_known _ c.args.reading.now s c.in-Put.key _ _ c.in-Put.is known refl c.deref.ensures.value in
    subst (λ m. c.put_staged.new.work ≤ c.args.work.now + count_settling m s) (sym c.in-Put.is) (c.put_staged.ensures.few s staged)

pub returns-in-Drop-clause-ran : goal.returns-in-Drop-clause-ran
returns-in-Drop-clause-ran g c = λ s known.
    let closing = drop_known _ c.args.reading.now s c.in-Drop.key _ _ c.in-Drop.is known refl c.deref-in-Drop.ensures.value in
    ran_mark known.files s (sym c.in-Drop.is) (c.close.ensures.ran s closing)

pub returns-in-Drop-clause-stop : goal.returns-in-Drop-clause-stop
returns-in-Drop-clause-stop g c = λ s known.
    let closing = drop_known _ c.args.reading.now s c.in-Drop.key _ _ c.in-Drop.is known refl c.deref-in-Drop.ensures.value in
    c.close.ensures.stop s closing

pub returns-in-Drop-clause-few : goal.returns-in-Drop-clause-few
returns-in-Drop-clause-few g c = λ s known.
    let closing = drop_known _ c.args.reading.now s c.in-Drop.key _ _ c.in-Drop.is known refl c.deref-in-Drop.ensures.value in
    subst (λ m. c.close.new.work ≤ c.args.work.now + count_settling m s) (sym c.in-Drop.is) (c.close.ensures.few s closing)

pub returns-in-Rebuild-clause-ran : goal.returns-in-Rebuild-clause-ran
returns-in-Rebuild-clause-ran g c = λ s known.
    let filling = rebuild_known _ c.args.reading.now s _ _ c.in-Rebuild.is known refl c.deref-in-Rebuild.ensures.value in
    ran_mark known.files s (sym c.in-Rebuild.is) (c.refill.ensures.ran known.files s filling)

pub returns-in-Rebuild-clause-stop : goal.returns-in-Rebuild-clause-stop
returns-in-Rebuild-clause-stop g c = λ s known.
    let filling = rebuild_known _ c.args.reading.now s _ _ c.in-Rebuild.is known refl c.deref-in-Rebuild.ensures.value in
    c.refill.ensures.stop known.files s filling

pub returns-in-Rebuild-clause-few : goal.returns-in-Rebuild-clause-few
returns-in-Rebuild-clause-few g c = λ s known.
    let filling = rebuild_known _ c.args.reading.now s _ _ c.in-Rebuild.is known refl c.deref-in-Rebuild.ensures.value in
    subst (λ m. c.refill.new.work ≤ c.args.work.now + count_settling m s) (sym c.in-Rebuild.is) (c.refill.ensures.few known.files s filling)
