use Rattle.std.proofs.Common.{refl, sym, ap, subst, ◌∙◌, ◌≤◌, ◌+◌}
use Rattle.common_laws.proofs.Options.{if_err_is}
use Rattle.terrain_base.proofs.Runs.{at_ok, at_err, not_yet}
use Rattle.db_engine.specs.Settling.{count_settling}
use Rattle.db_engine.proofs.Settles.{known_of, opened_of, opened_reads, settles_of, leaves_of, refusal_told, refusal_stop, left_idle, left_read, done_as, stopped_as, known_held}
use Rattle.db_engine.proofs.settling.settle.Goals as goal
use Rattle.db_files.proofs.Parts.{same_stop}

pub returns-in_err-reading-clause-refused : goal.returns-in_err-reading-clause-refused
returns-in_err-reading-clause-refused g c =
    if_err_is c.from_residual.result _ _ c.from_residual.ensures.1 (λ files is. refusal_told _ files _ _ _ _ _ (c.in_err-reading.ensures.refused files is) (record { same_held = c.in_err-reading.ensures.same ∙ is; same_log = c.in_err-reading.ensures.quiet; same_work = refl }))

pub returns-in_err-reading-clause-ran : goal.returns-in_err-reading-clause-ran
returns-in_err-reading-clause-ran g c = λ files s m is reads.
    (at_err c.from_residual.result _ c.from_residual.ensures.1 (not_yet c.in_err-reading.ensures.same c.in_err-reading.ensures.quiet))

pub returns-in_err-reading-clause-settles : goal.returns-in_err-reading-clause-settles
returns-in_err-reading-clause-settles g c = λ files s is st.
    settles_of s files st.mark c.from_residual.result is st.stands (at_err c.from_residual.result _ c.from_residual.ensures.1 (not_yet c.in_err-reading.ensures.same c.in_err-reading.ensures.quiet))

pub returns-in_err-reading-clause-leaves : goal.returns-in_err-reading-clause-leaves
returns-in_err-reading-clause-leaves g c = λ files s m is reads.
    leaves_of s files m c.from_residual.result is reads (at_err c.from_residual.result _ c.from_residual.ensures.1 (not_yet c.in_err-reading.ensures.same c.in_err-reading.ensures.quiet))

pub returns-in_err-finish-clause-refused : goal.returns-in_err-finish-clause-refused
returns-in_err-finish-clause-refused g c =
    if_err_is c.from_residual-in_err-finish.result _ _ c.from_residual-in_err-finish.ensures.1 (λ files is.
    let read = c.in_ok-reading.ensures in
    let found = read.found files is in
    refusal_stop _ files _ _ _ _ _ (c.in_err-finish.ensures.stop found.state (known_held _ _ _ (read.same ∙ is) found.known)))

pub returns-in_err-finish-clause-stop : goal.returns-in_err-finish-clause-stop
returns-in_err-finish-clause-stop g c = λ files s m is reads.
    let read = c.in_ok-reading.ensures in
    let found = read.found files is in
    let known = known_of files c.in_ok-reading.reading s m _ (read.same ∙ is) found reads in
    same_stop c.from_residual-in_err-finish.result _ c.from_residual-in_err-finish.ensures.1 (c.in_err-finish.ensures.stop s known)

pub returns-in_err-finish-clause-ran : goal.returns-in_err-finish-clause-ran
returns-in_err-finish-clause-ran g c = λ files s m is reads.
    let read = c.in_ok-reading.ensures in
    let found = read.found files is in
    let known = known_of files c.in_ok-reading.reading s m _ (read.same ∙ is) found reads in
    (at_err c.from_residual-in_err-finish.result _ c.from_residual-in_err-finish.ensures.1 (stopped_as files s (found.only s m reads).1 read.same read.quiet (c.in_err-finish.ensures.ran s known).err))

pub returns-in_err-finish-clause-settles : goal.returns-in_err-finish-clause-settles
returns-in_err-finish-clause-settles g c = λ files s is st.
    let m = st.mark in
    let reads = st.stands.reads in
    let read = c.in_ok-reading.ensures in
    let found = read.found files is in
    let known = known_of files c.in_ok-reading.reading s m _ (read.same ∙ is) found reads in
    settles_of s files m c.from_residual-in_err-finish.result is st.stands (at_err c.from_residual-in_err-finish.result _ c.from_residual-in_err-finish.ensures.1 (stopped_as files s (found.only s m reads).1 read.same read.quiet (c.in_err-finish.ensures.ran s known).err))

pub returns-in_err-finish-clause-leaves : goal.returns-in_err-finish-clause-leaves
returns-in_err-finish-clause-leaves g c = λ files s m is reads.
    let read = c.in_ok-reading.ensures in
    let found = read.found files is in
    let known = known_of files c.in_ok-reading.reading s m _ (read.same ∙ is) found reads in
    leaves_of s files m c.from_residual-in_err-finish.result is reads (at_err c.from_residual-in_err-finish.result _ c.from_residual-in_err-finish.ensures.1 (stopped_as files s (found.only s m reads).1 read.same read.quiet (c.in_err-finish.ensures.ran s known).err))

pub returns-in_err-finish-clause-few : goal.returns-in_err-finish-clause-few
returns-in_err-finish-clause-few g c = λ files s m is reads.
    let read = c.in_ok-reading.ensures in
    let found = read.found files is in
    let known = known_of files c.in_ok-reading.reading s m _ (read.same ∙ is) found reads in
    subst (λ k. c.finish.new.work ≤ c.args.work.now + count_settling k s) (sym (found.only s m reads).1) (c.in_err-finish.ensures.few s known)

pub returns-clause-opened : goal.returns-clause-opened
returns-clause-opened g c = λ files is.
    let read = c.in_ok-reading.ensures in
    let found = read.found files is in
    let known = known_of files c.in_ok-reading.reading found.state c.in_ok-reading.reading.mark _ (read.same ∙ is) found (opened_reads files c.in_ok-reading.reading found) in
    opened_of files _ _ _ _ c.in_ok-reading.reading c.of.result found (read.same ∙ is) (c.in_ok-finish.ensures.ran found.state known).ok (ap (λ o. o.params) c.of.ensures) (ap (λ o. o.rows) c.of.ensures)

pub returns-clause-ran : goal.returns-clause-ran
returns-clause-ran g c = λ files s m is reads.
    let read = c.in_ok-reading.ensures in
    let found = read.found files is in
    let known = known_of files c.in_ok-reading.reading s m _ (read.same ∙ is) found reads in
    (at_ok (done_as files s (found.only s m reads).1 read.same read.quiet (c.in_ok-finish.ensures.ran s known).ok))

pub returns-clause-settles : goal.returns-clause-settles
returns-clause-settles g c = λ files s is st.
    let m = st.mark in
    let reads = st.stands.reads in
    let read = c.in_ok-reading.ensures in
    let found = read.found files is in
    let known = known_of files c.in_ok-reading.reading s m _ (read.same ∙ is) found reads in
    settles_of s files m _ is st.stands (at_ok (done_as files s (found.only s m reads).1 read.same read.quiet (c.in_ok-finish.ensures.ran s known).ok))

pub returns-clause-leaves : goal.returns-clause-leaves
returns-clause-leaves g c = λ files s m is reads.
    let read = c.in_ok-reading.ensures in
    let found = read.found files is in
    let known = known_of files c.in_ok-reading.reading s m _ (read.same ∙ is) found reads in
    leaves_of s files m _ is reads (at_ok (done_as files s (found.only s m reads).1 read.same read.quiet (c.in_ok-finish.ensures.ran s known).ok))

pub returns-clause-few : goal.returns-clause-few
returns-clause-few g c = λ files s m is reads.
    let read = c.in_ok-reading.ensures in
    let found = read.found files is in
    let known = known_of files c.in_ok-reading.reading s m _ (read.same ∙ is) found reads in
    subst (λ k. c.finish.new.work ≤ c.args.work.now + count_settling k s) (sym (found.only s m reads).1) (c.in_ok-finish.ensures.few s known)

pub returns-in_err-reading-clause-left : goal.returns-in_err-reading-clause-left
returns-in_err-reading-clause-left g c = λ files opening is opens.
    left_idle opening files _ _ _ _ _ (record { same_held = c.in_err-reading.ensures.same ∙ is; same_log = c.in_err-reading.ensures.quiet; same_work = refl })

pub returns-in_err-finish-clause-left : goal.returns-in_err-finish-clause-left
returns-in_err-finish-clause-left g c = λ files opening is opens.
    let found = c.in_ok-reading.ensures.found files is in
    left_read opening files found.state c.in_ok-reading.reading.mark _ _ _ _ _ (opened_reads files c.in_ok-reading.reading found) opens

pub returns-clause-left : goal.returns-clause-left
returns-clause-left g c = λ files opening is opens.
    let found = c.in_ok-reading.ensures.found files is in
    left_read opening files found.state c.in_ok-reading.reading.mark _ _ _ _ _ (opened_reads files c.in_ok-reading.reading found) opens
