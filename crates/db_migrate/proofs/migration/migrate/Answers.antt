use Rattle.std.proofs.Common.{refl, sym, subst, ◌∙◌}
use Rattle.common_laws.proofs.Options.{if_err_is}
use Rattle.database.specs.Cells.{AreRows}
use Rattle.terrain_base.proofs.Runs.{at_ok, at_err, not_yet, stops, goes_on, both_done}
use Rattle.db_migrate.proofs.Bringing.{brings_of, brought, files_done, filling, keeps, left_idle, left_read, old_done, old_some, refusal_stop, refusal_told}
use Rattle.db_migrate.proofs.migration.migrate.Goals as goal
use Rattle.db_files.proofs.Parts.{same_stop}

-- ---- what the calls ask

pub restart-requires : goal.restart-requires
restart-requires g c = record { rows = subst AreRows (sym c.deref-2.ensures.value) c.in_ok-old.ensures.rows }

pub of-requires : goal.of-requires
of-requires g c = c.in_ok-old.ensures.rows

-- ---- a stop while it is read

pub returns-in_err-old-clause-refused : goal.returns-in_err-old-clause-refused
returns-in_err-old-clause-refused g c =
    if_err_is c.from_residual.result _ _ c.from_residual.ensures.1 (λ files is. refusal_told _ files (c.in_err-old.ensures.refused files is) (record { same_held = c.in_err-old.ensures.same ∙ is; same_log = c.in_err-old.ensures.quiet; same_work = refl }))

pub returns-in_err-old-clause-left : goal.returns-in_err-old-clause-left
returns-in_err-old-clause-left g c = λ files opening is opens.
    left_idle opening files c.from_residual.result _ c.from_residual.ensures.1 (record { same_held = c.in_err-old.ensures.same ∙ is; same_log = c.in_err-old.ensures.quiet; same_work = refl })

pub returns-in_err-old-clause-stop : goal.returns-in_err-old-clause-stop
returns-in_err-old-clause-stop g c = λ files v s mark is reads.
    same_stop c.from_residual.result _ c.from_residual.ensures.1 (c.in_err-old.ensures.sure files v s mark is reads)

pub returns-in_err-old-clause-ran : goal.returns-in_err-old-clause-ran
returns-in_err-old-clause-ran g c = λ files v s mark is reads.
    at_err c.from_residual.result _ c.from_residual.ensures.1 (not_yet c.in_err-old.ensures.same c.in_err-old.ensures.quiet)

pub returns-in_err-old-clause-brings : goal.returns-in_err-old-clause-brings
returns-in_err-old-clause-brings g c = λ files v s mark is reads.
    brings_of files v s mark c.from_residual.result is reads (at_err c.from_residual.result _ c.from_residual.ensures.1 (not_yet c.in_err-old.ensures.same c.in_err-old.ensures.quiet))

-- ---- a stop while cells are put

pub returns-in_err-move_cells-clause-refused : goal.returns-in_err-move_cells-clause-refused
returns-in_err-move_cells-clause-refused g c =
    if_err_is c.from_residual-in_err-move_cells.result _ _ c.from_residual-in_err-move_cells.ensures.1 (λ files is.
    let read = c.in_ok-old.ensures in
    let found = read.found files is in
    refusal_stop _ files _ _ _ _ _ (c.in_err-move_cells.ensures.stop files found.state found.mark (keeps _ found.is (read.same ∙ is) c.deref.ensures.value)))

pub returns-in_err-move_cells-clause-left : goal.returns-in_err-move_cells-clause-left
returns-in_err-move_cells-clause-left g c = λ files opening is opens.
    let found = c.in_ok-old.ensures.found files is in
    left_read opening files found.version found.state found.mark _ _ _ _ _ c.from_residual-in_err-move_cells.result found.is.reads opens

pub returns-in_err-move_cells-clause-stop : goal.returns-in_err-move_cells-clause-stop
returns-in_err-move_cells-clause-stop g c = λ files v s mark is reads.
    let read = c.in_ok-old.ensures in
    let k = read.only files v s mark is reads in
    same_stop c.from_residual-in_err-move_cells.result _ c.from_residual-in_err-move_cells.ensures.1 (c.in_err-move_cells.ensures.stop files s mark (keeps _ k (read.same ∙ is) c.deref.ensures.value))

pub returns-in_err-move_cells-clause-ran : goal.returns-in_err-move_cells-clause-ran
returns-in_err-move_cells-clause-ran g c = λ files v s mark is reads.
    let read = c.in_ok-old.ensures in
    let k = read.only files v s mark is reads in
    at_err c.from_residual-in_err-move_cells.result _ c.from_residual-in_err-move_cells.ensures.1
    (stops _ (old_some k read.same read.quiet (c.in_err-move_cells.ensures.ran files s mark (keeps _ k (read.same ∙ is) c.deref.ensures.value)).err))

pub returns-in_err-move_cells-clause-brings : goal.returns-in_err-move_cells-clause-brings
returns-in_err-move_cells-clause-brings g c = λ files v s mark is reads.
    let read = c.in_ok-old.ensures in
    let k = read.only files v s mark is reads in
    brings_of files v s mark c.from_residual-in_err-move_cells.result is reads (at_err c.from_residual-in_err-move_cells.result _ c.from_residual-in_err-move_cells.ensures.1
    (stops _ (old_some k read.same read.quiet (c.in_err-move_cells.ensures.ran files s mark (keeps _ k (read.same ∙ is) c.deref.ensures.value)).err)))

-- ---- a stop while the database is made anew

pub returns-in_err-restart-clause-refused : goal.returns-in_err-restart-clause-refused
returns-in_err-restart-clause-refused g c =
    if_err_is c.from_residual-in_err-restart.result _ _ c.from_residual-in_err-restart.ensures.1 (λ files is.
    let read = c.in_ok-old.ensures in
    let found = read.found files is in
    let moves = old_done found.is read.same read.quiet (c.in_ok-move_cells.ensures.ran files found.state found.mark (keeps _ found.is (read.same ∙ is) c.deref.ensures.value)).ok in
    refusal_stop _ files _ _ _ _ _ (c.in_err-restart.ensures.stop _ found.state (filling _ _ found.is refl c.deref-2.ensures.value is moves)))

pub returns-in_err-restart-clause-stop : goal.returns-in_err-restart-clause-stop
returns-in_err-restart-clause-stop g c = λ files v s mark is reads.
    let read = c.in_ok-old.ensures in
    let k = read.only files v s mark is reads in
    let moves = old_done k read.same read.quiet (c.in_ok-move_cells.ensures.ran files s mark (keeps _ k (read.same ∙ is) c.deref.ensures.value)).ok in
    let full = filling _ _ k refl c.deref-2.ensures.value is moves in
    same_stop c.from_residual-in_err-restart.result _ c.from_residual-in_err-restart.ensures.1 (c.in_err-restart.ensures.stop _ s full)

pub returns-in_err-restart-clause-left : goal.returns-in_err-restart-clause-left
returns-in_err-restart-clause-left g c = λ files opening is opens.
    let found = c.in_ok-old.ensures.found files is in
    left_read opening files found.version found.state found.mark _ _ _ _ _ c.from_residual-in_err-restart.result found.is.reads opens

pub returns-in_err-restart-clause-ran : goal.returns-in_err-restart-clause-ran
returns-in_err-restart-clause-ran g c = λ files v s mark is reads.
    let read = c.in_ok-old.ensures in
    let k = read.only files v s mark is reads in
    let moves = old_done k read.same read.quiet (c.in_ok-move_cells.ensures.ran files s mark (keeps _ k (read.same ∙ is) c.deref.ensures.value)).ok in
    let full = filling _ _ k refl c.deref-2.ensures.value is moves in
    at_err c.from_residual-in_err-restart.result _ c.from_residual-in_err-restart.ensures.1 (goes_on moves (c.in_err-restart.ensures.ran _ s full).err)

pub returns-in_err-restart-clause-brings : goal.returns-in_err-restart-clause-brings
returns-in_err-restart-clause-brings g c = λ files v s mark is reads.
    let read = c.in_ok-old.ensures in
    let k = read.only files v s mark is reads in
    let moves = old_done k read.same read.quiet (c.in_ok-move_cells.ensures.ran files s mark (keeps _ k (read.same ∙ is) c.deref.ensures.value)).ok in
    let full = filling _ _ k refl c.deref-2.ensures.value is moves in
    brings_of files v s mark c.from_residual-in_err-restart.result is reads (at_err c.from_residual-in_err-restart.result _ c.from_residual-in_err-restart.ensures.1 (goes_on moves (c.in_err-restart.ensures.ran _ s full).err))

pub returns-in_err-restart-clause-few : goal.returns-in_err-restart-clause-few
returns-in_err-restart-clause-few g c = λ files v s mark is reads.
    let read = c.in_ok-old.ensures in
    let k = read.only files v s mark is reads in
    let moves = old_done k read.same read.quiet (c.in_ok-move_cells.ensures.ran files s mark (keeps _ k (read.same ∙ is) c.deref.ensures.value)).ok in
    let full = filling _ _ k refl c.deref-2.ensures.value is moves in
    c.in_err-restart.ensures.few _ s full

-- ---- all of it

pub returns-clause-opened : goal.returns-clause-opened
returns-clause-opened g c = λ files is.
    let read = c.in_ok-old.ensures in
    let found = read.found files is in
    let moves = old_done found.is read.same read.quiet (c.in_ok-move_cells.ensures.ran files found.state found.mark (keeps _ found.is (read.same ∙ is) c.deref.ensures.value)).ok in
    let ran = both_done moves (c.in_ok-restart.ensures.ran _ found.state (filling _ _ found.is refl c.deref-2.ensures.value is moves)).ok in
    brought files _ _ found c.of.ensures (files_done files found.version found.state found.mark is found.is.reads ran)

pub returns-clause-left : goal.returns-clause-left
returns-clause-left g c = λ files opening is opens.
    let found = c.in_ok-old.ensures.found files is in
    left_read opening files found.version found.state found.mark _ _ _ _ _ _ found.is.reads opens

pub returns-clause-ran : goal.returns-clause-ran
returns-clause-ran g c = λ files v s mark is reads.
    let read = c.in_ok-old.ensures in
    let k = read.only files v s mark is reads in
    let moves = old_done k read.same read.quiet (c.in_ok-move_cells.ensures.ran files s mark (keeps _ k (read.same ∙ is) c.deref.ensures.value)).ok in
    let full = filling _ _ k refl c.deref-2.ensures.value is moves in
    at_ok (both_done moves (c.in_ok-restart.ensures.ran _ s full).ok)

pub returns-clause-brings : goal.returns-clause-brings
returns-clause-brings g c = λ files v s mark is reads.
    let read = c.in_ok-old.ensures in
    let k = read.only files v s mark is reads in
    let moves = old_done k read.same read.quiet (c.in_ok-move_cells.ensures.ran files s mark (keeps _ k (read.same ∙ is) c.deref.ensures.value)).ok in
    let full = filling _ _ k refl c.deref-2.ensures.value is moves in
    brings_of files v s mark _ is reads (at_ok (both_done moves (c.in_ok-restart.ensures.ran _ s full).ok))

pub returns-clause-few : goal.returns-clause-few
returns-clause-few g c = λ files v s mark is reads.
    let read = c.in_ok-old.ensures in
    let k = read.only files v s mark is reads in
    let moves = old_done k read.same read.quiet (c.in_ok-move_cells.ensures.ran files s mark (keeps _ k (read.same ∙ is) c.deref.ensures.value)).ok in
    let full = filling _ _ k refl c.deref-2.ensures.value is moves in
    c.in_ok-restart.ensures.few _ s full
