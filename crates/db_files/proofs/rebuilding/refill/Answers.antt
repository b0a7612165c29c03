use Rattle.std.proofs.Common.{refl, sym, ap, subst, ◌∙◌, ◌≤◌, ◌+◌}
use Rattle.cell_cache.specs.contracts.cached.CachedCellsPostSource.TheImpl as cached
use Rattle.terrain_base.proofs.Runs.{at_err, not_yet}
use Rattle.cell_cache.specs.Cached.{shapes_of_rows}
use Rattle.cell_cache.proofs.Rows.{known_rows}
use Rattle.tile_deps.specs.Tiles.{existing as existing_tiles}
use Rattle.database.specs.Commands.{existing}
use Rattle.db_files.specs.Serving.{count_existing}
use Rattle.db_files.proofs.Alike.{alike_as, alike_then}
use Rattle.db_files.proofs.Parts.{same_stop}
use Rattle.db_files.proofs.Troubles.{answer_before, stop_on, stops_only, trouble_on}
use Rattle.db_files.proofs.Fillings.{serves_filling, stop_at_extra, stop_at_tiles, to_the_end, extra_done, extra_some}
use Rattle.db_files.proofs.Yielded.{first_gives}
use Rattle.db_files.proofs.rebuilding.refill.Goals as goal

pub returns-in_err-names-clause-ran : goal.returns-in_err-names-clause-ran
returns-in_err-names-clause-ran g c = λ files s f.
    at_err c.from_residual.result _ c.from_residual.ensures.1 (not_yet c.in_err-names.ensures.same c.in_err-names.ensures.quiet)

pub returns-in_err-delete_extra-clause-ran : goal.returns-in_err-delete_extra-clause-ran
returns-in_err-delete_extra-clause-ran g c = λ files s f.
    at_err c.from_residual-in_err-delete_extra.result _ c.from_residual-in_err-delete_extra.ensures.1
    (stop_at_extra files s (extra_some files s c.in_ok-names.ensures.same c.in_ok-names.ensures.quiet (c.deref.ensures.value ∙ rw f.held_is at c.in_ok-names.ensures.names) (c.in_err-delete_extra.ensures.ran s f.params_is f.rows_is).err))

pub returns-in_err-source-clause-ran : goal.returns-in_err-source-clause-ran
returns-in_err-source-clause-ran g c = λ files s f.
    let gone = extra_done files s c.in_ok-names.ensures.same c.in_ok-names.ensures.quiet (c.deref.ensures.value ∙ rw f.held_is at c.in_ok-names.ensures.names) (c.in_ok-delete_extra.ensures.ran s f.params_is f.rows_is).ok in
    at_err c.from_residual-in_err-source.result _ c.from_residual-in_err-source.ensures.1 (stop_at_tiles files s (existing s) refl gone (not_yet refl refl))

pub returns-in_err-tiles-clause-ran : goal.returns-in_err-tiles-clause-ran
returns-in_err-tiles-clause-ran g c = λ files s f.
    let gone = extra_done files s c.in_ok-names.ensures.same c.in_ok-names.ensures.quiet (c.deref.ensures.value ∙ rw f.held_is at c.in_ok-names.ensures.names) (c.in_ok-delete_extra.ensures.ran s f.params_is f.rows_is).ok in
    at_err c.from_residual-in_err-tiles.result _ c.from_residual-in_err-tiles.ensures.1 (stop_at_tiles files s (existing s) refl gone (not_yet refl refl))

pub returns-in_err-put_tiles-clause-ran : goal.returns-in_err-put_tiles-clause-ran
returns-in_err-put_tiles-clause-ran g c = λ files s f.
    let gone = extra_done files s c.in_ok-names.ensures.same c.in_ok-names.ensures.quiet (c.deref.ensures.value ∙ rw f.held_is at c.in_ok-names.ensures.names) (c.in_ok-delete_extra.ensures.ran s f.params_is f.rows_is).ok in
    let tiles = c.in_ok-tiles.ensures ∙ (λ i. existing_tiles ((f.params_is i).cap) (f.rows_is i)) in
    at_err c.from_residual-in_err-put_tiles.result _ c.from_residual-in_err-put_tiles.ensures.1
    (stop_at_tiles files s c.in_ok-tiles.tiles tiles gone (c.in_err-put_tiles.ensures.ran s c.in_ok-tiles.tiles (first_gives c.in_ok-tiles.tiles) (serves_filling _ files s f gone (λ held now holds. ap (cached.ghosts.cells c.in_ok-source.source) now ∙ c.in_ok-source.ensures.told held s.cells f.rows_is holds))).err)

pub returns-in_err-put_tiles-clause-stop : goal.returns-in_err-put_tiles-clause-stop
returns-in_err-put_tiles-clause-stop g c = λ files s f.
    let gone = extra_done files s c.in_ok-names.ensures.same c.in_ok-names.ensures.quiet (c.deref.ensures.value ∙ rw f.held_is at c.in_ok-names.ensures.names) (c.in_ok-delete_extra.ensures.ran s f.params_is f.rows_is).ok in
    same_stop c.from_residual-in_err-put_tiles.result _ c.from_residual-in_err-put_tiles.ensures.1
    (c.in_err-put_tiles.ensures.stop s c.in_ok-tiles.tiles (first_gives c.in_ok-tiles.tiles) (serves_filling _ files s f gone (λ held now holds. ap (cached.ghosts.cells c.in_ok-source.source) now ∙ c.in_ok-source.ensures.told held s.cells f.rows_is holds)))

pub returns-in_err-put_tiles-clause-few : goal.returns-in_err-put_tiles-clause-few
returns-in_err-put_tiles-clause-few g c = λ files s f.
    let gone = extra_done files s c.in_ok-names.ensures.same c.in_ok-names.ensures.quiet (c.deref.ensures.value ∙ rw f.held_is at c.in_ok-names.ensures.names) (c.in_ok-delete_extra.ensures.ran s f.params_is f.rows_is).ok in
    let tiles = c.in_ok-tiles.ensures ∙ (λ i. existing_tiles ((f.params_is i).cap) (f.rows_is i)) in
    subst (λ ts. c.put_tiles.new.work ≤ c.args.work.now + count_existing s ts) tiles
    (c.in_err-put_tiles.ensures.few s c.in_ok-tiles.tiles (first_gives c.in_ok-tiles.tiles) (serves_filling _ files s f gone (λ held now holds. ap (cached.ghosts.cells c.in_ok-source.source) now ∙ c.in_ok-source.ensures.told held s.cells f.rows_is holds)))

pub returns-clause-ran : goal.returns-clause-ran
returns-clause-ran g c = λ files s f.
    let gone = extra_done files s c.in_ok-names.ensures.same c.in_ok-names.ensures.quiet (c.deref.ensures.value ∙ rw f.held_is at c.in_ok-names.ensures.names) (c.in_ok-delete_extra.ensures.ran s f.params_is f.rows_is).ok in
    let tiles = c.in_ok-tiles.ensures ∙ (λ i. existing_tiles ((f.params_is i).cap) (f.rows_is i)) in
    to_the_end files s c.in_ok-tiles.tiles c.put_last.result tiles gone (c.in_ok-put_tiles.ensures.ran s c.in_ok-tiles.tiles (first_gives c.in_ok-tiles.tiles) (serves_filling _ files s f gone (λ held now holds. ap (cached.ghosts.cells c.in_ok-source.source) now ∙ c.in_ok-source.ensures.told held s.cells f.rows_is holds))).ok
    (c.put_last.ensures.ran s f.params_is f.rows_is)

pub returns-clause-few : goal.returns-clause-few
returns-clause-few g c = λ files s f.
    let gone = extra_done files s c.in_ok-names.ensures.same c.in_ok-names.ensures.quiet (c.deref.ensures.value ∙ rw f.held_is at c.in_ok-names.ensures.names) (c.in_ok-delete_extra.ensures.ran s f.params_is f.rows_is).ok in
    let tiles = c.in_ok-tiles.ensures ∙ (λ i. existing_tiles ((f.params_is i).cap) (f.rows_is i)) in
    subst (λ ts. c.put_tiles.new.work ≤ c.args.work.now + count_existing s ts) tiles
    (c.in_ok-put_tiles.ensures.few s c.in_ok-tiles.tiles (first_gives c.in_ok-tiles.tiles) (serves_filling _ files s f gone (λ held now holds. ap (cached.ghosts.cells c.in_ok-source.source) now ∙ c.in_ok-source.ensures.told held s.cells f.rows_is holds)))

pub returns-in_err-delete_extra-clause-trouble : goal.returns-in_err-delete_extra-clause-trouble
returns-in_err-delete_extra-clause-trouble g c = stop_on _ _ c.from_residual-in_err-delete_extra.result _ c.from_residual-in_err-delete_extra.ensures.1 c.in_err-delete_extra.ensures.stop

pub returns-in_err-put_tiles-clause-trouble : goal.returns-in_err-put_tiles-clause-trouble
returns-in_err-put_tiles-clause-trouble g c =
    let keys = shapes_of_rows c.args.rows.now in
    let alike = alike_then keys _ _ _ (alike_as keys c.in_ok-names.ensures.same) c.in_ok-delete_extra.ensures.alike in
    trouble_on _ _ c.from_residual-in_err-put_tiles.result _ c.from_residual-in_err-put_tiles.ensures.1
    (answer_before keys _ _ _ _ (λ key. c.in_ok-source.ensures.shapes key ∙ sym (known_rows c.args.rows.now key)) alike c.in_err-put_tiles.ensures.trouble)

pub returns-clause-trouble : goal.returns-clause-trouble
returns-clause-trouble g c = stops_only _ _ c.put_last.result c.put_last.ensures.stop
