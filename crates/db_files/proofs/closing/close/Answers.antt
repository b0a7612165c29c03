use Rattle.std.proofs.Common.{refl, sym, ap, subst, ◌∙◌, ◌≤◌, ◌+◌}
use Rattle.cell_cache.specs.contracts.cached.CachedCellsPostSource.TheImpl as cached
use Rattle.cell_cache.specs.Cached.{shapes_of_rows}
use Rattle.cell_cache.proofs.Rows.{known_rows}
use Rattle.terrain_base.proofs.Runs.{at_err, not_yet}
use Rattle.tile_deps.specs.Tiles.{touched}
use Rattle.db_files.specs.Serving.{count_existing}
use Rattle.db_files.proofs.Alike.{alike_as}
use Rattle.db_files.proofs.Parts.{same_stop}
use Rattle.db_files.proofs.Troubles.{answer_before, stop_on, stops_only, trouble_on}
use Rattle.db_files.proofs.TileSteps.{serves_after}
use Rattle.db_files.proofs.Closings.{stop_at_cell, stop_at_tiles, to_the_end}
use Rattle.db_files.proofs.Yielded.{first_gives}
use Rattle.db_files.proofs.closing.close.Goals as goal

pub returns-in_err-put_cell-clause-ran : goal.returns-in_err-put_cell-clause-ran
returns-in_err-put_cell-clause-ran g c = λ s h. at_err c.from_residual.result _ c.from_residual.ensures.1 (stop_at_cell s c.args.key _ h.cell_is c.in_err-put_cell.ensures.ran.err)

pub returns-in_err-source-clause-ran : goal.returns-in_err-source-clause-ran
returns-in_err-source-clause-ran g c = λ s h.
    at_err c.from_residual-in_err-source.result _ c.from_residual-in_err-source.ensures.1
    (stop_at_tiles s c.args.key _ (touched s.params.cap c.args.key.square) h.cell_is refl c.in_ok-put_cell.ensures.ran.ok (not_yet refl refl))

pub returns-in_err-index-clause-ran : goal.returns-in_err-index-clause-ran
returns-in_err-index-clause-ran g c = λ s h.
    at_err c.from_residual-in_err-index.result _ c.from_residual-in_err-index.ensures.1
    (stop_at_tiles s c.args.key _ (touched s.params.cap c.args.key.square) h.cell_is refl c.in_ok-put_cell.ensures.ran.ok (not_yet refl refl))

pub returns-in_err-put_tiles-clause-ran : goal.returns-in_err-put_tiles-clause-ran
returns-in_err-put_tiles-clause-ran g c = λ s h.
    let tiles = c.touched-tiles.ensures ∙ ap (λ cap. touched cap c.args.key.square) (c.in_ok-index.ensures.cap ∙ ap (λ p. p.cap) h.params_is) in
    at_err c.from_residual-in_err-put_tiles.result _ c.from_residual-in_err-put_tiles.ensures.1
    (stop_at_tiles s c.args.key _ _ h.cell_is tiles c.in_ok-put_cell.ensures.ran.ok
    (c.in_err-put_tiles.ensures.ran s c.touched-tiles.result (first_gives c.touched-tiles.result) (serves_after _ h c.in_ok-put_cell.ensures.ran.ok (λ files now holds. ap (cached.ghosts.cells c.in_ok-source.source) now ∙ c.in_ok-source.ensures.told files s.cells h.rows_is holds))).err)

pub returns-in_err-put_tiles-clause-stop : goal.returns-in_err-put_tiles-clause-stop
returns-in_err-put_tiles-clause-stop g c = λ s h.
    same_stop c.from_residual-in_err-put_tiles.result _ c.from_residual-in_err-put_tiles.ensures.1
    (c.in_err-put_tiles.ensures.stop s c.touched-tiles.result (first_gives c.touched-tiles.result) (serves_after _ h c.in_ok-put_cell.ensures.ran.ok (λ files now holds. ap (cached.ghosts.cells c.in_ok-source.source) now ∙ c.in_ok-source.ensures.told files s.cells h.rows_is holds)))

pub returns-in_err-put_tiles-clause-few : goal.returns-in_err-put_tiles-clause-few
returns-in_err-put_tiles-clause-few g c = λ s h.
    let tiles = c.touched-tiles.ensures ∙ ap (λ cap. touched cap c.args.key.square) (c.in_ok-index.ensures.cap ∙ ap (λ p. p.cap) h.params_is) in
    subst (λ ts. c.put_tiles.new.work ≤ c.args.work.now + count_existing s ts) tiles
    (c.in_err-put_tiles.ensures.few s c.touched-tiles.result (first_gives c.touched-tiles.result) (serves_after _ h c.in_ok-put_cell.ensures.ran.ok (λ files now holds. ap (cached.ghosts.cells c.in_ok-source.source) now ∙ c.in_ok-source.ensures.told files s.cells h.rows_is holds)))

pub returns-clause-ran : goal.returns-clause-ran
returns-clause-ran g c = λ s h.
    let tiles = c.touched-tiles.ensures ∙ ap (λ cap. touched cap c.args.key.square) (c.in_ok-index.ensures.cap ∙ ap (λ p. p.cap) h.params_is) in
    to_the_end s c.args.key _ _ c.put_last.result h.cell_is tiles c.in_ok-put_cell.ensures.ran.ok
    (c.in_ok-put_tiles.ensures.ran s c.touched-tiles.result (first_gives c.touched-tiles.result) (serves_after _ h c.in_ok-put_cell.ensures.ran.ok (λ files now holds. ap (cached.ghosts.cells c.in_ok-source.source) now ∙ c.in_ok-source.ensures.told files s.cells h.rows_is holds))).ok
    (c.put_last.ensures.ran s h.params_is h.rows_is)

pub returns-clause-few : goal.returns-clause-few
returns-clause-few g c = λ s h.
    let tiles = c.touched-tiles.ensures ∙ ap (λ cap. touched cap c.args.key.square) (c.in_ok-index.ensures.cap ∙ ap (λ p. p.cap) h.params_is) in
    subst (λ ts. c.put_tiles.new.work ≤ c.args.work.now + count_existing s ts) tiles
    (c.in_ok-put_tiles.ensures.few s c.touched-tiles.result (first_gives c.touched-tiles.result) (serves_after _ h c.in_ok-put_cell.ensures.ran.ok (λ files now holds. ap (cached.ghosts.cells c.in_ok-source.source) now ∙ c.in_ok-source.ensures.told files s.cells h.rows_is holds)))

pub returns-in_err-put_cell-clause-trouble : goal.returns-in_err-put_cell-clause-trouble
returns-in_err-put_cell-clause-trouble g c = stop_on _ _ c.from_residual.result _ c.from_residual.ensures.1 c.in_err-put_cell.ensures.stop

pub returns-in_err-put_tiles-clause-trouble : goal.returns-in_err-put_tiles-clause-trouble
returns-in_err-put_tiles-clause-trouble g c =
    let keys = shapes_of_rows c.args.rows.now in
    trouble_on _ _ c.from_residual-in_err-put_tiles.result _ c.from_residual-in_err-put_tiles.ensures.1
    (answer_before keys _ _ _ _ (λ key. c.in_ok-source.ensures.shapes key ∙ sym (known_rows c.args.rows.now key)) (alike_as keys c.in_ok-put_cell.ensures.ran.ok.held) c.in_err-put_tiles.ensures.trouble)

pub returns-clause-trouble : goal.returns-clause-trouble
returns-clause-trouble g c = stops_only _ _ c.put_last.result c.put_last.ensures.stop
