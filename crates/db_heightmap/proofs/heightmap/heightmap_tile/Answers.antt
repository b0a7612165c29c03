use Rattle.std.proofs.Common.{refl, sym, subst, ◌∙◌}
use Rattle.cell_cache.specs.Cached.{shapes_of_rows}
use Rattle.cell_cache.proofs.Rows.{known_rows}
use Rattle.db_files.specs.Trouble.{OnlyStopsOrRowTrouble}
use Rattle.db_files.proofs.Alike.{alike_as}
use Rattle.db_files.proofs.Troubles.{answer_before, fault_is, trouble_on}
use Rattle.db_heightmap.proofs.heightmap.heightmap_tile.Goals as goal

pub returns-in_err-bytes-clause-trouble : goal.returns-in_err-bytes-clause-trouble
returns-in_err-bytes-clause-trouble g c = λ there.
    let keys = shapes_of_rows c.summaries-rows.result.now in
    subst (λ list. OnlyStopsOrRowTrouble list (g.S.Store.holds c.args.store.now)
    c.from_residual-in_err-bytes.result) c.summaries-rows.ensures.value
    (trouble_on _ _ c.from_residual-in_err-bytes.result _ c.from_residual-in_err-bytes.ensures.1
    (answer_before keys _ _ _ _
    (λ key. c.in_ok-source.ensures.shapes key ∙ sym (known_rows c.summaries-rows.result.now key)) (alike_as keys refl)
    (fault_is _ _ _ _ c.in_err-bytes.ensures.shown)))
