use Rattle.std.proofs.Common.{sym, ap, subst, ◌∙◌, ◌≤◌, ◌+◌, ◌++◌, ◌∷◌, [], length}
use Rattle.cell_cache.specs.contracts.cached.CachedCellsPostSource.TheImpl as cached
use Rattle.cell_cache.specs.Cached.{shapes_of_rows}
use Rattle.cell_cache.proofs.Rows.{known_rows}
use Rattle.tile_deps.specs.Tiles.{existing}
use Rattle.database.specs.Cells.{AreRows}
use Rattle.database.specs.Commands.{tile_names}
use Rattle.terrain_base.specs.declared.name.Key.TheVariants.{Manifest, Layer}
use Rattle.database.specs.Verdict.{difference_at, IsLeast, unwanted_names}
use Rattle.database.proofs.Verdicts.{verdict_of}
use Rattle.db_files.specs.Trouble.{OnlyStopsOrRowTrouble}
use Rattle.db_files.proofs.Alike.{alike_as}
use Rattle.db_files.proofs.Parts.{same_stop}
use Rattle.db_files.proofs.Troubles.{answer_before, stop_on, trouble_on}
use Rattle.db_files.proofs.Yielded.{first_gives}
use Rattle.db_check.specs.Tiles.{AllExist}
use Rattle.db_check.proofs.Looked.{all_looked}
use Rattle.db_check.proofs.Checks.{serves_held, length_keys}
use Rattle.db_check.proofs.TileNames.{existing_exist, existing_in}
use Rattle.db_check.proofs.checking.check.Goals as goal

pub keep_texts-requires : goal.keep_texts-requires
keep_texts-requires g c =
    record { rows = subst AreRows (sym c.summaries-rows.ensures.value) c.summaries-rows.ensures.rows }

pub new-requires : goal.new-requires
new-requires g c = record
    { ascend = (subst AreRows (sym c.summaries-rows.ensures.value) c.summaries-rows.ensures.rows).ascend }

pub returns-in_err-least-clause-stop : goal.returns-in_err-least-clause-stop
returns-in_err-least-clause-stop g c = λ s h.
    let rows = c.summaries-rows.ensures.value ∙ h.rows_is in
    let now = c.in_ok-texts.ensures.same ∙ c.in_ok-names.ensures.same in
    let serves = serves_held _ h now c.params-params.ensures c.summaries-rows.ensures.value
    (λ files is holds. ap (cached.ghosts.cells c.in_ok-source.source) is
    ∙ c.in_ok-source.ensures.told files s.cells rows holds) in
    same_stop c.from_residual-in_err-least.result _ c.from_residual-in_err-least.ensures.1
    (c.in_err-least.ensures.stop s serves)

pub returns-in_err-texts-clause-trouble : goal.returns-in_err-texts-clause-trouble
returns-in_err-texts-clause-trouble g c =
    stop_on _ _ c.from_residual-in_err-texts.result _ c.from_residual-in_err-texts.ensures.1 c.in_err-texts.ensures.stop

pub returns-in_err-least-clause-trouble : goal.returns-in_err-least-clause-trouble
returns-in_err-least-clause-trouble g c =
    let keys = shapes_of_rows c.summaries-rows.result.now in
    let alike = alike_as keys (c.in_ok-texts.ensures.same ∙ c.in_ok-names.ensures.same) in
    subst (λ list. OnlyStopsOrRowTrouble list (g.S.Store.holds c.args.store.now) c.from_residual-in_err-least.result)
    c.summaries-rows.ensures.value
    (trouble_on _ _ c.from_residual-in_err-least.result _ c.from_residual-in_err-least.ensures.1
    (answer_before keys _ _ _ _
    (λ key. c.in_ok-source.ensures.shapes key ∙ sym (known_rows c.summaries-rows.result.now key)) alike
    c.in_err-least.ensures.trouble))

pub returns-in_err-least-clause-few : goal.returns-in_err-least-clause-few
returns-in_err-least-clause-few g c =
    let tiles = c.in_ok-tiles.ensures
    ∙ (λ i. existing ((c.params-params.ensures i).cap) (c.summaries-rows.ensures.value i)) in
    subst (λ list. c.keep_tiles.new.work ≤ c.args.work.now + length list) tiles
    (c.in_err-least.ensures.few c.in_ok-tiles.tiles (first_gives c.in_ok-tiles.tiles))

pub returns-clause-few : goal.returns-clause-few
returns-clause-few g c =
    let tiles = c.in_ok-tiles.ensures
    ∙ (λ i. existing ((c.params-params.ensures i).cap) (c.summaries-rows.ensures.value i)) in
    subst (λ list. c.keep_tiles.new.work ≤ c.args.work.now + length list) tiles
    (c.in_ok-least.ensures.few c.in_ok-tiles.tiles (first_gives c.in_ok-tiles.tiles))

pub returns-clause-verdict : goal.returns-clause-verdict
returns-clause-verdict g c = λ s h.
    let params = c.params-params.ensures ∙ h.params_is in
    let rows = c.summaries-rows.ensures.value ∙ h.rows_is in
    let names = rw h.held_is at c.in_ok-names.ensures.names in
    let extra = c.least_extra-extra.ensures h.files s params rows (c.deref.ensures.value ∙ names) in
    let texts = c.in_ok-texts.ensures.least h.files s _ (c.in_ok-names.ensures.same ∙ h.held_is) params rows extra in
    let now = c.in_ok-texts.ensures.same ∙ c.in_ok-names.ensures.same in
    let serves = serves_held _ h now c.params-params.ensures c.summaries-rows.ensures.value
    (λ files is holds. ap (cached.ghosts.cells c.in_ok-source.source) is
    ∙ c.in_ok-source.ensures.told files s.cells rows holds) in
    let tiles = c.in_ok-tiles.ensures ∙ existing_in s params rows in
    let all = subst (AllExist s) (sym tiles) (existing_exist s) in
    let least = c.in_ok-least.ensures.least h.files s c.in_ok-tiles.tiles _ (first_gives c.in_ok-tiles.tiles)
    (now ∙ h.held_is) serves all texts in
    let looked = subst (λ list. IsLeast (difference_at s h.files)
    ((unwanted_names s h.files ++ Manifest ∷ Layer ∷ []) ++ tile_names list) c.in_ok-least.least) tiles least in
    let count = c.len.ensures ∙ sym c.deref.ensures.len ∙ ap length (c.deref.ensures.value ∙ names)
    ∙ length_keys h.files in
    c.verdict_by.ensures s h.files (verdict_of s h.files _ _ (all_looked s h.files h.reads) looked) count
