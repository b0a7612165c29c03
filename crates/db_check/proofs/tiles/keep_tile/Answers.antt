use Rattle.std.proofs.Common.{sym, ap, subst, ◌∙◌}
use Rattle.std.proofs.lemmas.Result.{IfOk-weaker}
use Rattle.terrain_base.specs.declared.name.Key.TheVariants.{Terrain, Note}
use Rattle.database.specs.Verdict.{difference_at, IsLeast}
use Rattle.db_files.proofs.Parts.{same_stop, told_stop}
use Rattle.db_files.proofs.Troubles.{fault_is, stop_on, stops_only, trouble_on}
use Rattle.db_check.proofs.TileNames.{file_as, terrain_file, note_file, two_names}
use Rattle.db_check.proofs.tiles.keep_tile.Goals as goal

pub returns-in_err-made-clause-stop : goal.returns-in_err-made-clause-stop
returns-in_err-made-clause-stop g c = λ s h.
    same_stop c.from_residual.result _ c.from_residual.ensures.1
    (told_stop _ _ _ s.cells _ h.told_is c.in_err-made.ensures.leaves.shown)

pub returns-in_err-made-clause-trouble : goal.returns-in_err-made-clause-trouble
returns-in_err-made-clause-trouble g c =
    trouble_on _ _ c.from_residual.result _ c.from_residual.ensures.1
    (fault_is _ _ _ _ c.in_err-made.ensures.leaves.shown)

pub returns-in_err-made-clause-stays : goal.returns-in_err-made-clause-stays
returns-in_err-made-clause-stays g c = λ s h.
    let keeps = c.in_err-made.ensures.leaves.keeps in
    ap (g.P.PostSource.cells c.make_tile.new.source) keeps.held ∙ keeps.stays s.cells h.told_is ∙ sym h.told_is

pub returns-in_err-first-clause-stays : goal.returns-in_err-first-clause-stays
returns-in_err-first-clause-stays g c = λ s h.
    let keeps = c.in_ok-made.ensures.leaves.keeps in
    ap (g.P.PostSource.cells c.make_tile.new.source) (c.in_err-first.ensures.same ∙ keeps.held)
    ∙ keeps.stays s.cells h.told_is ∙ sym h.told_is

pub returns-in_err-first-clause-trouble : goal.returns-in_err-first-clause-trouble
returns-in_err-first-clause-trouble g c =
    stop_on _ _ c.from_residual-in_err-first.result _ c.from_residual-in_err-first.ensures.1 c.in_err-first.ensures.stop

pub returns-clause-stays : goal.returns-clause-stays
returns-clause-stays g c = λ s h.
    let keeps = c.in_ok-made.ensures.leaves.keeps in
    ap (g.P.PostSource.cells c.make_tile.new.source)
    (c.keep_compared-2.ensures.same ∙ c.in_ok-first.ensures.same ∙ keeps.held) ∙ keeps.stays s.cells h.told_is
    ∙ sym h.told_is

pub returns-clause-trouble : goal.returns-clause-trouble
returns-clause-trouble g c = stops_only _ _ c.keep_compared-2.result c.keep_compared-2.ensures.stop

pub returns-clause-least : goal.returns-clause-least
returns-clause-least g c = IfOk-weaker c.keep_compared-2.result _ _ (λ least tells files s names held h there before.
    let made = c.in_ok-made.ensures.made s.cells h.told_is h.rows_is in
    let now = c.in_ok-made.ensures.leaves.keeps.held ∙ held in
    let terrain = file_as s (Terrain c.args.tile) c.terrain.ensures (c.deref.ensures.value ∙ made.terrain)
    (terrain_file s c.args.tile h.params_is there) in
    let note = file_as s (Note c.args.tile) c.note.ensures (c.deref-2.ensures.value ∙ made.note)
    (note_file s c.args.tile h.params_is there) in
    let one = c.in_ok-first.ensures.least files s names now terrain before in
    let two = tells files s _ (c.in_ok-first.ensures.same ∙ now) note one in
    subst (λ all. IsLeast (difference_at s files) all least)
    (two_names names (Terrain c.args.tile) (Note c.args.tile) c.terrain.ensures c.note.ensures) two)
    c.keep_compared-2.ensures.least
