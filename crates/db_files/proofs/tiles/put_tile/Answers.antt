use Rattle.std.proofs.Common.{refl, sym, ◌∙◌, ap}
use Rattle.terrain_base.proofs.Runs.{at_err, not_yet, ran_some, ran_on}
use Rattle.db_files.proofs.Alike.{alike_as, alike_then, alike_some, write_tile, erase_tile}
use Rattle.db_files.proofs.Parts.{same_stop, told_stop, ran_as}
use Rattle.db_files.proofs.TileSteps.{exists_in, steps_gone, steps_made}
use Rattle.db_files.proofs.Troubles.{fault_is, stops_only, trouble_on}
use Rattle.db_files.proofs.tiles.put_tile.Goals as goal

pub returns-in_err-made-clause-ran : goal.returns-in_err-made-clause-ran
returns-in_err-made-clause-ran g c = λ s h.
    at_err c.from_residual.result _ c.from_residual.ensures.1 (not_yet c.in_err-made.ensures.leaves.keeps.held c.in_err-made.ensures.leaves.keeps.logged)

pub returns-in_err-made-clause-stop : goal.returns-in_err-made-clause-stop
returns-in_err-made-clause-stop g c = λ s h.
    same_stop c.from_residual.result _ c.from_residual.ensures.1 (told_stop _ _ _ s.cells _ h.told_is c.in_err-made.ensures.leaves.shown)

pub returns-in_ok-made-clause-ran : goal.returns-in_ok-made-clause-ran
returns-in_ok-made-clause-ran g c = λ s h.
    let keeps = c.in_ok-made.ensures.leaves.keeps in
    let steps = steps_made s c.args.tile c.in_ok-made.made h (sym c.exists.ensures.value ∙ c.if-exists.true) c.in_ok-made.ensures.made in
    ran_on c.put_made.result keeps.held keeps.logged (ran_as c.put_made.result steps c.put_made.ensures.ran)

pub returns-in_ok-made-clause-stays : goal.returns-in_ok-made-clause-stays
returns-in_ok-made-clause-stays g c = λ s h.
    let source = g.P.PostSource in
    let now = c.make_tile.new.source in
    let keeps = c.in_ok-made.ensures.leaves.keeps in
    let alike = alike_some (source.shapes now) (write_tile (source.shapes now) c.args.tile c.in_ok-made.made.terrain.items c.in_ok-made.made.note.items) (ran_some c.put_made.result c.put_made.ensures.ran) in
    sym (g.met.P.PostSource.by_names now _ _ alike) ∙ ap (source.cells now) keeps.held ∙ keeps.stays s.cells h.told_is ∙ sym h.told_is

pub returns-else-exists-clause-ran : goal.returns-else-exists-clause-ran
returns-else-exists-clause-ran g c = λ s h.
    ran_as c.drop_tile.result (steps_gone s c.args.tile (sym (exists_in s c.args.tile h) ∙ sym c.exists.ensures.value ∙ c.if-exists.false)) c.drop_tile.ensures.ran

pub returns-else-exists-clause-stays : goal.returns-else-exists-clause-stays
returns-else-exists-clause-stays g c = λ s h.
    sym (g.met.P.PostSource.by_names c.args.source.now _ _ (alike_some (g.P.PostSource.shapes c.args.source.now) (erase_tile (g.P.PostSource.shapes c.args.source.now) c.args.tile) (ran_some c.drop_tile.result c.drop_tile.ensures.ran)))

pub returns-in_err-made-clause-trouble : goal.returns-in_err-made-clause-trouble
returns-in_err-made-clause-trouble g c =
    trouble_on _ _ c.from_residual.result _ c.from_residual.ensures.1 (fault_is _ _ _ _ c.in_err-made.ensures.leaves.shown)

pub returns-in_err-made-clause-keeps : goal.returns-in_err-made-clause-keeps
returns-in_err-made-clause-keeps g c =
    let keeps = c.in_err-made.ensures.leaves.keeps in
    record { keys_stay = keeps.shape; alike = alike_as (g.P.PostSource.shapes c.args.source.now) keeps.held }

pub returns-in_ok-made-clause-trouble : goal.returns-in_ok-made-clause-trouble
returns-in_ok-made-clause-trouble g c = stops_only _ _ c.put_made.result c.put_made.ensures.stop

pub returns-in_ok-made-clause-keeps : goal.returns-in_ok-made-clause-keeps
returns-in_ok-made-clause-keeps g c =
    let keys = g.P.PostSource.shapes c.args.source.now in
    let keeps = c.in_ok-made.ensures.leaves.keeps in
    let put = alike_some keys (write_tile keys c.args.tile c.in_ok-made.made.terrain.items c.in_ok-made.made.note.items) (ran_some c.put_made.result c.put_made.ensures.ran) in
    record { keys_stay = keeps.shape; alike = alike_then keys _ _ _ (alike_as keys keeps.held) put }

pub returns-else-exists-clause-trouble : goal.returns-else-exists-clause-trouble
returns-else-exists-clause-trouble g c = stops_only _ _ c.drop_tile.result c.drop_tile.ensures.stop

pub returns-else-exists-clause-keeps : goal.returns-else-exists-clause-keeps
returns-else-exists-clause-keeps g c =
    let keys = g.P.PostSource.shapes c.args.source.now in
    record { keys_stay = refl; alike = alike_some keys (erase_tile keys c.args.tile) (ran_some c.drop_tile.result c.drop_tile.ensures.ran) }
