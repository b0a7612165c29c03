use Rattle.std.proofs.Common.{Some, subst}
use Rattle.availability.specs.Existence.{exists_of}
use Rattle.db_engine.specs.Stored.{AreStored, IsNotStored}
use Rattle.terrain_top.proofs.Surfaces.{stored_surface, unstored_surface}
use Rattle.terrain_top.proofs.query.answer_to_surface.Goals as goal

pub returns-in-Ok-clause-says : goal.returns-in-Ok-clause-says
returns-in-Ok-clause-says g c = λ files is.
    let stored = subst (λ held. AreStored held (exists_of c.args.opened.now.params.cap c.args.opened.now.rows c.args.tile) c.args.tile c.in-Ok.files) is c.in-Ok.ensures.ok in
    stored_surface (exists_of c.args.opened.now.params.cap c.args.opened.now.rows c.args.tile) c.args.tile c.args.question.now files c.in-Ok.files.terrain.items c.in-Ok.files.note.items
    c.tell_surface.result stored.exists_is stored.terrain stored.note (rw c.deref.ensures.value at c.tell_surface.ensures.says)

pub returns-in-Err-clause-says : goal.returns-in-Err-clause-says
returns-in-Err-clause-says g c = λ files is.
    unstored_surface c.args.tile c.args.question.now files (exists_of c.args.opened.now.params.cap c.args.opened.now.rows c.args.tile) c.in-Err.answer c.answer_of.result
    (subst (λ held. IsNotStored held (exists_of c.args.opened.now.params.cap c.args.opened.now.rows c.args.tile) c.args.tile c.in-Err.answer) is c.in-Err.ensures.refused) c.answer_of.ensures.says
