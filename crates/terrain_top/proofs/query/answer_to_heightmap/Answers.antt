use Rattle.std.proofs.Common.{refl, sym}
use Rattle.terrain_top.proofs.Heightmaps.{given, not_given}
use Rattle.terrain_top.proofs.query.answer_to_heightmap.Goals as goal

pub returns-in-Ok-clause-says : goal.returns-in-Ok-clause-says
returns-in-Ok-clause-says g c = λ s h.
    given s c.args.tile _ c.args.opened.now h _ c.in-Ok.ensures.exists refl (c.in-Ok.ensures.made s h)

pub returns-in-Err-clause-says : goal.returns-in-Err-clause-says
returns-in-Err-clause-says g c = λ s h.
    not_given s c.args.tile _ c.args.opened.now h c.in-Err.answer c.answer_of.result c.in-Err.ensures.none (c.in-Err.ensures.stop s h)
    c.answer_of.ensures.says
