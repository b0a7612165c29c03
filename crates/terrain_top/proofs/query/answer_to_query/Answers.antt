use Rattle.std.proofs.Common.{refl}
use Rattle.top_words.specs.declared.command.Query.TheVariants as query
use Rattle.top_reply.proofs.EachCourse.{has_reply}
use Rattle.terrain_top.proofs.Scripts.{on_ok}
use Rattle.terrain_top.proofs.Surfaces.{surface_says, surface_has}
use Rattle.terrain_top.proofs.query.answer_to_query.Goals as goal

pub returns-in-Surface-clause-says : goal.returns-in-Surface-clause-says
returns-in-Surface-clause-says g c = λ s files reply h is asked.
    surface_says c.in-Surface.tile c.in-Surface.question s files _ c.args.opened.now h reply c.answer_to_surface.result
    (rw c.in-Surface.is at asked) (c.answer_to_surface.ensures.says files is)

pub returns-in-Surface-clause-has : goal.returns-in-Surface-clause-has
returns-in-Surface-clause-has g c = λ s files h is.
    rw c.in-Surface.is (surface_has c.in-Surface.tile c.in-Surface.question s files _ c.args.opened.now h c.answer_to_surface.result (c.answer_to_surface.ensures.says files is))

pub returns-in-List-clause-has : goal.returns-in-List-clause-has
returns-in-List-clause-has g c = λ s files h is.
    rw c.in-List.is (on_ok c.answer_to_list.result (has_reply query.List s files refl))

pub returns-in-Inspect-clause-has : goal.returns-in-Inspect-clause-has
returns-in-Inspect-clause-has g c = λ s files h is.
    rw c.in-Inspect.is (on_ok c.answer_to_inspect.result (has_reply (query.Inspect c.in-Inspect.tile) s files refl))

pub returns-in-Deps-clause-has : goal.returns-in-Deps-clause-has
returns-in-Deps-clause-has g c = λ s files h is.
    rw c.in-Deps.is (on_ok c.answer_to_deps.result (has_reply (query.Deps c.in-Deps.tile) s files refl))

pub returns-in-Heightmap-clause-has : goal.returns-in-Heightmap-clause-has
returns-in-Heightmap-clause-has g c = λ s files h is.
    rw c.in-Heightmap.is (on_ok c.answer_to_heightmap.result (has_reply (query.Heightmap c.in-Heightmap.tile) s files refl))
