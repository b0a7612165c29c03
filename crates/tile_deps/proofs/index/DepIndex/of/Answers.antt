use Rattle.std.proofs.Common.{ap, ◌∙◌}
use Rattle.std.proofs.lemmas.List.Filters.{dedup_is}
use Rattle.std.specs.List.{dedup}
use Rattle.tile_deps.specs.Squares.{same_square, squares_of}
use Rattle.tile_deps.proofs.index.DepIndex.of.Goals as goal

pub returns-clause-squares : goal.returns-clause-squares
unfolding squares_of
returns-clause-squares c = dedup_is same_square _ _ c.dedup.ensures.filtered ∙ ap (dedup same_square) c.in_ok-squares.ensures
