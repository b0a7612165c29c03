use Rattle.std.specs.Prelude.{refl}
use Rattle.dted_cell.specs.Cell.{extremes_in}
use Rattle.dted_cell.proofs.Extremes.{no_extremes, bounding}
use Rattle.dted_cell.proofs.laws.extremes_bound_posts.Goals as goal

pub returns-clause-bound : goal.returns-clause-bound
returns-clause-bound c bytes = bounding bytes (extremes_in bytes) refl

pub returns-clause-none : goal.returns-clause-none
returns-clause-none c bytes = no_extremes bytes (extremes_in bytes) refl
