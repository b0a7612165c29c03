use Rattle.dted_write.specs.Grid.{post_at}
use Rattle.dted_write.proofs.Law.{written, grid_posts}
use Rattle.dted_write.proofs.laws.what_is_written_is_read.Goals as goal

pub returns-clause-posts : goal.returns-clause-posts
returns-clause-posts c = written

pub returns-clause-grid : goal.returns-clause-grid
returns-clause-grid c = λ grid. written grid.square grid.level (post_at grid) (grid_posts grid)
