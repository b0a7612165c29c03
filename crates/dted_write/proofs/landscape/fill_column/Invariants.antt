use Rattle.std.proofs.Common.{◌≡◌, ◌≢◌, ℕ, ◌<◌}
use Rattle.terrain_base.specs.Level.{rows_of}
use Rattle.dted_write.specs.Grid.{post_at}
use Rattle.dted_write.specs.Landscape.{IsFilled}
use Rattle.dted_write.proofs.landscape.fill_column.Given as goal

abbrev pub invariant-loop-row : goal.invariant-loop-row
invariant-loop-row l =
    (l.posts.square ≡ l.fn.posts.square) × (l.posts.level ≡ l.fn.posts.level) ×
    IsFilled l.posts l.number l.col l.row ×
    ((c r : ℕ) → c ≢ l.col → r < rows_of l.fn.posts.level → post_at l.posts c r ≡ post_at l.fn.posts c r)
