use Rattle.std.proofs.Common.{◌≡◌, ℕ, ◌<◌}
use Rattle.terrain_base.specs.Level.{rows_of}
use Rattle.dted_write.specs.Landscape.{IsFilled}
use Rattle.dted_write.proofs.landscape.landscape.Given as goal

abbrev pub invariant-loop-col : goal.invariant-loop-col
invariant-loop-col l =
    (l.posts.square ≡ l.fn.square) × (l.posts.level ≡ l.fn.level) ×
    ((c : ℕ) → c < l.col → IsFilled l.posts l.fn.number c (rows_of l.fn.level))
