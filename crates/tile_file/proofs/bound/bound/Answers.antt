use Rattle.std.proofs.Common.{sym, ◌∙◌}
use Rattle.std.proofs.lemmas.Result.{IfOk-weaker}
use Rattle.tile_file.proofs.Bounds.{above, below}
use Rattle.tile_file.proofs.bound.bound.Goals as goal

pub returns-then-tile-lt-FIRST_LEVEL_OF_POSTS-clause-value : goal.returns-then-tile-lt-FIRST_LEVEL_OF_POSTS-clause-value
returns-then-tile-lt-FIRST_LEVEL_OF_POSTS-clause-value g c told is short =
    below c.args.summaries.now told c.args.tile c.args.mesh.now c.span_bound.result c.if-tile-lt-FIRST_LEVEL_OF_POSTS.true c.span_bound.ensures short

pub returns-else-tile-lt-FIRST_LEVEL_OF_POSTS-clause-value : goal.returns-else-tile-lt-FIRST_LEVEL_OF_POSTS-clause-value
returns-else-tile-lt-FIRST_LEVEL_OF_POSTS-clause-value g c =
    IfOk-weaker c.post_bound.result _ _ (λ bound h told is short. h told is ∙ sym (above told c.args.tile c.args.mesh.now c.if-tile-lt-FIRST_LEVEL_OF_POSTS.false)) c.post_bound.ensures.number
