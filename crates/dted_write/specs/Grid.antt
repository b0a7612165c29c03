-- A grid of posts: what a cell is written from.
use Rattle.std.specs.Prelude.{ℕ, ◌+◌, ◌*◌, slice_index_or}
use Rattle.terrain_base.specs.declared.post.Post.{Post}
use Rattle.terrain_base.specs.declared.post.Post.TheVariants.{Void}
use Rattle.terrain_base.specs.Level.{rows_of}
use Rattle.dted_write.specs.declared.grid.PostGrid.{PostGrid}

-- the post of a column, from the west, and a row, from the south
unfoldable pub post_at : PostGrid → ℕ → ℕ → Post
post_at grid col row = slice_index_or grid.posts.items (col * rows_of grid.level + row) Void
