-- What the posts of a cell are held to.
use Rattle.std.specs.Prelude.{◌≡◌, ℕ, ◌<◌, ◌↔◌, List, slice_index, None, IsNone, IfSome}
use Rattle.dted_cell.specs.Cell.{columns_in, rows_in, post_in, extremes_in, IsAllVoid, BoundsPosts}
use Rattle.dted_cell.specs.Elevation.{IsPost}
use Rattle.dted_cell.specs.Refusal.{refusal_of}

-- the extremes are the heights of two posts, and all others lie between them
abbrev pub ExtremesBound : Type 0
ExtremesBound = (bytes : List ℕ) → IfSome (extremes_in bytes) (BoundsPosts bytes)

-- there are none exactly where every post is void
abbrev pub VoidsHaveNone : Type 0
VoidsHaveNone = (bytes : List ℕ) → IsNone (extremes_in bytes) ↔ IsAllVoid bytes

-- a post of a cell, of bytes below 256, is void or from -16000 to 16000 metres
abbrev pub PostsAreHeights : Type 0
PostsAreHeights = (bytes : List ℕ) → ((k : ℕ) → slice_index bytes k < 256) → refusal_of bytes ≡ None
    → (col row : ℕ) → col < columns_in bytes → row < rows_in bytes → IsPost (post_in bytes col row)
