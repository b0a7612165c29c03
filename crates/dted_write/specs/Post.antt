-- The posts that a cell may have.
use Rattle.std.specs.Prelude.{◌≡◌, ℤ}
use Rattle.terrain_base.specs.declared.post.Post.{Post}
use Rattle.terrain_base.specs.declared.post.Post.TheVariants.{Metres}
use Rattle.terrain_base.specs.Height.{IsHeight}

-- a void, or a height at most 16000 metres above or below 0
abbrev pub IsPost : Post → Type 0
IsPost post = (metres : ℤ) → post ≡ Metres metres → IsHeight metres
