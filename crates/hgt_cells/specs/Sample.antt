-- The samples of an HGT file: 16-bit two's complement big-endian numbers of whole metres, of which -32768 says that
-- nothing is known (SRTM Topography, DEM file).
use Rattle.std.specs.Prelude.{◌≢◌, ℕ, ℤ, pos, negsuc, int_le, not, Bool, ◌&&◌, List, if◌then◌else◌}
use Rattle.std.specs.Ordering.{int_eq}
use Rattle.std.specs.Int.{cast_signed, w16}
use Rattle.terrain_base.specs.declared.post.Post.{Post}
use Rattle.terrain_base.specs.declared.post.Post.TheVariants.{Void, Metres}
use Rattle.terrain_base.specs.Height.{IsHeight}
use Rattle.dted_cell.specs.Field.{word_at}

-- the number of a void
abbrev pub unknown : ℤ
unknown = negsuc 32767

-- the number at a place
abbrev pub number_at : List ℕ → ℕ → ℤ
number_at bytes at = cast_signed w16 (word_at bytes at)

-- a sample that is no void is a height
abbrev pub IsSample : ℤ → Type 0
IsSample number = number ≢ unknown → IsHeight number

-- whether it is neither
abbrev pub is_no_sample : ℤ → Bool
is_no_sample number = not (int_eq number unknown) && not (int_le (negsuc 15999) number && int_le number (pos 16000))

-- the post that a sample stands for
abbrev pub post_of : ℤ → Post
post_of number = if int_eq number unknown then Void else Metres number
