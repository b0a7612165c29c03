-- A data record that is written (MIL-PRF-89020, data record).
use Rattle.std.specs.Prelude.{ℕ, pos, ◌+◌, ◌/◌, ◌%◌, int_lt, unsigned_abs, List, [], ◌∷◌, ◌++◌, flat_map, sum, if◌then◌else◌}
use Rattle.terrain_base.specs.declared.post.Post.{Post}
use Rattle.terrain_base.specs.declared.post.Post.TheVariants.{Void, Metres}

-- the word of an elevation: a sign bit and 15 bits of whole metres, and FFFF for a void
abbrev pub word_of : Post → ℕ
word_of Void = 65535
word_of (Metres metres) = if int_lt metres (pos 0) then 32768 + unsigned_abs metres else unsigned_abs metres

-- two bytes, and four, the highest first
abbrev pub two_bytes : ℕ → List ℕ
two_bytes n = (n / 256 % 256) ∷ (n % 256) ∷ []

abbrev pub four_bytes : ℕ → List ℕ
four_bytes n = (n / 16777216 % 256) ∷ (n / 65536 % 256) ∷ (n / 256 % 256) ∷ (n % 256) ∷ []

abbrev pub bytes_of_post : Post → List ℕ
bytes_of_post post = two_bytes (word_of post)

-- the byte AA, three bytes of block count and two of longitude count, both of which are the column, two of latitude
-- count, which is 0, and the elevations from the south on
unfoldable pub counted_posts : ℕ → List Post → List ℕ
counted_posts col posts = 170 ∷ 0 ∷ two_bytes col ++ two_bytes col ++ 0 ∷ 0 ∷ flat_map bytes_of_post posts

-- the same with the checksum, the sum of these bytes
unfoldable pub record_text : ℕ → List Post → List ℕ
record_text col posts = counted_posts col posts ++ four_bytes (sum (counted_posts col posts))
