-- Elevations: a sign bit and 15 bits of whole metres (MIL-PRF-89020, data record).
use Rattle.std.specs.Prelude.{
  ◌≡◌,
  ℕ,
  ℤ,
  pos,
  neg_ℤ,
  ◌-◌,
  ◌%◌,
  ◌≤◌,
  ◌⊎◌,
  ◌==◌,
  nat_lt,
  not,
  Bool,
  ◌&&◌,
  if◌then◌else◌,
}
use Rattle.terrain_base.specs.Height.{IsHeight}
use Rattle.terrain_base.specs.declared.post.Post.{Post}
use Rattle.terrain_base.specs.declared.post.Post.TheVariants.{Void, Metres}

-- the number of a word of sign and magnitude, so that 8000 is 0
abbrev pub signed_of : ℕ → ℤ
signed_of word = if nat_lt word 32768 then pos word else neg_ℤ (pos (word - 32768))

-- the word FFFF, where no elevation is known
abbrev pub is_void : ℕ → Bool
is_void word = word == 65535

-- the post that a word stands for
abbrev pub post_of : ℕ → Post
post_of word = if is_void word then Void else Metres (signed_of word)

-- an elevation is void or at most 16000 metres above or below 0
abbrev pub IsElevation : ℕ → Type 0
IsElevation word = (word ≡ 65535) ⊎ (word % 32768 ≤ 16000)

-- a post is void, or from -16000 to 16000 metres
abbrev pub IsPost : Post → Type 0
IsPost Void = Unit {0}
IsPost (Metres metres) = IsHeight metres

-- whether a word is no elevation
abbrev pub is_out_of_range : ℕ → Bool
is_out_of_range word = not (is_void word) && nat_lt 16000 (word % 32768)
