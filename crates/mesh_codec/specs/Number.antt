-- Numbers in a tile, little-endian and without a sign (quantized-mesh-1.0).
use Rattle.std.specs.Prelude.{ℕ, ◌<◌, List, drop, slice_index}
use Rattle.byteorder.specs.Endian.{little_number}

-- the number in so many bytes, from a place on
unfoldable pub number_at : ℕ → List ℕ → ℕ → ℕ
number_at size bytes at = little_number size (drop at bytes)

-- each is a byte
abbrev pub AreBytes : List ℕ → Type 0
AreBytes bytes = (k : ℕ) → slice_index bytes k < 256
