-- What is read of a tile (heightmap-1.0).
use Rattle.std.specs.Prelude.{ℕ, ◌+◌, ◌*◌, ◌==◌, Bool, ◌||◌, List, length, slice_index}

-- samples and child tile mask, and one byte of water mask or 256 lines of 256
abbrev pub has_tile_length : List ℕ → Bool
has_tile_length bytes = length bytes == 8452 || length bytes == 73987

-- the sample of a line, from the north, and a place, from the west
unfoldable pub sample_in : List ℕ → ℕ → ℕ → ℕ
sample_in bytes line place =
    let at = 2 * (65 * line + place) in
    slice_index bytes at + 256 * slice_index bytes (at + 1)

-- the child tile mask
unfoldable pub mask_in : List ℕ → ℕ
mask_in bytes = slice_index bytes 8450
