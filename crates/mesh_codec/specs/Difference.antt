-- Arrays of codes as differences (quantized-mesh-1.0, vertex data: zig-zag words).
use Rattle.std.specs.Prelude.{◌≡◌, ℕ, ℤ, pos, negsuc, ◌+◌, ◌*◌, ◌/◌, ◌%◌, ◌<◌, ◌+ℤ◌, ◌==◌, nat_le, List, ◌∷◌, length, map, fold, slice_index, Option, Some, None, unwrap_or, if◌then◌else◌}
use Rattle.std.specs.List.{range_with_len}
use Rattle.mesh_codec.specs.Number.{number_at}

-- the difference that a word stands for: half of it more where it is even, half of the next number less
-- where it is odd
abbrev pub difference : ℕ → ℤ
difference word = if word % 2 == 0 then pos (word / 2) else negsuc (word / 2)

-- the difference at a place of an array
abbrev pub difference_at : List ℕ → ℕ → ℕ → ℤ
difference_at bytes at k = difference (number_at 2 bytes (at + 2 * k))

-- the sum of the differences at the first places of an array
unfoldable pub sum_before : List ℕ → ℕ → ℕ → ℤ
sum_before bytes at k = fold (λ sum difference. sum +ℤ difference) (pos 0)
    (map (difference_at bytes at) (range_with_len 0 k))

-- the running value at a place
unfoldable pub running_value : List ℕ → ℕ → ℕ → ℤ
running_value bytes at k = sum_before bytes at k +ℤ difference_at bytes at k

-- the code that a number is, from 0 to 32767
abbrev pub to_code : ℤ → Option ℕ
to_code (pos n) = if nat_le n 32767 then Some n else None
to_code (negsuc n) = None

-- the code at a place of an array
unfoldable pub code_at : List ℕ → ℕ → ℕ → ℕ
code_at bytes at k = unwrap_or (to_code (running_value bytes at k)) 0

-- the array at an offset has these codes: each is its difference more than the one before, the first than 0
abbrev pub HasCodes : List ℕ → ℕ → List ℕ → Type 0
HasCodes bytes at codes = (k : ℕ) → k < length codes
    → pos (slice_index codes k) ≡ pos (slice_index (0 ∷ codes) k) +ℤ difference_at bytes at k
