-- Indexes by high water mark (quantized-mesh-1.0, index data).
use Rattle.std.specs.Prelude.{◌≡◌, ℕ, ◌+◌, ◌-◌, ◌*◌, ◌<◌, ◌==◌, nat_lt, nat_le, Bool, ◌||◌, List, length, count_by, slice_index}
use Rattle.std.specs.List.{range_with_len}
use Rattle.mesh_codec.specs.Number.{number_at}

-- the number at a place of a list of a width, from an offset on
abbrev pub entry_at : ℕ → List ℕ → ℕ → ℕ → ℕ
entry_at width bytes at k = number_at width bytes (at + width * k)

-- the high water mark at a place: how many of the codes before are 0
unfoldable pub mark_at : ℕ → List ℕ → ℕ → ℕ → ℕ
mark_at width bytes at k = count_by (λ place. entry_at width bytes at place == 0) (range_with_len 0 k)

-- the index at a place: the mark less the code
unfoldable pub index_at : ℕ → List ℕ → ℕ → ℕ → ℕ
index_at width bytes at k = mark_at width bytes at k - entry_at width bytes at k

-- whether it is negative, or none of so many vertices
abbrev pub is_no_vertex : ℕ → ℕ → ℕ → Bool
is_no_vertex vertices mark code = nat_lt mark code || nat_le vertices (mark - code)

-- the codes at an offset stand for these indexes
abbrev pub HasIndexes : ℕ → List ℕ → ℕ → List ℕ → Type 0
HasIndexes width bytes at indexes = (k : ℕ) → k < length indexes
    → slice_index indexes k + entry_at width bytes at k ≡ mark_at width bytes at k

-- the numbers at an offset are these
abbrev pub HasEntries : ℕ → List ℕ → ℕ → List ℕ → Type 0
HasEntries width bytes at list = (k : ℕ) → k < length list → slice_index list k ≡ entry_at width bytes at k
