-- How far a height of an edge lies from a straight line between two others: lengths along the edge are those
-- of the tile, of which an edge has 32767 (quantized-mesh-1.0, u and v).
use Rattle.std.specs.Prelude.{ℕ, zero, suc, ◌-◌, ℤ, pos, ◌+ℤ◌, ◌-ℤ◌, ◌*ℤ◌, ◌≤ℤ◌, unsigned_abs, int_le, ◌&&◌, Bool, true, List, slice_index_or}
use Rattle.terrain_base.specs.Grid.{line_position}

-- the height at an index of the line, in metres
abbrev pub height_at : List ℤ → ℕ → ℤ
height_at line i = slice_index_or line i (pos 0)

-- the length from one grid line to another, in tile units
abbrev pub length_of : ℕ → ℕ → ℤ
length_of a b = pos (line_position b) -ℤ pos (line_position a)

-- how far the height at i lies above the straight line from the height at a to that at b, times the length
-- from a to b
abbrev pub gap_of : List ℤ → ℕ → ℕ → ℕ → ℤ
gap_of line a b i =
    height_at line i *ℤ length_of a b
    -ℤ (height_at line a *ℤ length_of i b +ℤ height_at line b *ℤ length_of a i)

-- the height at i is within the tolerance of the straight line
abbrev pub IsNear : List ℤ → ℕ → ℕ → ℕ → ℕ → Type 0
IsNear line tol a b i = pos (unsigned_abs (gap_of line a b i)) ≤ℤ (pos tol *ℤ length_of a b)

-- the same, as a test
unfoldable pub is_near : List ℤ → ℕ → ℕ → ℕ → ℕ → Bool
is_near line tol a b i =
    int_le (gap_of line a b i) (pos tol *ℤ length_of a b)
    && int_le (pos 0 -ℤ gap_of line a b i) (pos tol *ℤ length_of a b)

-- n heights from i on are within the tolerance
abbrev pub near_from : List ℤ → ℕ → ℕ → ℕ → ℕ → ℕ → Bool
near_from line tol a b i zero = true
near_from line tol a b i (suc n) = is_near line tol a b i && near_from line tol a b (suc i) n

-- all heights strictly between a and b are
unfoldable pub are_near : List ℤ → ℕ → ℕ → ℕ → Bool
are_near line tol a b = near_from line tol a b (suc a) (b - suc a)
