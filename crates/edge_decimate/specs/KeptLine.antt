-- Kept points as bits.
use Rattle.std.specs.Prelude.{ℕ, suc, Bool, true, false, if◌then◌else◌, nat_le, List, [], ◌∷◌, slice_set}

-- the bits with those at these places set
abbrev pub set_all : List Bool → List ℕ → List Bool
set_all bits [] = bits
set_all bits (place ∷ places) = set_all (slice_set bits place true) places

-- the places of the bits that are set, of which the first bit has the place i
abbrev pub marked : ℕ → List Bool → List ℕ
marked i [] = []
marked i (true ∷ bits) = i ∷ marked (suc i) bits
marked i (false ∷ bits) = marked (suc i) bits

-- the first number of the list that is at least k
abbrev pub first_from : ℕ → List ℕ → ℕ
first_from k [] = 0
first_from k (x ∷ xs) = if nat_le k x then x else first_from k xs
