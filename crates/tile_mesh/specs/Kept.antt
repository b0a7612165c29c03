-- Lists that rise.
use Rattle.std.specs.Prelude.{◌≡◌, ℕ, ◌<◌, List, [], ◌∷◌}

-- each number is greater than the one before it, from a to b
abbrev pub Rises : ℕ → List ℕ → ℕ → Type 0
Rises a [] b = a ≡ b
Rises a (x ∷ xs) b = (a < x) × Rises x xs b

-- the list rises from 0 to 66
abbrev pub RisesTo66 : List ℕ → Type 0
RisesTo66 [] = ⊥
RisesTo66 (x ∷ xs) = (x ≡ 0) × Rises 0 xs 66
