-- The points of an edge that are kept.
use Rattle.std.specs.Prelude.{ℕ, zero, suc, ◌+◌, ◌/◌, ℤ, if◌then◌else◌, List, [], ◌∷◌, ◌++◌}
use Rattle.edge_decimate.specs.Straight.{are_near}

-- the index halfway, rounded down
abbrev pub halfway : ℕ → ℕ → ℕ
halfway a b = (a + b) / 2

-- the kept points strictly between a and b, by at most n halvings
abbrev pub kept_between : ℕ → List ℤ → ℕ → ℕ → ℕ → List ℕ
kept_between zero line tol a b = []
kept_between (suc n) line tol a b =
    if are_near line tol a b then []
    else kept_between n line tol a (halfway a b) ++ halfway a b ∷ kept_between n line tol (halfway a b) b

-- the kept points of an edge: 66 halvings are enough
unfoldable pub kept_points : List ℤ → ℕ → List ℕ
kept_points line tol = 0 ∷ (kept_between 66 line tol 0 66 ++ 66 ∷ [])
