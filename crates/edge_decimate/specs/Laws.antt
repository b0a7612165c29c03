-- What holds of the kept points of every line of heights.
use Rattle.std.specs.Prelude.{◌≡◌, ◌↔◌, ℕ, ◌+◌, ◌-◌, ◌<◌, ◌≤◌, ℤ, IsTrue, if◌then◌else◌, List, [], ◌∷◌, ◌++◌, All, AllPairs, Contains}
use Rattle.edge_decimate.specs.Straight.{IsNear, is_near, are_near}
use Rattle.edge_decimate.specs.KeptPoints.{halfway, kept_between, kept_points}

-- the tests by whole numbers are those of the distance from the straight line
pub record StraightLaw : Type 0 where
  pub one : (line : List ℤ) (tol a b i : ℕ) → IsTrue (is_near line tol a b i) ↔ IsNear line tol a b i
  pub all : (line : List ℤ) (tol a b : ℕ)
      → IsTrue (are_near line tol a b) ↔ ((i : ℕ) → a < i → i < b → IsNear line tol a b i)

-- the kept points between a and b, by enough halvings
abbrev pub kept_in : List ℤ → ℕ → ℕ → ℕ → List ℕ
kept_in line tol a b = kept_between (b - a) line tol a b

-- a part of an edge keeps nothing where it is near its straight line, else the index halfway and what both
-- halves keep; an edge keeps its ends too; how many halvings are allowed does not matter
pub record HalvingLaw : Type 0 where
  pub part : (line : List ℤ) (tol a b : ℕ) → a < b → kept_in line tol a b
      ≡ (if are_near line tol a b then []
      else kept_in line tol a (halfway a b) ++ halfway a b ∷ kept_in line tol (halfway a b) b)
  pub edge : (line : List ℤ) (tol : ℕ) → kept_points line tol ≡ 0 ∷ (kept_in line tol 0 66 ++ 66 ∷ [])
  pub enough : (n : ℕ) (line : List ℤ) (tol a b : ℕ) → b ≤ a + n
      → kept_between n line tol a b ≡ kept_in line tol a b

-- the indexes ascend from 0 to 66, each once
pub record Ascends (points : List ℕ) : Type 0 where
  pub first : Contains points 0
  pub last : Contains points 66
  pub order : AllPairs (λ i j. i < j) points
  pub within : All (λ i. i ≤ 66) points

-- so do the kept points
abbrev pub AscendLaw : Type 0
AscendLaw = (line : List ℤ) (tol : ℕ) → Ascends (kept_points line tol)

-- each height between two kept points a and b that follow each other in the list is near the straight line
abbrev pub NearLaw : Type 0
NearLaw = (line : List ℤ) (tol a b : ℕ) (before after : List ℕ)
    → kept_points line tol ≡ before ++ (a ∷ b ∷ after)
    → (i : ℕ) → a < i → i < b → IsNear line tol a b i
