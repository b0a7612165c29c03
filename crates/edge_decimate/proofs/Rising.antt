-- The kept points ascend from 0 to 66.
use Rattle.std.proofs.Common.{ℕ, ◌<◌, ◌≤◌, refl, arith, List, [], ◌∷◌, ◌++◌}
use Rattle.std.specs.Prelude.{ℤ, All, AllPairs}
use Rattle.std.proofs.lemmas.List.Elements.{All-cons, Contains-append_right}
use Rattle.std.proofs.lemmas.List.Kept.{AllPairs-cons}
use Rattle.edge_decimate.specs.KeptPoints.{kept_between, kept_points}
use Rattle.edge_decimate.specs.Laws.{Ascends}
use Rattle.edge_decimate.proofs.Halves.{Rises, kept_rises}

-- what is said of each element holds of more
all_more : (P Q : ℕ → Type 0) → ((x : ℕ) → P x → Q x) → (xs : List ℕ) → All P xs → All Q xs
all_more P Q f xs h = λ k d l. f _ (h k d l)

none : (P : ℕ → Type 0) → All P []
none P = λ k d l. absurd (omega arith)

all_above : (a : ℕ) (xs : List ℕ) (b : ℕ) → Rises a xs b → All (λ x. a < x) (xs ++ b ∷ [])
all_above a [] b r = All-cons (λ x. a < x) b [] r (none (λ x. a < x))
all_above a (x ∷ xs) b r =
    All-cons (λ y. a < y) x (xs ++ b ∷ []) r.0
    (all_more (λ y. x < y) (λ y. a < y) (λ y h. omega (arith, h, r.0)) (xs ++ b ∷ []) (all_above x xs b r.1))

pairs : (a : ℕ) (xs : List ℕ) (b : ℕ) → Rises a xs b → AllPairs (λ i j. i < j) (xs ++ b ∷ [])
pairs a [] b r = AllPairs-cons (λ i j. i < j) b [] (none (λ j. b < j)) (λ i j d l k. absurd (omega arith))
pairs a (x ∷ xs) b r =
    AllPairs-cons (λ i j. i < j) x (xs ++ b ∷ []) (all_above x xs b r.1) (pairs x xs b r.1)

below_end : (a : ℕ) (xs : List ℕ) (b : ℕ) → Rises a xs b → a < b
below_end a [] b r = r
below_end a (x ∷ xs) b r = omega (arith, r.0, below_end x xs b r.1)

all_within : (a : ℕ) (xs : List ℕ) (b : ℕ) → Rises a xs b → All (λ x. x ≤ b) (xs ++ b ∷ [])
all_within a [] b r = All-cons (λ x. x ≤ b) b [] (omega arith) (none (λ x. x ≤ b))
all_within a (x ∷ xs) b r =
    All-cons (λ y. y ≤ b) x (xs ++ b ∷ []) (omega (arith, below_end x xs b r.1)) (all_within x xs b r.1)

-- what lies strictly between, and the two ends
ascends : (xs : List ℕ) → Rises 0 xs 66 → Ascends (0 ∷ (xs ++ 66 ∷ []))
ascends xs r = record {
  first = (0, omega arith, refl);
  last = Contains-append_right (0 ∷ xs) (66 ∷ []) 66 (0, omega arith, refl);
  order = AllPairs-cons (λ i j. i < j) 0 (xs ++ 66 ∷ []) (all_above 0 xs 66 r) (pairs 0 xs 66 r);
  within = All-cons (λ i. i ≤ 66) 0 (xs ++ 66 ∷ []) (omega arith) (all_within 0 xs 66 r);
}

pub kept_ascend : (line : List ℤ) (tol : ℕ) → Ascends (kept_points line tol)
unfolding kept_points
kept_ascend line tol = ascends (kept_between 66 line tol 0 66) (kept_rises 66 line tol 0 66 (omega arith))
