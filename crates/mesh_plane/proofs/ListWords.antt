-- The words of clauses on each, some and each two elements of a list, and the same by recursion.
use Rattle.std.proofs.Common.{◌≡◌, ℕ, zero, suc, ◌<◌, refl, sym, subst, arith, List, [], ◌∷◌, map, inl, inr, length}
use Rattle.std.specs.Prelude.{◌⊎◌, All, Any, AllPairs, slice_index_or}
use Rattle.std.specs.List.{AllByRecursion}

module _ {X : Type 0} where
  pub all_from : (P : X → Type 0) (xs : List X) → AllByRecursion P xs → All P xs
  all_from P [] h k d l = absurd (omega arith)
  all_from P (x ∷ xs) h zero d l = h.0
  all_from P (x ∷ xs) h (suc k) d l = all_from P xs h.1 k d (omega arith)

  pub all_to : (P : X → Type 0) (xs : List X) → All P xs → AllByRecursion P xs
  all_to P [] h = tt
  all_to P (x ∷ xs) h = (h 0 x (omega arith), all_to P xs (λ k d l. h (suc k) d (omega arith)))

  pub any_here : (P : X → Type 0) (x : X) (xs : List X) → P x → Any P (x ∷ xs)
  any_here P x xs p = (0, x, omega arith, refl, p)

  pub any_there : (P : X → Type 0) (x : X) (xs : List X) → Any P xs → Any P (x ∷ xs)
  any_there P x xs h = (suc h.0, h.1, omega (arith, h.2), h.3, h.4)

  pub any_none : (P : X → Type 0) → Any P [] → ⊥
  any_none P h = omega (arith, h.2)

  some_case : (P : X → Type 0) (x : X) (xs : List X) (k : ℕ) (y : X) → k < length (x ∷ xs)
      → slice_index_or (x ∷ xs) k y ≡ y → P y → P x ⊎ Any P xs
  some_case P x xs zero y l e p = inl (subst P (sym e) p)
  some_case P x xs (suc k) y l e p = inr (k, y, omega arith, e, p)

  pub any_cases : (P : X → Type 0) (x : X) (xs : List X) → Any P (x ∷ xs) → P x ⊎ Any P xs
  any_cases P x xs h = some_case P x xs h.0 h.1 h.2 h.3 h.4

  pub pairs_none : (R : X → X → Type 0) → AllPairs R []
  pairs_none R i j d a b = absurd (omega arith)

  pub pairs_cons : (R : X → X → Type 0) (x : X) (xs : List X) → All (R x) xs → AllPairs R xs
      → AllPairs R (x ∷ xs)
  pairs_cons R x xs head tail i zero d a b = absurd (omega arith)
  pairs_cons R x xs head tail zero (suc j) d a b = head j d (omega arith)
  pairs_cons R x xs head tail (suc i) (suc j) d a b = tail i j d (omega arith) (omega arith)

  pub pairs_head : (R : X → X → Type 0) (x : X) (xs : List X) → AllPairs R (x ∷ xs) → All (R x) xs
  pairs_head R x xs h k d l = h 0 (suc k) d (omega arith) (omega arith)

  pub pairs_tail : (R : X → X → Type 0) (x : X) (xs : List X) → AllPairs R (x ∷ xs) → AllPairs R xs
  pairs_tail R x xs h i j d a b = h (suc i) (suc j) d (omega arith) (omega arith)

pub all_map_to : {X Y : Type 0} (P : Y → Type 0) (f : X → Y) (xs : List X) → AllByRecursion P (map f xs)
    → AllByRecursion (λ x. P (f x)) xs
all_map_to P f [] h = tt
all_map_to P f (x ∷ xs) h = (h.0, all_map_to P f xs h.1)

pub all_map_from : {X Y : Type 0} (P : Y → Type 0) (f : X → Y) (xs : List X)
    → AllByRecursion (λ x. P (f x)) xs → AllByRecursion P (map f xs)
all_map_from P f [] h = tt
all_map_from P f (x ∷ xs) h = (h.0, all_map_from P f xs h.1)
