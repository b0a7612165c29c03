-- Lists that rise, read from one number to the next.
use Rattle.std.proofs.Common.{◌≡◌, ℕ, suc, ◌≤◌, arith, Bool, true, false, List, [], ◌∷◌, ◌++◌, refl, ap, sym, ◌∙◌, nat_le, subst}
use Rattle.std.specs.Prelude.{if◌then◌else◌, ℤ}
use Rattle.std.specs.List.{AllByRecursion}
use Rattle.std.proofs.lemmas.Bool.{leb-false, le-leb, lt-leb}
use Rattle.edge_decimate.specs.KeptLine.{first_from}
use Rattle.edge_decimate.specs.KeptPoints.{kept_between, kept_points}
use Rattle.edge_decimate.proofs.Halves as halves
use Rattle.tile_mesh.specs.Kept.{Rises, RisesTo66}

-- what is at least k of a list that rises
abbrev pub from_on : ℕ → List ℕ → List ℕ
from_on k [] = []
from_on k (x ∷ xs) = if nat_le k x then x ∷ xs else from_on k xs

pub rises_on : (a : ℕ) (xs : List ℕ) (b : ℕ) → Rises a xs b → from_on (suc a) xs ≡ xs
rises_on a [] b h = refl
rises_on a (x ∷ xs) b h = rw (le-leb (suc a) x (omega (arith, h.0))) refl

step : (i x b : ℕ) (xs : List ℕ) → Rises x xs b
    → (suc i ≤ first_from (suc i) xs
    → from_on (suc i) xs ≡ first_from (suc i) xs ∷ from_on (suc (first_from (suc i) xs)) xs)
    → (t : Bool) → nat_le (suc i) x ≡ t
    → suc i ≤ (if t then x else first_from (suc i) xs)
    → (if t then x ∷ xs else from_on (suc i) xs)
    ≡ (if t then x else first_from (suc i) xs) ∷ from_on (suc (if t then x else first_from (suc i) xs)) (x ∷ xs)
step i x b xs h next true e k =
    ap (λ (ys : List ℕ). x ∷ ys)
    (sym (ap (λ (t : Bool). if t then x ∷ xs else from_on (suc x) xs) (lt-leb (suc x) x (omega arith)) ∙ rises_on x xs b h))
step i x b xs h next false e k =
    let f = first_from (suc i) xs in
    next k
    ∙ ap (λ (ys : List ℕ). f ∷ ys)
    (sym (ap (λ (t : Bool). if t then x ∷ xs else from_on (suc f) xs) (lt-leb (suc f) x (omega (arith, k, leb-false (suc i) x e)))))

next_in : (i a b : ℕ) (xs : List ℕ) → Rises a xs b → suc i ≤ first_from (suc i) xs
    → from_on (suc i) xs ≡ first_from (suc i) xs ∷ from_on (suc (first_from (suc i) xs)) xs
next_in i a b [] h l = absurd (omega (arith, l))
next_in i a b (x ∷ xs) h l = step i x b xs h.1 (λ k. next_in i x b xs h.1 k) (nat_le (suc i) x) refl l

above_last : (a b : ℕ) (xs : List ℕ) → Rises a xs b → (a ≤ b) × (from_on (suc b) xs ≡ [])
above_last a b [] h = (omega (arith, h), refl)
above_last a b (x ∷ xs) h =
    let r = above_last x b xs h.1 in
    (omega (arith, h.0, r.0), rw (lt-leb (suc b) x (omega (arith, r.0))) r.1)

rises_within : (a b : ℕ) (xs : List ℕ) → Rises a xs b → AllByRecursion (λ x. x ≤ b) xs
rises_within a b [] h = tt
rises_within a b (x ∷ xs) h = ((above_last x b xs h.1).0, rises_within x b xs h.1)

-- ---- from 0 to 66
pub begins : (xs : List ℕ) → RisesTo66 xs → 0 ∷ from_on 1 xs ≡ xs
begins [] h = elim h [ ]
begins (x ∷ xs) h = rw h.0 (ap (λ (ys : List ℕ). 0 ∷ ys) (rises_on 0 xs 66 h.1))

pub next_is : (i : ℕ) (xs : List ℕ) → RisesTo66 xs → suc i ≤ first_from (suc i) xs
    → from_on (suc i) xs ≡ first_from (suc i) xs ∷ from_on (suc (first_from (suc i) xs)) xs
next_is i [] h l = elim h [ ]
next_is i (x ∷ xs) h l =
    let r : Rises x xs 66 = subst (λ (a : ℕ). Rises a xs 66) (sym h.0) h.1 in
    step i x 66 xs r (λ k. next_in i x 66 xs r k) (nat_le (suc i) x) refl l

pub ends : (xs : List ℕ) → RisesTo66 xs → from_on 67 xs ≡ []
ends [] h = elim h [ ]
ends (x ∷ xs) h = rw (h.0, (above_last 0 66 xs h.1).1) refl

pub within : (xs : List ℕ) → RisesTo66 xs → AllByRecursion (λ x. x ≤ 66) xs
within [] h = elim h [ ]
within (x ∷ xs) h = (omega (arith, h.0), rises_within 0 66 xs h.1)

-- ---- kept points
joined : (a b : ℕ) (xs : List ℕ) → halves.Rises a xs b → Rises a (xs ++ b ∷ []) b
joined a b [] h = (h, refl)
joined a b (x ∷ xs) h = (h.0, joined x b xs h.1)

pub kept_to_66 : (line : List ℤ) (tol : ℕ) → RisesTo66 (kept_points line tol)
unfolding kept_points
kept_to_66 line tol =
    (refl, joined 0 66 (kept_between 66 line tol 0 66) (halves.kept_rises 66 line tol 0 66 (omega arith)))
