-- What is kept of a whole edge, without a bound on halvings.
use Rattle.std.proofs.Common.{◌≡◌, ℕ, zero, suc, ◌+◌, ◌-◌, ◌<◌, ◌≤◌, refl, ap, arith, Bool, true, false, cond, List, [], ◌∷◌, ◌++◌}
use Rattle.std.specs.Prelude.{ℤ, if◌then◌else◌}
use Rattle.edge_decimate.specs.Straight.{IsNear, are_near}
use Rattle.edge_decimate.specs.KeptPoints.{halfway, kept_between, kept_points}
use Rattle.edge_decimate.specs.Laws.{kept_in}
use Rattle.edge_decimate.proofs.Halves.{apart, enough}
use Rattle.edge_decimate.proofs.Neighbours.{kept_near, neighbours_near, all_test}

pub kept_part : (line : List ℤ) (tol a b : ℕ) → a < b → kept_in line tol a b
    ≡ (if are_near line tol a b then []
    else kept_in line tol a (halfway a b) ++ halfway a b ∷ kept_in line tol (halfway a b) b)
kept_part line tol a b l = go (b - a) refl
  where
    step : (n : ℕ) → b - a ≡ suc n → (v : Bool) → are_near line tol a b ≡ v
        → cond v [] (kept_between n line tol a (halfway a b) ++ halfway a b
        ∷ kept_between n line tol (halfway a b) b)
        ≡ cond v [] (kept_in line tol a (halfway a b) ++ halfway a b ∷ kept_in line tol (halfway a b) b)
    step n h true e = refl
    step n h false e =
        let l = apart line tol a b e in
        let p = enough n (halfway a b - a) line tol a (halfway a b) (omega arith) (omega arith) in
        let q = enough n (b - halfway a b) line tol (halfway a b) b (omega arith) (omega arith) in
        cc

    go : (n : ℕ) → b - a ≡ n → kept_between n line tol a b
        ≡ (if are_near line tol a b then []
        else kept_in line tol a (halfway a b) ++ halfway a b ∷ kept_in line tol (halfway a b) b)
    go zero h = absurd (omega arith)
    go (suc n) h = step n h (are_near line tol a b) refl

pub kept_edge : (line : List ℤ) (tol : ℕ) → kept_points line tol ≡ 0 ∷ (kept_in line tol 0 66 ++ 66 ∷ [])
unfolding kept_points
kept_edge line tol = ap (λ (ks : List ℕ). 0 ∷ (ks ++ 66
    ∷ [])) (enough 66 (66 - 0) line tol 0 66 (omega arith) (omega arith))

pub kept_enough : (n : ℕ) (line : List ℤ) (tol a b : ℕ) → b ≤ a + n
    → kept_between n line tol a b ≡ kept_in line tol a b
kept_enough n line tol a b h = enough n (b - a) line tol a b h (omega arith)

-- kept points that follow each other have all heights between them near the straight line
pub kept_are_near : (line : List ℤ) (tol a b : ℕ) (before after : List ℕ)
    → kept_points line tol ≡ before ++ (a ∷ b ∷ after) → are_near line tol a b ≡ true
unfolding kept_points
kept_are_near line tol a b before after e =
    neighbours_near line tol 0 (kept_between 66 line tol 0 66) 66 (kept_near 66 line tol 0 66
    (omega arith)) before a b
    after e

pub near_law : (line : List ℤ) (tol a b : ℕ) (before after : List ℕ)
    → kept_points line tol ≡ before ++ (a ∷ b ∷ after) → (i : ℕ) → a < i → i < b → IsNear line tol a b i
near_law line tol a b before after e = (all_test line tol a b).0 (kept_are_near line tol a b before after e)
