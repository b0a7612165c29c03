-- Halving a part of an edge: enough halvings are as good as any, and what is kept ascends.
use Rattle.std.proofs.Common.{◌≡◌, ℕ, zero, suc, ◌+◌, ◌-◌, ◌<◌, ◌≤◌, refl, arith, add-one, Bool, true, false, cond, List, [], ◌∷◌, ◌++◌}
use Rattle.std.specs.Prelude.{ℤ}
use Rattle.edge_decimate.specs.Straight.{is_near, near_from, are_near}
use Rattle.edge_decimate.specs.KeptPoints.{halfway, kept_between}

-- neighbours have nothing between them
pub near_close : (line : List ℤ) (tol a b : ℕ) → b ≤ suc a → are_near line tol a b ≡ true
unfolding are_near
near_close line tol a b h = let e : b - suc a ≡ 0 = omega arith in rw e

-- where some height is not near there is one between
pub apart : (line : List ℤ) (tol a b : ℕ) → are_near line tol a b ≡ false → suc a < b
apart line tol a b h = by_lt (suc a) b (λ l. l) (λ l. let e = near_close line tol a b l in cc)
  where
    by_lt : {P : Type 0} (m n : ℕ) → (m < n → P) → (n ≤ m → P) → P
    by_lt m n f g = grind arith

-- more halvings than there are steps change nothing
pub enough : (n k : ℕ) (line : List ℤ) (tol a b : ℕ) → b ≤ a + n → b ≤ a + k
    → kept_between n line tol a b ≡ kept_between k line tol a b
enough zero zero line tol a b h j = refl
enough zero (suc k) line tol a b h j = rw (near_close line tol a b (omega arith))
enough (suc n) zero line tol a b h j = rw (near_close line tol a b (omega arith))
enough (suc n) (suc k) line tol a b h j = go (are_near line tol a b) refl (enough n k line tol)
  where
    go : (v : Bool) → are_near line tol a b ≡ v → ((c d : ℕ) → d ≤ c + n → d ≤ c + k
        → kept_between n line tol c d ≡ kept_between k line tol c d)
        → cond v [] (kept_between n line tol a (halfway a b) ++ halfway a b
        ∷ kept_between n line tol (halfway a b) b)
        ≡ cond v [] (kept_between k line tol a (halfway a b) ++ halfway a b
        ∷ kept_between k line tol (halfway a b) b)
    go true e f = refl
    go false e f =
        let l = apart line tol a b e in
        let p = f a (halfway a b) (omega arith) (omega arith) in
        let q = f (halfway a b) b (omega arith) (omega arith) in
        cc

-- one height further
pub near_step : (line : List ℤ) (tol a b i : ℕ) → i < b → is_near line tol a b i ≡ true
    → near_from line tol a b (i + 1) (b - (i + 1)) ≡ near_from line tol a b i (b - i)
near_step line tol a b i l e = let d : b - i ≡ suc (b - (i + 1)) = omega arith in rw (d, e, add-one)

-- from a over the numbers to b, each after the one before it
abbrev pub Rises : ℕ → List ℕ → ℕ → Type 0
Rises a [] b = a < b
Rises a (x ∷ xs) b = (a < x) × Rises x xs b

pub rises_on : (a : ℕ) (xs : List ℕ) (m : ℕ) (ys : List ℕ) (b : ℕ) → Rises a xs m → Rises m ys b
    → Rises a (xs ++ m ∷ ys) b
rises_on a [] m ys b h k = (h, k)
rises_on a (x ∷ xs) m ys b h k = (h.0, rises_on x xs m ys b h.1 k)

pub kept_rises : (n : ℕ) (line : List ℤ) (tol a b : ℕ) → a < b → Rises a (kept_between n line tol a b) b
kept_rises zero line tol a b l = l
kept_rises (suc n) line tol a b l = go (are_near line tol a b) refl (kept_rises n line tol a
    (halfway a b)) (kept_rises n line tol (halfway a b) b)
  where
    go : (v : Bool) → are_near line tol a b ≡ v → (a < halfway a b
        → Rises a (kept_between n line tol a (halfway a b)) (halfway a b)) → (halfway a b < b
        → Rises (halfway a b) (kept_between n line tol (halfway a b) b) b)
        → Rises a (cond v [] (kept_between n line tol a (halfway a b) ++ halfway a b
        ∷ kept_between n line tol (halfway a b) b)) b
    go true e f g = l
    go false e f g =
        let k = apart line tol a b e in
        rises_on a (kept_between n line tol a (halfway a b)) (halfway a b) (kept_between n line tol
        (halfway a b) b) b (f (omega arith)) (g (omega arith))
