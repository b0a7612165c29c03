-- Between two kept points that follow each other each height is near the straight line.
use Rattle.std.proofs.Common.{◌≡◌, ℕ, zero, suc, ◌+◌, ◌-◌, ◌<◌, ◌≤◌, refl, ap, sym, ◌∙◌, arith, Bool, true, false, cond, List, [], ◌∷◌, ◌++◌, inl, inr}
use Rattle.std.specs.Prelude.{ℤ, pos, ◌-ℤ◌, ◌*ℤ◌, ◌≤ℤ◌, unsigned_abs, int_le, ◌⊎◌, ◌&&◌, ◌↔◌, IsTrue}
use Rattle.std.proofs.lemmas.Int.{ints}
use Rattle.edge_decimate.specs.Straight.{length_of, gap_of, IsNear, is_near, near_from, are_near}
use Rattle.edge_decimate.specs.KeptPoints.{halfway, kept_between}
use Rattle.edge_decimate.proofs.Halves.{near_close, apart}

-- between neighbours of the list every height is near
abbrev pub AllNear : List ℤ → ℕ → ℕ → List ℕ → ℕ → Type 0
AllNear line tol a [] b = are_near line tol a b ≡ true
AllNear line tol a (x ∷ xs) b = (are_near line tol a x ≡ true) × AllNear line tol x xs b

near_on : (line : List ℤ) (tol a : ℕ) (xs : List ℕ) (m : ℕ) (ys : List ℕ) (b : ℕ)
    → AllNear line tol a xs m → AllNear line tol m ys b → AllNear line tol a (xs ++ m ∷ ys) b
near_on line tol a [] m ys b h k = (h, k)
near_on line tol a (x ∷ xs) m ys b h k = (h.0, near_on line tol x xs m ys b h.1 k)

pub kept_near : (n : ℕ) (line : List ℤ) (tol a b : ℕ) → b ≤ a + n
    → AllNear line tol a (kept_between n line tol a b) b
kept_near zero line tol a b l = near_close line tol a b (omega arith)
kept_near (suc n) line tol a b l = go (are_near line tol a b) refl (kept_near n line tol a (halfway a b))
    (kept_near n line tol (halfway a b) b)
  where
    go : (v : Bool) → are_near line tol a b ≡ v → (halfway a b ≤ a + n
        → AllNear line tol a (kept_between n line tol a (halfway a b)) (halfway a b))
        → (b ≤ halfway a b + n → AllNear line tol (halfway a b) (kept_between n line tol (halfway a b) b) b)
        → AllNear line tol a (cond v [] (kept_between n line tol a (halfway a b) ++ halfway a b
        ∷ kept_between n line tol (halfway a b) b)) b
    go true e f g = e
    go false e f g =
        let k = apart line tol a b e in
        near_on line tol a (kept_between n line tol a (halfway a b)) (halfway a b)
        (kept_between n line tol (halfway a b) b) b (f (omega arith)) (g (omega arith))

-- one of them
pub near_at : (line : List ℤ) (tol a b n i j : ℕ) → near_from line tol a b i n ≡ true → i ≤ j
    → j < i + n → is_near line tol a b j ≡ true
near_at line tol a b zero i j h l k = absurd (omega arith)
near_at line tol a b (suc n) i j h l k = go (is_near line tol a b i) refl h (by_first i j l)
    (λ g d. near_at line tol a b n (suc i) j g d (omega arith))
  where
    by_first : (i j : ℕ) → i ≤ j → (i ≡ j) ⊎ (suc i ≤ j)
    by_first i j l = grind arith

    go : (v : Bool) → is_near line tol a b i ≡ v → (v && near_from line tol a b (suc i) n) ≡ true → (i
        ≡ j) ⊎ (suc i ≤ j) → (near_from line tol a b (suc i) n ≡ true → suc i ≤ j
        → is_near line tol a b j ≡ true) → is_near line tol a b j ≡ true
    go true e g (inl d) r = ap (is_near line tol a b) (sym d) ∙ e
    go true e g (inr d) r = r g d
    go false e g d r = absurd (let x = g in cc)

-- where each is, all are
pub near_each : (line : List ℤ) (tol a b n i : ℕ) → ((j : ℕ) → i ≤ j → j < i + n
    → is_near line tol a b j ≡ true)
    → near_from line tol a b i n ≡ true
near_each line tol a b zero i h = refl
near_each line tol a b (suc n) i h =
    rw (h i (omega arith) (omega arith)) (near_each line tol a b n (suc i) (λ j l k. h j (omega arith)
    (omega arith)))

-- the test of two whole numbers is that of the size
size_test : (g l : ℤ) → IsTrue (int_le g l && int_le (pos 0 -ℤ g) l) ↔ (pos (unsigned_abs g) ≤ℤ l)
size_test g l = (λ h. grind (arith, ints), λ h. grind (arith, ints))

pub near_test : (line : List ℤ) (tol a b i : ℕ) → IsTrue (is_near line tol a b i) ↔ IsNear line tol a b i
unfolding is_near
near_test line tol a b i = size_test (gap_of line a b i) (pos tol *ℤ length_of a b)

pub all_test : (line : List ℤ) (tol a b : ℕ)
    → IsTrue (are_near line tol a b) ↔ ((i : ℕ) → a < i → i < b → IsNear line tol a b i)
unfolding are_near
all_test line tol a b = (
  λ h i l k. (near_test line tol a b i).0 (near_at line tol a b (b - suc a) (suc a) i h (omega arith)
      (omega arith)),
  λ h. near_each line tol a b (b - suc a) (suc a) (λ j l k. (near_test line tol a b j).1 (h j
      (omega arith) (omega arith))),
)

-- neighbours of the whole list
pub neighbours_near : (line : List ℤ) (tol x : ℕ) (xs : List ℕ) (y : ℕ) → AllNear line tol x xs y
    → (before : List ℕ) (a b : ℕ) (after : List ℕ) → x ∷ (xs ++ y ∷ []) ≡ before ++ (a ∷ b ∷ after)
    → are_near line tol a b ≡ true
neighbours_near line tol x [] y n [] a b after e = let d : x ≡ a = cc in let f : y ≡ b = cc in
    rw (sym d, sym f) n
neighbours_near line tol x (w ∷ xs) y n [] a b after e =
    let d : x ≡ a = cc in let f : w ≡ b = cc in rw (sym d, sym f) n.0
neighbours_near line tol x [] y n (c ∷ before) a b after e = absurd (longer before (let f : y ∷ []
    ≡ before ++ (a ∷ b ∷ after) = cc in f))
  where
    longer : (before : List ℕ) → y ∷ [] ≡ before ++ (a ∷ b ∷ after) → ⊥
    longer [] h = let z : [] ≡ b ∷ after = cc in absurd (cc z)
    longer (c ∷ []) h = let z : [] ≡ a ∷ b ∷ after = cc in absurd (cc z)
    longer (c ∷ d ∷ before) h = let z : [] ≡ d ∷ (before ++ (a ∷ b ∷ after)) = cc in absurd (cc z)
neighbours_near line tol x (w ∷ xs) y n (c ∷ before) a b after e =
    let f : w ∷ (xs ++ y ∷ []) ≡ before ++ (a ∷ b ∷ after) = cc in
    neighbours_near line tol w xs y n.1 before a b after f
