-- The least multiple that hides all corners, one box after another.
use Rattle.std.proofs.Common.{◌≡◌, ℕ, zero, suc, ◌+◌, ◌<◌, ◌≤◌, ◌∙◌, ap, refl, sym, subst, arith, inl, inr, Bool, true, false, ◌&&◌, cond}
use Rattle.std.proofs.Common.{List, [], ◌∷◌, ◌++◌, length, take_all, All}
use Rattle.std.proofs.lemmas.Bool.{cases_lt, and_parts, and_from}
use Rattle.std.proofs.lemmas.List.{take_more}
use Rattle.std.proofs.lemmas.Grind.{flat_map-append}
use Rattle.std.proofs.lemmas.List.Elements.{All-nil, All-cons, All-head, All-tail}
use Rattle.std.proofs.lemmas.List.Folds.{list_all-append, list_all_more}
use lib.ListN.{get_or, take}
use Rattle.std.specs.Prelude.{flat_map, Option, Some, None}
use Rattle.std.specs.List.{find, list_all, range_with_len}
use Rattle.ecef_boxes.specs.declared.ecef_box.EcefBox.{EcefBox}
use Rattle.bound_spheres.specs.declared.sphere.Sphere.{Sphere}
use Rattle.bound_spheres.specs.declared.scaled.Vector.{Vector}
use Rattle.bound_spheres.specs.Horizon.{Hides, IsHorizon, hides_of, horizon_of, scaled_centre, scaled_corners}
use Rattle.bound_spheres.proofs.Horizons.{hides_back, hides_is, rises_test}

-- ---- the first number of a range that passes a test

-- what the search answers
abbrev pub Finds : (ℕ → Bool) → (a n : ℕ) → Option ℕ → Type 0
Finds p a n (Some m) = (a ≤ m) × (m < a + n) × (p m ≡ true) × ((k : ℕ) → a ≤ k → k < m → p k ≡ false)
Finds p a n None = (k : ℕ) → a ≤ k → k < a + n → p k ≡ false

past : (p : ℕ → Bool) (a k : ℕ) → p a ≡ false → a ≤ k → (a + 1 ≤ k → p k ≡ false) → p k ≡ false
past p a k here h f = elim (cases_lt a k) [
  | inl more ↦ f (omega (arith, more))
  | inr fine ↦ let e : a ≡ k = omega (arith, h, fine) in subst (λ (i : ℕ). p i ≡ false) e here
]

finds_next : (p : ℕ → Bool) (a n : ℕ) (o : Option ℕ) → p a ≡ false → Finds p (a + 1) n o → Finds p a (suc n) o
finds_next p a n None here f = λ k h l. past p a k here h (λ more. f k more (omega (arith, l)))
finds_next p a n (Some m) here f = (
  (let low = f.0 in omega (arith, low)),
  (let high = f.1 in omega (arith, high)),
  f.2,
  λ k h l. past p a k here h (λ more. f.3 k more l),
)

pub finds : (p : ℕ → Bool) (a n : ℕ) → Finds p a n (find p (range_with_len a n))
finds p a zero = λ k h l. absurd (omega (arith, h, l))
finds p a (suc n) = elim (p a) as (λ b. p a ≡ b → Finds p a (suc n) (cond b (Some a) (find p (range_with_len (a + 1) n)))) [
  | true ↦ λ e. (omega arith, omega arith, e, λ k h l. absurd (omega (arith, h, l)))
  | false ↦ λ e. finds_next p a n (find p (range_with_len (a + 1) n)) e (finds p (a + 1) n)
] refl

clash : {X : Type 0} (b : Bool) → b ≡ true → b ≡ false → X
clash true h k = absurd (let z = k in cc)
clash false h k = absurd (let z = h in cc)

-- and nothing else
pub finds_one : (p : ℕ → Bool) (a n m : ℕ) (o : Option ℕ) → Finds p a n o → a ≤ m → m < a + n → p m ≡ true
    → ((k : ℕ) → a ≤ k → k < m → p k ≡ false) → o ≡ Some m
finds_one p a n m None f h l e b = clash (p m) e (f m h l)
finds_one p a n m (Some i) f h l e b = elim (cases_lt i m) [
  | inl less ↦ clash (p i) f.2 (b i f.0 less)
  | inr fine ↦ elim (cases_lt m i) [
    | inl less ↦ clash (p m) e (f.3 m h less)
    | inr same ↦ let g : i ≡ m = omega (arith, fine, same) in ap (λ (j : ℕ). Some j) g
  ]
]

pub finds_none : (p : ℕ → Bool) (a n : ℕ) (o : Option ℕ) → Finds p a n o → ((k : ℕ) → a ≤ k → k < a + n → p k ≡ false) → o ≡ None
finds_none p a n None f b = refl
finds_none p a n (Some i) f b = clash (p i) f.2 (b i f.0 f.1)

-- ---- all corners
abbrev all_at : Vector → List Vector → ℕ → Bool
all_at c ps m = list_all (λ p. hides_of c p m) ps

first_no : (a b : Bool) → a ≡ false → (a && b) ≡ false
first_no a b h = rw h refl

second_no : (a b : Bool) → b ≡ false → (a && b) ≡ false
second_no true b h = h
second_no false b h = refl

all_rise : (c : Vector) (m k : ℕ) (ps : List Vector) → 1 ≤ m → m ≤ k → all_at c ps m ≡ true → all_at c ps k ≡ true
all_rise c m k [] h l e = refl
all_rise c m k (p ∷ ps) h l e =
    let b = and_parts (hides_of c p m) (all_at c ps m) e in
    and_from (hides_of c p k) (all_at c ps k) (rises_test c p m k h l b.0) (all_rise c m k ps h l b.1)

all_hidden : (c : Vector) (m : ℕ) (ps : List Vector) → all_at c ps m ≡ true → All (λ p. Hides m c p) ps
all_hidden c m [] e = All-nil _
all_hidden c m (p ∷ ps) e =
    let b = and_parts (hides_of c p m) (all_at c ps m) e in
    All-cons (λ q. Hides m c q) p ps (hides_is c p m b.0) (all_hidden c m ps b.1)

all_back : (c : Vector) (m : ℕ) (ps : List Vector) → All (λ p. Hides m c p) ps → all_at c ps m ≡ true
all_back c m [] h = refl
all_back c m (p ∷ ps) h = and_from (hides_of c p m) (all_at c ps m) (hides_back c p m (All-head (λ q. Hides m c q) p ps h))
    (all_back c m ps (All-tail (λ q. Hides m c q) p ps h))

-- ---- one box after another

-- m is the least multiple that hides these corners, or is past the greatest
pub record IsRisen (c : Vector) (ps : List Vector) (m : ℕ) : Type 0 where
  pub low : 256 ≤ m
  pub high : m ≤ 4097
  pub hidden : m ≤ 4096 → list_all (λ p. hides_of c p m) ps ≡ true
  pub before : (k : ℕ) → 256 ≤ k → k < m → list_all (λ p. hides_of c p k) ps ≡ false

pub risen_first : (c : Vector) → IsRisen c [] 256
risen_first c = record {
  low = omega arith;
  high = omega arith;
  hidden = λ h. refl;
  before = λ k h l. absurd (omega (arith, h, l));
}

pub risen_more : (c : Vector) (ps qs : List Vector) (m n : ℕ) → IsRisen c ps m → m ≤ n → n ≤ 4097
    → (n ≤ 4096 → list_all (λ p. hides_of c p n) qs ≡ true)
    → ((k : ℕ) → m ≤ k → k < n → list_all (λ p. hides_of c p k) qs ≡ false) → IsRisen c (ps ++ qs) n
risen_more c ps qs m n r h l e b = record {
  low = (let low = r.low in omega (arith, low, h));
  high = l;
  hidden = λ few. list_all-append (λ p. hides_of c p n) ps qs
      ∙ and_from (all_at c ps n) (all_at c qs n)
      (all_rise c m n ps (let low = r.low in omega (arith, low)) h (r.hidden (omega (arith, h, few)))) (e few);
  before = λ k i j. list_all-append (λ p. hides_of c p k) ps qs ∙ (elim (cases_lt k m) [
    | inl less ↦ first_no (all_at c ps k) (all_at c qs k) (r.before k i less)
    | inr fine ↦ second_no (all_at c ps k) (all_at c qs k) (b k fine j)
  ]);
}

append_nil : {X : Type 0} (xs : List X) → xs ++ [] ≡ xs
append_nil [] = refl
append_nil (x ∷ xs) = ap (λ ys. x ∷ ys) (append_nil xs)

corners_more : (boxes : List EcefBox) (i : ℕ) (d : EcefBox) → i < length boxes
    → flat_map scaled_corners (take (i + 1) boxes) ≡ flat_map scaled_corners (take i boxes) ++ scaled_corners (get_or boxes i d)
corners_more boxes i d h =
    ap (λ bs. flat_map scaled_corners bs) (take_more boxes i d h)
    ∙ flat_map-append scaled_corners (take i boxes) (get_or boxes i d ∷ [])
    ∙ ap (λ ps. flat_map scaled_corners (take i boxes) ++ ps) (append_nil (scaled_corners (get_or boxes i d)))

pub risen_next : (c : Vector) (boxes : List EcefBox) (i m n : ℕ) (d : EcefBox) (qs : List Vector) → i < length boxes
    → qs ≡ scaled_corners (get_or boxes i d) → IsRisen c (flat_map scaled_corners (take i boxes)) m → m ≤ n → n ≤ 4097
    → (n ≤ 4096 → list_all (λ p. hides_of c p n) qs ≡ true)
    → ((k : ℕ) → m ≤ k → k < n → list_all (λ p. hides_of c p k) qs ≡ false)
    → IsRisen c (flat_map scaled_corners (take (i + 1) boxes)) n
risen_next c boxes i m n d qs h e r low high hidden before =
    subst (λ ps. IsRisen c ps n)
    (ap (λ ps. flat_map scaled_corners (take i boxes) ++ ps) e ∙ sym (corners_more boxes i d h))
    (risen_more c (flat_map scaled_corners (take i boxes)) qs m n r low high hidden before)

-- ---- the horizon
pub horizon_some : (sphere : Sphere) (boxes : List EcefBox) (m : ℕ)
    → IsRisen (scaled_centre sphere) (flat_map scaled_corners boxes) m → m ≤ 4096 → horizon_of sphere boxes ≡ Some m
unfolding horizon_of
horizon_some sphere boxes m r h =
    let test = all_at (scaled_centre sphere) (flat_map scaled_corners boxes) in
    finds_one test 256 3841 m (find test (range_with_len 256 3841)) (finds test 256 3841) r.low (omega (arith, h)) (r.hidden h) r.before

pub horizon_none : (sphere : Sphere) (boxes : List EcefBox) (m : ℕ)
    → IsRisen (scaled_centre sphere) (flat_map scaled_corners boxes) m → 4096 < m → horizon_of sphere boxes ≡ None
unfolding horizon_of
horizon_none sphere boxes m r h =
    let test = all_at (scaled_centre sphere) (flat_map scaled_corners boxes) in
    finds_none test 256 3841 (find test (range_with_len 256 3841)) (finds test 256 3841) (λ k i j. r.before k i (omega (arith, h, j)))

said : (sphere : Sphere) (boxes : List EcefBox) (o : Option ℕ)
    → Finds (all_at (scaled_centre sphere) (flat_map scaled_corners boxes)) 256 3841 o → IsHorizon sphere boxes o
said sphere boxes None f = λ k h l hid. clash (all_at (scaled_centre sphere) (flat_map scaled_corners boxes) k)
    (all_back (scaled_centre sphere) k (flat_map scaled_corners boxes) hid.corners) (f k h (omega (arith, l)))
said sphere boxes (Some m) f = record {
  from = f.0;
  to = (let high = f.1 in omega (arith, high));
  hidden = record { corners = all_hidden (scaled_centre sphere) m (flat_map scaled_corners boxes) f.2 };
  least = λ k h hid. elim (cases_lt k m) [
    | inl less ↦ clash (all_at (scaled_centre sphere) (flat_map scaled_corners boxes) k)
        (all_back (scaled_centre sphere) k (flat_map scaled_corners boxes) hid.corners) (f.3 k h less)
    | inr fine ↦ fine
  ];
}

pub horizon_is : (sphere : Sphere) (boxes : List EcefBox) → IsHorizon sphere boxes (horizon_of sphere boxes)
unfolding horizon_of
horizon_is sphere boxes = said sphere boxes _ (finds (all_at (scaled_centre sphere) (flat_map scaled_corners boxes)) 256 3841)

-- ---- for the code's loops
pub all_next : (p : Vector → Bool) (xs : List Vector) (i : ℕ) (d : Vector) (b : Bool) → i < length xs → list_all p (take i xs) ≡ true
    → b ≡ p (get_or xs i d) → b ≡ true → list_all p (take (i + 1) xs) ≡ true
all_next p xs i d b h e f g = list_all_more p xs i d h ∙ and_from (list_all p (take i xs)) (p (get_or xs i d)) e (sym f ∙ g)

pub all_end : (p : Vector → Bool) (xs : List Vector) (i : ℕ) → length xs ≤ i → list_all p (take i xs) ≡ true → true ≡ list_all p xs
all_end p xs i h e = sym e ∙ ap (λ ys. list_all p ys) (take_all i xs h)

pub before_next : (p : ℕ → Bool) (from m : ℕ) → ((k : ℕ) → from ≤ k → k < m → p k ≡ false) → p m ≡ false
    → (k : ℕ) → from ≤ k → k < m + 1 → p k ≡ false
before_next p from m b e k h l = elim (cases_lt k m) [
  | inl less ↦ b k h less
  | inr fine ↦ let same : m ≡ k = omega (arith, fine, l) in subst (λ (i : ℕ). p i ≡ false) same e
]

pub risen_end : (sphere : Sphere) (boxes : List EcefBox) (c : Vector) (i m : ℕ) → length boxes ≤ i → c ≡ scaled_centre sphere
    → IsRisen c (flat_map scaled_corners (take i boxes)) m → IsRisen (scaled_centre sphere) (flat_map scaled_corners boxes) m
risen_end sphere boxes c i m h e r =
    subst (λ bs. IsRisen (scaled_centre sphere) (flat_map scaled_corners bs) m) (take_all i boxes h)
    (subst (λ v. IsRisen v (flat_map scaled_corners (take i boxes)) m) e r)

pub horizon_in : (sphere : Sphere) (boxes : List EcefBox) (o : Option ℕ) → horizon_of sphere boxes ≡ o → IsHorizon sphere boxes o
horizon_in sphere boxes o e = subst (λ p. IsHorizon sphere boxes p) e (horizon_is sphere boxes)
