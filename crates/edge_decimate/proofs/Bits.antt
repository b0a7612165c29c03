-- The bits of ascending places.
use Rattle.std.proofs.Common.{◌≡◌, ℕ, zero, suc, ◌+◌, ◌-◌, ◌<◌, ◌≤◌, refl, ap, sym, ◌∙◌, arith, Bool, true, false, List, [], ◌∷◌, ◌++◌, length, set, append_assoc, append-nil, length-set, add-zero, zero-add, replicate, nat_eq, nat_le, get_or}
use Rattle.std.specs.Prelude.{ℤ, ◌↔◌, IsTrue, Contains}
use Rattle.std.proofs.lemmas.Map.Views.{Contains-from_any, list_any-from_Contains}
use Rattle.edge_decimate.specs.KeptPoints.{halfway, kept_between, kept_points}
use Rattle.std.proofs.lemmas.List.{length-replicate}
use Rattle.std.proofs.lemmas.Bool.Decides.{nat_tests}
use Rattle.std.proofs.lemmas.Grind.{common_steps}
use Rattle.std.specs.List.{list_any, count_by}
use Rattle.edge_decimate.specs.KeptLine.{set_all, marked, first_from}
use Rattle.edge_decimate.specs.Straight.{are_near}
use Rattle.edge_decimate.proofs.Halves.{Rises, rises_on, kept_rises, enough, apart}

pub set_append : (bits : List Bool) (xs ys : List ℕ) → set_all bits (xs ++ ys) ≡ set_all (set_all bits xs) ys
set_append bits [] ys = refl
set_append bits (x ∷ xs) ys = set_append (set bits x true) xs ys

-- what the halves mark
pub marks : (bits : List Bool) (line : List ℤ) (tol a b : ℕ) → are_near line tol a b ≡ false
    → set_all (set (set_all bits (kept_between (halfway a b - a) line tol a (halfway a b)))
    (halfway a b) true) (kept_between (b - halfway a b) line tol (halfway a b) b)
    ≡ set_all bits (kept_between (b - a) line tol a b)
marks bits line tol a b e = go (b - a) refl
  where
    go : (n : ℕ) → b - a ≡ n → set_all (set (set_all bits (kept_between (halfway a b - a) line tol a
        (halfway a b))) (halfway a b) true) (kept_between (b - halfway a b) line tol (halfway a b) b)
        ≡ set_all bits (kept_between n line tol a b)
    go zero h = let l = apart line tol a b e in absurd (omega arith)
    go (suc n) h =
        let l = apart line tol a b e in
        let p = enough (halfway a b - a) n line tol a (halfway a b) (omega arith) (omega arith) in
        let q = enough (b - halfway a b) n line tol (halfway a b) b (omega arith) (omega arith) in
        rw (e, p, q) (sym (set_append bits (kept_between n line tol a (halfway a b)) (halfway a b
        ∷ kept_between n line tol (halfway a b) b)))

pub marks_length : (bits : List Bool) (xs : List ℕ) → length (set_all bits xs) ≡ length bits
marks_length bits [] = refl
marks_length bits (x ∷ xs) = marks_length (set bits x true) xs ∙ length-set bits x true

-- no bit from place c on
abbrev pub ClearFrom : ℕ → List Bool → Type 0
ClearFrom c [] = Unit {0}
ClearFrom zero (b ∷ bs) = (b ≡ false) × ClearFrom zero bs
ClearFrom (suc c) (b ∷ bs) = ClearFrom c bs

none_marked : (i : ℕ) (bs : List Bool) → ClearFrom zero bs → marked i bs ≡ []
none_marked i [] h = refl
none_marked i (true ∷ bs) h = absurd (let e = h.0 in cc)
none_marked i (false ∷ bs) h = none_marked (suc i) bs h.1

-- one more bit, after all others
last_marked : (i x : ℕ) (bs : List Bool) → ClearFrom x bs → x < length bs → marked i (set bs x true)
    ≡ marked i bs ++ (i + x) ∷ []
last_marked i x [] h l = absurd (omega arith)
last_marked i zero (true ∷ bs) h l = absurd (let e = h.0 in cc)
last_marked i zero (false ∷ bs) h l = rw (none_marked (suc i) bs h.1, add-zero)
last_marked i (suc x) (true ∷ bs) h l = let e : suc i + x ≡ i + suc x = omega arith in
    rw (last_marked (suc i) x bs h (omega arith), e)
last_marked i (suc x) (false ∷ bs) h l = let e : suc i + x ≡ i + suc x = omega arith in
    rw (last_marked (suc i) x bs h (omega arith), e)

clear_after : (x y : ℕ) (bs : List Bool) → ClearFrom x bs → x < y → ClearFrom y (set bs x true)
clear_after x y [] h l = tt
clear_after zero zero (b ∷ bs) h l = absurd (omega arith)
clear_after zero (suc y) (b ∷ bs) h l = clear_more y bs h.1
  where
    clear_more : (y : ℕ) (bs : List Bool) → ClearFrom zero bs → ClearFrom y bs
    clear_more y [] h = tt
    clear_more zero (b ∷ bs) h = h
    clear_more (suc y) (b ∷ bs) h = clear_more y bs h.1
clear_after (suc x) zero (b ∷ bs) h l = absurd (omega arith)
clear_after (suc x) (suc y) (b ∷ bs) h l = clear_after x y bs h (omega arith)

-- all bits of ascending places
pub all_marked : (c : ℕ) (xs : List ℕ) (n : ℕ) (bs : List Bool) → ClearFrom (suc c) bs → Rises c xs n
    → length bs ≡ n → marked 0 (set_all bs xs) ≡ marked 0 bs ++ xs
all_marked c [] n bs h r e = sym (append-nil (marked 0 bs))
all_marked c (x ∷ xs) n bs h r e =
    let l : x < length bs = omega (arith, rises_below x xs n r.1) in
    let k : ClearFrom x bs = clear_less c x bs h r.0 in
    all_marked x xs n (set bs x true) (clear_after x (suc x) bs k (omega arith)) r.1
    (length-set bs x true ∙ e)
    ∙ ap (λ (ys : List ℕ). ys ++ xs) (last_marked 0 x bs k l
    ∙ ap (λ (i : ℕ). marked 0 bs ++ i ∷ []) (zero-add x))
    ∙ append_assoc (marked 0 bs) (x ∷ []) xs
  where
    rises_below : (x : ℕ) (xs : List ℕ) (n : ℕ) → Rises x xs n → x < n
    rises_below x [] n h = h
    rises_below x (y ∷ ys) n h = omega (arith, h.0, rises_below y ys n h.1)

    clear_less : (c x : ℕ) (bs : List Bool) → ClearFrom (suc c) bs → c < x → ClearFrom x bs
    clear_less c x [] h l = tt
    clear_less c zero (b ∷ bs) h l = absurd (omega arith)
    clear_less c (suc x) (b ∷ bs) h l = clear_up c x bs h (omega arith)
      where
        clear_up : (c x : ℕ) (bs : List Bool) → ClearFrom c bs → c ≤ x → ClearFrom x bs
        clear_up c x [] h l = tt
        clear_up zero zero (b ∷ bs) h l = h
        clear_up zero (suc x) (b ∷ bs) h l = clear_up zero x bs h.1 (omega arith)
        clear_up (suc c) zero (b ∷ bs) h l = absurd (omega arith)
        clear_up (suc c) (suc x) (b ∷ bs) h l = clear_up c x bs h (omega arith)

clear_replicate : (n : ℕ) → ClearFrom zero (replicate n false)
clear_replicate zero = tt
clear_replicate (suc n) = (refl, clear_replicate n)

-- the end of a list that rises
rises_end : (a b n : ℕ) (xs : List ℕ) → Rises a xs b → b < n → Rises a (xs ++ b ∷ []) n
rises_end a b n xs h l = rises_on a xs b [] n h l

one_marked : (n : ℕ) → marked 0 (set (replicate (suc n) false) 0 true) ≡ 0 ∷ []
one_marked n = rw (none_marked 1 (replicate n false) (clear_replicate n))

pub kept_marked : (line : List ℤ) (tol : ℕ) (bits : List Bool) → bits
    ≡ set_all (set (replicate 67 false) 0 true) (kept_between 66 line tol 0 66)
    → marked 0 (set bits 66 true) ≡ kept_points line tol
unfolding kept_points
kept_marked line tol bits e = go 66 (kept_between 66 line tol 0 66) (kept_rises 66 line tol 0 66
    (omega arith)) e
  where
    go : (n : ℕ) (xs : List ℕ) → Rises 0 xs n → bits ≡ set_all (set (replicate (suc n) false) 0 true) xs
        → marked 0 (set bits n true) ≡ 0 ∷ (xs ++ n ∷ [])
    go n xs r h =
        let bs = set (replicate (suc n) false) 0 true in
        let k : ClearFrom 1 bs = clear_replicate n in
        rw h (ap (λ (b : List Bool). marked 0 b) (sym (set_append bs xs (n ∷ [])))
        ∙ all_marked 0 (xs ++ n ∷ []) (suc n) bs k (rises_end 0 n (suc n) xs r (omega arith))
        (length-set (replicate (suc n) false) 0 true ∙ length-replicate (suc n) false)
        ∙ ap (λ (ys : List ℕ). ys ++ (xs ++ n ∷ [])) (one_marked n))

-- ---- the readers
none_below : (i j : ℕ) (bs : List Bool) → j < i → list_any (nat_eq j) (marked i bs) ≡ false
none_below i j [] l = refl
none_below i j (true ∷ bs) l = let e : nat_eq j i ≡ false = grind (arith, nat_tests) in
    rw (e, none_below (suc i) j bs (omega arith))
none_below i j (false ∷ bs) l = none_below (suc i) j bs (omega arith)

same : (n : ℕ) → nat_eq n n ≡ true
same n = grind (arith, nat_tests)

pub has_place : (i k : ℕ) (bs : List Bool) → list_any (nat_eq (i + k)) (marked i bs) ≡ get_or bs k false
has_place i k [] = refl
has_place i zero (true ∷ bs) = rw (add-zero, same i)
has_place i zero (false ∷ bs) = rw add-zero (none_below (suc i) i bs (omega arith))
has_place i (suc k) (true ∷ bs) = let e : i + suc k ≡ suc i + k = omega arith in
    let d : nat_eq (i + suc k) i ≡ false = grind (arith, nat_tests) in
    rw d (ap (λ (n : ℕ). list_any (nat_eq n) (marked (suc i) bs)) e ∙ has_place (suc i) k bs)
has_place i (suc k) (false ∷ bs) = let e : i + suc k ≡ suc i + k = omega arith in
    ap (λ (n : ℕ). list_any (nat_eq n) (marked (suc i) bs)) e ∙ has_place (suc i) k bs

pub count_marked : (i : ℕ) (bs : List Bool) → length (marked i bs) ≡ count_by (λ b. b) bs
count_marked i [] = refl
count_marked i (true ∷ bs) = grind (arith, common_steps, count_marked (suc i) bs)
count_marked i (false ∷ bs) = grind (arith, common_steps, count_marked (suc i) bs)

-- the least number of the list is where it starts
first_low : (i j : ℕ) (bs : List Bool) → j ≤ i → first_from j (marked i bs) ≡ first_from i (marked i bs)
first_low i j [] l = refl
first_low i j (true ∷ bs) l = let d : nat_le j i ≡ true = grind (arith, nat_tests) in
    let e : nat_le i i ≡ true = grind (arith, nat_tests) in rw (d, e)
first_low i j (false ∷ bs) l = first_low (suc i) j bs (omega arith)
    ∙ sym (first_low (suc i) i bs (omega arith))

pub first_here : (i k : ℕ) (bs : List Bool) → get_or bs k false ≡ true
    → first_from (i + k) (marked i bs) ≡ i + k
first_here i k [] h = cc
first_here i zero (true ∷ bs) h = let e : nat_le i i ≡ true = grind (arith, nat_tests) in rw (add-zero, e)
first_here i zero (false ∷ bs) h = cc
first_here i (suc k) (true ∷ bs) h = let e : i + suc k ≡ suc i + k = omega arith in
    let d : nat_le (i + suc k) i ≡ false = grind (arith, nat_tests) in
    rw d (ap (λ (n : ℕ). first_from n (marked (suc i) bs)) e ∙ first_here (suc i) k bs h ∙ sym e)
first_here i (suc k) (false ∷ bs) h = let e : i + suc k ≡ suc i + k = omega arith in
    ap (λ (n : ℕ). first_from n (marked (suc i) bs)) e ∙ first_here (suc i) k bs h ∙ sym e

pub first_on : (i k : ℕ) (bs : List Bool) → get_or bs k false ≡ false
    → first_from (i + suc k) (marked i bs) ≡ first_from (i + k) (marked i bs)
first_on i k [] h = refl
first_on i zero (true ∷ bs) h = cc
first_on i zero (false ∷ bs) h = let e : i + 1 ≡ suc i = omega arith in
    rw add-zero (ap (λ (n : ℕ). first_from n (marked (suc i) bs)) e
    ∙ sym (first_low (suc i) i bs (omega arith)))
first_on i (suc k) (true ∷ bs) h =
    let e : i + suc (suc k) ≡ suc i + suc k = omega arith in let f : i + suc k ≡ suc i + k = omega arith in
    let d : nat_le (i + suc k) i ≡ false = grind (arith, nat_tests) in
    let c : nat_le (i + suc (suc k)) i ≡ false = grind (arith, nat_tests) in
    rw (d, c) (ap (λ (n : ℕ). first_from n (marked (suc i) bs)) e ∙ first_on (suc i) k bs h
    ∙ sym (ap (λ (n : ℕ). first_from n (marked (suc i) bs)) f))
first_on i (suc k) (false ∷ bs) h =
    let e : i + suc (suc k) ≡ suc i + suc k = omega arith in let f : i + suc k ≡ suc i + k = omega arith in
    ap (λ (n : ℕ). first_from n (marked (suc i) bs)) e ∙ first_on (suc i) k bs h
    ∙ sym (ap (λ (n : ℕ). first_from n (marked (suc i) bs)) f)

-- the places that are marked are those of the bits that are set
pub is_marked : (i : ℕ) (bits : List Bool) → IsTrue (get_or bits i false) ↔ Contains (marked 0 bits) i
is_marked i bits =
    let e : list_any (nat_eq i) (marked 0 bits) ≡ get_or bits i false = rw zero-add at
    (has_place 0 i bits) in (
      λ t. Contains-from_any equal i (marked 0 bits) (e ∙ t),
      λ c. sym e ∙ list_any-from_Contains (record { refl = same; symm = turned; congr = alike }) i
          (marked 0 bits) c,
    )
  where
    equal : (x y : ℕ) → nat_eq x y ≡ true → x ≡ y
    equal x y h = grind (arith, nat_tests)

    turned : (x y : ℕ) → nat_eq x y ≡ nat_eq y x
    turned x y = grind (arith, nat_tests)

    alike : (x y z : ℕ) → nat_eq x y ≡ true → nat_eq x z ≡ nat_eq y z
    alike x y z h = ap (λ (n : ℕ). nat_eq n z) (equal x y h)
