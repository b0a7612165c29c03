-- The least low ends and the greatest high ends of boxes, one box after another.
use Rattle.std.proofs.Common.{◌≡◌, ℕ, ◌+◌, ◌<◌, ◌≤◌, ◌^◌, ◌∙◌, ap, refl, arith}
use Rattle.std.proofs.Common.{inl, inr, ⊎_elim, List, [], ◌∷◌, length, take_all, All, Contains}
use Rattle.std.proofs.lemmas.Int.{ints, clamps, by_lt_z}
use Rattle.std.proofs.lemmas.List.Elements.{All-nil, All-cons, All-contains, Contains-append_right}
use Rattle.std.proofs.lemmas.List.Sums.{fold_more}
use lib.ListN.{get_or, take}
use Rattle.std.specs.Prelude.{◌⊎◌, ℤ, ◌≤ℤ◌, fold, unsigned_abs}
use Rattle.std.specs.Int.{int_min, int_max}
use Rattle.common_laws.proofs.Extremes.{min_at_most_both, both_at_most_max}
use Rattle.ecef_boxes.specs.declared.ecef_box.EcefBox.{EcefBox}
use Rattle.ecef_boxes.specs.Bounds.{IsBoxWithin}
use Rattle.ecef_boxes.proofs.Ends.{same_box}
use Rattle.bound_spheres.specs.Hull.{IsLeast, IsGreatest, IsHull, join_of}

pub join_is : (p q : EcefBox) (a b c d e f : ℤ) → a ≡ int_min p.x_lo q.x_lo → b ≡ int_max p.x_hi q.x_hi
    → c ≡ int_min p.y_lo q.y_lo → d ≡ int_max p.y_hi q.y_hi → e ≡ int_min p.z_lo q.z_lo
    → f ≡ int_max p.z_hi q.z_hi
    → ◌≡◌ {A = EcefBox} (record { x_lo = a; x_hi = b; y_lo = c; y_hi = d; z_lo = e; z_hi = f }) (join_of p q)
unfolding join_of
join_is p q a b c d e f g h i j k l = same_box a b c d e f (join_of p q) g h i j k l

-- some box of the list has n, or n is the number of the first
record Has (read : EcefBox → ℤ) (boxes : List EcefBox) (n : ℤ) : Type 0 where
  box : EcefBox
  among : Contains boxes box
  reached : n ≡ read box

later : (read : EcefBox → ℤ) (first : EcefBox) (boxes : List EcefBox) (n : ℤ) → Has read boxes n
    → Has read (first ∷ boxes) n
later read first boxes n h = record {
  box = h.box;
  among = Contains-append_right (first ∷ []) boxes h.box h.among;
  reached = h.reached;
}

here : (read : EcefBox → ℤ) (first : EcefBox) (boxes : List EcefBox) (n : ℤ) → n ≡ read first
    → Has read (first ∷ boxes) n
here read first boxes n e = record { box = first; among = (0, omega arith, refl); reached = e }

-- whatever the number that is read of two boxes is one of theirs, and in an order to both
module _
    (read : EcefBox → ℤ) (R : ℤ → ℤ → Type 0) (same : (n : ℤ) → R n n)
    (chain : (m n o : ℤ) → R m n → R n o → R m o)
    (left : (a b : EcefBox) → R (read (join_of a b)) (read a))
    (right : (a b : EcefBox) → R (read (join_of a b)) (read b))
    (one : (a b : EcefBox) → (read (join_of a b) ≡ read a) ⊎ (read (join_of a b) ≡ read b))
  where
    first_bound : (a : EcefBox) (xs : List EcefBox) → R (read (fold join_of a xs)) (read a)
    first_bound a [] = same (read a)
    first_bound a (x ∷ xs) = chain _ _ _ (first_bound (join_of a x) xs) (left a x)

    all_bound : (a : EcefBox) (xs : List EcefBox) → All (λ x. R (read (fold join_of a xs)) (read x)) xs
    all_bound a [] = All-nil _
    all_bound a (x ∷ xs) =
        let head = chain _ _ _ (first_bound (join_of a x) xs) (right a x) in
        All-cons (λ y. R (read (fold join_of (join_of a x) xs)) (read y)) x xs head
        (all_bound (join_of a x) xs)

    some_has : (a : EcefBox) (xs : List EcefBox)
        → (read (fold join_of a xs) ≡ read a) ⊎ Has read xs (read (fold join_of a xs))
    some_has a [] = inl refl
    some_has a (x ∷ xs) = ⊎_elim
        (λ e. ⊎_elim (λ f. inl (e ∙ f)) (λ f. inr (here read x xs _ (e ∙ f))) (one a x))
        (λ h. inr (later read x xs _ h)) (some_has (join_of a x) xs)

    has : (a : EcefBox) (xs : List EcefBox) → Contains xs a → Has read xs (read (fold join_of a xs))
    has a xs h = ⊎_elim (λ e. record { box = a; among = h; reached = e }) (λ f. f) (some_has a xs)

either_min : (p q : ℤ) → (int_min p q ≡ p) ⊎ (int_min p q ≡ q)
either_min p q = by_lt_z p q (λ h. inl (omega (arith, ints, clamps, h))) (λ h. inr (omega (arith, ints, clamps, h)))

either_max : (p q : ℤ) → (int_max p q ≡ p) ⊎ (int_max p q ≡ q)
either_max p q = by_lt_z p q (λ h. inr (omega (arith, ints, clamps, h))) (λ h. inl (omega (arith, ints, clamps, h)))

least_of_fold : (read : EcefBox → ℤ) → ((a b : EcefBox) → read (join_of a b) ≡ int_min (read a) (read b))
    → (a : EcefBox) (xs : List EcefBox) → Contains xs a → IsLeast read xs (read (fold join_of a xs))
least_of_fold read step a xs h =
    let R : ℤ → ℤ → Type 0 = λ m n. m ≤ℤ n in
    let same : (n : ℤ) → R n n = λ n. omega (arith, ints) in
    let chain : (m n o : ℤ) → R m n → R n o → R m o = λ m n o p q. omega (arith, ints, p, q) in
    let left : (a b : EcefBox) → R (read (join_of a b)) (read a) = λ a b. rw (step a b)
    (min_at_most_both (read a) (read b)).0 in
    let right : (a b : EcefBox) → R (read (join_of a b)) (read b) = λ a b. rw (step a b)
    (min_at_most_both (read a) (read b)).1 in
    let one : (a b : EcefBox) → (read (join_of a b) ≡ read a) ⊎ (read (join_of a b) ≡ read b) = λ a b. rw
    (step a b) (either_min (read a) (read b)) in
    let some = has read R same chain left right one a xs h in
    record {
      box = some.box;
      among = some.among;
      reached = some.reached;
      least = all_bound read R same chain left right one a xs;
    }

greatest_of_fold : (read : EcefBox → ℤ) → ((a b : EcefBox) → read (join_of a b) ≡ int_max (read a) (read b))
    → (a : EcefBox) (xs : List EcefBox) → Contains xs a → IsGreatest read xs (read (fold join_of a xs))
greatest_of_fold read step a xs h =
    let R : ℤ → ℤ → Type 0 = λ m n. n ≤ℤ m in
    let same : (n : ℤ) → R n n = λ n. omega (arith, ints) in
    let chain : (m n o : ℤ) → R m n → R n o → R m o = λ m n o p q. omega (arith, ints, p, q) in
    let left : (a b : EcefBox) → R (read (join_of a b)) (read a) = λ a b. rw (step a b)
    (both_at_most_max (read a) (read b)).0 in
    let right : (a b : EcefBox) → R (read (join_of a b)) (read b) = λ a b. rw (step a b)
    (both_at_most_max (read a) (read b)).1 in
    let one : (a b : EcefBox) → (read (join_of a b) ≡ read a) ⊎ (read (join_of a b) ≡ read b) = λ a b. rw
    (step a b) (either_max (read a) (read b)) in
    let some = has read R same chain left right one a xs h in
    record {
      box = some.box;
      among = some.among;
      reached = some.reached;
      greatest = all_bound read R same chain left right one a xs;
    }

pub hull_is : (a : EcefBox) (xs : List EcefBox) → Contains xs a → IsHull xs (fold join_of a xs)
unfolding join_of
hull_is a xs h = record {
  x_lo = least_of_fold (λ b. b.x_lo) (λ a b. refl) a xs h;
  x_hi = greatest_of_fold (λ b. b.x_hi) (λ a b. refl) a xs h;
  y_lo = least_of_fold (λ b. b.y_lo) (λ a b. refl) a xs h;
  y_hi = greatest_of_fold (λ b. b.y_hi) (λ a b. refl) a xs h;
  z_lo = least_of_fold (λ b. b.z_lo) (λ a b. refl) a xs h;
  z_hi = greatest_of_fold (λ b. b.z_hi) (λ a b. refl) a xs h;
}

small : (n m : ℤ) → n ≡ m → unsigned_abs m ≤ 2 ^ 33 → unsigned_abs n ≤ 2 ^ 33
small n m e h = rw e h

pub hull_within : (xs : List EcefBox) (hull : EcefBox) → IsHull xs hull → All (IsBoxWithin 33) xs
    → IsBoxWithin 33 hull
hull_within xs hull h all = record {
  x_lo = small _ _ h.x_lo.reached (All-contains (IsBoxWithin 33) xs h.x_lo.box all h.x_lo.among).x_lo;
  x_hi = small _ _ h.x_hi.reached (All-contains (IsBoxWithin 33) xs h.x_hi.box all h.x_hi.among).x_hi;
  y_lo = small _ _ h.y_lo.reached (All-contains (IsBoxWithin 33) xs h.y_lo.box all h.y_lo.among).y_lo;
  y_hi = small _ _ h.y_hi.reached (All-contains (IsBoxWithin 33) xs h.y_hi.box all h.y_hi.among).y_hi;
  z_lo = small _ _ h.z_lo.reached (All-contains (IsBoxWithin 33) xs h.z_lo.box all h.z_lo.among).z_lo;
  z_hi = small _ _ h.z_hi.reached (All-contains (IsBoxWithin 33) xs h.z_hi.box all h.z_hi.among).z_hi;
}

-- for the code's loop
pub hull_next : (a hull r : EcefBox) (xs : List EcefBox) (i : ℕ) (d : EcefBox) → i < length xs
    → hull ≡ fold join_of a (take i xs) → r ≡ join_of hull (get_or xs i d)
    → r ≡ fold join_of a (take (i + 1) xs)
hull_next a hull r xs i d p e f = rw (fold_more join_of a xs i d p) (f ∙ ap (λ b. join_of b (get_or xs i d)) e)

pub hull_end : (a hull : EcefBox) (xs : List EcefBox) (i : ℕ) → length xs ≤ i
    → hull ≡ fold join_of a (take i xs) → Contains xs a → IsHull xs hull
hull_end a hull xs i p e h = rw (e, take_all i xs p) (hull_is a xs h)
