-- The greatest of numbers is at least each of them, and at most what all of them are at most.
use Rattle.std.proofs.Common.{◌≡◌, ◌⊎◌, ℕ, zero, suc, ◌≤◌, ◌<◌, max, Bool, true, false, cond, arith, refl, sym, subst, ap, ◌∙◌, inl, inr, ⊎_elim, List, [], ◌∷◌, map, length, get_or}
use Rattle.std.specs.Prelude.{fold, Contains}
use Rattle.std.specs.List.{filter, range_with_len}
use Rattle.std.proofs.lemmas.List.Elements.{Contains-get_or}
use Rattle.std.proofs.lemmas.List.FromFn.{length-range_with_len, get_or-range_with_len}
use Rattle.common_laws.proofs.Extremes.{max_is_one}
use Rattle.post_bound.specs.Greatest.{greatest_of, greatest_below}

module _ {A : Type 0} (f : A → ℕ) where
  abbrev over : ℕ → List A → ℕ
  over start xs = fold (λ most x. max most (f x)) start xs

  from_start : (start : ℕ) (xs : List A) → start ≤ over start xs
  from_start start [] = omega arith
  from_start start (x ∷ xs) = let rest = from_start (max start (f x)) xs in omega (arith, rest)

  reached : (start : ℕ) (xs : List A) (k : ℕ) (d : A) → k < length xs → f (get_or xs k d) ≤ over start xs
  reached start [] k d h = absurd (omega (arith, h))
  reached start (x ∷ xs) zero d h = let rest = from_start (max start (f x)) xs in omega (arith, rest)
  reached start (x ∷ xs) (suc k) d h = reached (max start (f x)) xs k d (omega (arith, h))

  within : (start n : ℕ) (xs : List A) → start ≤ n → ((k : ℕ) (d : A) → k < length xs → f (get_or xs k d) ≤ n) → over start xs ≤ n
  within start n [] h all = h
  within start n (x ∷ xs) h all =
      let first = all 0 x (omega arith) in
      within (max start (f x)) n xs (omega (arith, h, first)) (λ k d lt. all (suc k) d (omega (arith, lt)))

  pub at_least : (xs : List A) (x : A) → Contains xs x → f x ≤ greatest_of f xs
  at_least xs x i = subst (λ (y : A). f y ≤ greatest_of f xs) i.2 (reached 0 xs i.0 x i.1)

  pub at_most : (n : ℕ) (xs : List A) → ((x : A) → Contains xs x → f x ≤ n) → greatest_of f xs ≤ n
  at_most n xs all = within 0 n xs (omega arith) (λ k d lt. all (get_or xs k d) (Contains-get_or xs k d lt))

pub below_least : (n : ℕ) (f : ℕ → ℕ) (i : ℕ) → i < n → f i ≤ greatest_below n f
below_least n f i h =
    at_least f (range_with_len 0 n) i (i, omega (arith, h, length-range_with_len 0 n), let there = get_or-range_with_len 0 n i i h in omega (arith, there))

pub below_most : (n : ℕ) (f : ℕ → ℕ) (m : ℕ) → ((i : ℕ) → i < n → f i ≤ m) → greatest_below n f ≤ m
below_most n f m all =
    at_most f m (range_with_len 0 n) (λ x i.
    let short : i.0 < n = let lt = i.1 in omega (arith, lt, length-range_with_len 0 n) in
    let is : x ≡ i.0 = let there = get_or-range_with_len 0 n i.0 x short in let here = i.2 in omega (arith, there, here) in
    all x (subst (λ (k : ℕ). k < n) (sym is) short))

module _ {A : Type 0} (f : A → ℕ) where
  one_reached : (start : ℕ) (xs : List A) → (over f start xs ≡ start) ⊎ ((x : A) × Contains xs x × (over f start xs ≡ f x))
  one_reached start [] = inl refl
  one_reached start (x ∷ xs) =
      ⊎_elim
      (λ (e : over f (max start (f x)) xs ≡ max start (f x)). ⊎_elim
      (λ (s : max start (f x) ≡ start). inl (e ∙ s))
      (λ (s : max start (f x) ≡ f x). inr (x, (0, omega arith, refl), e ∙ s)) (max_is_one start (f x)))
      (λ (w : (y : A) × Contains xs y × (over f (max start (f x)) xs ≡ f y)). inr (w.0, (suc w.1.0, (let lt = w.1.1 in omega (arith, lt)), w.1.2), w.2))
      (one_reached (max start (f x)) xs)

  -- the greatest is 0, or one of them
  pub attained : (xs : List A) → (greatest_of f xs ≡ 0) ⊎ ((x : A) × Contains xs x × (greatest_of f xs ≡ f x))
  attained xs = one_reached 0 xs

  one_without : (p : A → Bool) (start : ℕ) (x : A) (xs : List A) → ((y : A) → p y ≡ false → f y ≡ 0) → (b : Bool) → p x ≡ b
      → ((from : ℕ) → over f from (filter p xs) ≡ over f from xs) → over f start (cond b (x ∷ filter p xs) (filter p xs)) ≡ over f (max start (f x)) xs
  one_without p start x xs none true e rest = rest (max start (f x))
  one_without p start x xs none false e rest =
      let nothing = none x e in
      let same : max start (f x) ≡ start = omega (arith, nothing) in
      rest start ∙ ap (λ n. over f n xs) (sym same)

  -- what is left out gives 0
  without : (p : A → Bool) (start : ℕ) (xs : List A) → ((x : A) → p x ≡ false → f x ≡ 0) → over f start (filter p xs) ≡ over f start xs
  without p start [] none = refl
  without p start (x ∷ xs) none = one_without p start x xs none (p x) refl (λ from. without p from xs none)

  pub greatest_without : (p : A → Bool) (xs : List A) → ((x : A) → p x ≡ false → f x ≡ 0) → greatest_of f (filter p xs) ≡ greatest_of f xs
  greatest_without p xs none = without p 0 xs none

over_map : {A B : Type 0} (f : B → ℕ) (g : A → B) (start : ℕ) (xs : List A) → over f start (map g xs) ≡ over (λ x. f (g x)) start xs
over_map f g start [] = refl
over_map f g start (x ∷ xs) = over_map f g (max start (f (g x))) xs

pub greatest_map : {A B : Type 0} (f : B → ℕ) (g : A → B) (xs : List A) → greatest_of f (map g xs) ≡ greatest_of (λ x. f (g x)) xs
greatest_map f g xs = over_map f g 0 xs
