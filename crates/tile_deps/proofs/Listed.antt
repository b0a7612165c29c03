-- Elements of lists that are filtered or joined.
use Rattle.std.specs.Prelude.{◌≡◌, ℕ, zero, suc, ◌+◌, ◌<◌, ◌≤◌, Bool, true, false, cond, List, [], ◌∷◌, ◌++◌, flat_map, Option, Some, None}
use Rattle.std.specs.List.{filter, filter_map, range_with_len, Contains, cons_option}
use Rattle.std.proofs.Common.{arith, refl, sym, ap, subst, ◌∙◌, ◌⊎◌, inl, inr}
use Rattle.std.proofs.lemmas.List.Elements.{Contains-append_left, Contains-append_right, filter-append}

same_or_later : (m k : ℕ) → m ≤ k → (k ≡ m) ⊎ (m + 1 ≤ k)
same_or_later m k le = grind arith

module _ {X : Type 0} where
  pub first_there : (x : X) (xs : List X) → Contains (x ∷ xs) x
  first_there x xs = (0, omega arith, refl)

  pub later_there : (x y : X) (xs : List X) → Contains xs y → Contains (x ∷ xs) y
  later_there x y xs h = (suc h.0, omega (arith, h.1), h.2)

  pub there_cases : (x y : X) (xs : List X) → Contains (x ∷ xs) y → (x ≡ y) ⊎ Contains xs y
  there_cases x y xs (zero, h, e) = inl e
  there_cases x y xs (suc k, h, e) = inr (k, omega (arith, h), e)

  pub none_there : (y : X) → Contains [] y → ⊥
  none_there y h = omega (arith, h.1)

  -- ---- filters

  kept_if : (p : X → Bool) (x y : X) (xs : List X) (b : Bool) → Contains (filter p xs) y → Contains (cond b (x ∷ filter p xs) (filter p xs)) y
  kept_if p x y xs true h = later_there x y (filter p xs) h
  kept_if p x y xs false h = h

  first_kept : (p : X → Bool) (x : X) (xs : List X) (b : Bool) → b ≡ true → Contains (cond b (x ∷ filter p xs) (filter p xs)) x
  first_kept p x xs true h = first_there x (filter p xs)
  first_kept p x xs false h = absurd (cc)

  pub kept_there : (p : X → Bool) (xs : List X) (y : X) → Contains xs y → p y ≡ true → Contains (filter p xs) y
  kept_there p [] y h passes = absurd (none_there y h)
  kept_there p (x ∷ xs) y h passes =
      elim (there_cases x y xs h) [
        | inl e ↦ subst (Contains (filter p (x ∷ xs))) e (first_kept p x xs (p x) (ap p e ∙ passes))
        | inr g ↦ kept_if p x y xs (p x) (kept_there p xs y g passes)
      ]

  there_if : (p : X → Bool) (x y : X) (xs : List X) (b : Bool) → p x ≡ b → (Contains (filter p xs) y → Contains xs y × (p y ≡ true))
      → Contains (cond b (x ∷ filter p xs) (filter p xs)) y → Contains (x ∷ xs) y × (p y ≡ true)
  there_if p x y xs false e rest h = let g = rest h in (later_there x y xs g.0, g.1)
  there_if p x y xs true e rest h =
      elim (there_cases x y (filter p xs) h) [
        | inl same ↦ (subst (Contains (x ∷ xs)) same (first_there x xs), sym (ap p same) ∙ e)
        | inr there ↦ let g = rest there in (later_there x y xs g.0, g.1)
      ]

  pub there_kept : (p : X → Bool) (xs : List X) (y : X) → Contains (filter p xs) y → Contains xs y × (p y ≡ true)
  there_kept p [] y h = absurd (none_there y h)
  there_kept p (x ∷ xs) y h = there_if p x y xs (p x) refl (there_kept p xs y) h

  -- ---- lists of lists

  pub flat_there : (f : ℕ → List X) (m n k : ℕ) (y : X) → m ≤ k → k < m + n → Contains (f k) y → Contains (flat_map f (range_with_len m n)) y
  flat_there f m zero k y low high h = absurd (omega (arith, low, high))
  flat_there f m (suc n) k y low high h =
      elim (same_or_later m k low) [
        | inl e ↦ Contains-append_left (f m) (flat_map f (range_with_len (m + 1) n)) y (subst (λ i. Contains (f i) y) e h)
        | inr later ↦ Contains-append_right (f m) (flat_map f (range_with_len (m + 1) n)) y (flat_there f (m + 1) n k y later (omega (arith, high)) h)
      ]

  pub filter_flat : {K : Type 0} (p : X → Bool) (f : K → List X) (ks : List K) → filter p (flat_map f ks) ≡ flat_map (λ k. filter p (f k)) ks
  filter_flat p f [] = refl
  filter_flat p f (k ∷ ks) = filter-append p (f k) (flat_map f ks) ∙ ap (λ rest. filter p (f k) ++ rest) (filter_flat p f ks)

  -- ---- options

  pub option_there : (o : Option X) (y : X) (xs : List X) → o ≡ Some y → Contains (cons_option o xs) y
  option_there o y xs e = subst (λ o. Contains (cons_option o xs) y) (sym e) (first_there y xs)

  pub behind_option : (o : Option X) (y : X) (xs : List X) → Contains xs y → Contains (cons_option o xs) y
  behind_option None y xs h = h
  behind_option (Some x) y xs h = later_there x y xs h

  pub mapped_there : (f : ℕ → Option X) (m n k : ℕ) (y : X) → m ≤ k → k < m + n → f k ≡ Some y → Contains (filter_map f (range_with_len m n)) y
  mapped_there f m zero k y low high e = absurd (omega (arith, low, high))
  mapped_there f m (suc n) k y low high e =
      elim (same_or_later m k low) [
        | inl same ↦ option_there (f m) y (filter_map f (range_with_len (m + 1) n)) (subst (λ i. f i ≡ Some y) same e)
        | inr later ↦ behind_option (f m) y (filter_map f (range_with_len (m + 1) n)) (mapped_there f (m + 1) n k y later (omega (arith, high)) e)
      ]
