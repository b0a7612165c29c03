-- Facts on lists of members and on places in lists.
use Rattle.std.proofs.Common.{◌≡◌, ℕ, zero, suc, ◌<◌, refl, sym, subst, arith, ◌∙◌, List, [], ◌∷◌, inl, inr, length}
use Rattle.std.proofs.Common.{⊎_elim}
use Rattle.std.specs.Prelude.{All, Any, AllPairs, Contains, slice_index_or}
use Rattle.std.specs.List.{AllByRecursion}
use Rattle.mesh_plane.proofs.ListWords.{any_cases, any_none, pairs_head, pairs_tail, all_to}
use Rattle.mesh_check.proofs.Chains.{Some}

module _ {X : Type 0} where
  -- what is read within the list does not depend on the default
  pub any_default : (xs : List X) (k : ℕ) (d e : X) → k < length xs → slice_index_or xs k d ≡ slice_index_or xs k e
  any_default [] k d e l = absurd (omega arith)
  any_default (x ∷ xs) zero d e l = refl
  any_default (x ∷ xs) (suc k) d e l = any_default xs k d e (omega arith)

  pub one_at : (xs : List X) (k : ℕ) (d e : X) → k < length xs → slice_index_or xs k d ≡ d → slice_index_or xs k e ≡ e
      → d ≡ e
  one_at xs k d e l p q = sym p ∙ any_default xs k d e l ∙ q

  pub all_at : (P : X → Type 0) (xs : List X) (k : ℕ) (d : X) → All P xs → k < length xs → slice_index_or xs k d ≡ d
      → P d
  all_at P xs k d h l e = subst P e (h k d l)

  pub some_from : (P : X → Type 0) (xs : List X) → Any P xs → Some P xs
  some_from P [] h = any_none P h
  some_from P (x ∷ xs) h = ⊎_elim (λ p. inl p) (λ t. inr (some_from P xs t)) (any_cases P x xs h)

  pub some_map : (P Q : X → Type 0) (xs : List X) → ((x : X) → P x → Q x) → Some P xs → Some Q xs
  some_map P Q [] f h = elim h [ ]
  some_map P Q (x ∷ xs) f (inl h) = inl (f x h)
  some_map P Q (x ∷ xs) f (inr h) = inr (some_map P Q xs f h)

  -- one of which two things hold
  pub some_with : (P Q : X → Type 0) (xs : List X) → AllByRecursion Q xs → Some P xs → Some (λ x. P x × Q x) xs
  some_with P Q [] a h = elim h [ ]
  some_with P Q (x ∷ xs) a (inl h) = inl (h, a.0)
  some_with P Q (x ∷ xs) a (inr h) = inr (some_with P Q xs a.1 h)

  pub some_elim : {Z : Type 0} (P : X → Type 0) (xs : List X) → ((x : X) → P x → Z) → Some P xs → Z
  some_elim P [] f h = elim h [ ]
  some_elim P (x ∷ xs) f (inl h) = f x h
  some_elim P (x ∷ xs) f (inr h) = some_elim P xs f h

  abbrev pub Each : (X → X → Type 0) → List X → Type 0
  Each R [] = Unit {0}
  Each R (x ∷ xs) = AllByRecursion (R x) xs × Each R xs

  pub find : {Z : Type 0} (P Q : X → Type 0) (xs : List X) → ((x : X) → P x → Q x → Z) → AllByRecursion P xs → Some Q xs
      → Z
  find P Q [] f a h = elim h [ ]
  find P Q (x ∷ xs) f a (inl h) = f x a.0 h
  find P Q (x ∷ xs) f a (inr h) = find P Q xs f a.1 h

  -- two elements, at one place or at two
  pub two_of : {Z : Type 0} (R : X → X → Type 0) (P Q : X → Type 0) (xs : List X) → Each R xs →
      ((x : X) → P x → Q x → Z) → ((x y : X) → P x → Q y → R x y → Z)
      → ((x y : X) → P x → Q y → R y x → Z) → Some P xs → Some Q xs → Z
  two_of R P Q [] e f g h p q = elim p [ ]
  two_of R P Q (x ∷ xs) e f g h (inl p) (inl q) = f x p q
  two_of R P Q (x ∷ xs) e f g h (inl p) (inr q) = find (R x) Q xs (λ y r s. g x y p s r) e.0 q
  two_of R P Q (x ∷ xs) e f g h (inr p) (inl q) = find (R x) P xs (λ y r s. h y x s q r) e.0 p
  two_of R P Q (x ∷ xs) e f g h (inr p) (inr q) = two_of R P Q xs e.1 f g h p q

  pub pairs_to : (R : X → X → Type 0) (xs : List X) → AllPairs R xs → Each R xs
  pairs_to R [] h = tt
  pairs_to R (x ∷ xs) h = (all_to (R x) xs (pairs_head R x xs h), pairs_to R xs (pairs_tail R x xs h))

  pub contains_all : (P : X → Type 0) (xs : List X) (x : X) → All P xs → Contains xs x → P x
  contains_all P xs x h c = subst P c.2 (h c.0 x c.1)

  pub at_own : (xs : List X) (k : ℕ) (d : X) → k < length xs → slice_index_or xs k
      (slice_index_or xs k d) ≡ slice_index_or xs k d
  at_own [] k d l = absurd (omega arith)
  at_own (x ∷ xs) zero d l = refl
  at_own (x ∷ xs) (suc k) d l = at_own xs k d (omega arith)

  pub pair_at : (R : X → X → Type 0) (xs : List X) (i j : ℕ) (t u : X) → AllPairs R xs → i < j → j < length xs
      → slice_index_or xs i t ≡ t → slice_index_or xs j u ≡ u → R t u
  pair_at R xs i j t u h l k e f =
      let p : R (slice_index_or xs i t) (slice_index_or xs j t) = h i j t l k in
      let q : R t (slice_index_or xs j t) = subst (λ (z : X). R z (slice_index_or xs j t)) e p in
      subst (λ (z : X). R t z) (any_default xs j t u k ∙ f) q

  pub each_map : (R Q : X → X → Type 0) (P : X → Type 0) (xs : List X) → ((x y : X) → P x → P y → R x y → Q x y)
      → AllByRecursion P xs → Each R xs → Each Q xs
  each_map R Q P [] f a h = tt
  each_map R Q P (x ∷ xs) f a h = (row x xs a.0 a.1 h.0, each_map R Q P xs f a.1 h.1)
    where
      row : (x : X) (ys : List X) → P x → AllByRecursion P ys → AllByRecursion (R x) ys → AllByRecursion (Q x) ys
      row x [] p b r = tt
      row x (y ∷ ys) p b r = (f x y p b.0 r.0, row x ys p b.1 r.1)
