-- Two lists in one order with the same members are one.
use Rattle.std.proofs.Common.{◌≡◌, ◌∙◌, refl, sym, subst, ap, List, [], ◌∷◌}
use Rattle.std.specs.Prelude.{◌⊎◌, All, Any, AllPairs}
use Rattle.std.proofs.Common.{inl, inr}
use Rattle.mesh_plane.proofs.ListWords.{any_here, any_there, any_none, any_cases, pairs_head, pairs_tail}

module _ {X : Type 0} where
  -- the list has this member
  abbrev pub Has : List X → X → Type 0
  Has xs x = Any (λ z. z ≡ x) xs

  -- what holds of each member holds of this one
  pub all_at : (P : X → Type 0) (xs : List X) (x : X) → All P xs → Has xs x → P x
  all_at P xs x h i = subst P (i.3 ∙ i.4) (h i.0 i.1 i.2)

  -- a member of which P holds has Q, so some member has
  pub any_weaker : (P Q R : X → Type 0) (xs : List X) → All R xs → ((x : X) → R x → P x → Q x) → Any P xs → Any Q xs
  any_weaker P Q R xs h f a = (a.0, a.1, a.2, a.3, f a.1 (subst R a.3 (h a.0 a.1 a.2)) a.4)

module _ {X : Type 0} (less : X → X → Type 0) (apart : (x y : X) → less x y → less y x → ⊥) where
  heads : (x y : X) (xs ys : List X) → All (less x) xs → All (less y) ys → (y ≡ x) ⊎ Has ys x → (x ≡ y) ⊎ Has xs y → x ≡ y
  heads x y xs ys p q (inl e) b = sym e
  heads x y xs ys p q (inr i) (inl e) = e
  heads x y xs ys p q (inr i) (inr j) = absurd (apart x y (all_at (less x) xs y p j) (all_at (less y) ys x q i))

  behind : (x y z : X) (ys : List X) → x ≡ y → less x z → (y ≡ z) ⊎ Has ys z → Has ys z
  behind x y z ys e l (inl f) = let m : less x x = subst (less x) (sym (e ∙ f)) l in absurd (apart x x m m)
  behind x y z ys e l (inr i) = i

  pub same_list : (xs ys : List X) → AllPairs less xs → AllPairs less ys → ((x : X) → Has xs x → Has ys x)
      → ((x : X) → Has ys x → Has xs x) → xs ≡ ys
  same_list [] [] p q f g = refl
  same_list [] (y ∷ ys) p q f g = absurd (any_none (λ z. z ≡ y) (g y (any_here (λ z. z ≡ y) y ys refl)))
  same_list (x ∷ xs) [] p q f g = absurd (any_none (λ z. z ≡ x) (f x (any_here (λ z. z ≡ x) x xs refl)))
  same_list (x ∷ xs) (y ∷ ys) p q f g =
      let above_x = pairs_head less x xs p in
      let above_y = pairs_head less y ys q in
      let e : x ≡ y = heads x y xs ys above_x above_y
      (any_cases (λ z. z ≡ x) y ys (f x (any_here (λ z. z ≡ x) x xs refl)))
      (any_cases (λ z. z ≡ y) x xs (g y (any_here (λ z. z ≡ y) y ys refl))) in
      let tails : xs ≡ ys = same_list xs ys (pairs_tail less x xs p) (pairs_tail less y ys q)
      (λ z i. behind x y z ys e (all_at (less x) xs z above_x i)
      (any_cases (λ w. w ≡ z) y ys (f z (any_there (λ w. w ≡ z) x xs i))))
      (λ z i. behind y x z xs (sym e) (all_at (less y) ys z above_y i)
      (any_cases (λ w. w ≡ z) x xs (g z (any_there (λ w. w ≡ z) y ys i)))) in
      ap (λ z. z ∷ xs) e ∙ ap (λ zs. y ∷ zs) tails
