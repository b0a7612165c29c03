-- Lists that go together, element by element.
use Rattle.std.proofs.Common.{◌≡◌, ℕ, zero, suc, ◌+◌, ◌<◌, refl, sym, subst, arith, List, [], ◌∷◌, ◌++◌, length}
use Rattle.std.proofs.Common.{slice_index_or, take}
use Rattle.std.specs.List.{AllZip}
use Rattle.std.proofs.lemmas.List.{take_more}

module _ {A B : Type 0} (R : A → B → Type 0) where
  zip_push : (xs : List A) (ys : List B) (x : A) (y : B) → AllZip R xs ys → R x y → AllZip R (xs ++ x ∷ [])
      (ys ++ y ∷ [])
  zip_push [] [] x y h r = (r, tt)
  zip_push [] (b ∷ ys) x y h r = elim h [ ]
  zip_push (a ∷ xs) [] x y h r = elim h [ ]
  zip_push (a ∷ xs) (b ∷ ys) x y h r = (h.0, zip_push xs ys x y h.1 r)

  -- the step of a loop that pushes
  pub zip_step : (xs : List A) (ys zs : List B) (i : ℕ) (d : A) (y : B) → AllZip R (take i xs) ys → i < length xs → R
      (slice_index_or xs i d) y → zs ≡ ys ++ y ∷ []
      → AllZip R (take (i + 1) xs) zs
  zip_step xs ys zs i d y h l r e =
      subst (λ (us : List A). AllZip R us zs) (sym (take_more xs i d l))
      (subst (λ (us : List B). AllZip R (take i xs ++ slice_index_or xs i d ∷ []) us) (sym e)
      (zip_push (take i xs) ys (slice_index_or xs i d) y h r))

  pub zip_length : (xs : List A) (ys : List B) → AllZip R xs ys → length ys ≡ length xs
  zip_length [] [] h = refl
  zip_length [] (b ∷ ys) h = elim h [ ]
  zip_length (a ∷ xs) [] h = elim h [ ]
  zip_length (a ∷ xs) (b ∷ ys) h = let e : length ys ≡ length xs = zip_length xs ys h.1 in omega (arith, e)

  pub zip_at : (xs : List A) (ys : List B) (k : ℕ) (d : A) (e : B) → AllZip R xs ys → k < length xs → R
      (slice_index_or xs k d) (slice_index_or ys k e)
  zip_at [] ys k d e h l = absurd (omega (arith, l))
  zip_at (a ∷ xs) [] k d e h l = elim h [ ]
  zip_at (a ∷ xs) (b ∷ ys) zero d e h l = h.0
  zip_at (a ∷ xs) (b ∷ ys) (suc k) d e h l = zip_at xs ys k d e h.1 (omega (arith, l))
