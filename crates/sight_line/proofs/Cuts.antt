-- Sides that come above a line, and triangles that do not.
use Rattle.std.proofs.Common.{◌≡◌, ℕ, ◌<◌, refl, sym, subst, arith, List, [], ◌∷◌, inl, inr, Bool, true, false, length, get_or}
use Rattle.std.specs.Prelude.{◌↔◌, ℤ, pos, ◌≤ℤ◌, ◌<ℤ◌, ◌⊎◌, Any, IsTrue}
use Rattle.std.specs.List.{AllByRecursion}
use Rattle.std.proofs.lemmas.Int.{ints}
use Rattle.std.proofs.lemmas.List.{get_or_default}
use Rattle.mesh_plane.specs.declared.corner.Corner.{Corner}
use Rattle.mesh_plane.specs.declared.corner.Tri.{Tri}
use Rattle.mesh_plane.specs.Plane.{Point}
use Rattle.mesh_plane.proofs.ListWords.{any_none, any_cases}
use Rattle.mesh_query.specs.declared.crossing.Crossing.{Crossing}
use Rattle.mesh_query.specs.declared.ratio.Ratio.{Ratio}
use Rattle.mesh_query.specs.Ratios.{ratio, IsBelow}
use Rattle.mesh_query.specs.Crossing.{aside, crossing, side_height}
use Rattle.mesh_query.specs.Found.{IsCrossing}
use Rattle.sight_line.specs.Sight.{line_at}
use Rattle.sight_line.specs.Hidden.{IsCutOut, Hides}

pub off : (b : Bool) → b ≡ false → IsTrue b → ⊥
off true e t = cc
off false e t = let f : false ≡ true = t in cc

pub never : (P : Type 0) → ¬ P → IsTrue false ↔ P
never P n = (λ t. absurd (off false refl t), λ h. absurd (n h))

module _ (p : Point) (a : ℤ) (q : Point) (b : ℤ) where
  module _ (c d : Corner) (x : Crossing) (is : IsCrossing p q c d x) where
    there : IsBelow (line_at a b (ratio x.over x.under)) (ratio x.height x.under)
        → IsBelow (line_at a b (crossing p q c d)) (side_height p q c d)
    there h =
        subst (λ (k : Ratio). IsBelow (line_at a b k) (side_height p q c d)) is.at
        (subst (λ (m : Ratio). IsBelow (line_at a b (ratio x.over x.under)) m) is.metres h)

    back : IsBelow (line_at a b (crossing p q c d)) (side_height p q c d)
        → IsBelow (line_at a b (ratio x.over x.under)) (ratio x.height x.under)
    back h =
        subst (λ (k : Ratio). IsBelow (line_at a b k) (ratio x.height x.under)) (sym is.at)
        (subst (λ (m : Ratio). IsBelow (line_at a b (crossing p q c d)) m) (sym is.metres) h)

    -- what is found at a crossing
    pub cut_out : (t : Bool) → IsTrue t ↔ IsBelow (line_at a b (ratio x.over x.under)) (ratio x.height x.under)
        → IsTrue t ↔ IsCutOut p a q b c d
    cut_out t h = (
      λ i. record { crosses = is.crosses; below = there (h.0 i) },
      λ i. h.1 (back i.below),
    )

  right_of : (z : ℤ) → pos 0 <ℤ z → z ≤ℤ pos 0 → ⊥
  right_of z h i = omega (arith, ints)

  left_of : (z : ℤ) → z <ℤ pos 0 → pos 0 ≤ℤ z → ⊥
  left_of z h i = omega (arith, ints)

  -- a triangle to the left of the line, and one to the right of it
  pub none_left : (t : Tri) → pos 0 <ℤ aside p q t.a → pos 0 <ℤ aside p q t.b → pos 0 <ℤ aside p q t.c
      → Hides p a q b t → ⊥
  none_left t ha hb hc (inl (inl x)) = right_of (aside p q t.a) ha x.crosses.first
  none_left t ha hb hc (inl (inr x)) = right_of (aside p q t.b) hb x.crosses.first
  none_left t ha hb hc (inr (inl (inl x))) = right_of (aside p q t.b) hb x.crosses.first
  none_left t ha hb hc (inr (inl (inr x))) = right_of (aside p q t.c) hc x.crosses.first
  none_left t ha hb hc (inr (inr (inl x))) = right_of (aside p q t.c) hc x.crosses.first
  none_left t ha hb hc (inr (inr (inr x))) = right_of (aside p q t.a) ha x.crosses.first

  pub none_right : (t : Tri) → aside p q t.a <ℤ pos 0 → aside p q t.b <ℤ pos 0 → aside p q t.c <ℤ pos 0
      → Hides p a q b t → ⊥
  none_right t ha hb hc (inl (inl x)) = left_of (aside p q t.b) hb x.crosses.second
  none_right t ha hb hc (inl (inr x)) = left_of (aside p q t.a) ha x.crosses.second
  none_right t ha hb hc (inr (inl (inl x))) = left_of (aside p q t.c) hc x.crosses.second
  none_right t ha hb hc (inr (inl (inr x))) = left_of (aside p q t.b) hb x.crosses.second
  none_right t ha hb hc (inr (inr (inl x))) = left_of (aside p q t.a) ha x.crosses.second
  none_right t ha hb hc (inr (inr (inr x))) = left_of (aside p q t.c) hc x.crosses.second

-- ---- some element of a list
module _ {X : Type 0} (P : X → Type 0) where
  pub any_at : (xs : List X) (i : ℕ) (d : X) → i < length xs → P (get_or xs i d) → Any P xs
  any_at xs i d l h = (i, get_or xs i d, l, get_or_default xs i (get_or xs i d) d l, h)

  pub none_any : (xs : List X) → AllByRecursion (λ x. ¬ P x) xs → Any P xs → ⊥
  none_any [] a h = any_none P h
  none_any (x ∷ xs) a h = go (any_cases P x xs h) (none_any xs a.1)
    where
      go : P x ⊎ Any P xs → (Any P xs → ⊥) → ⊥
      go (inl y) f = a.0 y
      go (inr y) f = f y

-- ---- answers of tests that are joined
pub either_true : (P Q : Type 0) (s : Bool) → IsTrue s ↔ P → s ≡ true → IsTrue true ↔ (P ⊎ Q)
either_true P Q s h e = (λ t. inl (h.0 e), λ x. refl)

pub either_false : (P Q : Type 0) (s t : Bool) → IsTrue s ↔ P → s ≡ false → IsTrue t ↔ Q → IsTrue t ↔ (P ⊎ Q)
either_false P Q s t h e i = (λ x. inr (i.0 x), go)
  where
    go : P ⊎ Q → IsTrue t
    go (inl x) = absurd (off s e (h.1 x))
    go (inr y) = i.1 y
