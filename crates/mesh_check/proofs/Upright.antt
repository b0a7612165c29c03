-- A triangle's height along one of its edges is that of the edge: so heights are compared as places are, with heights
-- in place of u.
use Rattle.std.proofs.Common.{◌≡◌, ℕ, ◌+◌, ◌*◌, refl, ap, sym, subst, ◌∙◌, List, [], ◌∷◌, inl, inr}
use Rattle.std.specs.Prelude.{◌↔◌, ℤ, pos, ◌*ℤ◌, ◌<ℤ◌}
use Rattle.polynomial.proofs.Expressions.{Expr, var, add, sub, mul}
use Rattle.polynomial.proofs.NormalForm.{by_ring}
use Rattle.polynomial.proofs.Signs.{times_pos}
use Rattle.mesh_plane.proofs.Heights.{cancelled}
use Rattle.mesh_plane.specs.declared.corner.Tri.{Tri}
use Rattle.mesh_plane.specs.Plane.{doubled_area}
use Rattle.mesh_plane.specs.Surface.{lift_of}
use Rattle.mesh_check.specs.Slab.{Segment, under, over, IsDown, IsUp, SameAt, upright_of}

-- the corner i is the variables 3 * i to 3 * i + 2; the level is the variable 9
abbrev sideE : ℕ → ℕ → Expr → Expr → Expr → Expr
sideE i j s x y =
    sub (mul (sub (var (3 * j)) (var (3 * i))) (sub y (mul s (var (3 * i + 1)))))
    (mul (sub (var (3 * j + 1)) (var (3 * i + 1))) (sub x (mul s (var (3 * i)))))

abbrev liftE : Expr → Expr → Expr → Expr
liftE s x y = add (add (mul (var 2) (sideE 1 2 s x y)) (mul (var 5) (sideE 2 0 s x y))) (mul (var 8) (sideE 0 1 s x y))

abbrev areaE : Expr
areaE = sub (mul (sub (var 3) (var 0)) (sub (var 7) (var 1))) (mul (sub (var 4) (var 1)) (sub (var 6) (var 0)))

abbrev underE : ℕ → ℕ → Expr
underE i j = sub (var (3 * j + 1)) (var (3 * i + 1))

-- of the coordinate k
abbrev overE : ℕ → ℕ → ℕ → Expr
overE k i j = add (mul (var (3 * i + k)) (sub (var (3 * j + 1)) (var 9)))
    (mul (var (3 * j + k)) (sub (var 9) (var (3 * i + 1))))

abbrev numbers : Tri → ℤ → List ℤ
numbers t v = t.a.u ∷ t.a.v ∷ t.a.h ∷ t.b.u ∷ t.b.v ∷ t.b.h ∷ t.c.u ∷ t.c.v ∷ t.c.h ∷ v ∷ []

abbrev Along : Tri → ℤ → Segment → Type 0
Along t v g = lift_of t (under g) (over g v) (under g *ℤ v) ≡ over (upright_of g) v *ℤ doubled_area t

abbrev pair : (i j : ℕ) → Expr
pair i j = liftE (underE i j) (overE 0 i j) (mul (underE i j) (var 9))

pub up_height : (t : Tri) (g : Segment) (v : ℤ) → IsUp t g → Along t v g
up_height t g v (inl e) = subst (λ (z : Segment). Along t v z) (sym e) (by_ring (pair 0 1) (mul (overE 2 0 1) areaE)
    (numbers t v) refl)
up_height t g v (inr (inl e)) = subst (λ (z : Segment). Along t v z) (sym e)
    (by_ring (pair 1 2) (mul (overE 2 1 2) areaE) (numbers t v) refl)
up_height t g v (inr (inr e)) = subst (λ (z : Segment). Along t v z) (sym e)
    (by_ring (pair 2 0) (mul (overE 2 2 0) areaE) (numbers t v) refl)

pub down_height : (t : Tri) (g : Segment) (v : ℤ) → IsDown t g → Along t v g
down_height t g v (inl e) = subst (λ (z : Segment). Along t v z) (sym e) (by_ring (pair 1 0) (mul (overE 2 1 0) areaE)
    (numbers t v) refl)
down_height t g v (inr (inl e)) = subst (λ (z : Segment). Along t v z) (sym e)
    (by_ring (pair 2 1) (mul (overE 2 2 1) areaE) (numbers t v) refl)
down_height t g v (inr (inr e)) = subst (λ (z : Segment). Along t v z) (sym e)
    (by_ring (pair 0 2) (mul (overE 2 0 2) areaE) (numbers t v) refl)

lift_times : (t : Tri) (k s x y : ℤ) → lift_of t (k *ℤ s) (k *ℤ x) (k *ℤ y) ≡ k *ℤ lift_of t s x y
lift_times t k s x y =
    by_ring (liftE (mul (var 9) (var 10)) (mul (var 9) (var 11)) (mul (var 9) (var 12)))
    (mul (var 9) (liftE (var 10) (var 11) (var 12)))
    (t.a.u ∷ t.a.v ∷ t.a.h ∷ t.b.u ∷ t.b.v ∷ t.b.h ∷ t.c.u ∷ t.c.v ∷ t.c.h ∷ k ∷ s ∷ x ∷ y ∷ []) refl

-- the right segment g of t and the left one h of u meet the level at one place
module _ (t u : Tri) (g h : Segment) (v : ℤ) (up : IsUp t g) (down : IsDown u h)
    (one : over g v *ℤ under h ≡ over h v *ℤ under g)
    (ug : pos 0 <ℤ under g) (uh : pos 0 <ℤ under h) (at : pos 0 <ℤ doubled_area t) (au : pos 0 <ℤ doubled_area u) where
  -- the height of t at the end of h
  first_height : under g *ℤ lift_of t (under h) (over h v) (under h *ℤ v) ≡ under h *ℤ
      (over (upright_of g) v *ℤ doubled_area t)
  first_height =
      sym (lift_times t (under g) (under h) (over h v) (under h *ℤ v))
      ∙ ap (λ i. lift_of t (under g *ℤ under h) i (under g *ℤ (under h *ℤ v))) (by_ring (mul (var 0) (var 1))
      (mul (var 1) (var 0)) (under g ∷ over h v ∷ []) refl ∙ sym one)
      ∙ ap (λ i. lift_of t i (over g v *ℤ under h) (under g *ℤ (under h *ℤ v))) (by_ring (mul (var 0) (var 1))
      (mul (var 1) (var 0)) (under g ∷ under h ∷ []) refl)
      ∙ ap (λ i. lift_of t (under h *ℤ under g) i (under g *ℤ (under h *ℤ v))) (by_ring (mul (var 0) (var 1))
      (mul (var 1) (var 0)) (over g v ∷ under h ∷ []) refl)
      ∙ ap (λ i. lift_of t (under h *ℤ under g) (under h *ℤ over g v) i) (by_ring (mul (var 0) (mul (var 1) (var 2)))
      (mul (var 1) (mul (var 0) (var 2))) (under g ∷ under h ∷ v ∷ []) refl)
      ∙ lift_times t (under h) (under g) (over g v) (under g *ℤ v)
      ∙ ap (λ i. under h *ℤ i) (up_height t g v up)

  second_height : lift_of u (under h) (over h v) (under h *ℤ v) ≡ over (upright_of h) v *ℤ doubled_area u
  second_height = down_height u h v down

  abbrev A : ℤ
  A = doubled_area t

  abbrev B : ℤ
  B = doubled_area u

  left_side : under g *ℤ (lift_of t (under h) (over h v) (under h *ℤ v) *ℤ B) ≡ (A *ℤ B) *ℤ
      (over (upright_of g) v *ℤ under h)
  left_side =
      by_ring (mul (var 0) (mul (var 1) (var 2))) (mul (mul (var 0) (var 1)) (var 2)) (under g ∷ lift_of t (under h)
      (over h v) (under h *ℤ v) ∷ B ∷ []) refl
      ∙ ap (λ i. i *ℤ B) first_height
      ∙ by_ring (mul (mul (var 0) (mul (var 1) (var 2))) (var 3)) (mul (mul (var 2) (var 3)) (mul (var 1) (var 0)))
      (under h ∷ over (upright_of g) v ∷ A ∷ B ∷ []) refl

  right_side : under g *ℤ (lift_of u (under h) (over h v) (under h *ℤ v) *ℤ A) ≡ (A *ℤ B) *ℤ
      (over (upright_of h) v *ℤ under g)
  right_side =
      ap (λ i. under g *ℤ (i *ℤ A)) second_height
      ∙ by_ring (mul (var 0) (mul (mul (var 1) (var 2)) (var 3))) (mul (mul (var 3) (var 2)) (mul (var 1) (var 0)))
      (under g ∷ over (upright_of h) v ∷ B ∷ A ∷ []) refl

  pub heights_agree : (over (upright_of g) v *ℤ under h ≡ over (upright_of h) v *ℤ under g) ↔ SameAt h v t u
  heights_agree = (
    (λ e. cancelled (under g) (lift_of t (under h) (over h v) (under h *ℤ v) *ℤ B) (lift_of u (under h) (over h v)
        (under h *ℤ v) *ℤ A) ug
        (left_side ∙ ap (λ i. (A *ℤ B) *ℤ i) e ∙ sym right_side)),
    (λ e. cancelled (A *ℤ B) (over (upright_of g) v *ℤ under h) (over (upright_of h) v *ℤ under g) (times_pos A B at au)
        (sym left_side ∙ ap (λ i. under g *ℤ i) e ∙ right_side)),
  )
