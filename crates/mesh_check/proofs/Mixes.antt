-- Heights between two points.
use Rattle.std.proofs.Common.{◌≡◌, refl, ap, sym, arith, ◌∙◌, [], ◌∷◌}
use Rattle.std.specs.Prelude.{ℤ, pos, ◌+ℤ◌, ◌-ℤ◌, ◌*ℤ◌, ◌<ℤ◌}
use Rattle.std.proofs.lemmas.Int.{ints}
use Rattle.polynomial.proofs.Expressions.{Expr, var, num, add, sub, mul}
use Rattle.polynomial.proofs.NormalForm.{by_ring}
use Rattle.polynomial.proofs.Signs.{factor_nought, times_pos}
use Rattle.mesh_plane.specs.declared.corner.Tri.{Tri}
use Rattle.mesh_plane.specs.Plane.{doubled_area}
use Rattle.mesh_plane.specs.Surface.{lift_of, SameHeight}
use Rattle.mesh_check.specs.Slab.{Slab, Segment, under, over, SameAt}
use Rattle.mesh_check.proofs.Wedges.{beside}
use Rattle.mesh_check.proofs.Leads.{besides, rise, ends}

-- a plane's height is linear in the scale and the two coordinates
abbrev sideE : (au av bu bv s x y : Expr) → Expr
sideE au av bu bv s x y = sub (mul (sub bu au) (sub y (mul s av))) (mul (sub bv av) (sub x (mul s au)))

abbrev liftE : Expr → Expr → Expr → Expr
liftE s x y =
    add (add (mul (var 6) (sideE (var 2) (var 3) (var 4) (var 5) s x y))
    (mul (var 7) (sideE (var 4) (var 5) (var 0) (var 1) s x y)))
    (mul (var 8) (sideE (var 0) (var 1) (var 2) (var 3) s x y))

lift_mix : (t : Tri) (w s x y a s₁ x₁ y₁ b s₂ x₂ y₂ : ℤ) → w *ℤ s ≡ a *ℤ s₁ +ℤ b *ℤ s₂ → w *ℤ x ≡ a *ℤ x₁ +ℤ b *ℤ x₂
    → w *ℤ y ≡ a *ℤ y₁ +ℤ b *ℤ y₂
    → w *ℤ lift_of t s x y ≡ a *ℤ lift_of t s₁ x₁ y₁ +ℤ b *ℤ lift_of t s₂ x₂ y₂
lift_mix t w s x y a s₁ x₁ y₁ b s₂ x₂ y₂ es ex ey =
    by_ring (mul (var 9) (liftE (var 10) (var 11) (var 12))) (liftE (mul (var 9) (var 10)) (mul (var 9) (var 11))
    (mul (var 9) (var 12)))
    (t.a.u ∷ t.a.v ∷ t.b.u ∷ t.b.v ∷ t.c.u ∷ t.c.v ∷ t.a.h ∷ t.b.h ∷ t.c.h ∷ w ∷ s ∷ x ∷ y ∷ []) refl
    ∙ ap (λ i. lift_of t i (w *ℤ x) (w *ℤ y)) es ∙ ap (λ i. lift_of t (a *ℤ s₁ +ℤ b *ℤ s₂) i (w *ℤ y)) ex
    ∙ ap (λ i. lift_of t (a *ℤ s₁ +ℤ b *ℤ s₂) (a *ℤ x₁ +ℤ b *ℤ x₂) i) ey
    ∙ by_ring
    (liftE (add (mul (var 9) (var 10)) (mul (var 13) (var 14))) (add (mul (var 9) (var 11)) (mul (var 13) (var 15)))
    (add (mul (var 9) (var 12)) (mul (var 13) (var 16))))
    (add (mul (var 9) (liftE (var 10) (var 11) (var 12))) (mul (var 13) (liftE (var 14) (var 15) (var 16))))
    (t.a.u ∷ t.a.v ∷ t.b.u ∷ t.b.v ∷ t.c.u ∷ t.c.v ∷ t.a.h ∷ t.b.h ∷ t.c.h ∷ a ∷ s₁ ∷ x₁ ∷ y₁ ∷ b ∷ s₂ ∷ x₂ ∷ y₂ ∷ [])
    refl

numbers : (w l m a l₁ m₁ b l₂ m₂ e f : ℤ) → pos 0 <ℤ w → w *ℤ l ≡ a *ℤ l₁ +ℤ b *ℤ l₂ → w *ℤ m ≡ a *ℤ m₁ +ℤ b *ℤ m₂
    → l₁ *ℤ f ≡ m₁ *ℤ e → l₂ *ℤ f ≡ m₂ *ℤ e → l *ℤ f ≡ m *ℤ e
numbers w l m a l₁ m₁ b l₂ m₂ e f h hl hm h₁ h₂ =
    let z : l *ℤ f -ℤ m *ℤ e ≡ pos 0 =
    factor_nought w (l *ℤ f -ℤ m *ℤ e) h
    (by_ring (mul (var 0) (sub (mul (var 1) (var 4)) (mul (var 2) (var 3)))) (sub (mul (mul (var 0) (var 1)) (var 4))
    (mul (mul (var 0) (var 2)) (var 3))) (w ∷ l ∷ m ∷ e ∷ f ∷ []) refl
    ∙ ap (λ i. i *ℤ f -ℤ (w *ℤ m) *ℤ e) hl ∙ ap (λ i. (a *ℤ l₁ +ℤ b *ℤ l₂) *ℤ f -ℤ i *ℤ e) hm
    ∙ by_ring (sub (mul (add (mul (var 0) (var 1)) (mul (var 3) (var 4))) (var 7))
    (mul (add (mul (var 0) (var 2)) (mul (var 3) (var 5))) (var 6)))
    (add (mul (var 0) (sub (mul (var 1) (var 7)) (mul (var 2) (var 6))))
    (mul (var 3) (sub (mul (var 4) (var 7)) (mul (var 5) (var 6)))))
    (a ∷ l₁ ∷ m₁ ∷ b ∷ l₂ ∷ m₂ ∷ e ∷ f ∷ []) refl
    ∙ ap (λ i. a *ℤ (i -ℤ m₁ *ℤ e) +ℤ b *ℤ (l₂ *ℤ f -ℤ m₂ *ℤ e)) h₁ ∙ ap (λ i. a *ℤ (m₁ *ℤ e -ℤ m₁ *ℤ e) +ℤ b *ℤ
    (i -ℤ m₂ *ℤ e)) h₂
    ∙ by_ring (add (mul (var 0) (sub (var 1) (var 1))) (mul (var 2) (sub (var 3) (var 3)))) (num 0)
    (a ∷ (m₁ *ℤ e) ∷ b ∷ (m₂ *ℤ e) ∷ []) refl) in
    omega (arith, ints, z)

-- what is a mixture of two points has one height where both have
pub mixed_height : (t u : Tri) (w s x y a s₁ x₁ y₁ b s₂ x₂ y₂ : ℤ) → pos 0 <ℤ w
    → w *ℤ s ≡ a *ℤ s₁ +ℤ b *ℤ s₂ → w *ℤ x ≡ a *ℤ x₁ +ℤ b *ℤ x₂ → w *ℤ y ≡ a *ℤ y₁ +ℤ b *ℤ y₂
    → SameHeight s₁ x₁ y₁ t u → SameHeight s₂ x₂ y₂ t u → SameHeight s x y t u
mixed_height t u w s x y a s₁ x₁ y₁ b s₂ x₂ y₂ h es ex ey h₁ h₂ =
    numbers w (lift_of t s x y) (lift_of u s x y) a (lift_of t s₁ x₁ y₁) (lift_of u s₁ x₁ y₁) b (lift_of t s₂ x₂ y₂)
    (lift_of u s₂ x₂ y₂) (doubled_area t) (doubled_area u) h
    (lift_mix t w s x y a s₁ x₁ y₁ b s₂ x₂ y₂ es ex ey) (lift_mix u w s x y a s₁ x₁ y₁ b s₂ x₂ y₂ es ex ey) h₁ h₂

-- agreement goes through a triangle with an area
pub same_through : (t u v : Tri) (s x y : ℤ) → pos 0 <ℤ doubled_area u → SameHeight s x y t u → SameHeight s x y u v
    → SameHeight s x y t v
same_through t u v s x y h e f =
    let lt = lift_of t s x y in let lu = lift_of u s x y in let lv = lift_of v s x y in
    let at = doubled_area t in let au = doubled_area u in let av = doubled_area v in
    let z : lt *ℤ av -ℤ lv *ℤ at ≡ pos 0 =
    factor_nought au (lt *ℤ av -ℤ lv *ℤ at) h
    (by_ring (mul (var 0) (sub (mul (var 1) (var 2)) (mul (var 3) (var 4)))) (sub (mul (mul (var 1) (var 0)) (var 2))
    (mul (mul (var 3) (var 0)) (var 4))) (au ∷ lt ∷ av ∷ lv ∷ at ∷ []) refl
    ∙ ap (λ i. i *ℤ av -ℤ (lv *ℤ au) *ℤ at) e ∙ ap (λ i. (lu *ℤ at) *ℤ av -ℤ i *ℤ at) (sym f)
    ∙ by_ring (sub (mul (mul (var 0) (var 1)) (var 2)) (mul (mul (var 0) (var 2)) (var 1))) (num 0)
    (lu ∷ at ∷ av ∷ []) refl) in
    omega (arith, ints, z)

-- ---- along a segment
module _ (slab : Slab) (gap : slab.low <ℤ slab.high) (g : Segment) (up : pos 0 <ℤ under g) (t u : Tri) (s x y : ℤ)
    (on : beside g s x y ≡ pos 0) where
  across_is : under g *ℤ x ≡ g.low.u *ℤ (s *ℤ g.high.v -ℤ y) +ℤ g.high.u *ℤ (y -ℤ s *ℤ g.low.v)
  across_is =
      omega (
        arith,
        ints,
        on,
        by_ring (besides 0 (var 0) (var 1) (var 2))
            (sub (add (mul (var 3) (sub (mul (var 0) (var 6)) (var 2)))
            (mul (var 5) (sub (var 2) (mul (var 0) (var 4))))) (mul (rise 0) (var 1)))
            (s ∷ x ∷ y ∷ ends (g ∷ [])) refl,
      )

  pub along : SameAt g slab.low t u → SameAt g slab.high t u → SameHeight s x y t u
  along h₁ h₂ =
      let d = slab.high -ℤ slab.low in
      let a = s *ℤ slab.high -ℤ y in let b = y -ℤ s *ℤ slab.low in
      mixed_height t u (d *ℤ under g) s x y a (under g) (over g slab.low) (under g *ℤ slab.low) b (under g)
      (over g slab.high) (under g *ℤ slab.high)
      (times_pos d (under g) (omega (arith, ints, gap)) up)
      (by_ring (mul (mul (sub (var 1) (var 0)) (var 2)) (var 3)) (add (mul (sub (mul (var 3) (var 1)) (var 4)) (var 2))
      (mul (sub (var 4) (mul (var 3) (var 0))) (var 2)))
      (slab.low ∷ slab.high ∷ under g ∷ s ∷ y ∷ []) refl)
      (by_ring (mul (mul (var 0) (var 1)) (var 2)) (mul (var 0) (mul (var 1) (var 2))) (d ∷ under g ∷ x ∷ []) refl
      ∙ ap (λ i. d *ℤ i) across_is
      ∙ by_ring
      (mul (sub (var 8) (var 7)) (add (mul (var 3) (sub (mul (var 0) (var 6)) (var 2)))
      (mul (var 5) (sub (var 2) (mul (var 0) (var 4))))))
      (add (mul (sub (mul (var 0) (var 8)) (var 2)) (add (mul (var 3) (sub (var 6) (var 7)))
      (mul (var 5) (sub (var 7) (var 4)))))
      (mul (sub (var 2) (mul (var 0) (var 7))) (add (mul (var 3) (sub (var 6) (var 8)))
      (mul (var 5) (sub (var 8) (var 4))))))
      (s ∷ x ∷ y ∷ g.low.u ∷ g.low.v ∷ g.high.u ∷ g.high.v ∷ slab.low ∷ slab.high ∷ []) refl)
      (by_ring (mul (mul (sub (var 1) (var 0)) (var 2)) (var 4))
      (add (mul (sub (mul (var 3) (var 1)) (var 4)) (mul (var 2) (var 0))) (mul (sub (var 4) (mul (var 3) (var 0)))
      (mul (var 2) (var 1))))
      (slab.low ∷ slab.high ∷ under g ∷ s ∷ y ∷ []) refl)
      h₁ h₂
