-- Heights along a line: a plane's height is an affine function of the point.
use Rattle.std.proofs.Common.{◌≡◌, ◌≢◌, refl, ap, arith, ◌∙◌, [], ◌∷◌, ⊎_elim}
use Rattle.std.specs.Prelude.{ℤ, pos, ◌+ℤ◌, ◌-ℤ◌, ◌*ℤ◌}
use Rattle.std.proofs.lemmas.Int.{ints}
use Rattle.polynomial.proofs.Expressions.{Expr, var, num, add, sub, mul}
use Rattle.polynomial.proofs.NormalForm.{by_ring}
use Rattle.polynomial.proofs.Signs.{product_nought}
use Rattle.mesh_plane.specs.declared.corner.Tri.{Tri}
use Rattle.mesh_plane.specs.Plane.{Point, point, doubled_area}
use Rattle.mesh_plane.specs.Surface.{lift_of}
use Rattle.mesh_plane.specs.Continuity.{ContinuityLaw}
use Rattle.mesh_plane.proofs.Turns.{turn, turned}

abbrev pub affine : ℤ → ℤ → ℤ → ℤ → ℤ → ℤ
affine a b c x y = (a *ℤ x +ℤ b *ℤ y) +ℤ c

abbrev affine_of : Expr → Expr → Expr → Expr → Expr → Expr
affine_of a b c x y = add (add (mul a x) (mul b y)) c

-- from p to q and on to r
slide_u : (a b c : ℤ) (p q r : Point) → (q.u -ℤ p.u) *ℤ affine a b c r.u r.v
    ≡ ((q.u -ℤ p.u) *ℤ affine a b c p.u p.v +ℤ (r.u -ℤ p.u)
    *ℤ (affine a b c q.u q.v -ℤ affine a b c p.u p.v)) +ℤ b *ℤ turn p q r
slide_u a b c p q r =
    by_ring (mul (sub (var 5) (var 3)) (affine_of (var 0) (var 1) (var 2) (var 7) (var 8)))
    (add
    (add (mul (sub (var 5) (var 3)) (affine_of (var 0) (var 1) (var 2) (var 3) (var 4)))
    (mul (sub (var 7) (var 3))
    (sub (affine_of (var 0) (var 1) (var 2) (var 5) (var 6))
    (affine_of (var 0) (var 1) (var 2) (var 3) (var 4)))))
    (mul (var 1) (turned (var 3) (var 4) (var 5) (var 6) (var 7) (var 8))))
    (a ∷ b ∷ c ∷ p.u ∷ p.v ∷ q.u ∷ q.v ∷ r.u ∷ r.v ∷ []) refl

slide_v : (a b c : ℤ) (p q r : Point) → (q.v -ℤ p.v) *ℤ affine a b c r.u r.v
    ≡ ((q.v -ℤ p.v) *ℤ affine a b c p.u p.v +ℤ (r.v -ℤ p.v)
    *ℤ (affine a b c q.u q.v -ℤ affine a b c p.u p.v)) -ℤ a *ℤ turn p q r
slide_v a b c p q r =
    by_ring (mul (sub (var 6) (var 4)) (affine_of (var 0) (var 1) (var 2) (var 7) (var 8)))
    (sub
    (add (mul (sub (var 6) (var 4)) (affine_of (var 0) (var 1) (var 2) (var 3) (var 4)))
    (mul (sub (var 8) (var 4))
    (sub (affine_of (var 0) (var 1) (var 2) (var 5) (var 6))
    (affine_of (var 0) (var 1) (var 2) (var 3) (var 4)))))
    (mul (var 0) (turned (var 3) (var 4) (var 5) (var 6) (var 7) (var 8))))
    (a ∷ b ∷ c ∷ p.u ∷ p.v ∷ q.u ∷ q.v ∷ r.u ∷ r.v ∷ []) refl

nought_plus : (w x b t : ℤ) → (w *ℤ pos 0 +ℤ x *ℤ (pos 0 -ℤ pos 0)) +ℤ b *ℤ pos 0 ≡ pos 0
nought_plus w x b t =
    by_ring (add (add (mul (var 0) (num 0)) (mul (var 1) (sub (num 0) (num 0)))) (mul (var 2) (num 0)))
    (num 0) (w ∷ x ∷ b ∷ []) refl

nought_minus : (w x b t : ℤ) → (w *ℤ pos 0 +ℤ x *ℤ (pos 0 -ℤ pos 0)) -ℤ b *ℤ pos 0 ≡ pos 0
nought_minus w x b t =
    by_ring (sub (add (mul (var 0) (num 0)) (mul (var 1) (sub (num 0) (num 0)))) (mul (var 2) (num 0)))
    (num 0) (w ∷ x ∷ b ∷ []) refl

same_point : (p q : Point) → q.u -ℤ p.u ≡ pos 0 → q.v -ℤ p.v ≡ pos 0 → p ≡ q
same_point p q e f =
    let u : p.u ≡ q.u = omega (arith, ints, e) in let v : p.v ≡ q.v = omega (arith, ints, f) in
    ap (λ i. point i p.v) u ∙ ap (λ i. point q.u i) v

-- an affine function that is 0 at two points is 0 on the line through them
pub affine_on_line : (a b c : ℤ) (p q r : Point) → p ≢ q → affine a b c p.u p.v ≡ pos 0
    → affine a b c q.u q.v ≡ pos 0
    → turn p q r ≡ pos 0 → affine a b c r.u r.v ≡ pos 0
affine_on_line a b c p q r apart e f t =
    let g = affine a b c r.u r.v in
    let u : (q.u -ℤ p.u) *ℤ g ≡ pos 0 =
    slide_u a b c p q r
    ∙ ap (λ i. ((q.u -ℤ p.u) *ℤ i +ℤ (r.u -ℤ p.u) *ℤ (affine a b c q.u q.v -ℤ i)) +ℤ b *ℤ turn p q r) e
    ∙ ap (λ i. ((q.u -ℤ p.u) *ℤ pos 0 +ℤ (r.u -ℤ p.u) *ℤ (i -ℤ pos 0)) +ℤ b *ℤ turn p q r) f
    ∙ ap (λ i. ((q.u -ℤ p.u) *ℤ pos 0 +ℤ (r.u -ℤ p.u) *ℤ (pos 0 -ℤ pos 0)) +ℤ b *ℤ i) t
    ∙ nought_plus (q.u -ℤ p.u) (r.u -ℤ p.u) b (turn p q r) in
    let v : (q.v -ℤ p.v) *ℤ g ≡ pos 0 =
    slide_v a b c p q r
    ∙ ap (λ i. ((q.v -ℤ p.v) *ℤ i +ℤ (r.v -ℤ p.v) *ℤ (affine a b c q.u q.v -ℤ i)) -ℤ a *ℤ turn p q r) e
    ∙ ap (λ i. ((q.v -ℤ p.v) *ℤ pos 0 +ℤ (r.v -ℤ p.v) *ℤ (i -ℤ pos 0)) -ℤ a *ℤ turn p q r) f
    ∙ ap (λ i. ((q.v -ℤ p.v) *ℤ pos 0 +ℤ (r.v -ℤ p.v) *ℤ (pos 0 -ℤ pos 0)) -ℤ a *ℤ i) t
    ∙ nought_minus (q.v -ℤ p.v) (r.v -ℤ p.v) a (turn p q r) in
    ⊎_elim
    (λ k. ⊎_elim (λ l. absurd (apart (same_point p q k l))) (λ l. l) (product_nought (q.v -ℤ p.v) g v))
    (λ k. k)
    (product_nought (q.u -ℤ p.u) g u)

-- ---- the plane of a triangle
-- how fast its lift grows with x and with y
abbrev tilt_u : Tri → ℤ
tilt_u t = (t.a.h *ℤ (t.b.v -ℤ t.c.v) +ℤ t.b.h *ℤ (t.c.v -ℤ t.a.v)) +ℤ t.c.h *ℤ (t.a.v -ℤ t.b.v)

abbrev tilt_v : Tri → ℤ
tilt_v t = (t.a.h *ℤ (t.c.u -ℤ t.b.u) +ℤ t.b.h *ℤ (t.a.u -ℤ t.c.u)) +ℤ t.c.h *ℤ (t.b.u -ℤ t.a.u)

abbrev side_expr : (au av bu bv s x y : Expr) → Expr
side_expr au av bu bv s x y = sub (mul (sub bu au) (sub y (mul s av))) (mul (sub bv av) (sub x (mul s au)))

abbrev lift_expr : Expr → Expr → Expr → Expr
lift_expr s x y =
    add (add (mul (var 6) (side_expr (var 2) (var 3) (var 4) (var 5) s x y))
    (mul (var 7) (side_expr (var 4) (var 5) (var 0) (var 1) s x y)))
    (mul (var 8) (side_expr (var 0) (var 1) (var 2) (var 3) s x y))

pub lift_affine : (t : Tri) (s x y : ℤ)
    → lift_of t s x y ≡ affine (tilt_u t) (tilt_v t) (lift_of t s (pos 0) (pos 0)) x y
lift_affine t s x y =
    by_ring (lift_expr (var 9) (var 10) (var 11))
    (affine_of
    (add (add (mul (var 6) (sub (var 3) (var 5))) (mul (var 7) (sub (var 5) (var 1))))
    (mul (var 8) (sub (var 1) (var 3))))
    (add (add (mul (var 6) (sub (var 4) (var 2))) (mul (var 7) (sub (var 0) (var 4))))
    (mul (var 8) (sub (var 2) (var 0))))
    (lift_expr (var 9) (num 0) (num 0)) (var 10) (var 11))
    (t.a.u ∷ t.a.v ∷ t.b.u ∷ t.b.v ∷ t.c.u ∷ t.c.v ∷ t.a.h ∷ t.b.h ∷ t.c.h ∷ s ∷ x ∷ y ∷ []) refl

-- two affine functions, each times a number
crossed : (a b c d e f m n x y : ℤ) → affine a b c x y *ℤ n -ℤ affine d e f x y *ℤ m
    ≡ affine (a *ℤ n -ℤ d *ℤ m) (b *ℤ n -ℤ e *ℤ m) (c *ℤ n -ℤ f *ℤ m) x y
crossed a b c d e f m n x y =
    by_ring
    (sub (mul (affine_of (var 0) (var 1) (var 2) (var 8) (var 9)) (var 7))
    (mul (affine_of (var 3) (var 4) (var 5) (var 8) (var 9)) (var 6)))
    (affine_of (sub (mul (var 0) (var 7)) (mul (var 3) (var 6)))
    (sub (mul (var 1) (var 7)) (mul (var 4) (var 6)))
    (sub (mul (var 2) (var 7)) (mul (var 5) (var 6))) (var 8) (var 9))
    (a ∷ b ∷ c ∷ d ∷ e ∷ f ∷ m ∷ n ∷ x ∷ y ∷ []) refl

-- the difference of both heights, times both areas
apart_is : (t u : Tri) (s x y : ℤ) → lift_of t s x y *ℤ doubled_area u -ℤ lift_of u s x y *ℤ doubled_area t
    ≡ affine (tilt_u t *ℤ doubled_area u -ℤ tilt_u u *ℤ doubled_area t)
    (tilt_v t *ℤ doubled_area u -ℤ tilt_v u *ℤ doubled_area t)
    (lift_of t s (pos 0) (pos 0) *ℤ doubled_area u -ℤ lift_of u s (pos 0) (pos 0) *ℤ doubled_area t) x y
apart_is t u s x y =
    ap (λ i. i *ℤ doubled_area u -ℤ lift_of u s x y *ℤ doubled_area t) (lift_affine t s x y)
    ∙ ap (λ i. affine (tilt_u t) (tilt_v t)
    (lift_of t s (pos 0) (pos 0)) x y *ℤ doubled_area u -ℤ i *ℤ doubled_area t) (lift_affine u s x y)
    ∙ crossed (tilt_u t) (tilt_v t) (lift_of t s (pos 0) (pos 0)) (tilt_u u) (tilt_v u)
    (lift_of u s (pos 0) (pos 0))
    (doubled_area t) (doubled_area u) x y

equal_out : (a b c : ℤ) → a -ℤ b ≡ c → c ≡ pos 0 → a ≡ b
equal_out a b c e f = omega (arith, ints, e, f)

equal_in : (a b c : ℤ) → a -ℤ b ≡ c → a ≡ b → c ≡ pos 0
equal_in a b c e f = omega (arith, ints, e, f)

pub continuity_law : ContinuityLaw
continuity_law t u s p q r h apart e f line =
    let a = tilt_u t *ℤ doubled_area u -ℤ tilt_u u *ℤ doubled_area t in
    let b = tilt_v t *ℤ doubled_area u -ℤ tilt_v u *ℤ doubled_area t in
    let c = lift_of t s (pos 0) (pos 0) *ℤ doubled_area u -ℤ lift_of u s (pos 0) (pos 0) *ℤ doubled_area t in
    let left = λ (k : Point). lift_of t s k.u k.v *ℤ doubled_area u in
    let right = λ (k : Point). lift_of u s k.u k.v *ℤ doubled_area t in
    equal_out (left r) (right r) (affine a b c r.u r.v) (apart_is t u s r.u r.v)
    (affine_on_line a b c p q r apart
    (equal_in (left p) (right p) (affine a b c p.u p.v) (apart_is t u s p.u p.v) e)
    (equal_in (left q) (right q) (affine a b c q.u q.v) (apart_is t u s q.u q.v) f) line)
