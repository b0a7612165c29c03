-- A triangle meets a point where it holds it and has its height there. Two lists of triangles with a common
-- edge agree at
-- its points.
use Rattle.std.proofs.Common.{◌≡◌, refl, ap, arith, ◌∙◌, List, [], ◌∷◌, ◌++◌, inl, inr}
use Rattle.std.specs.Prelude.{ℤ, pos, ◌+ℤ◌, ◌-ℤ◌, ◌*ℤ◌, ◌≤ℤ◌, ◌<ℤ◌, ◌⊎◌}
use Rattle.std.specs.List.{AllByRecursion}
use Rattle.std.proofs.lemmas.Int.{ints}
use Rattle.polynomial.proofs.Expressions.{var, num, add, sub, mul}
use Rattle.polynomial.proofs.NormalForm.{by_ring}
use Rattle.polynomial.proofs.Signs.{times_nonneg, factor_nonneg, weaken}
use Rattle.mesh_plane.specs.Plane.{Point}
use Rattle.mesh_plane.specs.Triangles.{Triple, fan}
use Rattle.mesh_plane.proofs.Turns.{turn, turned, turned_points, points, turned_on, turn_at_first, turn_at_second, three_sides}
use Rattle.mesh_plane.proofs.Tilings.{IsCcw, area, Within}
use Rattle.mesh_plane.proofs.Heights.{lift, AtLevel, OneLevel, Cross, Shown, spread, cross_levels}

-- the point lies on the segment from a to b, with these weights
pub record On (a b p : Point) (α β : ℤ) : Type 0 where
  pub from : pos 0 ≤ℤ α
  pub to : pos 0 ≤ℤ β
  pub some : pos 0 <ℤ (α +ℤ β)
  pub u : (α +ℤ β) *ℤ p.u ≡ α *ℤ a.u +ℤ β *ℤ b.u
  pub v : (α +ℤ β) *ℤ p.v ≡ α *ℤ a.v +ℤ β *ℤ b.v

-- a turn of such a point
pub weighed : (d e a b p : Point) (α β : ℤ) → On a b p α β
    → (α +ℤ β) *ℤ turn d e p ≡ α *ℤ turn d e a +ℤ β *ℤ turn d e b
weighed d e a b p α β o =
    by_ring (mul (add (var 0) (var 1)) (turned (var 2) (var 3) (var 4) (var 5) (var 6) (var 7)))
    (sub
    (mul (sub (var 4) (var 2)) (sub (mul (add (var 0) (var 1)) (var 7)) (mul (add (var 0) (var 1)) (var 3))))
    (mul (sub (var 5) (var 3)) (sub (mul (add (var 0) (var 1)) (var 6)) (mul (add (var 0) (var 1)) (var 2)))))
    (α ∷ β ∷ points (d ∷ e ∷ p ∷ [])) refl
    ∙ ap (λ i.
    (e.u -ℤ d.u) *ℤ (i -ℤ (α +ℤ β) *ℤ d.v) -ℤ (e.v -ℤ d.v) *ℤ ((α +ℤ β) *ℤ p.u -ℤ (α +ℤ β) *ℤ d.u)) o.v
    ∙ ap (λ i.
    (e.u -ℤ d.u) *ℤ ((α *ℤ a.v +ℤ β *ℤ b.v) -ℤ (α +ℤ β) *ℤ d.v) -ℤ (e.v -ℤ d.v)
    *ℤ (i -ℤ (α +ℤ β) *ℤ d.u)) o.u
    ∙ by_ring
    (sub
    (mul (sub (var 4) (var 2))
    (sub (add (mul (var 0) (var 7)) (mul (var 1) (var 9))) (mul (add (var 0) (var 1)) (var 3))))
    (mul (sub (var 5) (var 3))
    (sub (add (mul (var 0) (var 6)) (mul (var 1) (var 8))) (mul (add (var 0) (var 1)) (var 2)))))
    (add (mul (var 0) (turned (var 2) (var 3) (var 4) (var 5) (var 6) (var 7)))
    (mul (var 1) (turned (var 2) (var 3) (var 4) (var 5) (var 8) (var 9))))
    (α ∷ β ∷ points (d ∷ e ∷ a ∷ b ∷ [])) refl

side_in : (α β x y w : ℤ) → pos 0 <ℤ (α +ℤ β) → pos 0 ≤ℤ α → pos 0 ≤ℤ β → pos 0 ≤ℤ x → pos 0 ≤ℤ y
    → (α +ℤ β) *ℤ w ≡ α *ℤ x +ℤ β *ℤ y → pos 0 ≤ℤ w
side_in α β x y w m a b h k e =
    factor_nonneg (α +ℤ β) w m (omega (arith, ints, e, times_nonneg α x a h, times_nonneg β y b k))

-- a point is on the segment from it to itself
pub on_itself : (p : Point) → On p p p (pos 1) (pos 0)
on_itself p = record {
  from = omega (arith, ints);
  to = omega (arith, ints);
  some = omega (arith, ints);
  u = by_ring (mul (add (num 1) (num 0)) (var 0)) (add (mul (num 1) (var 0)) (mul (num 0) (var 0)))
      (p.u ∷ []) refl;
  v = by_ring (mul (add (num 1) (num 0)) (var 0)) (add (mul (num 1) (var 0)) (mul (num 0) (var 0)))
      (p.v ∷ []) refl;
}

-- a point of a triangle, by the three sides there
by_areas : (x a b c w₁ w₂ w₃ m : ℤ) → m *ℤ x ≡ (w₁ *ℤ a +ℤ w₂ *ℤ b) +ℤ w₃ *ℤ c → w₁ ≡ pos 0 → w₂ +ℤ w₃ ≡ m
    → (w₂ +ℤ w₃) *ℤ x ≡ w₂ *ℤ b +ℤ w₃ *ℤ c
by_areas x a b c w₁ w₂ w₃ m e f g =
    ap (λ i. i *ℤ x) g ∙ e ∙ ap (λ i. (i *ℤ a +ℤ w₂ *ℤ b) +ℤ w₃ *ℤ c) f
    ∙ by_ring (add (add (mul (num 0) (var 0)) (mul (var 1) (var 2))) (mul (var 3) (var 4)))
    (add (mul (var 1) (var 2)) (mul (var 3) (var 4)))
    (a ∷ w₂ ∷ b ∷ w₃ ∷ c ∷ []) refl

areas_u : (a b c p : Point)
    → turn a b c *ℤ p.u ≡ (turn b c p *ℤ a.u +ℤ turn c a p *ℤ b.u) +ℤ turn a b p *ℤ c.u
areas_u a b c p =
    by_ring (mul (turned_points 0 1 2) (var 6))
    (add (add (mul (turned_points 1 2 3) (var 0)) (mul (turned_points 2 0 3) (var 2)))
    (mul (turned_points 0 1 3) (var 4)))
    (points (a ∷ b ∷ c ∷ p ∷ [])) refl

areas_v : (a b c p : Point)
    → turn a b c *ℤ p.v ≡ (turn b c p *ℤ a.v +ℤ turn c a p *ℤ b.v) +ℤ turn a b p *ℤ c.v
areas_v a b c p =
    by_ring (mul (turned_points 0 1 2) (var 7))
    (add (add (mul (turned_points 1 2 3) (var 1)) (mul (turned_points 2 0 3) (var 3)))
    (mul (turned_points 0 1 3) (var 5)))
    (points (a ∷ b ∷ c ∷ p ∷ [])) refl

-- what a triangle a, b, c holds on its side from b to c lies on that segment
pub on_side : (a b c p : Point) → pos 0 <ℤ turn a b c → turn b c p ≡ pos 0 → pos 0 ≤ℤ turn c a p
    → pos 0 ≤ℤ turn a b p
    → On b c p (turn c a p) (turn a b p)
on_side a b c p h e k l =
    let sum : turn c a p +ℤ turn a b p ≡ turn a b c = omega (arith, ints, three_sides a b c p, e) in
    record {
      from = k;
      to = l;
      some = omega (arith, ints, sum, h);
      u = by_areas p.u a.u b.u c.u (turn b c p) (turn c a p) (turn a b p) (turn a b c)
          (areas_u a b c p) e sum;
      v = by_areas p.v a.v b.v c.v (turn b c p) (turn c a p) (turn a b p) (turn a b c)
          (areas_v a b c p) e sum;
    }

at_a : (x y w d s t r : ℤ) → s ≡ d → t ≡ pos 0 → r ≡ pos 0 → (x *ℤ s +ℤ y *ℤ t) +ℤ w *ℤ r ≡ x *ℤ d
at_a x y w d s t r e f h =
    ap (λ i. (x *ℤ i +ℤ y *ℤ t) +ℤ w *ℤ r) e ∙ ap (λ i. (x *ℤ d +ℤ y *ℤ i) +ℤ w *ℤ r) f
    ∙ ap (λ i. (x *ℤ d +ℤ y *ℤ pos 0) +ℤ w *ℤ i) h
    ∙ by_ring (add (add (mul (var 0) (var 3)) (mul (var 1) (num 0))) (mul (var 2) (num 0)))
    (mul (var 0) (var 3)) (x ∷ y ∷ w ∷ d ∷ []) refl

at_b : (x y w d s t r : ℤ) → s ≡ pos 0 → t ≡ d → r ≡ pos 0 → (x *ℤ s +ℤ y *ℤ t) +ℤ w *ℤ r ≡ y *ℤ d
at_b x y w d s t r e f h =
    ap (λ i. (x *ℤ i +ℤ y *ℤ t) +ℤ w *ℤ r) e ∙ ap (λ i. (x *ℤ pos 0 +ℤ y *ℤ i) +ℤ w *ℤ r) f
    ∙ ap (λ i. (x *ℤ pos 0 +ℤ y *ℤ d) +ℤ w *ℤ i) h
    ∙ by_ring (add (add (mul (var 0) (num 0)) (mul (var 1) (var 3))) (mul (var 2) (num 0)))
    (mul (var 1) (var 3)) (x ∷ y ∷ w ∷ d ∷ []) refl

at_c : (x y w d s t r : ℤ) → s ≡ pos 0 → t ≡ pos 0 → r ≡ d → (x *ℤ s +ℤ y *ℤ t) +ℤ w *ℤ r ≡ w *ℤ d
at_c x y w d s t r e f h =
    ap (λ i. (x *ℤ i +ℤ y *ℤ t) +ℤ w *ℤ r) e ∙ ap (λ i. (x *ℤ pos 0 +ℤ y *ℤ i) +ℤ w *ℤ r) f
    ∙ ap (λ i. (x *ℤ pos 0 +ℤ y *ℤ pos 0) +ℤ w *ℤ i) h
    ∙ by_ring (add (add (mul (var 0) (num 0)) (mul (var 1) (num 0))) (mul (var 2) (var 3)))
    (mul (var 2) (var 3)) (x ∷ y ∷ w ∷ d ∷ []) refl

-- an edge between two corners
pub record Edge (A : Type 0) : Type 0 where
  pub from : A
  pub to : A

module _ {A : Type 0} (at : A → Point) where
  -- a triangle holds what lies between two points that it holds
  pub on_within : (t : Triple A) (a b p : Point) (α β : ℤ) → On a b p α β → Within at t a → Within at t b
      → Within at t p
  on_within t a b p α β o h k = record {
    ab = side_in α β (turn (at t.a) (at t.b) a) (turn (at t.a) (at t.b) b)
        (turn (at t.a) (at t.b) p) o.some o.from o.to h.ab k.ab
        (weighed (at t.a) (at t.b) a b p α β o);
    bc = side_in α β (turn (at t.b) (at t.c) a) (turn (at t.b) (at t.c) b)
        (turn (at t.b) (at t.c) p) o.some o.from o.to h.bc k.bc
        (weighed (at t.b) (at t.c) a b p α β o);
    ca = side_in α β (turn (at t.c) (at t.a) a) (turn (at t.c) (at t.a) b)
        (turn (at t.c) (at t.a) p) o.some o.from o.to h.ca k.ca
        (weighed (at t.c) (at t.a) a b p α β o);
  }

  module _ (z : A → ℤ) where
    -- the triangle holds the corner d, and has its height there
    pub record Meets (t : Triple A) (d : A) : Type 0 where
      pub holds : Within at t (at d)
      pub level : lift at z t (at d) ≡ z d *ℤ area at t

    -- the height at a point between two corners that it meets
    pub on_level : (t : Triple A) (d e : A) (p : Point) (α β : ℤ) → On (at d) (at e) p α β → Meets t d
        → Meets t e
        → AtLevel at z p (α +ℤ β) (α *ℤ z d +ℤ β *ℤ z e) t
    on_level t d e p α β o h k =
        let a = at t.a in let b = at t.b in let c = at t.c in
        let f = weighed b c (at d) (at e) p α β o in let g = weighed c a (at d) (at e) p α β o in
        let i = weighed a b (at d) (at e) p α β o in
        let bd = turn b c (at d) in let be = turn b c (at e) in let cd = turn c a (at d) in
        let ce = turn c a (at e) in
        by_ring (mul (add (add (mul (var 0) (var 1)) (mul (var 2) (var 3))) (mul (var 4) (var 5))) (var 6))
        (add (add (mul (var 0) (mul (var 6) (var 1))) (mul (var 2) (mul (var 6) (var 3))))
        (mul (var 4) (mul (var 6) (var 5))))
        (z t.a ∷ turn b c p ∷ z t.b ∷ turn c a p ∷ z t.c ∷ turn a b p ∷ (α +ℤ β) ∷ []) refl
        ∙ ap (λ n. (z t.a *ℤ n +ℤ z t.b *ℤ ((α +ℤ β) *ℤ turn c a p)) +ℤ z t.c *ℤ ((α +ℤ β) *ℤ turn a b p)) f
        ∙ ap (λ n. (z t.a *ℤ (α *ℤ bd +ℤ β *ℤ be) +ℤ z t.b *ℤ n) +ℤ z t.c *ℤ ((α +ℤ β) *ℤ turn a b p)) g
        ∙ ap (λ n. (z t.a *ℤ (α *ℤ bd +ℤ β *ℤ be) +ℤ z t.b *ℤ (α *ℤ cd +ℤ β *ℤ ce)) +ℤ z t.c *ℤ n) i
        ∙ by_ring
        (add
        (add (mul (var 0) (add (mul (var 3) (var 5)) (mul (var 4) (var 6))))
        (mul (var 1) (add (mul (var 3) (var 7)) (mul (var 4) (var 8)))))
        (mul (var 2) (add (mul (var 3) (var 9)) (mul (var 4) (var 10)))))
        (add (mul (var 3) (add (add (mul (var 0) (var 5)) (mul (var 1) (var 7))) (mul (var 2) (var 9))))
        (mul (var 4) (add (add (mul (var 0) (var 6)) (mul (var 1) (var 8))) (mul (var 2) (var 10)))))
        (z t.a ∷ z t.b ∷ z t.c ∷ α ∷ β ∷ bd ∷ be ∷ cd ∷ ce ∷ turn a b (at d) ∷ turn a b (at e) ∷ []) refl
        ∙ ap (λ n. α *ℤ n +ℤ β *ℤ lift at z t (at e)) h.level
        ∙ ap (λ n. α *ℤ (z d *ℤ area at t) +ℤ β *ℤ n) k.level
        ∙ by_ring (add (mul (var 0) (mul (var 1) (var 4))) (mul (var 2) (mul (var 3) (var 4))))
        (mul (add (mul (var 0) (var 1)) (mul (var 2) (var 3))) (var 4))
        (α ∷ z d ∷ β ∷ z e ∷ area at t ∷ []) refl

    -- ---- a triangle meets its corners
    pub meets_a : (t : Triple A) → pos 0 <ℤ area at t → Meets t t.a
    meets_a t h =
        let e = turned_on (at t.a) (at t.b) (at t.c) in let f = turn_at_second (at t.c) (at t.a) in
        let g = turn_at_first (at t.a) (at t.b) in
        record {
          holds = record {
            ab = omega (arith, ints, g);
            bc = omega (arith, ints, e, h);
            ca = omega (arith, ints, f);
          };
          level = at_a (z t.a) (z t.b) (z t.c) (area at t) (turn (at t.b) (at t.c) (at t.a))
              (turn (at t.c) (at t.a) (at t.a))
              (turn (at t.a) (at t.b) (at t.a)) e f g;
        }

    pub meets_b : (t : Triple A) → pos 0 <ℤ area at t → Meets t t.b
    meets_b t h =
        let e = turn_at_first (at t.b) (at t.c) in
        let f = turned_on (at t.b) (at t.c) (at t.a) ∙ turned_on (at t.a) (at t.b) (at t.c) in
        let g = turn_at_second (at t.a) (at t.b) in
        record {
          holds = record {
            ab = omega (arith, ints, g);
            bc = omega (arith, ints, e);
            ca = omega (arith, ints, f, h);
          };
          level = at_b (z t.a) (z t.b) (z t.c) (area at t) (turn (at t.b) (at t.c) (at t.b))
              (turn (at t.c) (at t.a) (at t.b))
              (turn (at t.a) (at t.b) (at t.b)) e f g;
        }

    pub meets_c : (t : Triple A) → pos 0 <ℤ area at t → Meets t t.c
    meets_c t h =
        let e = turn_at_second (at t.b) (at t.c) in let f = turn_at_first (at t.c) (at t.a) in
        record {
          holds = record { ab = weaken h; bc = omega (arith, ints, e); ca = omega (arith, ints, f) };
          level = at_c (z t.a) (z t.b) (z t.c) (area at t) (turn (at t.b) (at t.c) (at t.c))
              (turn (at t.c) (at t.a) (at t.c))
              (turn (at t.a) (at t.b) (at t.c)) e f refl;
        }

    -- ---- edges of a list
    -- some triangle has the edge from d to e
    abbrev pub HasEdge : A → A → List (Triple A) → Type 0
    HasEdge d e [] = ⊥
    HasEdge d e (t ∷ ts) = ((pos 0 <ℤ area at t) × Meets t d × Meets t e) ⊎ HasEdge d e ts

    pub edge_left : (d e : A) (ts us : List (Triple A)) → HasEdge d e ts → HasEdge d e (ts ++ us)
    edge_left d e [] us h = elim h [ ]
    edge_left d e (t ∷ ts) us (inl h) = inl h
    edge_left d e (t ∷ ts) us (inr h) = inr (edge_left d e ts us h)

    pub edge_right : (d e : A) (ts us : List (Triple A)) → HasEdge d e us → HasEdge d e (ts ++ us)
    edge_right d e [] us h = h
    edge_right d e (t ∷ ts) us h = inr (edge_right d e ts us h)

    pub edge_flip : (d e : A) (ts : List (Triple A)) → HasEdge d e ts → HasEdge e d ts
    edge_flip d e [] h = elim h [ ]
    edge_flip d e (t ∷ ts) (inl h) = inl (h.0, h.2, h.1)
    edge_flip d e (t ∷ ts) (inr h) = inr (edge_flip d e ts h)

    -- its ends, as edges from a corner to itself
    pub edge_end : (d e : A) (ts : List (Triple A)) → HasEdge d e ts → HasEdge e e ts
    edge_end d e [] h = elim h [ ]
    edge_end d e (t ∷ ts) (inl h) = inl (h.0, h.2, h.2)
    edge_end d e (t ∷ ts) (inr h) = inr (edge_end d e ts h)

    pub edge_shown : (d e : A) (p : Point) (α β : ℤ) (ts : List (Triple A)) → On (at d) (at e) p α β
        → HasEdge d e ts
        → Shown at z p (α +ℤ β) (α *ℤ z d +ℤ β *ℤ z e) ts
    edge_shown d e p α β [] o h = elim h [ ]
    edge_shown d e p α β (t ∷ ts) o (inl h) =
        inl (h.0, on_within t (at d) (at e) p α β o h.1.holds h.2.holds, on_level t d e p α β o h.1 h.2)
    edge_shown d e p α β (t ∷ ts) o (inr h) = inr (edge_shown d e p α β ts o h)

    -- two lists with one edge agree at its points
    pub edge_cross : (d e : A) (p : Point) (α β : ℤ) (ts us : List (Triple A)) → On (at d) (at e) p α β
        → HasEdge d e ts
        → HasEdge d e us → OneLevel at z p ts → OneLevel at z p us → Cross at z p ts us
    edge_cross d e p α β ts us o h k f g =
        let m = α +ℤ β in let l = α *ℤ z d +ℤ β *ℤ z e in
        cross_levels at z p m l ts us o.some (spread at z p m l ts f (edge_shown d e p α β ts o h))
        (spread at z p m l us g (edge_shown d e p α β us o k))

    -- ---- lines of edges
    -- the point lies on one of the edges
    abbrev pub Met : Point → List (Edge A) → Type 0
    Met p [] = ⊥
    Met p (e ∷ es) = ((α : ℤ) × (β : ℤ) × On (at e.from) (at e.to) p α β) ⊎ Met p es

    pub met_left : (p : Point) (es fs : List (Edge A)) → Met p es → Met p (es ++ fs)
    met_left p [] fs h = elim h [ ]
    met_left p (e ∷ es) fs (inl h) = inl h
    met_left p (e ∷ es) fs (inr h) = inr (met_left p es fs h)

    pub met_right : (p : Point) (es fs : List (Edge A)) → Met p fs → Met p (es ++ fs)
    met_right p [] fs h = h
    met_right p (e ∷ es) fs h = inr (met_right p es fs h)

    -- each edge of the line is one of the triangles'
    abbrev pub Shows : List (Edge A) → List (Triple A) → Type 0
    Shows es ts = AllByRecursion (λ e. HasEdge e.from e.to ts) es

    pub shows_left : (es : List (Edge A)) (ts us : List (Triple A)) → Shows es ts → Shows es (ts ++ us)
    shows_left [] ts us h = tt
    shows_left (e ∷ es) ts us h = (edge_left e.from e.to ts us h.0, shows_left es ts us h.1)

    pub shows_right : (es : List (Edge A)) (ts us : List (Triple A)) → Shows es us → Shows es (ts ++ us)
    shows_right [] ts us h = tt
    shows_right (e ∷ es) ts us h = (edge_right e.from e.to ts us h.0, shows_right es ts us h.1)

    pub shows_both : (es fs : List (Edge A)) (ts : List (Triple A)) → Shows es ts → Shows fs ts
        → Shows (es ++ fs) ts
    shows_both [] fs ts h k = k
    shows_both (e ∷ es) fs ts h k = (h.0, shows_both es fs ts h.1 k)

    pub shows_on : (es : List (Edge A)) (t : Triple A) (ts : List (Triple A)) → Shows es ts
        → Shows es (t ∷ ts)
    shows_on [] t ts h = tt
    shows_on (e ∷ es) t ts h = (inr h.0, shows_on es t ts h.1)

    pub shows_first : (es fs : List (Edge A)) (ts : List (Triple A)) → Shows (es ++ fs) ts → Shows es ts
    shows_first [] fs ts h = tt
    shows_first (e ∷ es) fs ts h = (h.0, shows_first es fs ts h.1)

    pub shows_second : (es fs : List (Edge A)) (ts : List (Triple A)) → Shows (es ++ fs) ts → Shows fs ts
    shows_second [] fs ts h = h
    shows_second (e ∷ es) fs ts h = shows_second es fs ts h.1

    -- two lists that show one line agree at its points
    pub line_crosses : (p : Point) (es : List (Edge A)) (ts us : List (Triple A)) → Met p es → Shows es ts
        → Shows es us
        → OneLevel at z p ts → OneLevel at z p us → Cross at z p ts us
    line_crosses p [] ts us m h k f g = elim m [ ]
    line_crosses p (e ∷ es) ts us (inl m) h k f g = edge_cross e.from e.to p m.0 m.1 ts us m.2 h.0 k.0 f g
    line_crosses p (e ∷ es) ts us (inr m) h k f g = line_crosses p es ts us m h.1 k.1 f g

-- ---- chains of edges, and those of a fan
abbrev pub chain : {A : Type 0} → A → List A → List (Edge A)
chain o [] = []
chain o (r ∷ rs) = record { from = o; to = r } ∷ chain r rs

pub chain_append : {A : Type 0} (o e : A) (xs rest : List A)
    → chain o ((xs ++ e ∷ []) ++ rest) ≡ chain o (xs ++ e ∷ []) ++ chain e rest
chain_append {A} o e [] rest = refl
chain_append {A} o e (x ∷ xs) rest =
    ap (λ (es : List (Edge A)). record { from = o; to = x } ∷ es) (chain_append x e xs rest)

pub fan_shows : {A : Type 0} (at : A → Point) (z : A → ℤ) (c o : A) (rs : List A)
    → AllByRecursion (IsCcw at) (fan c o rs)
    → Shows at z (chain o rs) (fan c o rs)
fan_shows at z c o [] h = tt
fan_shows {A} at z c o (r ∷ rs) h =
    let t : Triple A = record { a = c; b = o; c = r } in (
      inl (h.0, meets_b at z t h.0, meets_c at z t h.0),
      shows_on at z (chain r rs) t (fan c r rs) (fan_shows at z c r rs h.1),
    )
