-- Two lists of triangles on the two sides of a line hold no point strictly twice.
use Rattle.std.proofs.Common.{◌≡◌, refl, ap, sym, arith, ◌∙◌, List, [], ◌∷◌, ◌++◌, map, inl, inr, subst}
use Rattle.std.specs.Prelude.{ℤ, pos, ◌+ℤ◌, ◌-ℤ◌, ◌*ℤ◌, ◌≤ℤ◌, ◌<ℤ◌}
use Rattle.std.specs.List.{AllByRecursion}
use Rattle.std.proofs.lemmas.Int.{ints, by_lt_z}
use Rattle.polynomial.proofs.Expressions.{var, num, add, sub, mul}
use Rattle.polynomial.proofs.NormalForm.{by_ring}
use Rattle.polynomial.proofs.Signs.{times_nonneg, factor_nought, weaken}
use Rattle.mesh_plane.specs.declared.corner.Corner.{Corner}
use Rattle.mesh_plane.specs.declared.corner.Tri.{Tri}
use Rattle.mesh_plane.specs.Plane.{Point, point, place_at, side_of}
use Rattle.mesh_plane.specs.Triangles.{Triple}
use Rattle.mesh_plane.specs.Cover.{HeldOnce}
use Rattle.mesh_plane.specs.Join.{IsLeftOf, JoinLaw}
use Rattle.mesh_plane.proofs.Turns.{turn, turned, turned_points, points, turned_back, three_sides}
use Rattle.mesh_plane.proofs.Tilings.{Inside, HeldInside, NoneTwice, none_twice}
use Rattle.mesh_plane.proofs.Scales.{placed, scaled, once_in, once_out}
use Rattle.mesh_plane.proofs.ListWords.{all_to}

-- a point of the plane by the three sides of a triangle, for the line through d and e
pub by_sides : (a b c d e p : Point)
    → turn a b c *ℤ turn d e p
    ≡ (turn b c p *ℤ turn d e a +ℤ turn c a p *ℤ turn d e b) +ℤ turn a b p *ℤ turn d e c
by_sides a b c d e p =
    by_ring (mul (turned_points 0 1 2) (turned_points 3 4 5))
    (add (add (mul (turned_points 1 2 5) (turned_points 3 4 0))
    (mul (turned_points 2 0 5) (turned_points 3 4 1)))
    (mul (turned_points 0 1 5) (turned_points 3 4 2)))
    (points (a ∷ b ∷ c ∷ d ∷ e ∷ p ∷ [])) refl

-- the area of a triangle by how far its corners are from a line
along_u : (a b c d e : Point) → turn a b c *ℤ (e.u -ℤ d.u)
    ≡ (b.u -ℤ a.u) *ℤ (turn d e c -ℤ turn d e a) -ℤ (c.u -ℤ a.u) *ℤ (turn d e b -ℤ turn d e a)
along_u a b c d e =
    by_ring (mul (turned_points 0 1 2) (sub (var 8) (var 6)))
    (sub (mul (sub (var 2) (var 0)) (sub (turned_points 3 4 2) (turned_points 3 4 0)))
    (mul (sub (var 4) (var 0)) (sub (turned_points 3 4 1) (turned_points 3 4 0))))
    (points (a ∷ b ∷ c ∷ d ∷ e ∷ [])) refl

along_v : (a b c d e : Point) → turn a b c *ℤ (e.v -ℤ d.v)
    ≡ (b.v -ℤ a.v) *ℤ (turn d e c -ℤ turn d e a) -ℤ (c.v -ℤ a.v) *ℤ (turn d e b -ℤ turn d e a)
along_v a b c d e =
    by_ring (mul (turned_points 0 1 2) (sub (var 9) (var 7)))
    (sub (mul (sub (var 3) (var 1)) (sub (turned_points 3 4 2) (turned_points 3 4 0)))
    (mul (sub (var 5) (var 1)) (sub (turned_points 3 4 1) (turned_points 3 4 0))))
    (points (a ∷ b ∷ c ∷ d ∷ e ∷ [])) refl

flat : (x y a b c : ℤ) → a ≡ pos 0 → b ≡ pos 0 → c ≡ pos 0 → x *ℤ (c -ℤ a) -ℤ y *ℤ (b -ℤ a) ≡ pos 0
flat x y a b c ha hb hc =
    ap (λ i. x *ℤ (c -ℤ i) -ℤ y *ℤ (b -ℤ i)) ha ∙ ap (λ i. x *ℤ (c -ℤ pos 0) -ℤ y *ℤ (i -ℤ pos 0)) hb
    ∙ ap (λ i. x *ℤ (i -ℤ pos 0) -ℤ y *ℤ (pos 0 -ℤ pos 0)) hc
    ∙ by_ring (sub (mul (var 0) (sub (num 0) (num 0))) (mul (var 1) (sub (num 0) (num 0)))) (num 0)
    (x ∷ y ∷ []) refl

not_above : (a w : ℤ) → pos 0 <ℤ a → w ≤ℤ pos 0 → (a *ℤ w) ≤ℤ pos 0
not_above a w h k =
    omega (
      arith,
      ints,
      times_nonneg a (pos 0 -ℤ w) (weaken h) (omega (arith, ints, k)),
      by_ring (mul (var 0) (sub (num 0) (var 1))) (sub (num 0) (mul (var 0) (var 1))) (a ∷ w ∷ []) refl,
    )

-- three products that are not below 0, with a sum that is not above it
all_nought : (x y w a b c : ℤ) → pos 0 <ℤ x → pos 0 <ℤ y → pos 0 <ℤ w → pos 0 ≤ℤ a → pos 0 ≤ℤ b → pos 0 ≤ℤ c
    → ((x *ℤ a +ℤ y *ℤ b) +ℤ w *ℤ c) ≤ℤ pos 0 → (a ≡ pos 0) × (b ≡ pos 0) × (c ≡ pos 0)
all_nought x y w a b c hx hy hw ha hb hc l =
    let p = times_nonneg x a (weaken hx) ha in let q = times_nonneg y b (weaken hy) hb in
    let r = times_nonneg w c (weaken hw) hc in (
      factor_nought x a hx (omega (arith, ints, p, q, r, l)),
      factor_nought y b hy (omega (arith, ints, p, q, r, l)),
      factor_nought w c hw (omega (arith, ints, p, q, r, l)),
    )

module _ {A : Type 0} (at : A → Point) where
  -- the corners are on the closed left side of the line from d to e
  pub record LeftOf (d e : Point) (t : Triple A) : Type 0 where
    pub a : pos 0 ≤ℤ turn d e (at t.a)
    pub b : pos 0 ≤ℤ turn d e (at t.b)
    pub c : pos 0 ≤ℤ turn d e (at t.c)

  -- so is what the triangle holds strictly, and not on the line
  strictly_left : (d e p : Point) (t : Triple A) → ¬ ((d.u ≡ e.u) × (d.v ≡ e.v)) → LeftOf d e t
      → Inside at t p → pos 0 <ℤ turn d e p
  strictly_left d e p t apart l i =
      by_lt_z (pos 0) (turn d e p) (λ k. k) (λ k.
      let a = at t.a in let b = at t.b in let c = at t.c in
      let big : pos 0 <ℤ turn a b c = omega (arith, ints, three_sides a b c p, i.ab, i.bc, i.ca) in
      let n : (turn d e a ≡ pos 0) × (turn d e b ≡ pos 0) × (turn d e c ≡ pos 0) =
      all_nought (turn b c p) (turn c a p) (turn a b p) (turn d e a) (turn d e b)
      (turn d e c) i.bc i.ca i.ab l.a l.b l.c
      (omega (arith, ints, by_sides a b c d e p, not_above (turn a b c) (turn d e p) big k)) in
      let u : e.u -ℤ d.u ≡ pos 0 = factor_nought (turn a b c) (e.u -ℤ d.u) big
      (along_u a b c d e
      ∙ flat (b.u -ℤ a.u) (c.u -ℤ a.u) (turn d e a) (turn d e b) (turn d e c) n.0 n.1 n.2) in
      let v : e.v -ℤ d.v ≡ pos 0 = factor_nought (turn a b c) (e.v -ℤ d.v) big
      (along_v a b c d e
      ∙ flat (b.v -ℤ a.v) (c.v -ℤ a.v) (turn d e a) (turn d e b) (turn d e c) n.0 n.1 n.2) in
      absurd (apart (omega (arith, ints, u), omega (arith, ints, v))))

  all_left : (d e p : Point) (ts : List (Triple A)) → ¬ ((d.u ≡ e.u) × (d.v ≡ e.v))
      → AllByRecursion (LeftOf d e) ts
      → HeldInside at p ts → pos 0 <ℤ turn d e p
  all_left d e p [] apart l h = elim h [ ]
  all_left d e p (t ∷ ts) apart l (inl h) = strictly_left d e p t apart l.0 h
  all_left d e p (t ∷ ts) apart l (inr h) = all_left d e p ts apart l.1 h

  pub join_once : (d e p : Point) (ts us : List (Triple A)) → ¬ ((d.u ≡ e.u) × (d.v ≡ e.v))
      → AllByRecursion (LeftOf d e) ts
      → AllByRecursion (LeftOf e d) us → NoneTwice at p ts → NoneTwice at p us → NoneTwice at p (ts ++ us)
  join_once d e p ts us apart l m h k =
      none_twice at p ts us h k (λ x y.
      let a = all_left d e p ts apart l x in
      let b = all_left e d p us (λ n. apart (sym n.0, sym n.1)) m y in
      omega (arith, ints, a, b, turned_back d e p))

-- ---- the law
abbrev place : Corner → Point
place k = point k.u k.v

abbrev height : Corner → ℤ
height k = k.h

abbrev corners_of : Tri → Triple Corner
corners_of t = record { a = t.a; b = t.b; c = t.c }

same_tris : (ts : List Tri) → map (placed place height) (map corners_of ts) ≡ ts
same_tris [] = refl
same_tris (t ∷ ts) = ap (λ (us : List Tri). t ∷ us) (same_tris ts)

both_lists : (ts us : List Tri) → map corners_of (ts ++ us) ≡ map corners_of ts ++ map corners_of us
both_lists [] us = refl
both_lists (t ∷ ts) us = ap (λ (vs : List (Triple Corner)). corners_of t ∷ vs) (both_lists ts us)

left_scaled : (s : ℤ) → pos 1 ≤ℤ s → (d e k : Corner) → pos 0 ≤ℤ side_of d e (pos 1) k.u k.v
    → pos 0 ≤ℤ turn (place_at s d) (place_at s e) (place_at s k)
left_scaled s h d e k l =
    let n = times_nonneg s (s *ℤ side_of d e (pos 1) k.u k.v) (omega (arith, ints, h))
    (times_nonneg s (side_of d e (pos 1) k.u k.v) (omega (arith, ints, h)) l) in
    omega (
      arith,
      ints,
      n,
      by_ring
          (mul (var 0)
          (mul (var 0)
          (sub (mul (sub (var 3) (var 1)) (sub (var 6) (mul (num 1) (var 2))))
          (mul (sub (var 4) (var 2)) (sub (var 5) (mul (num 1) (var 1)))))))
          (turned (mul (var 0) (var 1)) (mul (var 0) (var 2)) (mul (var 0) (var 3)) (mul (var 0) (var 4))
          (mul (var 0) (var 5)) (mul (var 0) (var 6)))
          (s ∷ d.u ∷ d.v ∷ e.u ∷ e.v ∷ k.u ∷ k.v ∷ []) refl,
    )

lefts_scaled : (s : ℤ) → pos 1 ≤ℤ s → (d e : Corner) (ts : List Tri) → AllByRecursion (IsLeftOf d e) ts
    → AllByRecursion (LeftOf (scaled place height s) (place_at s d) (place_at s e)) (map corners_of ts)
lefts_scaled s h d e [] l = tt
lefts_scaled s h d e (t ∷ ts) l = (
  record {
    a = left_scaled s h d e t.a l.0.a;
    b = left_scaled s h d e t.b l.0.b;
    c = left_scaled s h d e t.c l.0.c;
  },
  lefts_scaled s h d e ts l.1,
)

same_scaled : (s a b : ℤ) → pos 1 ≤ℤ s → s *ℤ a ≡ s *ℤ b → a ≡ b
same_scaled s a b h e =
    let n : a -ℤ b ≡ pos 0 = factor_nought s (a -ℤ b) (omega (arith, ints, h))
    (omega (
      arith,
      ints,
      e,
      by_ring (mul (var 0) (sub (var 1) (var 2))) (sub (mul (var 0) (var 1)) (mul (var 0) (var 2)))
          (s ∷ a ∷ b ∷ []) refl,
    )) in
    omega (arith, ints, n)

pub join_law : JoinLaw
join_law ts us d e apart l m s x y h i j =
    let at = scaled place height s in
    let once_of = λ (vs : List Tri) (k : HeldOnce s x y vs).
    once_in place height s x y h (map corners_of vs)
    (subst (λ (ws : List Tri). HeldOnce s x y ws) (sym (same_tris vs)) k) in
    let both : NoneTwice at (point x y) (map corners_of ts ++ map corners_of us) =
    join_once at (place_at s d) (place_at s e) (point x y) (map corners_of ts) (map corners_of us)
    (λ n. apart (same_scaled s d.u e.u h n.0, same_scaled s d.v e.v h n.1))
    (lefts_scaled s h d e ts (all_to (IsLeftOf d e) ts l))
    (lefts_scaled s h e d us (all_to (IsLeftOf e d) us m))
    (once_of ts i) (once_of us j) in
    subst (λ (ws : List Tri). HeldOnce s x y ws) (same_tris (ts ++ us))
    (once_out place height s x y h (map corners_of (ts ++ us))
    (subst (λ (ws : List (Triple Corner)). NoneTwice at (point x y) ws) (sym (both_lists ts us)) both))
