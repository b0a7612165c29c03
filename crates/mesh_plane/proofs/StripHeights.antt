-- Strips have one height at each point, and show the edges along their lines and their ends.
use Rattle.std.proofs.Common.{◌≡◌, refl, ap, sym, arith, ◌∙◌, List, [], ◌∷◌, ◌++◌, inl, inr, subst}
use Rattle.std.specs.Prelude.{ℤ, pos, ◌+ℤ◌, ◌-ℤ◌, ◌*ℤ◌, ◌≤ℤ◌, ◌<ℤ◌}
use Rattle.std.specs.List.{AllByRecursion}
use Rattle.std.proofs.lemmas.Int.{ints}
use Rattle.polynomial.proofs.Expressions.{var, add, sub, mul}
use Rattle.polynomial.proofs.NormalForm.{by_ring}
use Rattle.mesh_plane.specs.Plane.{Point}
use Rattle.terrain_base.specs.declared.side.Side.{Side}
use Rattle.terrain_base.specs.declared.side.Side.TheVariants.{South, East, North, West}
use Rattle.mesh_plane.specs.Triangles.{Triple, Step, Outer, Inner, cornered, strip, outer_end, inner_end}
use Rattle.mesh_plane.specs.Strip.{across, IsOutside, Ascend}
use Rattle.mesh_plane.proofs.Turns.{turn, turned_back}
use Rattle.mesh_plane.proofs.Tilings.{IsCcw, area, Held}
use Rattle.mesh_plane.proofs.Moves.{swapped, turn_swapped}
use Rattle.mesh_plane.proofs.Sweeps.{sweep}
use Rattle.mesh_plane.proofs.Sides.{reach, depth, depth_above}
use Rattle.mesh_plane.proofs.Strips.{seen, faced, rise, seen_at, strip_is, no_rise, full_rise, strip_moves}
use Rattle.mesh_plane.proofs.Heights.{OneLevel, Cross, cross_when, one_append, cross_right}
use Rattle.mesh_plane.proofs.Edges.{On, Meets, meets_a, meets_b, meets_c, HasEdge, edge_cross, Shows, shows_on, chain}
use Rattle.mesh_plane.proofs.SweepHeights.{SameHeights, sweep_one, one_moved, unmoved_same, flipped_same}

-- the points of each line, in their order
abbrev pub outers : {A : Type 0} → List (Step A) → List A
outers [] = []
outers (Outer x ∷ steps) = x ∷ outers steps
outers (Inner x ∷ steps) = outers steps

abbrev pub inners : {A : Type 0} → List (Step A) → List A
inners [] = []
inners (Outer x ∷ steps) = inners steps
inners (Inner x ∷ steps) = x ∷ inners steps

-- a point of the segment from a on the outer line to b on the inner one
v_segment : (w pu pv au av bu bv : ℤ) → bv -ℤ av ≡ w
    → (bu -ℤ au) *ℤ (pv -ℤ av) -ℤ (bv -ℤ av) *ℤ (pu -ℤ au) ≡ pos 0
    → (w -ℤ (pv -ℤ av)) *ℤ au +ℤ (pv -ℤ av) *ℤ bu ≡ w *ℤ pu
v_segment w pu pv au av bu bv e t =
    let f : (bu -ℤ au) *ℤ (pv -ℤ av) -ℤ w *ℤ (pu -ℤ au) ≡ pos 0 =
    ap (λ i. (bu -ℤ au) *ℤ (pv -ℤ av) -ℤ i *ℤ (pu -ℤ au)) (sym e) ∙ t in
    omega (
      arith,
      ints,
      f,
      by_ring (sub
          (add (mul (sub (var 0) (sub (var 2) (var 4))) (var 3)) (mul (sub (var 2) (var 4)) (var 5)))
          (mul (var 0) (var 1)))
          (sub (mul (sub (var 5) (var 3)) (sub (var 2) (var 4))) (mul (var 0) (sub (var 1) (var 3))))
          (w ∷ pu ∷ pv ∷ au ∷ av ∷ bu ∷ []) refl,
    )

module _ (a b p : Point) where
  -- by the height above the line of a, from which b is w away
  rising_on : (w : ℤ) → pos 0 <ℤ w → b.v -ℤ a.v ≡ w → turn a b p ≡ pos 0 → pos 0 ≤ℤ (p.v -ℤ a.v)
      → (p.v -ℤ a.v) ≤ℤ w
      → On a b p (w -ℤ (p.v -ℤ a.v)) (p.v -ℤ a.v)
  rising_on w hw e t k l = record {
    from = omega (arith, ints, l);
    to = k;
    some = omega (arith, ints, hw);
    u = by_ring (mul (add (sub (var 0) (var 1)) (var 1)) (var 2)) (mul (var 0) (var 2))
        (w ∷ (p.v -ℤ a.v) ∷ p.u ∷ []) refl
        ∙ sym (v_segment w p.u p.v a.u a.v b.u b.v e t);
    v = by_ring (mul (add (sub (var 0) (sub (var 1) (var 2))) (sub (var 1) (var 2))) (var 1))
        (add (mul (sub (var 0) (sub (var 1) (var 2))) (var 2))
        (mul (sub (var 1) (var 2)) (add (var 2) (var 0)))) (w ∷ p.v ∷ a.v ∷ []) refl
        ∙ ap (λ i. (w -ℤ (p.v -ℤ a.v)) *ℤ a.v +ℤ (p.v -ℤ a.v) *ℤ i) (omega (arith, ints, e));
  }

on_flip : (a b p : Point) (α β : ℤ) → On a b p β α → On b a p α β
on_flip a b p α β o =
    let e : α +ℤ β ≡ β +ℤ α = omega (arith, ints) in
    record {
      from = o.to;
      to = o.from;
      some = omega (arith, ints, o.some);
      u = ap (λ i. i *ℤ p.u) e ∙ o.u ∙ omega (arith, ints);
      v = ap (λ i. i *ℤ p.v) e ∙ o.v ∙ omega (arith, ints);
    }

pub on_swapped : (a b p : Point) (α β : ℤ) → On (swapped a) (swapped b) (swapped p) α β → On a b p α β
on_swapped a b p α β o = record { from = o.from; to = o.to; some = o.some; u = o.v; v = o.u }

-- the point lies on the segment from a to b, with some weights
abbrev pub IsOn : Point → Point → Point → Type 0
IsOn a b p = (α : ℤ) × (β : ℤ) × On a b p α β

pub is_on_swapped : (a b p : Point) → IsOn (swapped a) (swapped b) (swapped p) → IsOn a b p
is_on_swapped a b p o = (o.0, o.1, on_swapped a b p o.0 o.1 o.2)

-- what lies between the lines of a strip, and on the line through a on the outer and b on the inner one, lies on the
-- segment that joins them
south_on : (outer inner : ℤ) (a b p : Point) → outer <ℤ inner → a.v ≡ outer → b.v ≡ inner → turn a b p ≡ pos 0
    → outer ≤ℤ p.v → p.v ≤ℤ inner → IsOn a b p
south_on outer inner a b p l ea eb t k m = (
  inner -ℤ outer -ℤ (p.v -ℤ a.v),
  p.v -ℤ a.v,
  rising_on a b p (inner -ℤ outer) (omega (arith, ints, l)) (omega (arith, ints, ea, eb)) t
      (omega (arith, ints, ea, k)) (omega (arith, ints, ea, m)),
)

north_on : (outer inner : ℤ) (a b p : Point) → inner <ℤ outer → a.v ≡ outer → b.v ≡ inner → turn a b p ≡ pos 0
    → inner ≤ℤ p.v → p.v ≤ℤ outer → IsOn a b p
north_on outer inner a b p l ea eb t k m =
    let on = south_on inner outer b a p l eb ea (omega (arith, ints, t, turned_back a b p)) k m in
    (on.1, on.0, on_flip b a p on.1 on.0 on.2)

pub segment_on : (side : Side) (outer inner : ℤ) (a b p : Point) → IsOutside side outer inner
    → across side a ≡ outer
    → across side b ≡ inner → turn a b p ≡ pos 0 → pos 0 ≤ℤ reach side outer p
    → reach side outer p ≤ℤ depth side outer inner
    → IsOn a b p
segment_on South outer inner a b p l ea eb t k m =
    south_on outer inner a b p l ea eb t (omega (arith, ints, k)) (omega (arith, ints, m))
segment_on North outer inner a b p l ea eb t k m =
    north_on outer inner a b p l ea eb t (omega (arith, ints, m)) (omega (arith, ints, k))
segment_on West outer inner a b p l ea eb t k m =
    is_on_swapped a b p
    (south_on outer inner (swapped a) (swapped b) (swapped p) l ea eb
    (omega (arith, ints, t, turn_swapped a b p, turned_back a b p)) (omega (arith, ints, k)) (omega (arith, ints, m)))
segment_on East outer inner a b p l ea eb t k m =
    is_on_swapped a b p
    (north_on outer inner (swapped a) (swapped b) (swapped p) l ea eb
    (omega (arith, ints, t, turn_swapped a b p, turned_back a b p)) (omega (arith, ints, m)) (omega (arith, ints, k)))

module _ {A : Type 0} (at : A → Point) (z : A → ℤ) where
  -- ---- one height
  faced_same : (side : Side) → SameHeights (seen_at at side) at z (faced side) (seen side)
  faced_same South = unmoved_same at z
  faced_same East = unmoved_same at z
  faced_same North = flipped_same at z
  faced_same West = flipped_same at z

  pub strip_one : (p : Point) (side : Side) (outer inner : ℤ) (o n : A) (t : Step A) (steps : List (Step A))
      → IsOutside side outer inner
      → across side (at o) ≡ outer → across side (at n) ≡ inner → Ascend at side outer inner o n (t ∷ steps)
      → OneLevel at z p (strip side o n (t ∷ steps))
  strip_one p side outer inner o n t steps l ho hn s =
      subst (λ (ts : List (Triple A)). OneLevel at z p ts) (strip_is at side o n (t ∷ steps))
      (one_moved (seen_at at side) at z (faced side) (seen side) (faced_same side) p
      (sweep (seen_at at side) o n (t ∷ steps))
      (sweep_one (seen_at at side) z (seen side p) (rise side outer) (depth side outer inner) o n t steps
      (depth_above side outer inner l) (no_rise at side outer inner o ho) (full_rise at side outer inner n hn)
      (strip_moves at side outer inner o n (t ∷ steps) ho hn s)))

  -- ---- edges
  -- a triangle of a strip meets its outer point, its inner one and the next point
  meets_all : (side : Side) (o n x : A) → let t = cornered side o n x in
      pos 0 <ℤ area at t → Meets at z t o × Meets at z t n × Meets at z t x
  meets_all South o n x h =
      let t = cornered South o n x in (meets_a at z t h, meets_c at z t h, meets_b at z t h)
  meets_all East o n x h =
      let t = cornered East o n x in (meets_a at z t h, meets_c at z t h, meets_b at z t h)
  meets_all North o n x h =
      let t = cornered North o n x in (meets_a at z t h, meets_b at z t h, meets_c at z t h)
  meets_all West o n x h =
      let t = cornered West o n x in (meets_a at z t h, meets_b at z t h, meets_c at z t h)

  module _ (side : Side) where
    pub shows_outer : (o n : A) (steps : List (Step A)) → AllByRecursion (IsCcw at) (strip side o n steps)
        → Shows at z (chain o (outers steps)) (strip side o n steps)
    shows_outer o n [] h = tt
    shows_outer o n (Outer x ∷ steps) h = (
      inl (h.0, (meets_all side o n x h.0).0, (meets_all side o n x h.0).2),
      shows_on at z (chain x (outers steps)) (cornered side o n x) (strip side x n steps)
          (shows_outer x n steps h.1),
    )
    shows_outer o n (Inner x ∷ steps) h =
        shows_on at z (chain o (outers steps)) (cornered side o n x) (strip side o x steps)
        (shows_outer o x steps h.1)

    pub shows_inner : (o n : A) (steps : List (Step A)) → AllByRecursion (IsCcw at) (strip side o n steps)
        → Shows at z (chain n (inners steps)) (strip side o n steps)
    shows_inner o n [] h = tt
    shows_inner o n (Outer x ∷ steps) h =
        shows_on at z (chain n (inners steps)) (cornered side o n x) (strip side x n steps)
        (shows_inner x n steps h.1)
    shows_inner o n (Inner x ∷ steps) h = (
      inl (h.0, (meets_all side o n x h.0).1, (meets_all side o n x h.0).2),
      shows_on at z (chain x (inners steps)) (cornered side o n x) (strip side o x steps)
          (shows_inner o x steps h.1),
    )

    pub first_edge : (o n : A) (t : Step A) (steps : List (Step A))
        → AllByRecursion (IsCcw at) (strip side o n (t ∷ steps))
        → HasEdge at z o n (strip side o n (t ∷ steps))
    first_edge o n (Outer x) steps h = inl (h.0, (meets_all side o n x h.0).0, (meets_all side o n x h.0).1)
    first_edge o n (Inner x) steps h = inl (h.0, (meets_all side o n x h.0).0, (meets_all side o n x h.0).1)

    pub last_edge : (o n : A) (t : Step A) (steps : List (Step A))
        → AllByRecursion (IsCcw at) (strip side o n (t ∷ steps))
        → HasEdge at z (outer_end o (t ∷ steps)) (inner_end n (t ∷ steps)) (strip side o n (t ∷ steps))
    last_edge o n (Outer x) [] h = inl (h.0, (meets_all side o n x h.0).2, (meets_all side o n x h.0).1)
    last_edge o n (Inner x) [] h = inl (h.0, (meets_all side o n x h.0).0, (meets_all side o n x h.0).2)
    last_edge o n (Outer x) (t ∷ steps) h = inr (last_edge x n t steps h.1)
    last_edge o n (Inner x) (t ∷ steps) h = inr (last_edge o x t steps h.1)

  -- ---- two strips that meet in the segment from a to b agree
  pub segment_cross : (p : Point) (side : Side) (outer inner : ℤ) (a b : A) (ts us : List (Triple A))
      → IsOutside side outer inner
      → across side (at a) ≡ outer → across side (at b) ≡ inner
      → (Held at p ts → (pos 0 ≤ℤ reach side outer p) × (reach side outer p ≤ℤ depth side outer inner))
      → (Held at p ts → Held at p us → turn (at a) (at b) p ≡ pos 0)
      → HasEdge at z a b ts → HasEdge at z a b us → OneLevel at z p ts → OneLevel at z p us
      → Cross at z p ts us
  segment_cross p side outer inner a b ts us l ha hb between meet e f one two =
      cross_when at z p ts us (λ i j.
      let k = between i in
      let on = segment_on side outer inner (at a) (at b) p l ha hb (meet i j) k.0 k.1 in
      edge_cross at z a b p on.0 on.1 ts us on.2 e f one two)

  -- five lists, of which each two agree
  pub five_levels : (p : Point) (s e n w q : List (Triple A)) → OneLevel at z p s → OneLevel at z p e
      → OneLevel at z p n
      → OneLevel at z p w → OneLevel at z p q → Cross at z p s e → Cross at z p s n → Cross at z p s w
      → Cross at z p s q
      → Cross at z p e n → Cross at z p e w → Cross at z p e q → Cross at z p n w → Cross at z p n q
      → Cross at z p w q
      → OneLevel at z p (s ++ (e ++ (n ++ (w ++ q))))
  five_levels p s e n w q os oe on ow oq se sn sw sq en ew eq nw nq wq =
      one_append at z p s (e ++ (n ++ (w ++ q))) os
      (one_append at z p e (n ++ (w ++ q)) oe
      (one_append at z p n (w ++ q) on (one_append at z p w q ow oq wq) (cross_right at z p n w q nw nq))
      (cross_right at z p e n (w ++ q) en (cross_right at z p e w q ew eq)))
      (cross_right at z p s e (n ++ (w ++ q)) se
      (cross_right at z p s n (w ++ q) sn (cross_right at z p s w q sw sq)))
