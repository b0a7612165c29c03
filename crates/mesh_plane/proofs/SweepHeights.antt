-- Sweeps, strips and fans have one height at each point.
use Rattle.std.proofs.Common.{◌≡◌, refl, ap, sym, arith, ◌∙◌, List, [], ◌∷◌, map, inl, ⊎_elim}
use Rattle.std.specs.Prelude.{ℤ, pos, ◌*ℤ◌, ◌≤ℤ◌, ◌<ℤ◌}
use Rattle.std.specs.List.{AllByRecursion}
use Rattle.std.proofs.lemmas.Int.{ints}
use Rattle.mesh_plane.specs.Plane.{Point}
use Rattle.mesh_plane.specs.Triangles.{Triple, Step, Outer, Inner}
use Rattle.mesh_plane.proofs.Turns.{turn, turned_on}
use Rattle.mesh_plane.proofs.Tilings.{IsCcw, area, Within, Held}
use Rattle.mesh_plane.proofs.Moves.{Alike, same_alike, swapped, flipped, flipped_alike, turn_swapped, shifted, shifted_alike}
use Rattle.mesh_plane.proofs.Sweeps.{Moves, sweep, sweep_tiles}
use Rattle.mesh_plane.proofs.Heights.{lift, Agree, Each, OneLevel, Cross, cross_when, one_append}
use Rattle.mesh_plane.proofs.Edges.{on_side, Meets, meets_a, meets_b, meets_c, HasEdge, edge_cross}

module _ {A : Type 0} (at : A → Point) (z : A → ℤ) where
  -- one triangle
  pub one_alone : (p : Point) (t : Triple A) → OneLevel at z p (t ∷ [])
  one_alone p t = ((λ i. tt), tt)

  -- the first segment of a sweep, as an edge
  first_segment : (o n : A) (s : Step A) (steps : List (Step A))
      → AllByRecursion (IsCcw at) (sweep at o n (s ∷ steps))
      → HasEdge at z o n (sweep at o n (s ∷ steps))
  first_segment o n (Outer x) steps h =
      let t : Triple A = record { a = o; b = x; c = n } in inl (h.0, meets_a at z t h.0, meets_c at z t h.0)
  first_segment o n (Inner x) steps h =
      let t : Triple A = record { a = o; b = x; c = n } in inl (h.0, meets_a at z t h.0, meets_c at z t h.0)

  -- a triangle and a sweep that begins with its side from x to n, or from o to x
  module _ (p : Point) where
    -- in general, with its side from d to e, to the left of which lies f
    side_cross : (t : Triple A) (d e f : A) (us : List (Triple A)) → pos 0 <ℤ area at t
        → pos 0 <ℤ turn (at f) (at d) (at e)
        → (Within at t p → (pos 0 ≤ℤ turn (at d) (at e) p) × (pos 0 ≤ℤ turn (at e) (at f) p)
        × (pos 0 ≤ℤ turn (at f) (at d) p))
        → Meets at z t d → Meets at z t e → HasEdge at z d e us → OneLevel at z p us
        → (Held at p us → turn (at d) (at e) p ≤ℤ pos 0) → Cross at z p (t ∷ []) us
    side_cross t d e f us h left within md me edge one right =
        cross_when at z p (t ∷ []) us (λ i j. ⊎_elim
        (λ (w : Within at t p).
        let k = within w in
        edge_cross at z d e p (turn (at e) (at f) p) (turn (at f) (at d) p) (t ∷ []) us
        (on_side (at f) (at d) (at e) p left (omega (arith, ints, k.0, right j)) k.1 k.2)
        (inl (h, md, me)) edge (one_alone p t) one)
        (λ k. absurd k) i)

    outer_cross : (o n x : A) (us : List (Triple A)) → pos 0 <ℤ area at (record { a = o; b = x; c = n })
        → HasEdge at z x n us
        → OneLevel at z p us → (Held at p us → turn (at x) (at n) p ≤ℤ pos 0)
        → Cross at z p (record { a = o; b = x; c = n } ∷ []) us
    outer_cross o n x us h =
        let t : Triple A = record { a = o; b = x; c = n } in
        side_cross t x n o us h h (λ w. (w.bc, w.ca, w.ab)) (meets_b at z t h) (meets_c at z t h)

    inner_cross : (o n x : A) (us : List (Triple A)) → pos 0 <ℤ area at (record { a = o; b = x; c = n })
        → HasEdge at z o x us
        → OneLevel at z p us → (Held at p us → turn (at o) (at x) p ≤ℤ pos 0)
        → Cross at z p (record { a = o; b = x; c = n } ∷ []) us
    inner_cross o n x us h =
        let t : Triple A = record { a = o; b = x; c = n } in
        side_cross t o x n us h (omega (arith, ints, h, turned_on (at n) (at o) (at x)))
        (λ w. (w.ab, w.bc, w.ca)) (meets_a at z t h) (meets_b at z t h)

    pub sweep_one : (h : Point → ℤ) (m : ℤ) (o n : A) (s : Step A) (steps : List (Step A)) → pos 0 <ℤ m
        → h (at o) ≡ pos 0
        → h (at n) ≡ m → Moves at h m o n (s ∷ steps) → OneLevel at z p (sweep at o n (s ∷ steps))
    sweep_one h m o n (Outer x) [] hm ho hn s = one_alone p (record { a = o; b = x; c = n })
    sweep_one h m o n (Inner x) [] hm ho hn s = one_alone p (record { a = o; b = x; c = n })
    sweep_one h m o n (Outer x) (t ∷ steps) hm ho hn s =
        let whole = sweep_tiles at h m o n (Outer x) (t ∷ steps) hm ho hn s in
        let rest = sweep_tiles at h m x n t steps hm s.1 hn s.2 in
        let us = sweep at x n (t ∷ steps) in
        let one = sweep_one h m x n t steps hm s.1 hn s.2 in
        one_append at z p (record { a = o; b = x; c = n } ∷ []) us
        (one_alone p (record { a = o; b = x; c = n })) one
        (outer_cross o n x us whole.ccw.0 (first_segment x n t steps rest.ccw) one
        (λ j. (rest.within p j).right))
    sweep_one h m o n (Inner x) (t ∷ steps) hm ho hn s =
        let whole = sweep_tiles at h m o n (Inner x) (t ∷ steps) hm ho hn s in
        let rest = sweep_tiles at h m o x t steps hm ho s.1 s.2 in
        let us = sweep at o x (t ∷ steps) in
        let one = sweep_one h m o x t steps hm ho s.1 s.2 in
        one_append at z p (record { a = o; b = x; c = n } ∷ []) us
        (one_alone p (record { a = o; b = x; c = n })) one
        (inner_cross o n x us whole.ccw.0 (first_segment o x t steps rest.ccw) one
        (λ j. (rest.within p j).right))

-- ---- lists of which each triangle is turned on or mirrored
-- f t has at p the height and the area that t has at back p
pub record SameHeights {A : Type 0} (from to : A → Point) (z : A → ℤ) (f : Triple A → Triple A) (back : Point
    → Point) : Type 0 where
  pub alike : Alike from to f back
  pub area_is : (t : Triple A) → area to (f t) ≡ area from t
  pub lift_is : (t : Triple A) (p : Point) → lift to z (f t) p ≡ lift from z t (back p)

module _ {A : Type 0} (from to : A → Point) (z : A → ℤ) (f : Triple A → Triple A) (back : Point
    → Point) (same : SameHeights from to z f back) (p : Point) where
  agree_moved : (t u : Triple A) → Agree from z (back p) t u → Agree to z p (f t) (f u)
  agree_moved t u h =
      ap (λ i. i *ℤ area to (f u)) (same.lift_is t p)
      ∙ ap (λ i. lift from z t (back p) *ℤ i) (same.area_is u) ∙ h
      ∙ sym (ap (λ i. i *ℤ area to (f t)) (same.lift_is u p)
      ∙ ap (λ i. lift from z u (back p) *ℤ i) (same.area_is t))

  each_moved : (t : Triple A) (ts : List (Triple A)) → Each from z (back p) (Agree from z (back p) t) ts
      → Each to z p (Agree to z p (f t)) (map f ts)
  each_moved t [] h = tt
  each_moved t (u ∷ ts) h = ((λ i. agree_moved t u (h.0 (same.alike.out u p i))), each_moved t ts h.1)

  pub one_moved : (ts : List (Triple A)) → OneLevel from z (back p) ts → OneLevel to z p (map f ts)
  one_moved [] h = tt
  one_moved (t ∷ ts) h = ((λ i. each_moved t ts (h.0 (same.alike.out t p i))), one_moved ts h.1)

pub unmoved_same : {A : Type 0} (at : A → Point) (z : A → ℤ) → SameHeights at at z (λ t. t) (λ p. p)
unmoved_same at z = record { alike = same_alike at; area_is = λ t. refl; lift_is = λ t p. refl }

pub shifted_same : {A : Type 0} (at : A → Point) (z : A → ℤ) → SameHeights at at z shifted (λ p. p)
shifted_same at z = record {
  alike = shifted_alike at;
  area_is = λ t. turned_on (at t.b) (at t.c) (at t.a) ∙ turned_on (at t.a) (at t.b) (at t.c);
  lift_is = λ t p. omega (arith, ints);
}

pub flipped_same : {A : Type 0} (at : A → Point) (z : A → ℤ) → SameHeights (λ k. swapped (at k)) at z flipped swapped
flipped_same at z = record {
  alike = flipped_alike at;
  area_is = λ t. turned_on (at t.b) (at t.a) (at t.c) ∙ sym (turn_swapped (at t.a) (at t.b) (at t.c));
  lift_is = λ t p.
      let e = ap (λ i. z t.a *ℤ i) (turn_swapped (at t.b) (at t.c) p) in
      let f = ap (λ i. z t.b *ℤ i) (turn_swapped (at t.c) (at t.a) p) in
      let g = ap (λ i. z t.c *ℤ i) (turn_swapped (at t.a) (at t.b) p) in
      omega (arith, ints, e, f, g);
}
