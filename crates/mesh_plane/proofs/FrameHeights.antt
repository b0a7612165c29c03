-- A frame of four strips, and the rectangle inside it, have one height at each point.
use Rattle.std.proofs.Common.{◌≡◌, refl, ap, sym, arith, ◌∙◌, List, [], ◌∷◌, ◌++◌, inl, inr, subst}
use Rattle.std.specs.Prelude.{ℤ, ◌+ℤ◌, ◌-ℤ◌, ◌*ℤ◌, ◌≤ℤ◌, ◌<ℤ◌}
use Rattle.std.proofs.lemmas.Int.{ints, by_lt_z}
use Rattle.polynomial.proofs.Expressions.{var, add, sub, mul}
use Rattle.polynomial.proofs.NormalForm.{by_ring}
use Rattle.mesh_plane.specs.Plane.{Point}
use Rattle.terrain_base.specs.declared.side.Side.{Side}
use Rattle.terrain_base.specs.declared.side.Side.TheVariants.{South, East, North, West}
use Rattle.mesh_plane.specs.Triangles.{Triple, Step, Outer, Inner, inner_end}
use Rattle.mesh_plane.specs.Fan.{Rect, InRect, InsideRect}
use Rattle.mesh_plane.specs.Strip.{along, across, Ascend}
use Rattle.mesh_plane.proofs.Moves.{swapped}
use Rattle.mesh_plane.proofs.Tilings.{Held, Tiling}
use Rattle.mesh_plane.proofs.Sides.{next, border, start_of, inset, gap}
use Rattle.mesh_plane.proofs.Frames.{SectorOf, OpenSectorOf, IsInner, is_outside}
use Rattle.mesh_plane.proofs.StripFrames.{Corners, AreAt, outer_corner, inner_corner, run_from, run_to, side_list, SideRuns, outer_at, inner_at, outer_across, inner_across, side_strip}
use Rattle.mesh_plane.proofs.Heights.{OneLevel, Cross, cross_when, cross_sym}
use Rattle.mesh_plane.proofs.Edges.{On, HasEdge, Shows, Met, line_crosses, chain}
use Rattle.mesh_plane.proofs.StripHeights.{IsOn, is_on_swapped, inners, strip_one, shows_inner, first_edge, last_edge, five_levels}
use Rattle.mesh_plane.proofs.SectorHeights.{neighbours}

-- ---- points of a line along an axis
level_on : (a b p : Point) → b.v ≡ a.v → p.v ≡ a.v → a.u <ℤ b.u → a.u ≤ℤ p.u → p.u ≤ℤ b.u
    → On a b p (b.u -ℤ p.u) (p.u -ℤ a.u)
level_on a b p e f l from to = record {
  from = omega (arith, ints, to);
  to = omega (arith, ints, from);
  some = omega (arith, ints, l);
  u = by_ring (mul (add (sub (var 1) (var 2)) (sub (var 2) (var 0))) (var 2))
      (add (mul (sub (var 1) (var 2)) (var 0)) (mul (sub (var 2) (var 0)) (var 1)))
      (a.u ∷ b.u ∷ p.u ∷ []) refl;
  v = ap (λ i. ((b.u -ℤ p.u) +ℤ (p.u -ℤ a.u)) *ℤ i) f
      ∙ by_ring (mul (add (sub (var 1) (var 2)) (sub (var 2) (var 0))) (var 3))
      (add (mul (sub (var 1) (var 2)) (var 3)) (mul (sub (var 2) (var 0)) (var 3)))
      (a.u ∷ b.u ∷ p.u ∷ a.v ∷ []) refl
      ∙ ap (λ i. (b.u -ℤ p.u) *ℤ a.v +ℤ (p.u -ℤ a.u) *ℤ i) (sym e);
}

level_met : (a b p : Point) → b.v ≡ a.v → p.v ≡ a.v → a.u <ℤ b.u → a.u ≤ℤ p.u → p.u ≤ℤ b.u → IsOn a b p
level_met a b p e f l from to = (b.u -ℤ p.u, p.u -ℤ a.u, level_on a b p e f l from to)

pub line_on : (side : Side) (line : ℤ) (a b p : Point) → across side a ≡ line → across side b ≡ line
    → across side p ≡ line
    → along side a <ℤ along side b → along side a ≤ℤ along side p → along side p ≤ℤ along side b → IsOn a b p
line_on South line a b p ea eb ep l from to = level_met a b p (eb ∙ sym ea) (ep ∙ sym ea) l from to
line_on North line a b p ea eb ep l from to = level_met a b p (eb ∙ sym ea) (ep ∙ sym ea) l from to
line_on East line a b p ea eb ep l from to =
    is_on_swapped a b p (level_met (swapped a) (swapped b) (swapped p) (eb ∙ sym ea) (ep ∙ sym ea) l from to)
line_on West line a b p ea eb ep l from to =
    is_on_swapped a b p (level_met (swapped a) (swapped b) (swapped p) (eb ∙ sym ea) (ep ∙ sym ea) l from to)

abbrev pub last_of : {A : Type 0} → A → List A → A
last_of o [] = o
last_of o (r ∷ rs) = last_of r rs

pub inner_last : {A : Type 0} (n : A) (steps : List (Step A)) → last_of n (inners steps) ≡ inner_end n steps
inner_last n [] = refl
inner_last n (Outer x ∷ steps) = inner_last n steps
inner_last n (Inner x ∷ steps) = inner_last x steps

module _ {A : Type 0} (at : A → Point) where
  -- each corner lies on the line and further along than the one before it
  abbrev pub Climb : Side → ℤ → A → List A → Type 0
  Climb side line o [] = Unit {0}
  Climb side line o (r ∷ rs) =
      (across side (at r) ≡ line) × (along side (at o) <ℤ along side (at r)) × Climb side line r rs

  pub inners_climb : (side : Side) (outer inner : ℤ) (o n : A) (steps : List (Step A))
      → Ascend at side outer inner o n steps
      → Climb side inner n (inners steps)
  inners_climb side outer inner o n [] a = tt
  inners_climb side outer inner o n (Outer x ∷ steps) a = inners_climb side outer inner x n steps a.2
  inners_climb side outer inner o n (Inner x ∷ steps) a =
      (a.0, a.1, inners_climb side outer inner o x steps a.2)

  module _ (z : A → ℤ) where
    -- a point of the line between the ends of a chain lies on one of its edges
    pub chain_met : (p : Point) (side : Side) (line : ℤ) (o : A) (rs : List A) → across side (at o) ≡ line
        → Climb side line o rs
        → across side p ≡ line → along side (at o) ≤ℤ along side p
        → along side p ≤ℤ along side (at (last_of o rs))
        → along side (at o) <ℤ along side (at (last_of o rs)) → Met at z p (chain o rs)
    chain_met p side line o [] eo c ep from to l = absurd (omega (arith, ints, l))
    chain_met p side line o (r ∷ rs) eo c ep from to l =
        by_lt_z (along side (at r)) (along side p)
        (λ h. inr
        (chain_met p side line r rs c.0 c.2 ep (omega (arith, ints, h)) to (omega (arith, ints, h, to))))
        (λ h. inl (line_on side line (at o) (at r) p eo c.0 ep c.1 from h))

    -- two lists that show one chain along a line, and meet in points of it
    pub chain_cross : (p : Point) (side : Side) (line : ℤ) (o : A) (rs : List A) (ts us : List (Triple A))
        → across side (at o) ≡ line
        → Climb side line o rs → along side (at o) <ℤ along side (at (last_of o rs))
        → (Held at p ts → Held at p us
        → (across side p ≡ line) × (along side (at o) ≤ℤ along side p)
        × (along side p ≤ℤ along side (at (last_of o rs))))
        → Shows at z (chain o rs) ts → Shows at z (chain o rs) us → OneLevel at z p ts → OneLevel at z p us
        → Cross at z p ts us
    chain_cross p side line o rs ts us eo c l f a b one two =
        cross_when at z p ts us (λ i j.
        let k = f i j in
        line_crosses at z p (chain o rs) ts us (chain_met p side line o rs eo c k.0 k.1 k.2 l) a b one two)

    module _ (r q : Rect) (i : IsInner r q) (wide : q.west <ℤ q.east) (high : q.south <ℤ q.north)
        (k : Corners A) (places : AreAt at r q k) (t : Side → Step A) (s : Side → List (Step A))
        (run : (side : Side) → SideRuns at r q i k places side (t side) (s side)) (p : Point) where
      abbrev list : Side → List (Triple A)
      list side = side_list at r q i k places side (t side) (s side)

      tiled : (side : Side) → Tiling at (SectorOf r q side) (OpenSectorOf r q side) (list side)
      tiled side = side_strip at r q i k places side (t side) (s side) (run side)

      one_level : (side : Side) → OneLevel at z p (list side)
      one_level side =
          strip_one at z p side (border side r) (border side q) (outer_corner k (run_from side))
          (inner_corner k (run_from side)) (t side) (s side) (is_outside r q i side)
          (outer_across at r q i k places side) (inner_across at r q i k places side) (run side).ascends

      -- ---- two strips beside each other
      edge_from : (side : Side)
          → HasEdge at z (outer_corner k (run_from side)) (inner_corner k (run_from side)) (list side)
      edge_from side =
          first_edge at z side (outer_corner k (run_from side)) (inner_corner k (run_from side)) (t side) (s side)
          (tiled side).ccw

      edge_to : (side : Side) → HasEdge at z (outer_corner k (run_to side)) (inner_corner k (run_to side)) (list side)
      edge_to side =
          let o = outer_corner k (run_from side) in let n = inner_corner k (run_from side) in
          subst (λ (x : A). HasEdge at z (outer_corner k (run_to side)) x (list side)) (run side).inner_to
          (subst (λ (x : A). HasEdge at z x (inner_end n (t side ∷ s side)) (list side)) (run side).outer_to
          (last_edge at z side o n (t side) (s side) (tiled side).ccw))

      first : (side : Side) → HasEdge at z (outer_corner k side) (inner_corner k side) (list side)
      first South = edge_from South
      first East = edge_from East
      first North = edge_to North
      first West = edge_to West

      last : (side : Side) → HasEdge at z (outer_corner k (next side)) (inner_corner k (next side)) (list side)
      last South = edge_to South
      last East = edge_to East
      last North = edge_from North
      last West = edge_from West

      beside : (side : Side) → Cross at z p (list side) (list (next side))
      beside =
          neighbours at z r q i (outer_corner k) (inner_corner k) (outer_at at r q i k places)
          (inner_at at r q i k places) list tiled first last p one_level

      -- ---- two strips that have the inner rectangle between them
      south_north : Cross at z p (list South) (list North)
      south_north =
          cross_when at z p (list South) (list North)
          (λ a b. let near = ((tiled South).within p a).below in
          absurd (omega (arith, ints, high, near, ((tiled North).within p b).below)))

      east_west : Cross at z p (list East) (list West)
      east_west =
          cross_when at z p (list East) (list West)
          (λ a b. let near = ((tiled East).within p a).below in
          absurd (omega (arith, ints, wide, near, ((tiled West).within p b).below)))

      -- ---- a strip and the inner rectangle
      -- the inner line of a strip goes from corner to corner
      inner_from : (side : Side)
          → along side (at (inner_corner k (run_from side))) ≡ along side (start_of (run_from side) q)
      inner_from side = ap (along side) (inner_at at r q i k places (run_from side))

      inner_to : (side : Side) → along side (at (last_of (inner_corner k (run_from side)) (inners (t side ∷ s side))))
          ≡ along side (start_of (run_to side) q)
      inner_to side =
          ap (λ (x : A). along side (at x))
          (inner_last (inner_corner k (run_from side)) (t side ∷ s side) ∙ (run side).inner_to)
          ∙ ap (along side) (inner_at at r q i k places (run_to side))

      inner_long : (side : Side) → along side (start_of (run_from side) q) <ℤ along side (start_of (run_to side) q)
      inner_long South = wide
      inner_long East = high
      inner_long North = wide
      inner_long West = high

      -- what is both beside the inner rectangle and in it lies on that line
      on_inner : (side : Side) → inset r side p ≤ℤ gap r q side → InRect q p → (across side p ≡ border side q)
          × (along side (start_of (run_from side) q) ≤ℤ along side p)
          × (along side p ≤ℤ along side (start_of (run_to side) q))
      on_inner South near m = (omega (arith, ints, near, m), m.west, m.east)
      on_inner East near m = (omega (arith, ints, near, m), m.south, m.north)
      on_inner North near m = (omega (arith, ints, near, m), m.west, m.east)
      on_inner West near m = (omega (arith, ints, near, m), m.south, m.north)

      module _ (qs : List (Triple A)) (hq : Tiling at (InRect q) (InsideRect q) qs) (oq : OneLevel at z p qs)
          (shown : (side : Side) → Shows at z (chain (inner_corner k (run_from side)) (inners (t side ∷ s side))) qs)
        where
          inner_cross : (side : Side) → Cross at z p (list side) qs
          inner_cross side =
              let o = outer_corner k (run_from side) in let n = inner_corner k (run_from side) in
              chain_cross p side (border side q) n (inners (t side ∷ s side)) (list side) qs
              (inner_across at r q i k places side)
              (inners_climb side (border side r) (border side q) o n (t side ∷ s side) (run side).ascends)
              (omega (arith, ints, inner_from side, inner_to side, inner_long side))
              (λ a b. let h = on_inner side ((tiled side).within p a).below (hq.within p b) in (
                h.0,
                omega (arith, ints, inner_from side, h.1),
                omega (arith, ints, inner_to side, h.2),
              ))
              (shows_inner at z side o n (t side ∷ s side) (tiled side).ccw) (shown side) (one_level side) oq

          pub frame_one : OneLevel at z p (list South ++ (list East ++ (list North ++ (list West ++ qs))))
          frame_one =
              five_levels at z p (list South) (list East) (list North) (list West) qs (one_level South) (one_level East)
              (one_level North) (one_level West) oq (beside South) south_north
              (cross_sym at z p (list West) (list South) (beside West)) (inner_cross South) (beside East) east_west
              (inner_cross East) (beside North) (inner_cross North) (inner_cross West)
