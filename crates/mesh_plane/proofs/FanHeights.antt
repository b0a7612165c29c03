-- Fans have one height at each point.
use Rattle.std.proofs.Common.{◌≡◌, refl, ap, sym, arith, ◌∙◌, List, [], ◌∷◌, ◌++◌, map, inl, inr, subst}
use Rattle.std.specs.Prelude.{ℤ, pos, ◌-ℤ◌, ◌*ℤ◌, ◌≤ℤ◌, ◌<ℤ◌}
use Rattle.std.specs.List.{AllByRecursion}
use Rattle.std.proofs.lemmas.Int.{ints}
use Rattle.polynomial.proofs.Expressions.{var, mul}
use Rattle.polynomial.proofs.NormalForm.{by_ring}
use Rattle.polynomial.proofs.Signs.{factor_nonneg}
use Rattle.mesh_plane.specs.Plane.{Point, point}
use Rattle.terrain_base.specs.declared.side.Side.{Side}
use Rattle.terrain_base.specs.declared.side.Side.TheVariants.{South, East, North, West}
use Rattle.mesh_plane.specs.Triangles.{Triple, fan, Outer}
use Rattle.mesh_plane.specs.Fan.{Rect, InsideRect, Ring, IsRing, Follow, round}
use Rattle.mesh_plane.specs.Strip.{across}
use Rattle.mesh_plane.proofs.Tilings.{IsCcw, Held, Tiling}
use Rattle.mesh_plane.proofs.Moves.{shifted}
use Rattle.mesh_plane.proofs.Sweeps.{sweep, difference}
use Rattle.mesh_plane.proofs.Sides.{next, reach, no_reach, border, inset, gap}
use Rattle.mesh_plane.proofs.Lines.{follow_moves}
use Rattle.mesh_plane.proofs.Frames.{SectorOf, OpenSectorOf, gap_above}
use Rattle.mesh_plane.proofs.Rings.{only, only_start, only_gap, only_inner, fan_is, begins, inside_of, fan_on, fan_sides, begins_at, begins_across, follows, side_tiles}
use Rattle.mesh_plane.proofs.Heights.{OneLevel, Cross, cross_when, cross_sym, four_levels}
use Rattle.mesh_plane.proofs.Edges.{On, on_itself, HasEdge, edge_end, edge_cross, meets_a, meets_b, meets_c}
use Rattle.mesh_plane.proofs.SweepHeights.{sweep_one, one_moved, shifted_same}
use Rattle.mesh_plane.proofs.SectorHeights.{neighbours}

-- a point that is the point c
on_point : (c p : Point) → p.u ≡ c.u → p.v ≡ c.v → On c c p (pos 1) (pos 0)
on_point c p e f =
    subst (λ (q : Point). On c c q (pos 1) (pos 0)) (ap (λ i. point i c.v) (sym e) ∙ ap (λ i. point p.u i) (sym f))
    (on_itself c)

-- as far from a side as the point c is
far_enough : (a d x w : ℤ) → pos 0 <ℤ d → x ≡ d → (a *ℤ x) ≤ℤ (d *ℤ w) → a ≤ℤ w
far_enough a d x w h e k =
    let f : a *ℤ x ≡ a *ℤ d = ap (λ i. a *ℤ i) e in
    let g : pos 0 ≤ℤ (w -ℤ a) = factor_nonneg d (w -ℤ a) h
    (omega (
      arith,
      ints,
      f,
      k,
      difference d w a,
      by_ring (mul (var 0) (var 1)) (mul (var 1) (var 0)) (a ∷ d ∷ []) refl,
    )) in
    omega (arith, ints, g)

module _ {A : Type 0} (at : A → Point) (z : A → ℤ) where
  -- one side of a fan
  side_one : (p : Point) (side : Side) (line m : ℤ) (c o r : A) (rs : List A) → reach side line (at c) ≡ m
      → pos 0 <ℤ m
      → across side (at o) ≡ line → Follow at side line o (r ∷ rs) → OneLevel at z p (fan c o (r ∷ rs))
  side_one p side line m c o r rs hc hm ho f =
      subst (λ (ts : List (Triple A)). OneLevel at z p ts) (fan_is at c o (r ∷ rs))
      (one_moved at at z shifted (λ q. q) (shifted_same at z) p (sweep at o c (map Outer (r ∷ rs)))
      (sweep_one at z p (reach side line) m o c (Outer r) (map Outer rs) hm (no_reach side line (at o) ho) hc
      (follow_moves at side line m c o (r ∷ rs) ho f)))

  pub sides_one : (p : Point) (side : Side) (line m : ℤ) (c o e : A) (xs : List A)
      → reach side line (at c) ≡ m → pos 0 <ℤ m
      → across side (at o) ≡ line → Follow at side line o (xs ++ e ∷ [])
      → OneLevel at z p (fan c o (xs ++ e ∷ []))
  sides_one p side line m c o e [] hc hm ho f = side_one p side line m c o e [] hc hm ho f
  sides_one p side line m c o e (x ∷ xs) hc hm ho f = side_one p side line m c o x (xs ++ e ∷ []) hc hm ho f

  -- the rays to its ends
  pub first_ray : (c o e : A) (xs : List A) → AllByRecursion (IsCcw at) (fan c o (xs ++ e ∷ []))
      → HasEdge at z o c (fan c o (xs ++ e ∷ []))
  first_ray c o e [] h = let t : Triple A =
      record { a = c; b = o; c = e } in inl (h.0, meets_b at z t h.0, meets_a at z t h.0)
  first_ray c o e (x ∷ xs) h = let t : Triple A =
      record { a = c; b = o; c = x } in inl (h.0, meets_b at z t h.0, meets_a at z t h.0)

  pub last_ray : (c o e : A) (xs : List A) → AllByRecursion (IsCcw at) (fan c o (xs ++ e ∷ []))
      → HasEdge at z e c (fan c o (xs ++ e ∷ []))
  last_ray c o e [] h = let t : Triple A =
      record { a = c; b = o; c = e } in inl (h.0, meets_c at z t h.0, meets_a at z t h.0)
  last_ray c o e (x ∷ xs) h = inr (last_ray c x e xs h.1)

  -- two lists that meet in the point c alone
  centre_cross : (p : Point) (c e f : A) (ts us : List (Triple A)) → HasEdge at z e c ts → HasEdge at z f c us
      → OneLevel at z p ts → OneLevel at z p us
      → (Held at p ts → Held at p us → (p.u ≡ (at c).u) × (p.v ≡ (at c).v)) → Cross at z p ts us
  centre_cross p c e f ts us h k one two alone =
      cross_when at z p ts us (λ i j.
      let o = alone i j in
      edge_cross at z c c p (pos 1) (pos 0) ts us (on_point (at c) p o.0 o.1) (edge_end at z e c ts h)
      (edge_end at z f c us k) one two)

  module _ (r : Rect) (c : A) (g : Ring A) (i : InsideRect r (at c)) (ring : IsRing at r g) (p : Point) where
    -- a side of the fan, and the rays to its ends
    one_level : (side : Side) → OneLevel at z p (fan_on c g side)
    one_level side =
        sides_one p side (border side r) (gap r (only (at c)) side) c (begins g side) (begins g (next side))
        (inside_of g side) (only_gap r (at c) side) (gap_above r (only (at c)) (only_inner r (at c) i) side)
        (begins_across at r c g i ring side) (follows at r c g i ring side)

    tiled : (side : Side)
        → Tiling at (SectorOf r (only (at c)) side) (OpenSectorOf r (only (at c)) side) (fan_on c g side)
    tiled side = side_tiles at r c g i ring side

    first : (side : Side) → HasEdge at z (begins g side) c (fan_on c g side)
    first side = first_ray c (begins g side) (begins g (next side)) (inside_of g side) (tiled side).ccw

    last : (side : Side) → HasEdge at z (begins g (next side)) c (fan_on c g side)
    last side = last_ray c (begins g side) (begins g (next side)) (inside_of g side) (tiled side).ccw

    beside : (side : Side) → Cross at z p (fan_on c g side) (fan_on c g (next side))
    beside =
        neighbours at z r (only (at c)) (only_inner r (at c) i) (begins g) (λ side. c) (begins_at at r c g i ring)
        (λ side. sym (only_start (at c) side)) (fan_on c g) tiled first last p one_level

    -- what is as far from a side as the point c is, and in the sector of that side, is c
    far_sides : (side other : Side) → inset r side p ≡ gap r (only (at c)) side
        → (gap r (only (at c)) other *ℤ inset r side p) ≤ℤ (gap r (only (at c)) side *ℤ inset r other p)
        → gap r (only (at c)) other ≤ℤ inset r other p
    far_sides side other =
        far_enough (gap r (only (at c)) other) (gap r (only (at c)) side) (inset r side p) (inset r other p)
        (gap_above r (only (at c)) (only_inner r (at c) i) side)

    south_north : Cross at z p (fan_on c g South) (fan_on c g North)
    south_north =
        centre_cross p c g.south_west g.north_east (fan_on c g South) (fan_on c g North) (first South) (first North)
        (one_level South) (one_level North) (λ a b.
        let k = (tiled South).within p a in
        let e : inset r South p ≡ gap r (only (at c)) South =
        omega (arith, ints, k.below, ((tiled North).within p b).below) in
        (omega (arith, ints, far_sides South West e k.first, far_sides South East e k.second), omega (arith, ints, e)))

    east_west : Cross at z p (fan_on c g East) (fan_on c g West)
    east_west =
        centre_cross p c g.south_east g.north_west (fan_on c g East) (fan_on c g West) (first East) (first West)
        (one_level East) (one_level West) (λ a b.
        let k = (tiled East).within p a in
        let e : inset r East p ≡ gap r (only (at c)) East =
        omega (arith, ints, k.below, ((tiled West).within p b).below) in
        (omega (arith, ints, e), omega (arith, ints, far_sides East South e k.first, far_sides East North e k.second)))

  pub fan_one : (p : Point) (r : Rect) (c : A) (g : Ring A) → InsideRect r (at c) → IsRing at r g
      → OneLevel at z p (fan c g.south_west (round g))
  fan_one p r c g i ring =
      let one = one_level r c g i ring p in let near = beside r c g i ring p in
      subst (λ (us : List (Triple A)). OneLevel at z p us) (fan_sides at c g)
      (four_levels at z p (fan_on c g South) (fan_on c g East) (fan_on c g North) (fan_on c g West) (one South)
      (one East) (one North) (one West) (near South) (south_north r c g i ring p)
      (cross_sym at z p (fan_on c g West) (fan_on c g South) (near West)) (near East) (east_west r c g i ring p)
      (near North))
