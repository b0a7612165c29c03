-- The leaves of a quadtree have one height at each point, where the lines between nodes are one for both
-- sides.
use Rattle.std.proofs.Common.{◌≡◌, ℕ, zero, suc, ◌+◌, ◌*◌, ◌<◌, refl, ap, sym, arith, Bool, true, false, List, [], ◌∷◌, ◌++◌, inl, inr, subst}
use Rattle.std.specs.Prelude.{ℤ, ◌-ℤ◌, ◌<ℤ◌, if◌then◌else◌}
use Rattle.std.proofs.lemmas.Int.{ints}
use Rattle.mesh_plane.specs.Plane.{Point, point}
use Rattle.terrain_base.specs.declared.side.Side.TheVariants.{East}
use Rattle.mesh_plane.specs.Triangles.{Triple, Outer, Inner}
use Rattle.mesh_plane.specs.Fan.{InRect, InsideRect, round, south_of, east_of, north_of, west_of}
use Rattle.mesh_plane.specs.Quadtree.{line_of, Midpoints, leaf_ring, leaf, smallest, leaves}
use Rattle.mesh_plane.proofs.Tilings.{Tiling}
use Rattle.mesh_plane.proofs.Moves.{shifted}
use Rattle.mesh_plane.proofs.Sweeps.{sweep}
use Rattle.mesh_plane.proofs.Sides.{reach, no_reach}
use Rattle.mesh_plane.proofs.Heights.{OneLevel, Cross, cross_when, cross_through, four_levels}
use Rattle.mesh_plane.proofs.Edges.{Edge, Shows, shows_left, shows_right, shows_both, shows_first, shows_second, line_crosses, chain, chain_append, fan_shows, meets_a, meets_b, meets_c}
use Rattle.mesh_plane.proofs.SweepHeights.{sweep_one, one_moved, shifted_same}
use Rattle.mesh_plane.proofs.FanHeights.{fan_one}
use Rattle.mesh_plane.proofs.Quads.{node, leaves_tile, leaf_tiles, smallest_tiles, leaf_is_ring, leaf_inside, next_line, u_is, halves_moves, two_steps, wide_by, wide_above}
use Rattle.mesh_plane.proofs.QuadLines.{seg, seg_flip, hline, vline, h_seg, v_seg, h_met, v_met}

-- what a rule of splitting has to give: the sides of a node that is split are broken; those of a leaf have
-- midpoints
-- where they are broken, and their halves are whole
pub record IsFair (p : ℕ → ℕ → ℕ → Bool) (m : ℕ → ℕ → ℕ → Midpoints) (hb vb : ℕ → ℕ → ℕ → Bool) (inside : ℕ
    → ℕ → ℕ → Type 0) : Type 0 where
  pub down : (k x y : ℕ) → inside (suc (suc k)) x y
      → inside (suc k) (2 * x)
      (2 * y) ×
      (inside (suc k) (2 * x + 1)
      (2 * y) × (inside (suc k) (2 * x) (2 * y + 1) × inside (suc k) (2 * x + 1) (2 * y + 1)))
  pub south : (k x y : ℕ) → inside (suc k) x y → p (suc k) x y ≡ true → hb (suc k) x y ≡ true
  pub north : (k x y : ℕ) → inside (suc k) x y → p (suc k) x y ≡ true → hb (suc k) x (y + 1) ≡ true
  pub west : (k x y : ℕ) → inside (suc k) x y → p (suc k) x y ≡ true → vb (suc k) x y ≡ true
  pub east : (k x y : ℕ) → inside (suc k) x y → p (suc k) x y ≡ true → vb (suc k) (x + 1) y ≡ true
  pub mid_south : (k x y : ℕ) → inside (suc k) x y → p (suc k) x y ≡ false
      → (m (suc k) x y).south ≡ hb (suc k) x y
  pub mid_north : (k x y : ℕ) → inside (suc k) x y → p (suc k) x y ≡ false
      → (m (suc k) x y).north ≡ hb (suc k) x (y + 1)
  pub mid_west : (k x y : ℕ) → inside (suc k) x y → p (suc k) x y ≡ false
      → (m (suc k) x y).west ≡ vb (suc k) x y
  pub mid_east : (k x y : ℕ) → inside (suc k) x y → p (suc k) x y ≡ false
      → (m (suc k) x y).east ≡ vb (suc k) (x + 1) y
  pub whole_south : (k x y : ℕ) → inside (suc k) x y → p (suc k) x y ≡ false
      → (hb k (2 * x) (2 * y) ≡ false) × (hb k (2 * x + 1) (2 * y) ≡ false)
  pub whole_north : (k x y : ℕ) → inside (suc k) x y → p (suc k) x y ≡ false
      → (hb k (2 * x) (2 * (y + 1)) ≡ false) × (hb k (2 * x + 1) (2 * (y + 1)) ≡ false)
  pub whole_west : (k x y : ℕ) → inside (suc k) x y → p (suc k) x y ≡ false
      → (vb k (2 * x) (2 * y) ≡ false) × (vb k (2 * x) (2 * y + 1) ≡ false)
  pub whole_east : (k x y : ℕ) → inside (suc k) x y → p (suc k) x y ≡ false
      → (vb k (2 * (x + 1)) (2 * y) ≡ false) × (vb k (2 * (x + 1)) (2 * y + 1) ≡ false)

two_more : (x : ℕ) → 2 * x + 1 + 1 ≡ 2 * (x + 1)
two_more x = omega arith

module _ {A : Type 0} (at : A → Point) (grid : ℕ → ℕ → A) (g : ℕ → ℤ) (up : (i j : ℕ) → i < j → g i <ℤ g j)
    (on : (i j : ℕ) → at (grid i j) ≡ point (g i) (g j)) (hb vb : ℕ → ℕ → ℕ → Bool) (z : A → ℤ) where
  abbrev H : ℕ → ℕ → ℕ → List (Edge A)
  H k x y = hline grid hb vb k x y

  abbrev V : ℕ → ℕ → ℕ → List (Edge A)
  V k x y = vline grid hb vb k x y

  abbrev Tiled : ℕ → ℕ → ℕ → List (Triple A) → Type 0
  Tiled k x y ts =
      Tiling at (InRect (node at grid g up on k x y)) (InsideRect (node at grid g up on k x y)) ts

  -- one height at each point, and the lines along the four sides
  pub record Even (k x y : ℕ) (ts : List (Triple A)) : Type 0 where
    pub one : (p : Point) → OneLevel at z p ts
    pub south : Shows at z (hline grid hb vb k x y) ts
    pub north : Shows at z (hline grid hb vb k x (y + 1)) ts
    pub west : Shows at z (vline grid hb vb k x y) ts
    pub east : Shows at z (vline grid hb vb k (x + 1) y) ts

  -- ---- a node that is split
  module _ (k x y : ℕ) (a b c d : List (Triple A)) (ta : Tiled k (2 * x) (2 * y) a)
      (tb : Tiled k (2 * x + 1) (2 * y) b)
      (tc : Tiled k (2 * x) (2 * y + 1) c) (td : Tiled k (2 * x + 1) (2 * y + 1) d)
      (ea : Even k (2 * x) (2 * y) a) (eb : Even k (2 * x + 1) (2 * y) b) (ec : Even k (2 * x) (2 * y + 1) c)
      (ed : Even k (2 * x + 1) (2 * y + 1) d) where
    quarters_one : (p : Point) → OneLevel at z p (a ++ (b ++ (c ++ d)))
    quarters_one p =
        let ab : Cross at z p a b = cross_when at z p a b (λ h h'.
        let r = ta.within p h in let s = tb.within p h' in
        line_crosses at z p (V k (2 * x + 1) (2 * y)) a b
        (v_met at grid g up on hb vb z p k (2 * x + 1) (2 * y)
        (omega (arith, ints, r.east, s.west)) r.south r.north) ea.east eb.west (ea.one p) (eb.one p)) in
        let ba : Cross at z p b a = cross_when at z p b a (λ h' h.
        let r = ta.within p h in let s = tb.within p h' in
        line_crosses at z p (V k (2 * x + 1) (2 * y)) b a
        (v_met at grid g up on hb vb z p k (2 * x + 1) (2 * y)
        (omega (arith, ints, r.east, s.west)) r.south r.north) eb.west ea.east (eb.one p) (ea.one p)) in
        let ac : Cross at z p a c = cross_when at z p a c (λ h h'.
        let r = ta.within p h in let s = tc.within p h' in
        line_crosses at z p (H k (2 * x) (2 * y + 1)) a c
        (h_met at grid g up on hb vb z p k (2 * x) (2 * y + 1)
        (omega (arith, ints, r.north, s.south)) r.west r.east) ea.north ec.south (ea.one p) (ec.one p)) in
        let bd : Cross at z p b d = cross_when at z p b d (λ h h'.
        let r = tb.within p h in let s = td.within p h' in
        line_crosses at z p (H k (2 * x + 1) (2 * y + 1)) b d
        (h_met at grid g up on hb vb z p k (2 * x + 1) (2 * y + 1)
        (omega (arith, ints, r.north, s.south)) r.west r.east) eb.north ed.south (eb.one p) (ed.one p)) in
        let cd : Cross at z p c d = cross_when at z p c d (λ h h'.
        let r = tc.within p h in let s = td.within p h' in
        line_crosses at z p (V k (2 * x + 1) (2 * y + 1)) c d
        (v_met at grid g up on hb vb z p k (2 * x + 1) (2 * y + 1)
        (omega (arith, ints, r.east, s.west)) r.south r.north) ec.east ed.west (ec.one p) (ed.one p)) in
        let ad : Cross at z p a d = cross_when at z p a d (λ h h'.
        let r = ta.within p h in let s = td.within p h' in
        cross_through at z p a b d tb.ccw
        (tb.full p (record { west = s.west; south = r.south; east = s.east; north = r.north })) ab bd) in
        let bc : Cross at z p b c = cross_when at z p b c (λ h h'.
        let r = tb.within p h in let s = tc.within p h' in
        cross_through at z p b a c ta.ccw
        (ta.full p (record { west = s.west; south = r.south; east = s.east; north = r.north })) ba ac) in
        four_levels at z p a b c d (ea.one p) (eb.one p) (ec.one p) (ed.one p) ab ac ad bc bd cd

    split_even : hb (suc k) x y ≡ true → hb (suc k) x (y + 1) ≡ true → vb (suc k) x y ≡ true
        → vb (suc k) (x + 1) y ≡ true
        → Even (suc k) x y (a ++ (b ++ (c ++ d)))
    split_even s n w e =
        let all = a ++ (b ++ (c ++ d)) in
        let in_a = λ (es : List (Edge A)) (h : Shows at z es a). shows_left at z es a (b ++ (c ++ d)) h in
        let in_b =
        λ (es : List (Edge A)) (h : Shows at z es b). shows_right at z es a (b ++ (c ++ d))
        (shows_left at z es b (c ++ d) h) in
        let in_c = λ (es : List (Edge A)) (h : Shows at z es c).
        shows_right at z es a (b ++ (c ++ d)) (shows_right at z es b (c ++ d) (shows_left at z es c d h)) in
        let in_d = λ (es : List (Edge A)) (h : Shows at z es d).
        shows_right at z es a (b ++ (c ++ d)) (shows_right at z es b (c ++ d) (shows_right at z es c d h)) in
        let broken =
        λ (es fs whole : List (Edge A)) (t : Bool) (q : t ≡ true) (h : Shows at z es all) (i : Shows at z fs all).
        subst (λ (v : Bool). Shows at z (if v then es ++ fs else whole) all) (sym q)
        (shows_both at z es fs all h i) in
        let nn = two_more y in let ee = two_more x in
        record {
          one = quarters_one;
          south = broken (H k (2 * x) (2 * y)) (H k (2 * x + 1) (2 * y)) _ (hb (suc k) x y) s
              (in_a (H k (2 * x) (2 * y)) ea.south) (in_b (H k (2 * x + 1) (2 * y)) eb.south);
          north = broken (H k (2 * x) (2 * (y + 1))) (H k (2 * x + 1) (2 * (y + 1))) _
              (hb (suc k) x (y + 1)) n
              (in_c (H k (2 * x) (2 * (y + 1))) (subst (λ (i : ℕ). Shows at z (H k (2 * x) i) c) nn ec.north))
              (in_d (H k (2 * x + 1) (2 * (y + 1)))
              (subst (λ (i : ℕ). Shows at z (H k (2 * x + 1) i) d) nn ed.north));
          west = broken (V k (2 * x) (2 * y)) (V k (2 * x) (2 * y + 1)) _ (vb (suc k) x y) w
              (in_a (V k (2 * x) (2 * y)) ea.west) (in_c (V k (2 * x) (2 * y + 1)) ec.west);
          east = broken (V k (2 * (x + 1)) (2 * y)) (V k (2 * (x + 1)) (2 * y + 1)) _ (vb (suc k) (x + 1) y) e
              (in_b (V k (2 * (x + 1)) (2 * y)) (subst (λ (i : ℕ). Shows at z (V k i (2 * y)) b) ee eb.east))
              (in_d (V k (2 * (x + 1)) (2 * y + 1))
              (subst (λ (i : ℕ). Shows at z (V k i (2 * y + 1)) d) ee ed.east));
        }

  -- ---- leaves
  smallest_even : (x y : ℕ) → Even zero x y (smallest grid x y)
  smallest_even x y =
      let W = line_of zero x in let E = line_of zero (x + 1) in let S = line_of zero y in
      let N = line_of zero (y + 1) in
      let r = node at grid g up on zero x y in
      let wide = up W E (next_line zero x) in let high = up S N (next_line zero y) in
      let sw = grid W S in let se = grid E S in let ne = grid E N in let nw = grid W N in
      let tile = smallest_tiles at grid g up on x y in
      let t : Triple A = record { a = sw; b = se; c = ne } in
      let u : Triple A = record { a = sw; b = ne; c = nw } in
      let ht = tile.ccw.0 in let hu = tile.ccw.1.0 in
      record {
        one = λ p. one_moved at at z shifted (λ q. q) (shifted_same at z) p
            (sweep at se sw (two_steps at r wide high sw se ne nw (on W S) (on E S) (on E N) (on W N)))
            (sweep_one at z p (reach East r.east)
            (wide_by at r wide high sw se ne nw (on W S) (on E S) (on E N) (on W N)) se sw (Outer ne)
            (Inner nw ∷ [])
            (wide_above at r wide high sw se ne nw (on W S) (on E S) (on E N) (on W N))
            (no_reach East r.east (at se) (u_is at grid g up on E S))
            (ap (λ k. r.east -ℤ k) (u_is at grid g up on W S))
            (halves_moves at r wide high sw se ne nw (on W S) (on E S) (on E N) (on W N)));
        south = (inl (ht, meets_a at z t ht, meets_b at z t ht), tt);
        north = (inr (inl (hu, meets_c at z u hu, meets_b at z u hu)), tt);
        west = (inr (inl (hu, meets_a at z u hu, meets_c at z u hu)), tt);
        east = (inl (ht, meets_b at z t ht, meets_c at z t ht), tt);
      }

  module _ (p : ℕ → ℕ → ℕ → Bool) (m : ℕ → ℕ → ℕ → Midpoints) (inside : ℕ → ℕ → ℕ
      → Type 0) (fair : IsFair p m hb vb inside) where
    leaf_even : (k x y : ℕ) → inside (suc k) x y → p (suc k) x y ≡ false
        → Even (suc k) x y (leaf grid k x y (m (suc k) x y))
    leaf_even k x y i e =
        let mid = m (suc k) x y in let ring = leaf_ring grid k x y mid in
        let W = line_of (suc k) x in let X = line_of k (2 * x + 1) in let E = line_of (suc k) (x + 1) in
        let S = line_of (suc k) y in let Y = line_of k (2 * y + 1) in let N = line_of (suc k) (y + 1) in
        let ts = leaf grid k x y mid in
        let sw = ring.south_west in let se = ring.south_east in let ne = ring.north_east in
        let nw = ring.north_west in
        let all : Shows at z (chain sw (round ring)) ts =
        fan_shows at z (grid X Y) sw (round ring) (leaf_tiles at grid g up on k x y mid).ccw in
        let first_two : Shows at z
        (chain sw (south_of ring) ++ chain se (east_of ring ++ (north_of ring ++ west_of ring))) ts =
        subst (λ (es : List (Edge A)). Shows at z es ts)
        (chain_append sw se ring.south (east_of ring ++ (north_of ring ++ west_of ring))) all in
        let first =
        shows_first at z (chain sw (south_of ring))
        (chain se (east_of ring ++ (north_of ring ++ west_of ring))) ts first_two in
        let rest =
        shows_second at z (chain sw (south_of ring))
        (chain se (east_of ring ++ (north_of ring ++ west_of ring))) ts first_two in
        let next_two : Shows at z (chain se (east_of ring) ++ chain ne (north_of ring ++ west_of ring)) ts =
        subst (λ (es : List (Edge A)). Shows at z es ts)
        (chain_append se ne ring.east (north_of ring ++ west_of ring)) rest in
        let second =
        shows_first at z (chain se (east_of ring))
        (chain ne (north_of ring ++ west_of ring)) ts next_two in
        let rest_two =
        shows_second at z (chain se (east_of ring))
        (chain ne (north_of ring ++ west_of ring)) ts next_two in
        let last_two : Shows at z (chain ne (north_of ring) ++ chain nw (west_of ring)) ts =
        subst (λ (es : List (Edge A)). Shows at z es ts)
        (chain_append ne nw ring.north (west_of ring)) rest_two in
        let third = shows_first at z (chain ne (north_of ring)) (chain nw (west_of ring)) ts last_two in
        let fourth = shows_second at z (chain ne (north_of ring)) (chain nw (west_of ring)) ts last_two in
        let line =
        λ (es : List (Edge A)) (a b c : A) (v w : Bool) (q : v ≡ w) (r : seg a b c w ≡ es) (h : Shows at z (seg a b c v) ts).
        subst (λ (fs : List (Edge A)). Shows at z fs ts) r
        (subst (λ (t : Bool). Shows at z (seg a b c t) ts) q h) in
        record {
          one = λ q. fan_one at z q (node at grid g up on (suc k) x y) (grid X Y) ring
              (leaf_inside at grid g up on k x y) (leaf_is_ring at grid g up on k x y mid);
          south = line (H (suc k) x y) sw (grid X S) se mid.south (hb (suc k) x y) (fair.mid_south k x y i e)
              (h_seg grid hb vb k x y (fair.whole_south k x y i e)) first;
          north = line (H (suc k) x (y + 1)) nw (grid X N) ne mid.north (hb (suc k) x (y + 1))
              (fair.mid_north k x y i e)
              (h_seg grid hb vb k x (y + 1) (fair.whole_north k x y i e))
              (seg_flip at z ne (grid X N) nw mid.north ts third);
          west = line (V (suc k) x y) sw (grid W Y) nw mid.west (vb (suc k) x y) (fair.mid_west k x y i e)
              (v_seg grid hb vb k x y (fair.whole_west k x y i e))
              (seg_flip at z nw (grid W Y) sw mid.west ts fourth);
          east = line (V (suc k) (x + 1) y) se (grid E Y) ne mid.east (vb (suc k) (x + 1) y)
              (fair.mid_east k x y i e)
              (v_seg grid hb vb k (x + 1) y (fair.whole_east k x y i e)) second;
        }

    node_even : (k x y : ℕ) (b : Bool) → inside (suc k) x y → p (suc k) x y ≡ b
        → Even k (2 * x) (2 * y) (leaves grid p m k (2 * x) (2 * y))
        → Even k (2 * x + 1) (2 * y) (leaves grid p m k (2 * x + 1) (2 * y))
        → Even k (2 * x) (2 * y + 1) (leaves grid p m k (2 * x) (2 * y + 1))
        → Even k (2 * x + 1) (2 * y + 1) (leaves grid p m k (2 * x + 1) (2 * y + 1))
        → Even (suc k) x y
        (if b then leaves grid p m k (2 * x) (2 * y) ++ (leaves grid p m k (2 * x + 1) (2 * y)
        ++ (leaves grid p m k (2 * x) (2 * y + 1) ++ leaves grid p m k (2 * x + 1) (2 * y + 1))) else leaf
        grid k x y (m (suc k) x y))
    node_even k x y true i e ea eb ec ed =
        split_even k x y (leaves grid p m k (2 * x) (2 * y)) (leaves grid p m k (2 * x + 1) (2 * y))
        (leaves grid p m k (2 * x) (2 * y + 1))
        (leaves grid p m k (2 * x + 1) (2 * y + 1))
        (leaves_tile at grid g up on p m k (2 * x) (2 * y))
        (leaves_tile at grid g up on p m k (2 * x + 1) (2 * y))
        (leaves_tile at grid g up on p m k (2 * x) (2 * y + 1))
        (leaves_tile at grid g up on p m k (2 * x + 1) (2 * y + 1)) ea eb ec ed
        (fair.south k x y i e) (fair.north k x y i e) (fair.west k x y i e) (fair.east k x y i e)
    node_even k x y false i e ea eb ec ed = leaf_even k x y i e

    -- each node's leaves have one height at each point, and show the lines along its sides
    pub leaves_even : (k x y : ℕ) → inside (suc k) x y → Even (suc k) x y (leaves grid p m (suc k) x y)
    leaves_even zero x y i =
        node_even zero x y (p 1 x y) i refl (smallest_even (2 * x) (2 * y))
        (smallest_even (2 * x + 1) (2 * y))
        (smallest_even (2 * x) (2 * y + 1)) (smallest_even (2 * x + 1) (2 * y + 1))
    leaves_even (suc k) x y i =
        let d = fair.down k x y i in
        node_even (suc k) x y (p (suc (suc k)) x y) i refl (leaves_even k (2 * x) (2 * y) d.0)
        (leaves_even k (2 * x + 1) (2 * y) d.1.0)
        (leaves_even k (2 * x) (2 * y + 1) d.1.1.0) (leaves_even k (2 * x + 1) (2 * y + 1) d.1.1.1)
