-- The strips follow the heights along the edges.
use Rattle.std.proofs.Common.{◌≡◌, ℕ, ◌<◌, ◌≤◌, refl, ap, sym, ◌∙◌, arith, Bool, true, false, nat_eq, nat_le, ◌||◌, List, [], ◌∷◌, ◌++◌, map, subst, inl, inr}
use Rattle.std.specs.Prelude.{ℤ, pos, ◌+ℤ◌, ◌-ℤ◌, ◌*ℤ◌, ◌≤ℤ◌, ◌<ℤ◌, ◌⊎◌}
use Rattle.std.specs.List.{AllByRecursion, list_any}
use Rattle.std.proofs.lemmas.Int.{ints}
use Rattle.std.proofs.lemmas.Bool.Decides.{nat_tests}
use Rattle.std.proofs.lemmas.List.FromFn.{get_or-map-range_with_len}
use Rattle.std.proofs.lemmas.Bool.{or_left, or_right, or_cases, leb-true, leb-false}
use Rattle.common_laws.proofs.Orders.{equal_itself}
use Rattle.common_laws.proofs.Sizes.{near_of_size}
use Rattle.polynomial.proofs.Expressions.{var, num, add, sub, mul}
use Rattle.polynomial.proofs.NormalForm.{by_ring}
use Rattle.mesh_plane.specs.Triangles.{Triple}
use Rattle.mesh_plane.specs.Strip.{IsOutside}
use Rattle.mesh_plane.proofs.Tilings.{IsCcw}
use Rattle.mesh_plane.proofs.Heights.{Shown}
use Rattle.mesh_plane.proofs.Edges.{On, HasEdge, Shows, chain, edge_shown, meets_a, meets_b, meets_c}
use Rattle.mesh_plane.proofs.StripHeights.{shows_outer}
use Rattle.mesh_plane.proofs.StripFrames.{runs_tile}
use Rattle.mesh_plane.proofs.SurfaceLaws.{IsNear}
use Rattle.edge_decimate.specs.Straight.{height_at, length_of, gap_of, are_near}
use Rattle.edge_decimate.specs.KeptPoints.{kept_between, kept_points}
use Rattle.edge_decimate.proofs.Neighbours.{AllNear, kept_near, all_test}
use Rattle.quad_split.specs.Split.{is_split}
use Rattle.terrain_base.specs.Grid as tile
use Rattle.terrain_base.specs.declared.side.Side.{Side}
use Rattle.terrain_base.specs.declared.side.Side.TheVariants.{West, South, East, North}
use Rattle.tile_mesh.specs.declared.point.GridPoint.{GridPoint}
use Rattle.tile_mesh.specs.Kept.{Rises, RisesTo66}
use Rattle.tile_mesh.specs.Merge.{merge}
use Rattle.tile_mesh.specs.Mesh.{edge_heights, kept_on}
use Rattle.tile_mesh.specs.Numbers.{point_eq, corners}
use Rattle.tile_mesh.specs.Rule.{strip_triangles, border_split, leaf_ends, inner_points, border_triangles}
use Rattle.tile_mesh.specs.Sides.{outer_at, inner_at, step_at}
use Rattle.tile_mesh.proofs.EdgePoints.{Has, Found, placed_outers, kept_in_border}
use Rattle.tile_mesh.proofs.FirstUses.{points_equal}
use Rattle.tile_mesh.proofs.Framing.{border_is}
use Rattle.tile_mesh.proofs.KeptLists.{kept_to_66}
use Rattle.tile_mesh.proofs.Merges.{merge_outers}
use Rattle.tile_mesh.proofs.Nearness.{IsShownNear, near_itself}
use Rattle.tile_mesh.proofs.Placing.{height, at, line, line_up, outer_line, inner_line, outer_across, inner_across}
use Rattle.tile_mesh.proofs.StripRuns.{IsStrip}

apart_numbers : (q a : ℕ) → nat_eq q a ≡ false → a ≤ q → a < q
apart_numbers q a e l = grind (arith, nat_tests)

one : pos 1 ≤ℤ pos 1
one = omega (arith, ints)

-- ---- kept points, each with the one before it
abbrev NearOn : List ℤ → ℕ → ℕ → List ℕ → Type 0
NearOn heights tol a [] = Unit {0}
NearOn heights tol a (x ∷ xs) = (are_near heights tol a x ≡ true) × NearOn heights tol x xs

near_to_end : (heights : List ℤ) (tol a b : ℕ) (xs : List ℕ) → AllNear heights tol a xs b → NearOn heights tol a (xs ++ b ∷ [])
near_to_end heights tol a b [] h = (h, tt)
near_to_end heights tol a b (x ∷ xs) h = (h.0, near_to_end heights tol x b xs h.1)

abbrev NearFrom0 : List ℤ → ℕ → List ℕ → Type 0
NearFrom0 heights tol [] = Unit {0}
NearFrom0 heights tol (x ∷ xs) = NearOn heights tol x xs

kept_near_on : (heights : List ℤ) (tol : ℕ) → NearFrom0 heights tol (kept_points heights tol)
unfolding kept_points
kept_near_on heights tol = near_to_end heights tol 0 66 (kept_between 66 heights tol 0 66) (kept_near 66 heights tol 0 66 (omega arith))

-- ---- the height along the edge
edge_height : (grid : List ℤ) (side : Side) (i : ℕ) → i ≤ 66 → height_at (edge_heights grid side) i ≡ height grid (outer_at side i)
unfolding edge_heights
edge_height grid side i l =
    get_or-map-range_with_len (λ n. height grid (outer_at side n)) 0 67 i i (pos 0) (omega (arith, l)) (omega arith)

-- ---- corners of triangles, as heights that are shown
shown_found : (p : GridPoint) (grid : List ℤ) (ts : List (Triple GridPoint)) → AllByRecursion (IsCcw (at grid (pos 1))) ts
    → Found p ts → Shown (at grid (pos 1)) (height grid) (at grid (pos 1) p) (pos 1) (height grid p) ts
shown_found p grid [] c f = absurd (let z = f in cc)
shown_found p grid (t ∷ ts) c f = first (or_cases (point_eq p t.a) _ f) (shown_found p grid ts c.1)
  where
    same : (q : GridPoint) → point_eq p q ≡ true → Shown (at grid (pos 1)) (height grid) (at grid (pos 1) q) (pos 1) (height grid q) (t ∷ ts)
        → Shown (at grid (pos 1)) (height grid) (at grid (pos 1) p) (pos 1) (height grid p) (t ∷ ts)
    same q e s =
        subst (λ (r : GridPoint). Shown (at grid (pos 1)) (height grid) (at grid (pos 1) r) (pos 1) (height grid r) (t ∷ ts))
        (sym (points_equal p q e)) s

    third : (point_eq p t.c ≡ true) ⊎ Found p ts
        → (Found p ts → Shown (at grid (pos 1)) (height grid) (at grid (pos 1) p) (pos 1) (height grid p) ts)
        → Shown (at grid (pos 1)) (height grid) (at grid (pos 1) p) (pos 1) (height grid p) (t ∷ ts)
    third (inl e) next = let m = meets_c (at grid (pos 1)) (height grid) t c.0 in same t.c e (inl (c.0, m.holds, omega (arith, ints, m.level)))
    third (inr e) next = inr (next e)

    second : (point_eq p t.b ≡ true) ⊎ ((point_eq p t.c || list_any (point_eq p) (corners ts)) ≡ true)
        → (Found p ts → Shown (at grid (pos 1)) (height grid) (at grid (pos 1) p) (pos 1) (height grid p) ts)
        → Shown (at grid (pos 1)) (height grid) (at grid (pos 1) p) (pos 1) (height grid p) (t ∷ ts)
    second (inl e) next = let m = meets_b (at grid (pos 1)) (height grid) t c.0 in same t.b e (inl (c.0, m.holds, omega (arith, ints, m.level)))
    second (inr e) next = third (or_cases (point_eq p t.c) _ e) next

    first : (point_eq p t.a ≡ true) ⊎ ((point_eq p t.b || (point_eq p t.c || list_any (point_eq p) (corners ts))) ≡ true)
        → (Found p ts → Shown (at grid (pos 1)) (height grid) (at grid (pos 1) p) (pos 1) (height grid p) ts)
        → Shown (at grid (pos 1)) (height grid) (at grid (pos 1) p) (pos 1) (height grid p) (t ∷ ts)
    first (inl e) next = let m = meets_a (at grid (pos 1)) (height grid) t c.0 in same t.a e (inl (c.0, m.holds, omega (arith, ints, m.level)))
    first (inr e) next = second (or_cases (point_eq p t.b) _ e) next

module _ (grid : List ℤ) (tol : ℕ) (side : Side) where
  -- ---- strips run counter-clockwise
  is_outside : (s : Side) → IsOutside s (outer_line grid (pos 1) s) (inner_line grid (pos 1) s)
  is_outside West = line_up grid (pos 1) one 0 1 (omega arith)
  is_outside South = line_up grid (pos 1) one 0 1 (omega arith)
  is_outside East = line_up grid (pos 1) one 65 66 (omega arith)
  is_outside North = line_up grid (pos 1) one 65 66 (omega arith)

  strip_ccw : (ends : List ℕ) (ts : List (Triple GridPoint)) → IsStrip grid (pos 1) one side ends ts
      → AllByRecursion (IsCcw (at grid (pos 1))) ts
  strip_ccw ends ts i =
      subst (λ (us : List (Triple GridPoint)). AllByRecursion (IsCcw (at grid (pos 1))) us) (sym i.list)
      (runs_tile (at grid (pos 1)) side (outer_line grid (pos 1) side) (inner_line grid (pos 1) side)
      (outer_at side 0) (inner_at side 1) (outer_at side 66) (inner_at side 65) i.first i.rest (is_outside side)
      (outer_across grid (pos 1) side 0) (inner_across grid (pos 1) side 1) i.runs).ccw

  -- ---- a point of an edge between two kept points
  module _ (a q x : ℕ) (aq : a < q) (qx : q < x) (x66 : x ≤ 66) where
    abbrev L : ℕ → ℤ
    L n = line grid (pos 1) n

    lines : (L a <ℤ L q) × (L q <ℤ L x)
    lines = (line_up grid (pos 1) one a q aq, line_up grid (pos 1) one q x qx)

    on_edge : (s : Side) → On (at grid (pos 1) (outer_at s a)) (at grid (pos 1) (outer_at s x)) (at grid (pos 1) (outer_at s q)) (L x -ℤ L q) (L q -ℤ L a)
    on_edge South = record {
      from = omega (arith, ints, lines.1);
      to = omega (arith, ints, lines.0);
      some = omega (arith, ints, lines.0, lines.1);
      u = by_ring (mul (add (sub (var 1) (var 2)) (sub (var 2) (var 0))) (var 2)) (add (mul (sub (var 1) (var 2)) (var 0)) (mul (sub (var 2) (var 0)) (var 1))) (L a ∷ L x ∷ L q ∷ []) refl;
      v = by_ring (mul (add (sub (var 1) (var 2)) (sub (var 2) (var 0))) (var 3)) (add (mul (sub (var 1) (var 2)) (var 3)) (mul (sub (var 2) (var 0)) (var 3))) (L a ∷ L x ∷ L q ∷ L 0 ∷ []) refl;
    }
    on_edge North = record {
      from = omega (arith, ints, lines.1);
      to = omega (arith, ints, lines.0);
      some = omega (arith, ints, lines.0, lines.1);
      u = by_ring (mul (add (sub (var 1) (var 2)) (sub (var 2) (var 0))) (var 2)) (add (mul (sub (var 1) (var 2)) (var 0)) (mul (sub (var 2) (var 0)) (var 1))) (L a ∷ L x ∷ L q ∷ []) refl;
      v = by_ring (mul (add (sub (var 1) (var 2)) (sub (var 2) (var 0))) (var 3)) (add (mul (sub (var 1) (var 2)) (var 3)) (mul (sub (var 2) (var 0)) (var 3))) (L a ∷ L x ∷ L q ∷ L 66 ∷ []) refl;
    }
    on_edge West = record {
      from = omega (arith, ints, lines.1);
      to = omega (arith, ints, lines.0);
      some = omega (arith, ints, lines.0, lines.1);
      u = by_ring (mul (add (sub (var 1) (var 2)) (sub (var 2) (var 0))) (var 3)) (add (mul (sub (var 1) (var 2)) (var 3)) (mul (sub (var 2) (var 0)) (var 3))) (L a ∷ L x ∷ L q ∷ L 0 ∷ []) refl;
      v = by_ring (mul (add (sub (var 1) (var 2)) (sub (var 2) (var 0))) (var 2)) (add (mul (sub (var 1) (var 2)) (var 0)) (mul (sub (var 2) (var 0)) (var 1))) (L a ∷ L x ∷ L q ∷ []) refl;
    }
    on_edge East = record {
      from = omega (arith, ints, lines.1);
      to = omega (arith, ints, lines.0);
      some = omega (arith, ints, lines.0, lines.1);
      u = by_ring (mul (add (sub (var 1) (var 2)) (sub (var 2) (var 0))) (var 3)) (add (mul (sub (var 1) (var 2)) (var 3)) (mul (sub (var 2) (var 0)) (var 3))) (L a ∷ L x ∷ L q ∷ L 66 ∷ []) refl;
      v = by_ring (mul (add (sub (var 1) (var 2)) (sub (var 2) (var 0))) (var 2)) (add (mul (sub (var 1) (var 2)) (var 0)) (mul (sub (var 2) (var 0)) (var 1))) (L a ∷ L x ∷ L q ∷ []) refl;
    }

    -- the height of the straight line there
    near_numbers : (za zx zq pa pq px t : ℤ)
        → ((zq *ℤ (px -ℤ pa) -ℤ (za *ℤ (px -ℤ pq) +ℤ zx *ℤ (pq -ℤ pa))) ≤ℤ (t *ℤ (px -ℤ pa)))
        × ((pos 0 -ℤ (zq *ℤ (px -ℤ pa) -ℤ (za *ℤ (px -ℤ pq) +ℤ zx *ℤ (pq -ℤ pa)))) ≤ℤ (t *ℤ (px -ℤ pa)))
        → IsNear t zq ((pos 1 *ℤ px -ℤ pos 1 *ℤ pq) +ℤ (pos 1 *ℤ pq -ℤ pos 1 *ℤ pa)) ((pos 1 *ℤ px -ℤ pos 1 *ℤ pq) *ℤ za +ℤ (pos 1 *ℤ pq -ℤ pos 1 *ℤ pa) *ℤ zx)
    near_numbers za zx zq pa pq px t h =
        let vs = za ∷ zx ∷ zq ∷ pa ∷ pq ∷ px ∷ t ∷ [] in
        let one_x = mul (num 1) (var 5) in let one_q = mul (num 1) (var 4) in let one_a = mul (num 1) (var 3) in
        let m = add (sub one_x one_q) (sub one_q one_a) in
        let l = add (mul (sub one_x one_q) (var 0)) (mul (sub one_q one_a) (var 1)) in
        let gap = sub (mul (var 2) (sub (var 5) (var 3))) (add (mul (var 0) (sub (var 5) (var 4))) (mul (var 1) (sub (var 4) (var 3)))) in
        let e = by_ring (sub l (mul (var 2) m)) (sub (num 0) gap) vs refl in
        let f = by_ring (sub (mul (var 2) m) l) gap vs refl in
        let g = by_ring (mul (var 6) m) (mul (var 6) (sub (var 5) (var 3))) vs refl in
        record { above = omega (arith, ints, e, g, h.1); below = omega (arith, ints, f, g, h.0) }

    edge_near : (ts : List (Triple GridPoint)) → HasEdge (at grid (pos 1)) (height grid) (outer_at side a) (outer_at side x) ts
        → are_near (edge_heights grid side) tol a x ≡ true
        → IsShownNear (at grid (pos 1)) (height grid) (at grid (pos 1) (outer_at side q)) (pos tol) (height grid (outer_at side q)) ts
    edge_near ts h e =
        let hs = edge_heights grid side in
        let s = near_of_size (gap_of hs a x q) (pos tol *ℤ length_of a x) ((all_test hs tol a x).0 e q aq qx) in
        let za = edge_height grid side a (omega (arith, aq, qx, x66)) in let zx = edge_height grid side x x66 in
        let zq = edge_height grid side q (omega (arith, qx, x66)) in
        record {
          m = (L x -ℤ L q) +ℤ (L q -ℤ L a);
          l = (L x -ℤ L q) *ℤ height grid (outer_at side a) +ℤ (L q -ℤ L a) *ℤ height grid (outer_at side x);
          some = omega (arith, ints, lines.0, lines.1);
          shown = edge_shown (at grid (pos 1)) (height grid) (outer_at side a) (outer_at side x)
              (at grid (pos 1) (outer_at side q)) (L x -ℤ L q) (L q -ℤ L a) ts (on_edge side) h;
          near = near_numbers (height grid (outer_at side a)) (height grid (outer_at side x)) (height grid (outer_at side q))
              (pos (tile.line_position a)) (pos (tile.line_position q)) (pos (tile.line_position x)) (pos tol) (rw (sym za, sym zx, sym zq) s);
        }

  -- ---- along the kept points
  found_or_near : (q a : ℕ) (xs : List ℕ) (ts : List (Triple GridPoint)) → Rises a xs 66 → NearOn (edge_heights grid side) tol a xs → a ≤ q → q ≤ 66
      → Shows (at grid (pos 1)) (height grid) (chain (outer_at side a) (map (outer_at side) xs)) ts
      → Has (a ∷ xs) q ⊎ IsShownNear (at grid (pos 1)) (height grid) (at grid (pos 1) (outer_at side q)) (pos tol) (height grid (outer_at side q)) ts
  found_or_near q a [] ts r n l h s = inl (or_left (nat_eq q a) _ (ap (nat_eq q) (omega (arith, r, l, h)) ∙ equal_itself q))
  found_or_near q a (x ∷ xs) ts r n l h s =
      go (nat_eq q a) refl (nat_le x q) refl (λ k. found_or_near q x xs ts r.1 n.1 k h s.1)
    where
      rises_le : (a b : ℕ) (xs : List ℕ) → Rises a xs b → a ≤ b
      rises_le a b [] h = omega (arith, h)
      rises_le a b (x ∷ xs) h = omega (arith, h.0, rises_le x b xs h.1)

      go : (e : Bool) → nat_eq q a ≡ e → (b : Bool) → nat_le x q ≡ b
          → (x ≤ q → Has (x ∷ xs) q ⊎ IsShownNear (at grid (pos 1)) (height grid) (at grid (pos 1) (outer_at side q)) (pos tol) (height grid (outer_at side q)) ts)
          → Has (a ∷ x ∷ xs) q ⊎ IsShownNear (at grid (pos 1)) (height grid) (at grid (pos 1) (outer_at side q)) (pos tol) (height grid (outer_at side q)) ts
      go true e b f next = inl (or_left (nat_eq q a) _ e)
      go false e true f next = pass (next (leb-true x q f))
        where
          pass : Has (x ∷ xs) q ⊎ IsShownNear (at grid (pos 1)) (height grid) (at grid (pos 1) (outer_at side q)) (pos tol) (height grid (outer_at side q)) ts
              → Has (a ∷ x ∷ xs) q ⊎ IsShownNear (at grid (pos 1)) (height grid) (at grid (pos 1) (outer_at side q)) (pos tol) (height grid (outer_at side q)) ts
          pass (inl k) = inl (or_right (nat_eq q a) _ k)
          pass (inr k) = inr k
      go false e false f next =
          inr (edge_near a q x (apart_numbers q a e l) (leb-false x q f) (rises_le x 66 xs r.1) ts s.0 n.0)

  walk : (q : ℕ) (xs ends : List ℕ) → RisesTo66 xs → NearFrom0 (edge_heights grid side) tol xs → q ≤ 66
      → AllByRecursion (IsCcw (at grid (pos 1))) (strip_triangles side xs (1 ∷ ends))
      → Has xs q ⊎ IsShownNear (at grid (pos 1)) (height grid) (at grid (pos 1) (outer_at side q)) (pos tol) (height grid (outer_at side q))
      (strip_triangles side xs (1 ∷ ends))
  walk q [] ends r n l c = elim r [ ]
  walk q (x ∷ xs) ends r n l c =
      let ts = strip_triangles side (x ∷ xs) (1 ∷ ends) in
      let steps = map (step_at side) (merge xs ends) in
      found_or_near q x xs ts (subst (λ (a : ℕ). Rises a xs 66) (sym r.0) r.1) n (omega (arith, r.0)) l
      (subst (λ (ps : List GridPoint). Shows (at grid (pos 1)) (height grid) (chain (outer_at side x) ps) ts)
      (placed_outers side (merge xs ends) ∙ ap (λ (os : List ℕ). map (outer_at side) os) (merge_outers xs ends))
      (shows_outer (at grid (pos 1)) (height grid) side (outer_at side x) (inner_at side 1) steps c))

  walk_border : (q : ℕ) → q ≤ 66
      → AllByRecursion (IsCcw (at grid (pos 1))) (border_triangles (is_split grid tol) (kept_on grid tol) side)
      → Has (kept_on grid tol side) q ⊎ IsShownNear (at grid (pos 1)) (height grid) (at grid (pos 1) (outer_at side q)) (pos tol) (height grid (outer_at side q))
      (border_triangles (is_split grid tol) (kept_on grid tol) side)
  unfolding border_triangles inner_points
  walk_border q l c =
      walk q (kept_on grid tol side) (leaf_ends (border_split (is_split grid tol) side) 6 0)
      (kept_to_66 (edge_heights grid side) tol) (kept_near_on (edge_heights grid side) tol) l c

  pub border_near : (q : ℕ) → q ≤ 66
      → IsShownNear (at grid (pos 1)) (height grid) (at grid (pos 1) (outer_at side q)) (pos tol) (height grid (outer_at side q))
      (border_triangles (is_split grid tol) (kept_on grid tol) side)
  border_near q l =
      let kept = kept_on grid tol in let rises = λ (s : Side). kept_to_66 (edge_heights grid s) tol in
      let i = border_is grid (pos 1) one tol kept rises side in
      let c = strip_ccw (leaf_ends (border_split (is_split grid tol) side) 6 0) (border_triangles (is_split grid tol) kept side) i in
      go c (walk_border q l c)
    where
      go : AllByRecursion (IsCcw (at grid (pos 1))) (border_triangles (is_split grid tol) (kept_on grid tol) side)
          → Has (kept_on grid tol side) q ⊎ IsShownNear (at grid (pos 1)) (height grid) (at grid (pos 1) (outer_at side q)) (pos tol) (height grid (outer_at side q))
          (border_triangles (is_split grid tol) (kept_on grid tol) side)
          → IsShownNear (at grid (pos 1)) (height grid) (at grid (pos 1) (outer_at side q)) (pos tol) (height grid (outer_at side q))
          (border_triangles (is_split grid tol) (kept_on grid tol) side)
      go c (inr s) = s
      go c (inl k) = record {
        m = pos 1;
        l = height grid (outer_at side q);
        some = omega (arith, ints);
        shown = shown_found (outer_at side q) grid (border_triangles (is_split grid tol) (kept_on grid tol) side) c
            (kept_in_border grid tol (kept_on grid tol) (λ (s : Side). kept_to_66 (edge_heights grid s) tol) side q k);
        near = near_itself (pos tol) (height grid (outer_at side q)) (omega (arith, ints));
      }
