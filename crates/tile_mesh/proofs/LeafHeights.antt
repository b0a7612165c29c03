-- The triangles of leaves follow the heights at the grid points.
use Rattle.std.proofs.Common.{◌≡◌, ℕ, zero, suc, ◌+◌, ◌*◌, ◌≤◌, refl, ap, sym, ◌∙◌, arith, Bool, true, false, nat_le, List, [], ◌∷◌, ◌++◌, subst, inl, inr}
use Rattle.std.specs.Prelude.{ℤ, pos, ◌*ℤ◌, ◌≤ℤ◌, if◌then◌else◌, ◌⊎◌}
use Rattle.std.specs.List.{AllByRecursion}
use Rattle.std.proofs.lemmas.Int.{ints}
use Rattle.std.proofs.lemmas.Bool.{leb-true, leb-false}
use Rattle.common_laws.proofs.Lists.{all_append}
use Rattle.mesh_plane.specs.Plane.{Point, point}
use Rattle.mesh_plane.specs.Triangles.{Triple, fan, tri_of}
use Rattle.mesh_plane.specs.Fan.{south_of, east_of, north_of, west_of}
use Rattle.mesh_plane.specs.Quadtree.{line_of, midpoint, Midpoints, leaf_ring, leaf, smallest, leaves}
use Rattle.mesh_plane.proofs.ListWords.{all_to}
use Rattle.mesh_plane.proofs.Tilings.{IsCcw, area}
use Rattle.mesh_plane.proofs.Heights.{Shown, lift}
use Rattle.mesh_plane.proofs.Edges.{Meets, meets_a, meets_b, meets_c}
use Rattle.mesh_plane.proofs.Quads.{leaf_tiles, smallest_tiles, line_left, line_right}
use Rattle.mesh_plane.proofs.Scales.{placed}
use Rattle.mesh_plane.proofs.SurfaceLaws.{IsNear}
use Rattle.quad_split.specs.Node.{is_node}
use Rattle.quad_split.specs.Fan.{grid_corner, fan_triangles}
use Rattle.quad_split.specs.Fits.{Follows, Fits}
use Rattle.quad_split.specs.Split.{is_split}
use Rattle.quad_split.specs.Midpoints.{midpoints_of}
use Rattle.quad_split.proofs.Fairness.{unsplit_fits, down}
use Rattle.quad_split.proofs.Meanings.{fit_test}
use Rattle.terrain_base.specs.Grid as tile
use Rattle.tile_mesh.specs.declared.point.GridPoint.{GridPoint}
use Rattle.tile_mesh.specs.Sides.{grid_point}
use Rattle.tile_mesh.proofs.LeafLists.{fan_sides}
use Rattle.tile_mesh.proofs.Nearness.{IsShownNear, NearAt, near_itself, near_left, near_right, held_near, near_of_gap}
use Rattle.tile_mesh.proofs.Placing.{place, height, at, line, line_up}

-- the fan over a side, with the midpoint or without
side_each : {A : Type 0} (F : Triple A → Type 0) (c a m b : A) (has : Bool) → F (record { a = c; b = a; c = b })
    → F (record { a = c; b = a; c = m }) → F (record { a = c; b = m; c = b })
    → AllByRecursion F (fan c a (midpoint has m ++ b ∷ []))
side_each F c a m b true w f s = (f, (s, tt))
side_each F c a m b false w f s = (w, tt)

by_le : {P : Type 0} (a b : ℕ) → (a ≤ b → P) → (b ≤ a → P) → P
by_le {P} a b f g = go (nat_le a b) refl
  where
    go : (t : Bool) → nat_le a b ≡ t → P
    go true e = f (leb-true a b e)
    go false e = g (omega (arith, leb-false a b e))

one : pos 1 ≤ℤ pos 1
one = omega (arith, ints)

-- one of two lines
two_lines : (x i : ℕ) → line_of zero x ≤ i → i ≤ line_of zero (x + 1) → (i ≡ line_of zero x) ⊎ (i ≡ line_of zero (x + 1))
two_lines x i l h = by_le i (line_of zero x) (λ k. inl (omega (arith, k, l))) (λ k. next (nat_le i (line_of zero x)) refl)
  where
    next : (t : Bool) → nat_le i (line_of zero x) ≡ t → (i ≡ line_of zero x) ⊎ (i ≡ line_of zero (x + 1))
    next true e = inl (omega (arith, leb-true i (line_of zero x) e, l))
    next false e = inr (omega (arith, leb-false i (line_of zero x) e, h))

module _ (grid : List ℤ) (tol i j : ℕ) where
  abbrev pub at_one : GridPoint → Point
  at_one = at grid (pos 1)

  abbrev pub spot : Point
  spot = point (pos (tile.line_position i)) (pos (tile.line_position j))

  abbrev pub ShownNear : List (Triple GridPoint) → Type 0
  ShownNear ts = IsShownNear at_one (height grid) spot (pos tol) (tile.height_in grid i j) ts

  pub spot_is : at_one (grid_point i j) ≡ spot
  spot_is =
      let u : pos 1 *ℤ pos (tile.line_position i) ≡ pos (tile.line_position i) = omega (arith, ints) in
      let v : pos 1 *ℤ pos (tile.line_position j) ≡ pos (tile.line_position j) = omega (arith, ints) in
      ap (λ x. point x (pos 1 *ℤ pos (tile.line_position j))) u ∙ ap (λ y. point (pos (tile.line_position i)) y) v

  -- ---- a corner at the grid point
  module _ (t : Triple GridPoint) (ts : List (Triple GridPoint)) (c : IsCcw at_one t) where
    corner_near : (p : GridPoint) → p ≡ grid_point i j → (holds : Meets at_one (height grid) t p) → ShownNear (t ∷ ts)
    corner_near p e meets = record {
      m = pos 1;
      l = height grid p;
      some = omega (arith, ints);
      shown = subst (λ (q : Point). Shown at_one (height grid) q (pos 1) (height grid p) (t ∷ ts))
          (ap at_one e ∙ spot_is) (inl (c, meets.holds, level));
      near = subst (λ (h : ℤ). IsNear (pos tol) h (pos 1) (height grid p)) (ap (height grid) e)
          (near_itself (pos tol) (height grid p) (omega (arith, ints)));
    }
      where
        level : lift at_one (height grid) t (at_one p) *ℤ pos 1 ≡ height grid p *ℤ area at_one t
        level = omega (arith, ints, meets.level)

  -- ---- leaves of side 1
  smallest_near : (x y : ℕ) → line_of zero x ≤ i → i ≤ line_of zero (x + 1) → line_of zero y ≤ j → j ≤ line_of zero (y + 1)
      → ShownNear (smallest grid_point x y)
  smallest_near x y l h m k = go (two_lines x i l h) (two_lines y j m k)
    where
      t : Triple GridPoint
      t = record { a = grid_point (line_of zero x) (line_of zero y); b = grid_point (line_of zero (x + 1)) (line_of zero y); c = grid_point (line_of zero (x + 1)) (line_of zero (y + 1)) }

      u : Triple GridPoint
      u = record { a = grid_point (line_of zero x) (line_of zero y); b = grid_point (line_of zero (x + 1)) (line_of zero (y + 1)); c = grid_point (line_of zero x) (line_of zero (y + 1)) }

      ccw : AllByRecursion (IsCcw at_one) (t ∷ u ∷ [])
      ccw = (smallest_tiles at_one grid_point (line grid (pos 1)) (line_up grid (pos 1) one) (λ i j. refl) x y).ccw

      same : (a b : ℕ) → i ≡ a → j ≡ b → grid_point a b ≡ grid_point i j
      same a b e f = ap (λ n. grid_point n b) (sym e) ∙ ap (grid_point i) (sym f)

      go : (i ≡ line_of zero x) ⊎ (i ≡ line_of zero (x + 1)) → (j ≡ line_of zero y) ⊎ (j ≡ line_of zero (y + 1))
          → ShownNear (t ∷ u ∷ [])
      go (inl e) (inl f) = corner_near t (u ∷ []) ccw.0 t.a (same _ _ e f) (meets_a at_one (height grid) t ccw.0)
      go (inr e) (inl f) = corner_near t (u ∷ []) ccw.0 t.b (same _ _ e f) (meets_b at_one (height grid) t ccw.0)
      go (inr e) (inr f) = corner_near t (u ∷ []) ccw.0 t.c (same _ _ e f) (meets_c at_one (height grid) t ccw.0)
      go (inl e) (inr f) =
          near_right at_one (height grid) spot (pos tol) (tile.height_in grid i j) (t ∷ []) (u ∷ [])
          (corner_near u [] ccw.1.0 u.c (same _ _ e f) (meets_c at_one (height grid) u ccw.1.0))

  -- ---- larger leaves
  module _ (bound : i ≤ 66) (bound' : j ≤ 66) where
    abbrev Near : Triple GridPoint → Type 0
    Near t = NearAt at_one (height grid) spot (pos tol) (tile.height_in grid i j) t

    near_if : (t : Triple GridPoint) → Follows grid tol (placed place (height grid) t) → Near t
    near_if t f =
        near_of_gap place (height grid) (pos (tile.line_position i)) (pos (tile.line_position j)) (pos tol) (tile.height_in grid i j) t
        (λ w. f i j bound bound' w)

    leaf_each : (k x y : ℕ) (m : Midpoints) → Fits grid tol k x y → AllByRecursion Near (leaf grid_point k x y m)
    leaf_each k x y m fits =
        let g = leaf_ring grid_point k x y m in let c = grid_point (line_of k (2 * x + 1)) (line_of k (2 * y + 1)) in
        let q = all_to (λ t. Follows grid tol (tri_of t)) (fan_triangles (grid_corner grid) k x y) fits in
        let s = side_each Near c g.south_west (grid_point (line_of k (2 * x + 1)) (line_of (suc k) y)) g.south_east m.south
        (near_if _ q.0) (near_if _ q.1.0) (near_if _ q.1.1.0) in
        let e = side_each Near c g.south_east (grid_point (line_of (suc k) (x + 1)) (line_of k (2 * y + 1))) g.north_east m.east
        (near_if _ q.1.1.1.0) (near_if _ q.1.1.1.1.0) (near_if _ q.1.1.1.1.1.0) in
        let n = side_each Near c g.north_east (grid_point (line_of k (2 * x + 1)) (line_of (suc k) (y + 1))) g.north_west m.north
        (near_if _ q.1.1.1.1.1.1.0) (near_if _ q.1.1.1.1.1.1.1.0) (near_if _ q.1.1.1.1.1.1.1.1.0) in
        let w = side_each Near c g.north_west (grid_point (line_of (suc k) x) (line_of k (2 * y + 1))) g.south_west m.west
        (near_if _ q.1.1.1.1.1.1.1.1.1.0) (near_if _ q.1.1.1.1.1.1.1.1.1.1.0) (near_if _ q.1.1.1.1.1.1.1.1.1.1.1.0) in
        subst (λ (ts : List (Triple GridPoint)). AllByRecursion Near ts) (fan_sides c g)
        (all_append Near (fan c g.south_west (south_of g)) _ s
        (all_append Near (fan c g.south_east (east_of g)) _ e
        (all_append Near (fan c g.north_east (north_of g)) (fan c g.north_west (west_of g)) n w)))

    lines_in : (a b : ℕ) → a ≤ b → tile.line_position a ≤ tile.line_position b
    lines_in a b l = omega (arith, l)

    from_line : (a b : ℕ) → a ≤ b → line grid (pos 1) a ≤ℤ pos (tile.line_position b)
    from_line a b l = omega (arith, ints, lines_in a b l)

    to_line : (a b : ℕ) → a ≤ b → pos (tile.line_position a) ≤ℤ line grid (pos 1) b
    to_line a b l = omega (arith, ints, lines_in a b l)

    leaf_near : (k x y : ℕ) (m : Midpoints) → is_node (suc k) x y ≡ true → is_split grid tol (suc k) x y ≡ false
        → line_of (suc k) x ≤ i → i ≤ line_of (suc k) (x + 1) → line_of (suc k) y ≤ j → j ≤ line_of (suc k) (y + 1)
        → ShownNear (leaf grid_point k x y m)
    leaf_near k x y m n e w o s t =
        let tiles = leaf_tiles at_one grid_point (line grid (pos 1)) (line_up grid (pos 1) one) (λ i j. refl) k x y m in
        let fits = (fit_test grid tol k x y).0 (unsplit_fits grid tol k x y n e) in
        held_near at_one (height grid) spot (pos tol) (tile.height_in grid i j) (leaf grid_point k x y m) tiles.ccw
        (leaf_each k x y m fits)
        (tiles.full spot (record {
          west = from_line (line_of (suc k) x) i w;
          south = from_line (line_of (suc k) y) j s;
          east = to_line i (line_of (suc k) (x + 1)) o;
          north = to_line j (line_of (suc k) (y + 1)) t;
        }))

    -- ---- nodes
    abbrev IsIn : ℕ → ℕ → ℕ → Type 0
    IsIn zero x y = Unit {0}
    IsIn (suc k) x y = is_node (suc k) x y ≡ true

    down_in : (k x y : ℕ) → IsIn (suc k) x y
        → IsIn k (2 * x) (2 * y) × (IsIn k (2 * x + 1) (2 * y) × (IsIn k (2 * x) (2 * y + 1) × IsIn k (2 * x + 1) (2 * y + 1)))
    down_in zero x y h = (tt, (tt, (tt, tt)))
    down_in (suc k) x y h = down k x y h

    abbrev Leaves : ℕ → ℕ → ℕ → List (Triple GridPoint)
    Leaves k x y = leaves grid_point (is_split grid tol) (midpoints_of (is_split grid tol)) k x y

    -- the point lies in the node
    pub record LiesIn (k x y : ℕ) : Type 0 where
      pub west : line_of k x ≤ i
      pub east : i ≤ line_of k (x + 1)
      pub south : line_of k y ≤ j
      pub north : j ≤ line_of k (y + 1)

    pub node_near : (k x y : ℕ) → IsIn k x y → LiesIn k x y → ShownNear (Leaves k x y)
    node_near zero x y h l = smallest_near x y l.west l.east l.south l.north
    node_near (suc k) x y h l =
        let d = down_in k x y h in
        go (is_split grid tol (suc k) x y) refl (node_near k (2 * x) (2 * y) d.0) (node_near k (2 * x + 1) (2 * y) d.1.0)
        (node_near k (2 * x) (2 * y + 1) d.1.1.0) (node_near k (2 * x + 1) (2 * y + 1) d.1.1.1)
      where
        go : (b : Bool) → is_split grid tol (suc k) x y ≡ b
            → (LiesIn k (2 * x) (2 * y) → ShownNear (Leaves k (2 * x) (2 * y)))
            → (LiesIn k (2 * x + 1) (2 * y) → ShownNear (Leaves k (2 * x + 1) (2 * y)))
            → (LiesIn k (2 * x) (2 * y + 1) → ShownNear (Leaves k (2 * x) (2 * y + 1)))
            → (LiesIn k (2 * x + 1) (2 * y + 1) → ShownNear (Leaves k (2 * x + 1) (2 * y + 1)))
            → ShownNear (if b then Leaves k (2 * x) (2 * y) ++ (Leaves k (2 * x + 1) (2 * y)
            ++ (Leaves k (2 * x) (2 * y + 1) ++ Leaves k (2 * x + 1) (2 * y + 1)))
            else leaf grid_point k x y (midpoints_of (is_split grid tol) (suc k) x y))
        go false e a b c d =
            leaf_near k x y (midpoints_of (is_split grid tol) (suc k) x y) h e l.west l.east l.south l.north
        go true e a b c d =
            let w = line_left k x in let o = line_right k x in let s = line_left k y in let t = line_right k y in
            let z = height grid in let q = tile.height_in grid i j in
            by_le i (line_of k (2 * x + 1))
            (λ f. by_le j (line_of k (2 * y + 1))
            (λ g. near_left at_one z spot (pos tol) q (Leaves k (2 * x) (2 * y)) _
            (a (record { west = omega (arith, w, l.west); east = f; south = omega (arith, s, l.south); north = g })))
            (λ g. near_right at_one z spot (pos tol) q (Leaves k (2 * x) (2 * y)) _
            (near_right at_one z spot (pos tol) q (Leaves k (2 * x + 1) (2 * y)) _
            (near_left at_one z spot (pos tol) q (Leaves k (2 * x) (2 * y + 1)) _
            (c (record { west = omega (arith, w, l.west); east = f; south = g; north = omega (arith, t, l.north) }))))))
            (λ f. by_le j (line_of k (2 * y + 1))
            (λ g. near_right at_one z spot (pos tol) q (Leaves k (2 * x) (2 * y)) _
            (near_left at_one z spot (pos tol) q (Leaves k (2 * x + 1) (2 * y)) _
            (b (record { west = f; east = omega (arith, o, l.east); south = omega (arith, s, l.south); north = g }))))
            (λ g. near_right at_one z spot (pos tol) q (Leaves k (2 * x) (2 * y)) _
            (near_right at_one z spot (pos tol) q (Leaves k (2 * x + 1) (2 * y)) _
            (near_right at_one z spot (pos tol) q (Leaves k (2 * x) (2 * y + 1)) (Leaves k (2 * x + 1) (2 * y + 1))
            (d (record { west = f; east = omega (arith, o, l.east); south = g; north = omega (arith, t, l.north) }))))))
