-- The leaves of a quadtree tile its square, whichever nodes are split and whichever sides have midpoints.
use Rattle.std.proofs.Common.{◌≡◌, ℕ, zero, suc, ◌+◌, ◌*◌, ◌^◌, ◌<◌, ap, sym, arith, ◌∙◌, Bool, true, false, List, [], ◌∷◌, ◌++◌, inl, inr, ⊎_elim, subst}
use Rattle.std.specs.Prelude.{ℤ, pos, ◌-ℤ◌, ◌<ℤ◌, ◌⊎◌, if◌then◌else◌}
use Rattle.std.proofs.lemmas.Int.{ints}
use Rattle.std.proofs.lemmas.Nat.{pow_pos}
use Rattle.polynomial.proofs.Signs.{by_le_z}
use Rattle.mesh_plane.specs.Plane.{Point, point}
use Rattle.terrain_base.specs.declared.side.Side.{Side}
use Rattle.terrain_base.specs.declared.side.Side.TheVariants.{South, East, North, West}
use Rattle.mesh_plane.specs.Triangles.{Triple, Step, Outer, Inner}
use Rattle.mesh_plane.specs.Fan.{Rect, InRect, InsideRect, ComesAfter, Follow, IsRing}
use Rattle.mesh_plane.specs.Quadtree.{line_of, halves, midpoint, Midpoints, leaf_ring, leaf, smallest, leaves}
use Rattle.mesh_plane.proofs.Turns.{turned_back}
use Rattle.mesh_plane.proofs.Tilings.{Tiling, tiling_union, tiling_same}
use Rattle.mesh_plane.proofs.Moves.{tiling_moved, shifted, shifted_alike}
use Rattle.mesh_plane.proofs.Sweeps.{Goes, Moves, Band, OpenBand, sweep, sweep_tiles}
use Rattle.mesh_plane.proofs.Sides.{reach, no_reach}
use Rattle.mesh_plane.proofs.Lines.{goes, goes_same}
use Rattle.mesh_plane.proofs.StripProof.{left_in, left_out, strictly_out}
use Rattle.mesh_plane.proofs.Rings.{fan_tiles}

abbrev pub box : ℤ → ℤ → ℤ → ℤ → Rect
box w s e n = record { west = w; south = s; east = e; north = n }

-- ---- four quarters
pub quarters : {A : Type 0} (at : A → Point) (w s e n x y : ℤ) (a b c d : List (Triple A)) → w <ℤ x → x <ℤ e
    → s <ℤ y → y <ℤ n
    → Tiling at (InRect (box w s x y)) (InsideRect (box w s x y)) a
    → Tiling at (InRect (box x s e y)) (InsideRect (box x s e y)) b
    → Tiling at (InRect (box w y x n)) (InsideRect (box w y x n)) c
    → Tiling at (InRect (box x y e n)) (InsideRect (box x y e n)) d
    → Tiling at (InRect (box w s e n)) (InsideRect (box w s e n)) (a ++ (b ++ (c ++ d)))
quarters at w s e n x y a b c d wx xe sy yn t₁ t₂ t₃ t₄ =
    let I = λ (r : Rect) (p : Point). InRect r p in let O = λ (r : Rect) (p : Point). InsideRect r p in
    let t = tiling_union at (I (box w s x y)) (O (box w s x y))
    (λ p. I (box x s e y) p ⊎ (I (box w y x n) p ⊎ I (box x y e n) p))
    (λ p. O (box x s e y) p ⊎ (O (box w y x n) p ⊎ O (box x y e n) p)) a (b ++ (c ++ d)) t₁
    (tiling_union at (I (box x s e y)) (O (box x s e y)) (λ p. I (box w y x n) p ⊎ I (box x y e n) p)
    (λ p. O (box w y x n) p ⊎ O (box x y e n) p) b (c ++ d) t₂
    (tiling_union at (I (box w y x n)) (O (box w y x n)) (I (box x y e n)) (O (box x y e n)) c d t₃ t₄
    (λ p i j. omega (arith, ints, i.east, j.west)))
    (λ p i. ⊎_elim (λ k. omega (arith, ints, i.north, k.south)) (λ k. omega (arith, ints, i.north, k.south))))
    (λ p i. ⊎_elim (λ k. omega (arith, ints, i.east, k.west))
    (⊎_elim (λ k. omega (arith, ints, i.north, k.south)) (λ k. omega (arith, ints, i.north, k.south)))) in
    tiling_same at (λ p. I (box w s x y) p ⊎ (I (box x s e y) p ⊎ (I (box w y x n) p ⊎ I (box x y e n) p)))
    (λ p. O (box w s x y) p ⊎ (O (box x s e y) p ⊎ (O (box w y x n) p ⊎ O (box x y e n) p)))
    (I (box w s e n)) (O (box w s e n)) (a ++ (b ++ (c ++ d)))
    (λ p. ⊎_elim (λ i. omega (arith, ints, i))
    (⊎_elim (λ i. omega (arith, ints, i))
    (⊎_elim (λ i. omega (arith, ints, i)) (λ i. omega (arith, ints, i)))))
    (λ p i. by_le_z p.u x
    (λ k. by_le_z p.v y (λ l. inl (omega (arith, ints, i))) (λ l. inr (inr (inl (omega (arith, ints, i))))))
    (λ k. by_le_z p.v y (λ l. inr (inl (omega (arith, ints, i))))
    (λ l. inr (inr (inr (omega (arith, ints, i)))))))
    (λ p. ⊎_elim (λ i. omega (arith, ints, i))
    (⊎_elim (λ i. omega (arith, ints, i))
    (⊎_elim (λ i. omega (arith, ints, i)) (λ i. omega (arith, ints, i))))) t

-- ---- a smallest leaf: a sweep of two steps from the east side to the west side
module _ {A : Type 0} (at : A
    → Point) (r : Rect) (wide : r.west <ℤ r.east) (high : r.south <ℤ r.north) (sw se ne nw : A)
    (psw : at sw ≡ point r.west r.south) (pse : at se ≡ point r.east r.south)
    (pne : at ne ≡ point r.east r.north) (pnw : at nw ≡ point r.west r.north) where
  abbrev pub two_steps : List (Step A)
  two_steps = Outer ne ∷ Inner nw ∷ []

  abbrev pub wide_by : ℤ
  wide_by = r.east -ℤ r.west

  pub halves_moves : Moves at (reach East r.east) wide_by se sw two_steps
  halves_moves = (
    goes East r.east (at se) (at ne) (ap (λ k. k.u) pse)
        (ap (λ k. k.u) pne, omega (arith, ints, high, ap (λ k. k.v) pse, ap (λ k. k.v) pne)),
    no_reach East r.east (at ne) (ap (λ k. k.u) pne),
    (
      goes_same (reach West r.west) (λ p. wide_by -ℤ reach East r.east p) (at nw) (at sw)
          (λ p. omega (arith, ints))
          (goes West r.west (at nw) (at sw) (ap (λ k. k.u) pnw)
          (ap (λ k. k.u) psw, omega (arith, ints, high, ap (λ k. k.v) psw, ap (λ k. k.v) pnw))),
      ap (λ k. r.east -ℤ k.u) pnw,
      tt,
    ),
  )

  south_goes : Goes (reach South r.south) (at sw) (at se)
  south_goes =
      goes South r.south (at sw) (at se) (ap (λ k. k.v) psw)
      (ap (λ k. k.v) pse, omega (arith, ints, wide, ap (λ k. k.u) psw, ap (λ k. k.u) pse))

  north_goes : Goes (reach North r.north) (at ne) (at nw)
  north_goes =
      goes North r.north (at ne) (at nw) (ap (λ k. k.v) pne)
      (ap (λ k. k.v) pnw, omega (arith, ints, wide, ap (λ k. k.u) pne, ap (λ k. k.u) pnw))

  pub wide_above : pos 0 <ℤ wide_by
  wide_above = omega (arith, ints, wide)

  pub halves_tile : Tiling at (InRect r) (InsideRect r) (halves sw se ne nw)
  halves_tile =
      let h = reach East r.east in
      let swept =
      sweep_tiles at h wide_by se sw (Outer ne) (Inner nw ∷ []) wide_above
      (no_reach East r.east (at se) (ap (λ k. k.u) pse))
      (ap (λ k. r.east -ℤ k.u) psw) halves_moves in
      let R = Band at h wide_by se sw ne nw in let S = OpenBand at h wide_by se sw ne nw in
      tiling_same at R S (InRect r) (InsideRect r) (halves sw se ne nw)
      (λ p i.
      let s = left_out (reach South r.south) (at sw) (at se) p south_goes
      (omega (arith, ints, i.right, turned_back (at se) (at sw) p)) in
      let n = left_out (reach North r.north) (at ne) (at nw) p north_goes i.left in
      record {
        west = omega (arith, ints, i.below);
        south = omega (arith, ints, s);
        east = omega (arith, ints, i.above);
        north = omega (arith, ints, n);
      })
      (λ p i.
      let s = left_in (reach South r.south) (at sw) (at se) p south_goes (omega (arith, ints, i.south)) in
      let n = left_in (reach North r.north) (at ne) (at nw) p north_goes (omega (arith, ints, i.north)) in
      record {
        above = omega (arith, ints, i.east);
        below = omega (arith, ints, i.west);
        right = omega (arith, ints, s, turned_back (at se) (at sw) p);
        left = n;
      })
      (λ p i.
      let s = strictly_out (reach South r.south) (at sw) (at se) p south_goes
      (omega (arith, ints, i.right, turned_back (at se) (at sw) p)) in
      let n = strictly_out (reach North r.north) (at ne) (at nw) p north_goes i.left in
      record {
        west = omega (arith, ints, i.below);
        south = omega (arith, ints, s);
        east = omega (arith, ints, i.above);
        north = omega (arith, ints, n);
      })
      (tiling_moved at at shifted (λ p. p) (shifted_alike at) R S (sweep at se sw two_steps) swept)

-- ---- lines of the grid
twice_wide : (k : ℕ) → 2 ^ suc k ≡ 2 * 2 ^ k
twice_wide k = omega arith

left_is : (x n : ℕ) → 1 + (2 * x) * n ≡ 1 + x * (2 * n)
left_is x n = omega arith

right_is : (x n : ℕ) → 1 + (2 * x + 1 + 1) * n ≡ 1 + (x + 1) * (2 * n)
right_is x n = omega arith

half_above : (x n : ℕ) → 0 < n → 1 + x * (2 * n) < 1 + (2 * x + 1) * n
half_above x n h = omega arith

half_below : (x n : ℕ) → 0 < n → 1 + (2 * x + 1) * n < 1 + (x + 1) * (2 * n)
half_below x n h = omega arith

one_above : (x n : ℕ) → 0 < n → 1 + x * n < 1 + (x + 1) * n
one_above x n h = omega arith

pub line_left : (k x : ℕ) → line_of k (2 * x) ≡ line_of (suc k) x
line_left k x = left_is x (2 ^ k) ∙ ap (λ (n : ℕ). 1 + x * n) (sym (twice_wide k))

pub line_right : (k x : ℕ) → line_of k (2 * x + 1 + 1) ≡ line_of (suc k) (x + 1)
line_right k x = right_is x (2 ^ k) ∙ ap (λ (n : ℕ). 1 + (x + 1) * n) (sym (twice_wide k))

pub first_half : (k x : ℕ) → line_of (suc k) x < line_of k (2 * x + 1)
first_half k x =
    subst (λ (n : ℕ). 1 + x * n < line_of k (2 * x + 1)) (sym (twice_wide k))
    (half_above x (2 ^ k) (pow_pos k))

pub second_half : (k x : ℕ) → line_of k (2 * x + 1) < line_of (suc k) (x + 1)
second_half k x =
    subst (λ (n : ℕ). line_of k (2 * x + 1) < 1 + (x + 1) * n) (sym (twice_wide k))
    (half_below x (2 ^ k) (pow_pos k))

pub next_line : (k x : ℕ) → line_of k x < line_of k (x + 1)
next_line k x = one_above x (2 ^ k) (pow_pos k)

module _ {A : Type 0} (at : A → Point) (grid : ℕ → ℕ → A) (g : ℕ → ℤ) (up : (i j : ℕ) → i < j → g i <ℤ g j)
    (on : (i j : ℕ) → at (grid i j) ≡ point (g i) (g j)) where
  -- ---- the corners of a leaf
  east_of_it : (i j l : ℕ) → i < j → (at (grid i l)).u <ℤ (at (grid j l)).u
  east_of_it i j l h = omega (arith, ints, up i j h, ap (λ k. k.u) (on i l), ap (λ k. k.u) (on j l))

  north_of_it : (i j l : ℕ) → i < j → (at (grid l i)).v <ℤ (at (grid l j)).v
  north_of_it i j l h = omega (arith, ints, up i j h, ap (λ k. k.v) (on l i), ap (λ k. k.v) (on l j))

  pub v_is : (i j : ℕ) → (at (grid i j)).v ≡ g j
  v_is i j = ap (λ k. k.v) (on i j)

  pub u_is : (i j : ℕ) → (at (grid i j)).u ≡ g i
  u_is i j = ap (λ k. k.u) (on i j)

  mid_follow : (side : Side) (line : ℤ) (a m b : A) → ComesAfter side line (at a) (at m)
      → ComesAfter side line (at m) (at b)
      → ComesAfter side line (at a) (at b) → (has : Bool) → Follow at side line a (midpoint has m ++ b ∷ [])
  mid_follow side line a m b f h k true = (f, (h, tt))
  mid_follow side line a m b f h k false = (k, tt)

  -- the rectangle of a node
  abbrev pub node : ℕ → ℕ → ℕ → Rect
  node k x y = box (g (line_of k x)) (g (line_of k y)) (g (line_of k (x + 1))) (g (line_of k (y + 1)))

  pub leaf_is_ring : (k x y : ℕ) (m : Midpoints) → IsRing at (node (suc k) x y) (leaf_ring grid k x y m)
  leaf_is_ring k x y m =
      let W = line_of (suc k) x in let X = line_of k (2 * x + 1) in let E = line_of (suc k) (x + 1) in
      let S = line_of (suc k) y in let Y = line_of k (2 * y + 1) in let N = line_of (suc k) (y + 1) in
      let a = first_half k x in let b = second_half k x in let ab = next_line (suc k) x in
      let c = first_half k y in let d = second_half k y in let cd = next_line (suc k) y in
      record {
        south_west = on W S;
        south_east = on E S;
        north_east = on E N;
        north_west = on W N;
        south = mid_follow South (g S) (grid W S) (grid X S) (grid E S) (v_is X S, east_of_it W X S a)
            (v_is E S, east_of_it X E S b) (v_is E S, east_of_it W E S ab) m.south;
        east = mid_follow East (g E) (grid E S) (grid E Y) (grid E N) (u_is E Y, north_of_it S Y E c)
            (u_is E N, north_of_it Y N E d) (u_is E N, north_of_it S N E cd) m.east;
        north = mid_follow North (g N) (grid E N) (grid X N) (grid W N) (v_is X N, east_of_it X E N b)
            (v_is W N, east_of_it W X N a) (v_is W N, east_of_it W E N ab) m.north;
        west = mid_follow West (g W) (grid W N) (grid W Y) (grid W S) (u_is W Y, north_of_it Y N W d)
            (u_is W S, north_of_it S Y W c) (u_is W S, north_of_it S N W cd) m.west;
      }

  pub leaf_inside : (k x y : ℕ)
      → InsideRect (node (suc k) x y) (at (grid (line_of k (2 * x + 1)) (line_of k (2 * y + 1))))
  leaf_inside k x y =
      let X = line_of k (2 * x + 1) in let Y = line_of k (2 * y + 1) in
      let W = line_of (suc k) x in let E = line_of (suc k) (x + 1) in let S = line_of (suc k) y in
      let N = line_of (suc k) (y + 1) in
      let u = u_is X Y in let v = v_is X Y in
      record {
        west = omega (arith, ints, u, up W X (first_half k x));
        south = omega (arith, ints, v, up S Y (first_half k y));
        east = omega (arith, ints, u, up X E (second_half k x));
        north = omega (arith, ints, v, up Y N (second_half k y));
      }

  pub leaf_tiles : (k x y : ℕ) (m : Midpoints)
      → Tiling at (InRect (node (suc k) x y)) (InsideRect (node (suc k) x y)) (leaf grid k x y m)
  leaf_tiles k x y m =
      fan_tiles at (node (suc k) x y) (grid (line_of k (2 * x + 1)) (line_of k (2 * y + 1)))
      (leaf_ring grid k x y m)
      (leaf_inside k x y) (leaf_is_ring k x y m)

  pub smallest_tiles : (x y : ℕ)
      → Tiling at (InRect (node zero x y)) (InsideRect (node zero x y)) (smallest grid x y)
  smallest_tiles x y =
      let W = line_of zero x in let E = line_of zero (x + 1) in let S = line_of zero y in
      let N = line_of zero (y + 1) in
      halves_tile at (node zero x y) (up W E (next_line zero x)) (up S N (next_line zero y)) (grid W S)
      (grid E S) (grid E N) (grid W N)
      (on W S) (on E S) (on E N) (on W N)

  -- the four quarters of a node make its rectangle
  pub node_of_quarters : (k x y : ℕ)
      → box (g (line_of k (2 * x))) (g (line_of k (2 * y))) (g (line_of k (2 * x + 1 + 1)))
      (g (line_of k (2 * y + 1 + 1))) ≡ node (suc k) x y
  node_of_quarters k x y =
      ap (λ i. box (g i) (g (line_of k (2 * y))) (g (line_of k (2 * x + 1 + 1)))
      (g (line_of k (2 * y + 1 + 1)))) (line_left k x)
      ∙ ap (λ i. box (g (line_of (suc k) x)) (g i) (g (line_of k (2 * x + 1 + 1)))
      (g (line_of k (2 * y + 1 + 1)))) (line_left k y)
      ∙ ap (λ i. box (g (line_of (suc k) x)) (g (line_of (suc k) y)) (g i) (g (line_of k (2 * y + 1 + 1))))
      (line_right k x)
      ∙ ap (λ i. box (g (line_of (suc k) x)) (g (line_of (suc k) y)) (g (line_of (suc k) (x + 1))) (g i))
      (line_right k y)

  split_tiles : (k x y : ℕ) (a b c d : List (Triple A))
      → Tiling at (InRect (node k (2 * x) (2 * y))) (InsideRect (node k (2 * x) (2 * y))) a
      → Tiling at (InRect (node k (2 * x + 1) (2 * y))) (InsideRect (node k (2 * x + 1) (2 * y))) b
      → Tiling at (InRect (node k (2 * x) (2 * y + 1))) (InsideRect (node k (2 * x) (2 * y + 1))) c
      → Tiling at (InRect (node k (2 * x + 1) (2 * y + 1))) (InsideRect (node k (2 * x + 1) (2 * y + 1))) d
      → Tiling at (InRect (node (suc k) x y)) (InsideRect (node (suc k) x y)) (a ++ (b ++ (c ++ d)))
  split_tiles k x y a b c d ta tb tc td =
      subst (λ (r : Rect). Tiling at (InRect r) (InsideRect r) (a ++ (b ++ (c ++ d))))
      (node_of_quarters k x y)
      (quarters at (g (line_of k (2 * x))) (g (line_of k (2 * y))) (g (line_of k (2 * x + 1 + 1)))
      (g (line_of k (2 * y + 1 + 1)))
      (g (line_of k (2 * x + 1))) (g (line_of k (2 * y + 1))) a b c d
      (up (line_of k (2 * x)) (line_of k (2 * x + 1)) (next_line k (2 * x)))
      (up (line_of k (2 * x + 1)) (line_of k (2 * x + 1 + 1)) (next_line k (2 * x + 1)))
      (up (line_of k (2 * y)) (line_of k (2 * y + 1)) (next_line k (2 * y)))
      (up (line_of k (2 * y + 1)) (line_of k (2 * y + 1 + 1)) (next_line k (2 * y + 1))) ta tb tc td)

  pub leaves_tile : (p : ℕ → ℕ → ℕ → Bool) (m : ℕ → ℕ → ℕ → Midpoints) (k x y : ℕ)
      → Tiling at (InRect (node k x y)) (InsideRect (node k x y)) (leaves grid p m k x y)
  leaves_tile p m zero x y = smallest_tiles x y
  leaves_tile p m (suc k) x y =
      go (p (suc k) x y) (leaves_tile p m k (2 * x) (2 * y)) (leaves_tile p m k (2 * x + 1) (2 * y))
      (leaves_tile p m k (2 * x) (2 * y + 1)) (leaves_tile p m k (2 * x + 1) (2 * y + 1))
    where
      go : (b : Bool)
          → Tiling at (InRect (node k (2 * x) (2 * y))) (InsideRect (node k (2 * x) (2 * y)))
          (leaves grid p m k (2 * x) (2 * y))
          → Tiling at (InRect (node k (2 * x + 1) (2 * y))) (InsideRect (node k (2 * x + 1) (2 * y)))
          (leaves grid p m k (2 * x + 1) (2 * y))
          → Tiling at (InRect (node k (2 * x) (2 * y + 1))) (InsideRect (node k (2 * x) (2 * y + 1)))
          (leaves grid p m k (2 * x) (2 * y + 1))
          → Tiling at (InRect (node k (2 * x + 1) (2 * y + 1))) (InsideRect (node k (2 * x + 1) (2 * y + 1)))
          (leaves grid p m k (2 * x + 1) (2 * y + 1))
          → Tiling at (InRect (node (suc k) x y)) (InsideRect (node (suc k) x y))
          (if b then leaves grid p m k (2 * x) (2 * y) ++ (leaves grid p m k (2 * x + 1) (2 * y)
          ++ (leaves grid p m k (2 * x) (2 * y + 1) ++ leaves grid p m k (2 * x + 1) (2 * y + 1))) else leaf
          grid k x y (m (suc k) x y))
      go true ta tb tc td =
          split_tiles k x y (leaves grid p m k (2 * x) (2 * y)) (leaves grid p m k (2 * x + 1) (2 * y))
          (leaves grid p m k (2 * x) (2 * y + 1)) (leaves grid p m k (2 * x + 1) (2 * y + 1)) ta tb tc td
      go false ta tb tc td = leaf_tiles k x y (m (suc k) x y)
