-- The triangles of a node of side 2 hold no grid points but their corners and the midpoints of the node's sides.
use Rattle.std.proofs.Common.{◌≡◌, ℕ, ◌+◌, ◌*◌, ◌≤◌, refl, sym, ◌∙◌, arith, subst, true, false, Bool, cond, ◌&&◌, Ordering, Less, Equal, Greater, List, [], ◌∷◌}
use Rattle.std.specs.Prelude.{ℤ, pos, ◌-ℤ◌, ◌*ℤ◌, ◌≤ℤ◌, ◌<ℤ◌}
use Rattle.std.proofs.lemmas.Int.{ints}
use Rattle.terrain_base.specs.Grid.{height_in}
use Rattle.polynomial.proofs.Expressions.{Expr, var, num, add, sub, mul}
use Rattle.polynomial.proofs.NormalForm.{by_ring}
use Rattle.polynomial.proofs.Signs.{times_nonneg, times_pos}
use Rattle.mesh_plane.specs.declared.corner.Corner.{Corner}
use Rattle.mesh_plane.specs.declared.corner.Tri.{Tri}
use Rattle.mesh_plane.specs.Plane.{side_of, IsCounterClockwise}
use Rattle.mesh_plane.specs.Surface.{lift_of, gap_under}
use Rattle.mesh_plane.specs.Quadtree.{line_of}
use Rattle.quad_split.specs.Fits.{HoldsPoint, IsNearPlane, Follows, follows, follows_at}
use Rattle.quad_split.specs.Window.{IsInWindow, IsSideOf, AreSidesOf, corner_at, tri_at, fan_at, grid_point, side_between, middle_follows, middles_follow, side_follows, sides_follow}
use Rattle.quad_split.specs.declared.triangle.GridPoint.{GridPoint}
use Rattle.quad_split.specs.declared.triangle.Window.{Window}
use Rattle.quad_split.specs.declared.fan.FanSide.{FanSide}
use Rattle.quad_split.proofs.FanTriangles.{place, up}
use Rattle.quad_split.proofs.Meanings.{same_value, at_test, all_test}
use Rattle.quad_split.proofs.Windows.{is_within}

-- ---- at a corner the plane has the corner's height
abbrev side_expr : (au av bu bv x y : Expr) → Expr
side_expr au av bu bv x y = sub (mul (sub bu au) (sub y (mul (num 1) av))) (mul (sub bv av) (sub x (mul (num 1) au)))

abbrev lift_expr : (x y : Expr) → Expr
lift_expr x y =
    add (add (mul (var 2) (side_expr (var 3) (var 4) (var 6) (var 7) x y))
    (mul (var 5) (side_expr (var 6) (var 7) (var 0) (var 1) x y)))
    (mul (var 8) (side_expr (var 0) (var 1) (var 3) (var 4) x y))

abbrev area_expr : Expr
area_expr = mul (num 1) (sub (mul (sub (var 3) (var 0)) (sub (var 7) (var 1))) (mul (sub (var 4) (var 1)) (sub (var 6) (var 0))))

abbrev numbers : Tri → List ℤ
numbers t = t.a.u ∷ t.a.v ∷ t.a.h ∷ t.b.u ∷ t.b.v ∷ t.b.h ∷ t.c.u ∷ t.c.v ∷ t.c.h ∷ []

lift_at_a : (t : Tri) → lift_of t (pos 1) t.a.u t.a.v ≡ t.a.h *ℤ gap_under t (pos 1)
lift_at_a t = by_ring (lift_expr (var 0) (var 1)) (mul (var 2) area_expr) (numbers t) refl

lift_at_b : (t : Tri) → lift_of t (pos 1) t.b.u t.b.v ≡ t.b.h *ℤ gap_under t (pos 1)
lift_at_b t = by_ring (lift_expr (var 3) (var 4)) (mul (var 5) area_expr) (numbers t) refl

lift_at_c : (t : Tri) → lift_of t (pos 1) t.c.u t.c.v ≡ t.c.h *ℤ gap_under t (pos 1)
lift_at_c t = by_ring (lift_expr (var 6) (var 7)) (mul (var 8) area_expr) (numbers t) refl

near_on_plane : (heights : List ℤ) (tol : ℕ) (t : Tri) (i j : ℕ) → IsCounterClockwise t
    → lift_of t (pos 1) (place i) (place j) ≡ height_in heights i j *ℤ gap_under t (pos 1) → IsNearPlane heights tol t i j
near_on_plane heights tol t i j ccw e =
    let room = times_nonneg (pos tol) (gap_under t (pos 1)) (omega (arith, ints)) (omega (arith, ints, ccw)) in
    omega (arith, ints, e, room)

-- ---- a point that shares a line with each end of an edge
beyond : (p q : Corner) → pos 0 <ℤ ((p.u -ℤ q.u) *ℤ (p.v -ℤ q.v)) → pos 0 ≤ℤ side_of p q (pos 1) q.u p.v → ⊥
beyond p q h k =
    let e : side_of p q (pos 1) q.u p.v ≡ pos 0 -ℤ (p.u -ℤ q.u) *ℤ (p.v -ℤ q.v) =
    by_ring (side_expr (var 0) (var 1) (var 2) (var 3) (var 2) (var 1))
    (sub (num 0) (mul (sub (var 0) (var 2)) (sub (var 1) (var 3)))) (p.u ∷ p.v ∷ q.u ∷ q.v ∷ []) refl in
    omega (arith, ints, e, h, k)

aside : (p q : Corner) → pos 0 <ℤ ((p.u -ℤ q.u) *ℤ (q.v -ℤ p.v)) → pos 0 ≤ℤ side_of p q (pos 1) p.u q.v → ⊥
aside p q h k =
    let e : side_of p q (pos 1) p.u q.v ≡ pos 0 -ℤ (p.u -ℤ q.u) *ℤ (q.v -ℤ p.v) =
    by_ring (side_expr (var 0) (var 1) (var 2) (var 3) (var 0) (var 3))
    (sub (num 0) (mul (sub (var 0) (var 2)) (sub (var 3) (var 1)))) (p.u ∷ p.v ∷ q.u ∷ q.v ∷ []) refl in
    omega (arith, ints, e, h, k)

both_below : (a b c d : ℤ) → a <ℤ b → c <ℤ d → pos 0 <ℤ ((a -ℤ b) *ℤ (c -ℤ d))
both_below a b c d h k =
    let p = times_pos (b -ℤ a) (d -ℤ c) (omega (arith, ints, h)) (omega (arith, ints, k)) in
    let e : (a -ℤ b) *ℤ (c -ℤ d) ≡ (b -ℤ a) *ℤ (d -ℤ c) =
    by_ring (mul (sub (var 0) (var 1)) (sub (var 2) (var 3))) (mul (sub (var 1) (var 0)) (sub (var 3) (var 2)))
    (a ∷ b ∷ c ∷ d ∷ []) refl in
    omega (arith, ints, e, p)

both_above : (a b c d : ℤ) → b <ℤ a → d <ℤ c → pos 0 <ℤ ((a -ℤ b) *ℤ (c -ℤ d))
both_above a b c d h k = times_pos (a -ℤ b) (c -ℤ d) (omega (arith, ints, h)) (omega (arith, ints, k))

-- ---- the points of a square of side 1
on_two : (P : ℕ → Type 0) (w e : ℕ) → e ≡ w + 1 → P w → P e → (i : ℕ) → w ≤ i → i ≤ e → P i
on_two P w e h p q i l k = go (λ d. subst P (sym d) p) (λ d. subst P (sym d) q)
  where
    go : {Q : Type 0} → (i ≡ w → Q) → (i ≡ e → Q) → Q
    go f g = grind (arith, h, l, k)

on_four : (P : ℕ → ℕ → Type 0) (w e s n : ℕ) → e ≡ w + 1 → n ≡ s + 1 → P w s → P e s → P w n → P e n
    → (i j : ℕ) → w ≤ i → i ≤ e → s ≤ j → j ≤ n → P i j
on_four P w e s n f g sw se nw ne i j a b c d =
    on_two (λ j. P i j) s n g (on_two (λ i. P i s) w e f sw se i a b) (on_two (λ i. P i n) w e f nw ne i a b) j c d

by_middle : {P : Type 0} (i m : ℕ) → (i ≤ m → P) → (m ≤ i → P) → P
by_middle i m f g = grind arith

-- ---- the triangles of a square of side 1, and of two such side by side
abbrev window : ℕ → ℕ → ℕ → ℕ → Window
window w e s n = record { west = w; east = e; south = s; north = n }

inside : {w e s n i j : ℕ} → (w ≤ i) × (i ≤ e) → (s ≤ j) × (j ≤ n) → IsInWindow (window w e s n) (grid_point i j)
inside column row = record { west = column.0; east = column.1; south = row.0; north = row.1 }

-- the one of two lines, or the other
in_two : (w e : ℕ) → e ≡ w + 1 → (last : Bool) → (w ≤ cond last e w) × (cond last e w ≤ e)
in_two w e f true = (omega (arith, f), omega arith)
in_two w e f false = (omega arith, omega (arith, f))

-- the first of three lines, the middle one or the last
abbrev of_three : ℕ → ℕ → ℕ → Ordering → ℕ
of_three w x e Less = w
of_three w x e Equal = x
of_three w x e Greater = e

in_three : (w x e : ℕ) → x ≡ w + 1 → e ≡ x + 1 → (o : Ordering) → (w ≤ of_three w x e o) × (of_three w x e o ≤ e)
in_three w x e f g Less = (omega arith, omega (arith, f, g))
in_three w x e f g Equal = (omega (arith, f), omega (arith, g))
in_three w x e f g Greater = (omega (arith, f, g), omega arith)

abbrev in_square : (w e s n : ℕ) → Bool × Bool → GridPoint
in_square w e s n at = grid_point (cond at.0 e w) (cond at.1 n s)

abbrev in_row : (w x e s n : ℕ) → Ordering × Bool → GridPoint
in_row w x e s n at = grid_point (of_three w x e at.0) (cond at.1 n s)

abbrev in_column : (w e s y n : ℕ) → Bool × Ordering → GridPoint
in_column w e s y n at = grid_point (cond at.0 e w) (of_three s y n at.1)

-- what holds at the grid points of the window holds at each that a triangle over them holds
module _ (heights : List ℤ) (P : ℕ → ℕ → Type 0) where
  on_square : (w e s n : ℕ) → e ≡ w + 1 → n ≡ s + 1 → P w s → P e s → P w n → P e n → (a b c : Bool × Bool)
      → let t = tri_at heights (in_square w e s n a) (in_square w e s n b) (in_square w e s n c) in
      IsCounterClockwise t → (i j : ℕ) → HoldsPoint t i j → P i j
  on_square w e s n f g sw se nw ne a b c ccw i j h =
      let within = λ (at : Bool × Bool). inside (in_two w e f at.0) (in_two s n g at.1) in
      let k = is_within heights (window w e s n) (in_square w e s n a) (in_square w e s n b) (in_square w e s n c)
      (within a) (within b) (within c) ccw i j h in
      on_four P w e s n f g sw se nw ne i j k.west k.east k.south k.north

  on_row : (w x e s n : ℕ) → x ≡ w + 1 → e ≡ x + 1 → n ≡ s + 1 → P w s → P x s → P e s → P w n → P x n → P e n
      → (a b c : Ordering × Bool)
      → let t = tri_at heights (in_row w x e s n a) (in_row w x e s n b) (in_row w x e s n c) in
      IsCounterClockwise t → (i j : ℕ) → HoldsPoint t i j → P i j
  on_row w x e s n f g r sw sx se nw nx ne a b c ccw i j h =
      let within = λ (at : Ordering × Bool). inside (in_three w x e f g at.0) (in_two s n r at.1) in
      let k = is_within heights (window w e s n) (in_row w x e s n a) (in_row w x e s n b) (in_row w x e s n c)
      (within a) (within b) (within c) ccw i j h in
      by_middle i x (λ l. on_four P w x s n f r sw sx nw nx i j k.west l k.south k.north)
      (λ l. on_four P x e s n g r sx se nx ne i j l k.east k.south k.north)

  on_column : (w e s y n : ℕ) → e ≡ w + 1 → y ≡ s + 1 → n ≡ y + 1 → P w s → P e s → P w y → P e y → P w n → P e n
      → (a b c : Bool × Ordering)
      → let t = tri_at heights (in_column w e s y n a) (in_column w e s y n b) (in_column w e s y n c) in
      IsCounterClockwise t → (i j : ℕ) → HoldsPoint t i j → P i j
  on_column w e s y n f r q sw se yw ye nw ne a b c ccw i j h =
      let within = λ (at : Bool × Ordering). inside (in_two w e f at.0) (in_three s y n r q at.1) in
      let k = is_within heights (window w e s n) (in_column w e s y n a) (in_column w e s y n b)
      (in_column w e s y n c) (within a) (within b) (within c) ccw i j h in
      by_middle j y (λ l. on_four P w e s y f r sw se yw ye i j k.west k.east k.south l)
      (λ l. on_four P w e y n f q yw ye nw ne i j k.west k.east l k.north)

and_true : (b : Bool) → (b && (true && (true && true))) ≡ b
and_true true = refl
and_true false = refl

-- ---- the three triangles of a side
module _ (heights : List ℤ) (tol : ℕ) where
  -- the plane is near the height at the grid point, if the triangle holds it
  abbrev Near : Tri → ℕ → ℕ → Type 0
  Near t i j = HoldsPoint t i j → IsNearPlane heights tol t i j

  near_a : (a b c : GridPoint) → IsCounterClockwise (tri_at heights a b c) → Near (tri_at heights a b c) a.i a.j
  near_a a b c ccw h =
      near_on_plane heights tol (tri_at heights a b c) a.i a.j ccw (lift_at_a (tri_at heights a b c))

  near_b : (a b c : GridPoint) → IsCounterClockwise (tri_at heights a b c) → Near (tri_at heights a b c) b.i b.j
  near_b a b c ccw h =
      near_on_plane heights tol (tri_at heights a b c) b.i b.j ccw (lift_at_b (tri_at heights a b c))

  near_c : (a b c : GridPoint) → IsCounterClockwise (tri_at heights a b c) → Near (tri_at heights a b c) c.i c.j
  near_c a b c ccw h =
      near_on_plane heights tol (tri_at heights a b c) c.i c.j ccw (lift_at_c (tri_at heights a b c))

  -- a side whose triangles hold no grid points but the node's centre, the side's ends and its midpoint: `r` is a
  -- point beyond the line from the centre to `a`, and `s` one beyond that from `b` to the centre
  module _ (side : FanSide) (good : IsSideOf heights side) (r s : GridPoint)
      (r_out : pos 0 ≤ℤ side_of (corner_at heights side.centre) (corner_at heights side.a) (pos 1) (place r.i) (place r.j) → ⊥)
      (s_out : pos 0 ≤ℤ side_of (corner_at heights side.b) (corner_at heights side.centre) (pos 1) (place s.i) (place s.j) → ⊥)
      (in_first : (P : ℕ → ℕ → Type 0) → P side.centre.i side.centre.j → P side.a.i side.a.j
      → P side.middle.i side.middle.j → P r.i r.j
      → (i j : ℕ) → HoldsPoint (tri_at heights side.centre side.a side.middle) i j → P i j)
      (in_second : (P : ℕ → ℕ → Type 0) → P side.centre.i side.centre.j → P side.middle.i side.middle.j
      → P side.b.i side.b.j → P s.i s.j
      → (i j : ℕ) → HoldsPoint (tri_at heights side.centre side.middle side.b) i j → P i j)
      (in_whole : (P : ℕ → ℕ → Type 0) → P side.centre.i side.centre.j → P side.a.i side.a.j
      → P side.middle.i side.middle.j → P side.b.i side.b.j → P r.i r.j → P s.i s.j
      → (i j : ℕ) → HoldsPoint (tri_at heights side.centre side.a side.b) i j → P i j) where
    abbrev first : Tri
    first = tri_at heights side.centre side.a side.middle

    abbrev second : Tri
    second = tri_at heights side.centre side.middle side.b

    abbrev whole : Tri
    whole = tri_at heights side.centre side.a side.b

    first_follows : Follows heights tol first
    first_follows i j f g h =
        in_first (Near first) (near_a side.centre side.a side.middle good.first)
        (near_b side.centre side.a side.middle good.first) (near_c side.centre side.a side.middle good.first)
        (λ k. absurd (r_out k.ab)) i j h h

    second_follows : Follows heights tol second
    second_follows i j f g h =
        in_second (Near second) (near_a side.centre side.middle side.b good.second)
        (near_b side.centre side.middle side.b good.second) (near_c side.centre side.middle side.b good.second)
        (λ k. absurd (s_out k.ca)) i j h h

    whole_follows : Near whole side.middle.i side.middle.j → Follows heights tol whole
    whole_follows m i j f g h =
        in_whole (Near whole) (near_a side.centre side.a side.b good.whole)
        (near_b side.centre side.a side.b good.whole) m (near_c side.centre side.a side.b good.whole)
        (λ k. absurd (r_out k.ab)) (λ k. absurd (s_out k.ca)) i j h h

    side_by_middle : follows_at heights tol whole side.middle.i side.middle.j ≡ side_follows heights tol side
    side_by_middle =
        let one : follows heights tol first ≡ true = (all_test heights tol first).1 first_follows in
        let two : follows heights tol second ≡ true = (all_test heights tol second).1 second_follows in
        let same : follows_at heights tol whole side.middle.i side.middle.j ≡ follows heights tol whole =
        same_value _ _ (at_test heights tol whole side.middle.i side.middle.j) (
          λ f. (all_test heights tol whole).0 f side.middle.i side.middle.j good.middle.column good.middle.row,
          λ m. (all_test heights tol whole).1 (whole_follows m),
        ) in
        same ∙ rw (one, two) (sym (and_true (follows heights tol whole)))

-- ---- the sides of a node of side 2
next_place : (i j : ℕ) → j ≡ i + 1 → place i <ℤ place j
next_place i j e = up i j (omega (arith, e))

-- where a corner of a square is: whether east, and whether north
abbrev south_west : Bool × Bool
south_west = (false, false)

abbrev south_east : Bool × Bool
south_east = (true, false)

abbrev north_west : Bool × Bool
north_west = (false, true)

abbrev north_east : Bool × Bool
north_east = (true, true)

-- its columns are W, X and E, and its rows S, Y and N
module _ (heights : List ℤ) (tol W X E S Y N : ℕ) (x : X ≡ W + 1) (e : E ≡ X + 1) (y : Y ≡ S + 1) (n : N ≡ Y + 1) where
  abbrev at : ℕ → ℕ → Corner
  at i j = corner_at heights (grid_point i j)

  abbrev south_side : FanSide
  south_side = side_between (grid_point X Y) (grid_point W S) (grid_point X S) (grid_point E S)

  pub south_by_middle : IsSideOf heights south_side
      → middle_follows heights tol south_side ≡ side_follows heights tol south_side
  south_by_middle good =
      side_by_middle heights tol south_side good (grid_point W Y) (grid_point E Y)
      (beyond (at X Y) (at W S) (both_above _ _ _ _ (next_place W X x) (next_place S Y y)))
      (aside (at E S) (at X Y) (both_above _ _ _ _ (next_place X E e) (next_place S Y y)))
      (λ P c a m r. on_square heights P W X S Y x y a m r c north_east south_west south_east good.first)
      (λ P c m b s. on_square heights P X E S Y e y m b c s north_west south_west south_east good.second)
      (λ P c a m b r s. on_row heights P W X E S Y x e y a m b r c s (Equal, true) (Less, false) (Greater, false) good.whole)

  abbrev east_side : FanSide
  east_side = side_between (grid_point X Y) (grid_point E S) (grid_point E Y) (grid_point E N)

  pub east_by_middle : IsSideOf heights east_side
      → middle_follows heights tol east_side ≡ side_follows heights tol east_side
  east_by_middle good =
      side_by_middle heights tol east_side good (grid_point X S) (grid_point X N)
      (aside (at X Y) (at E S) (both_below _ _ _ _ (next_place X E e) (next_place S Y y)))
      (beyond (at E N) (at X Y) (both_above _ _ _ _ (next_place X E e) (next_place Y N n)))
      (λ P c a m r. on_square heights P X E S Y e y r a c m north_west south_east north_east good.first)
      (λ P c m b s. on_square heights P X E Y N e n c m s b south_west south_east north_east good.second)
      (λ P c a m b r s. on_column heights P X E S Y N e y n r a c m s b (false, Equal) (true, Less) (true, Greater) good.whole)

  abbrev north_side : FanSide
  north_side = side_between (grid_point X Y) (grid_point E N) (grid_point X N) (grid_point W N)

  pub north_by_middle : IsSideOf heights north_side
      → middle_follows heights tol north_side ≡ side_follows heights tol north_side
  north_by_middle good =
      side_by_middle heights tol north_side good (grid_point E Y) (grid_point W Y)
      (beyond (at X Y) (at E N) (both_below _ _ _ _ (next_place X E e) (next_place Y N n)))
      (aside (at W N) (at X Y) (both_below _ _ _ _ (next_place W X x) (next_place Y N n)))
      (λ P c a m r. on_square heights P X E Y N e n c r m a south_west north_east north_west good.first)
      (λ P c m b s. on_square heights P W X Y N x n s c b m south_east north_east north_west good.second)
      (λ P c a m b r s. on_row heights P W X E Y N x e n s c r b m a (Equal, false) (Greater, true) (Less, true) good.whole)

  abbrev west_side : FanSide
  west_side = side_between (grid_point X Y) (grid_point W N) (grid_point W Y) (grid_point W S)

  pub west_by_middle : IsSideOf heights west_side
      → middle_follows heights tol west_side ≡ side_follows heights tol west_side
  west_by_middle good =
      side_by_middle heights tol west_side good (grid_point X N) (grid_point X S)
      (aside (at X Y) (at W N) (both_above _ _ _ _ (next_place W X x) (next_place Y N n)))
      (beyond (at W S) (at X Y) (both_below _ _ _ _ (next_place W X x) (next_place S Y y)))
      (λ P c a m r. on_square heights P W X Y N x n m c a r south_east north_west south_west good.first)
      (λ P c m b s. on_square heights P W X S Y x y b s m c north_east north_west south_west good.second)
      (λ P c a m b r s. on_column heights P W X S Y N x y n b s m c a r (true, Equal) (false, Greater) (false, Less) good.whole)

-- a node of side 2 follows the heights where the triangle of each whole side does at the side's midpoint
pub by_middles : (heights : List ℤ) (tol x y : ℕ) → AreSidesOf heights (fan_at 0 x y)
    → middles_follow heights tol (fan_at 0 x y) ≡ sides_follow heights tol (fan_at 0 x y)
by_middles heights tol x y good =
    let W = line_of 1 x in let X = line_of 0 (2 * x + 1) in let E = line_of 1 (x + 1) in
    let S = line_of 1 y in let Y = line_of 0 (2 * y + 1) in let N = line_of 1 (y + 1) in
    let a : X ≡ W + 1 = omega arith in let b : E ≡ X + 1 = omega arith in
    let c : Y ≡ S + 1 = omega arith in let d : N ≡ Y + 1 = omega arith in
    let south = south_by_middle heights tol W X E S Y N a b c d good.south in
    let east = east_by_middle heights tol W X E S Y N a b c d good.east in
    let north = north_by_middle heights tol W X E S Y N a b c d good.north in
    let west = west_by_middle heights tol W X E S Y N a b c d good.west in
    rw (south, east, north, west) refl
