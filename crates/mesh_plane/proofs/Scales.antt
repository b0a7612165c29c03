-- What holds at every scale, from what holds of the corners multiplied by the scale.
use Rattle.std.proofs.Common.{◌≡◌, refl, arith, List, [], ◌∷◌, map, inl, inr}
use Rattle.std.specs.Prelude.{ℤ, pos, ◌-ℤ◌, ◌*ℤ◌, ◌≤ℤ◌, ◌<ℤ◌, ◌⊎◌, All, Any}
use Rattle.std.specs.List.{AllByRecursion}
use Rattle.std.proofs.lemmas.Int.{ints}
use Rattle.common_laws.proofs.Lists.{all_weaker}
use Rattle.polynomial.proofs.Expressions.{var, num, mul}
use Rattle.polynomial.proofs.NormalForm.{by_ring}
use Rattle.polynomial.proofs.Signs.{times_nonneg, times_pos, factor_nonneg, factor_pos}
use Rattle.mesh_plane.specs.declared.corner.Corner.{Corner}
use Rattle.mesh_plane.specs.declared.corner.Tri.{Tri}
use Rattle.mesh_plane.specs.Plane.{Point, point, side_of, doubled_area, IsCounterClockwise, TriangleHolds, TriangleHoldsInside}
use Rattle.mesh_plane.specs.Triangles.{Triple}
use Rattle.mesh_plane.specs.Cover.{HeldOnce, Tiles}
use Rattle.mesh_plane.proofs.Turns.{turn, turned, side_scaled}
use Rattle.mesh_plane.proofs.Sweeps.{difference}
use Rattle.mesh_plane.proofs.Tilings.{IsCcw, Within, Inside, Held, HeldInside, NoneTwice, Tiling}
use Rattle.mesh_plane.proofs.ListWords.{all_from, all_to, any_here, any_there, any_none, any_cases, pairs_none, pairs_cons, pairs_head, pairs_tail, all_map_from}

-- ---- multiplied numbers keep their order
pub grow_le : (s a b : ℤ) → pos 1 ≤ℤ s → a ≤ℤ b → (s *ℤ a) ≤ℤ (s *ℤ b)
grow_le s a b h k =
    omega (arith, ints, difference s b a, times_nonneg s (b -ℤ a) (omega (arith, ints)) (omega (arith, ints)))

pub grow_lt : (s a b : ℤ) → pos 1 ≤ℤ s → a <ℤ b → (s *ℤ a) <ℤ (s *ℤ b)
grow_lt s a b h k =
    omega (arith, ints, difference s b a, times_pos s (b -ℤ a) (omega (arith, ints)) (omega (arith, ints)))

pub nonneg_in : (s d t : ℤ) → pos 1 ≤ℤ s → s *ℤ d ≡ t → pos 0 ≤ℤ d → pos 0 ≤ℤ t
nonneg_in s d t h e k = omega (arith, ints, e, times_nonneg s d (omega (arith, ints)) k)

pub nonneg_out : (s d t : ℤ) → pos 1 ≤ℤ s → s *ℤ d ≡ t → pos 0 ≤ℤ t → pos 0 ≤ℤ d
nonneg_out s d t h e k = factor_nonneg s d (omega (arith, ints)) (omega (arith, ints, e))

pos_in : (s d t : ℤ) → pos 1 ≤ℤ s → s *ℤ d ≡ t → pos 0 <ℤ d → pos 0 <ℤ t
pos_in s d t h e k = omega (arith, ints, e, times_pos s d (omega (arith, ints)) k)

pos_out : (s d t : ℤ) → pos 1 ≤ℤ s → s *ℤ d ≡ t → pos 0 <ℤ t → pos 0 <ℤ d
pos_out s d t h e k = factor_pos s d (omega (arith, ints)) (omega (arith, ints, e))

module _ {A : Type 0} (at : A → Point) (z : A → ℤ) where
  -- a corner as it stands in a triangle of the program
  abbrev pub corner_of : A → Corner
  corner_of k = record { u = (at k).u; v = (at k).v; h = z k }

  abbrev pub placed : Triple A → Tri
  placed t = record { a = corner_of t.a; b = corner_of t.b; c = corner_of t.c }

  -- where the corner lies at the scale s
  abbrev pub scaled : ℤ → A → Point
  scaled s k = point (s *ℤ (at k).u) (s *ℤ (at k).v)

  -- ---- one triangle
  pub area_scaled : (s : ℤ) (t : Triple A)
      → turn (scaled s t.a) (scaled s t.b) (scaled s t.c) ≡ (s *ℤ s) *ℤ doubled_area (placed t)
  area_scaled s t =
      by_ring
      (turned (mul (var 6) (var 0)) (mul (var 6) (var 1)) (mul (var 6) (var 2)) (mul (var 6) (var 3))
      (mul (var 6) (var 4)) (mul (var 6) (var 5)))
      (mul (mul (var 6) (var 6)) (turned (var 0) (var 1) (var 2) (var 3) (var 4) (var 5)))
      ((at t.a).u ∷ (at t.a).v ∷ (at t.b).u ∷ (at t.b).v ∷ (at t.c).u ∷ (at t.c).v ∷ s ∷ []) refl

  pub ccw_out : (t : Triple A) → IsCcw (scaled (pos 1)) t → IsCounterClockwise (placed t)
  ccw_out t h =
      omega (
        arith,
        ints,
        h,
        area_scaled (pos 1) t,
        by_ring (mul (mul (num 1) (num 1)) (var 0)) (var 0) (doubled_area (placed t) ∷ []) refl,
      )

  module _ (s x y : ℤ) (h : pos 1 ≤ℤ s) where
    side_is : (k l : A)
        → s *ℤ side_of (corner_of k) (corner_of l) s x y ≡ turn (scaled s k) (scaled s l) (point x y)
    side_is k l = side_scaled (corner_of k) (corner_of l) s x y

    abbrev edge : A → A → ℤ
    edge k l = side_of (corner_of k) (corner_of l) s x y

    abbrev over_edge : A → A → ℤ
    over_edge k l = turn (scaled s k) (scaled s l) (point x y)

    pub holds_in : (t : Triple A) → TriangleHolds s x y (placed t) → Within (scaled s) t (point x y)
    holds_in t i = record {
      ab = nonneg_in s (edge t.a t.b) (over_edge t.a t.b) h (side_is t.a t.b) i.ab;
      bc = nonneg_in s (edge t.b t.c) (over_edge t.b t.c) h (side_is t.b t.c) i.bc;
      ca = nonneg_in s (edge t.c t.a) (over_edge t.c t.a) h (side_is t.c t.a) i.ca;
    }

    pub holds_out : (t : Triple A) → Within (scaled s) t (point x y) → TriangleHolds s x y (placed t)
    holds_out t i = record {
      ab = nonneg_out s (edge t.a t.b) (over_edge t.a t.b) h (side_is t.a t.b) i.ab;
      bc = nonneg_out s (edge t.b t.c) (over_edge t.b t.c) h (side_is t.b t.c) i.bc;
      ca = nonneg_out s (edge t.c t.a) (over_edge t.c t.a) h (side_is t.c t.a) i.ca;
    }

    pub strictly_in : (t : Triple A) → TriangleHoldsInside s x y (placed t) → Inside (scaled s) t (point x y)
    strictly_in t i = record {
      ab = pos_in s (edge t.a t.b) (over_edge t.a t.b) h (side_is t.a t.b) i.ab;
      bc = pos_in s (edge t.b t.c) (over_edge t.b t.c) h (side_is t.b t.c) i.bc;
      ca = pos_in s (edge t.c t.a) (over_edge t.c t.a) h (side_is t.c t.a) i.ca;
    }

    pub strictly_out : (t : Triple A) → Inside (scaled s) t (point x y) → TriangleHoldsInside s x y (placed t)
    strictly_out t i = record {
      ab = pos_out s (edge t.a t.b) (over_edge t.a t.b) h (side_is t.a t.b) i.ab;
      bc = pos_out s (edge t.b t.c) (over_edge t.b t.c) h (side_is t.b t.c) i.bc;
      ca = pos_out s (edge t.c t.a) (over_edge t.c t.a) h (side_is t.c t.a) i.ca;
    }

    -- ---- lists
    pub any_held : (ts : List (Triple A)) → Held (scaled s) (point x y) ts → Any (TriangleHolds s x y) (map placed ts)
    any_held [] i = elim i [ ]
    any_held (t ∷ ts) (inl i) = any_here (TriangleHolds s x y) (placed t) (map placed ts) (holds_out t i)
    any_held (t ∷ ts) (inr i) = any_there (TriangleHolds s x y) (placed t) (map placed ts) (any_held ts i)

    pub held_any : (ts : List (Triple A)) → Any (TriangleHolds s x y) (map placed ts) → Held (scaled s) (point x y) ts
    held_any [] i = any_none (TriangleHolds s x y) i
    held_any (t ∷ ts) i = go (any_cases (TriangleHolds s x y) (placed t) (map placed ts) i) (held_any ts)
      where
        go : TriangleHolds s x y (placed t) ⊎ Any (TriangleHolds s x y) (map placed ts)
            → (Any (TriangleHolds s x y) (map placed ts) → Held (scaled s) (point x y) ts)
            → Held (scaled s) (point x y) (t ∷ ts)
        go (inl j) f = inl (holds_in t j)
        go (inr j) f = inr (f j)

    abbrev NotBoth : Tri → Tri → Type 0
    NotBoth t u = ¬ (TriangleHoldsInside s x y t × TriangleHoldsInside s x y u)

    not_both : (t : Triple A) (ts : List (Triple A))
        → (Inside (scaled s) t (point x y) → ¬ HeldInside (scaled s) (point x y) ts)
        → AllByRecursion (NotBoth (placed t)) (map placed ts)
    not_both t [] f = tt
    not_both t (u ∷ us) f =
        (λ i. f (strictly_in t i.0) (inl (strictly_in u i.1)), not_both t us (λ i j. f i (inr j)))

    pub once_out : (ts : List (Triple A)) → NoneTwice (scaled s) (point x y) ts
        → HeldOnce s x y (map placed ts)
    once_out [] i = pairs_none NotBoth
    once_out (t ∷ ts) i =
        pairs_cons NotBoth (placed t) (map placed ts)
        (all_from (NotBoth (placed t)) (map placed ts) (not_both t ts i.0)) (once_out ts i.1)

    none_inside : (t : Triple A) (ts : List (Triple A)) → AllByRecursion (NotBoth (placed t)) (map placed ts)
        → Inside (scaled s) t (point x y) → ¬ HeldInside (scaled s) (point x y) ts
    none_inside t [] f i j = elim j [ ]
    none_inside t (u ∷ us) f i (inl j) = f.0 (strictly_out t i, strictly_out u j)
    none_inside t (u ∷ us) f i (inr j) = none_inside t us f.1 i j

    pub once_in : (ts : List (Triple A)) → HeldOnce s x y (map placed ts)
        → NoneTwice (scaled s) (point x y) ts
    once_in [] i = tt
    once_in (t ∷ ts) i = (
      none_inside t ts
          (all_to (NotBoth (placed t)) (map placed ts) (pairs_head NotBoth (placed t) (map placed ts) i)),
      once_in ts (pairs_tail NotBoth (placed t) (map placed ts) i),
    )

  pub all_ccw : (ts : List (Triple A)) → AllByRecursion (IsCcw (scaled (pos 1))) ts
      → All IsCounterClockwise (map placed ts)
  all_ccw ts h =
      all_from IsCounterClockwise (map placed ts)
      (all_map_from IsCounterClockwise placed ts
      (all_weaker (IsCcw (scaled (pos 1))) (λ t. IsCounterClockwise (placed t)) ccw_out ts h))

  -- what tiles a region at each scale
  pub tiles_at_each_scale : (region inside : ℤ → Point → Type 0) (ts : List (Triple A))
      → ((s : ℤ) → pos 1 ≤ℤ s → Tiling (scaled s) (region s) (inside s) ts)
      → Tiles (λ s x y. region s (point x y)) (map placed ts)
  tiles_at_each_scale region inside ts f = record {
    counter_clockwise = all_ccw ts (f (pos 1) (omega (arith, ints))).ccw;
    full = λ s x y h r. any_held s x y h ts ((f s h).full (point x y) r);
    within = λ s x y h a. (f s h).within (point x y) (held_any s x y h ts a);
    once = λ s x y h. once_out s x y h ts ((f s h).once (point x y));
  }
