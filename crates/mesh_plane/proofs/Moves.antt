-- Tilings of which each triangle is turned on by one corner, or mirrored.
use Rattle.std.proofs.Common.{◌≡◌, refl, arith, List, [], ◌∷◌, map, inl, inr}
use Rattle.std.specs.List.{AllByRecursion}
use Rattle.std.proofs.lemmas.Int.{ints}
use Rattle.polynomial.proofs.Expressions.{var}
use Rattle.polynomial.proofs.NormalForm.{by_ring}
use Rattle.mesh_plane.specs.Plane.{Point, point}
use Rattle.mesh_plane.specs.Triangles.{Triple}
use Rattle.mesh_plane.proofs.Turns.{turn, turned, turned_on, turned_points, points}
use Rattle.mesh_plane.proofs.Tilings.{IsCcw, Within, Inside, Held, HeldInside, NoneTwice, Tiling}

-- f t, placed by `to`, is to p what t, placed by `from`, is to back p
pub record Alike {A B : Type 0} (from : A → Point) (to : B → Point) (f : Triple A → Triple B) (back : Point
    → Point) : Type 0 where
  pub ccw : (t : Triple A) → IsCcw from t → IsCcw to (f t)
  pub out : (t : Triple A) (p : Point) → Within to (f t) p → Within from t (back p)
  pub into : (t : Triple A) (p : Point) → Within from t (back p) → Within to (f t) p
  pub inside : (t : Triple A) (p : Point) → Inside to (f t) p → Inside from t (back p)

module _ {A B : Type 0} (from : A → Point) (to : B → Point) (f : Triple A → Triple B) (back : Point
    → Point) (alike : Alike from to f back) where
  moved_ccw : (ts : List (Triple A)) → AllByRecursion (IsCcw from) ts → AllByRecursion (IsCcw to) (map f ts)
  moved_ccw [] h = tt
  moved_ccw (t ∷ ts) h = (alike.ccw t h.0, moved_ccw ts h.1)

  moved_out : (p : Point) (ts : List (Triple A)) → Held to p (map f ts) → Held from (back p) ts
  moved_out p [] h = elim h [ ]
  moved_out p (t ∷ ts) (inl h) = inl (alike.out t p h)
  moved_out p (t ∷ ts) (inr h) = inr (moved_out p ts h)

  moved_into : (p : Point) (ts : List (Triple A)) → Held from (back p) ts → Held to p (map f ts)
  moved_into p [] h = elim h [ ]
  moved_into p (t ∷ ts) (inl h) = inl (alike.into t p h)
  moved_into p (t ∷ ts) (inr h) = inr (moved_into p ts h)

  moved_inside : (p : Point) (ts : List (Triple A)) → HeldInside to p (map f ts) → HeldInside from (back p) ts
  moved_inside p [] h = elim h [ ]
  moved_inside p (t ∷ ts) (inl h) = inl (alike.inside t p h)
  moved_inside p (t ∷ ts) (inr h) = inr (moved_inside p ts h)

  moved_once : (p : Point) (ts : List (Triple A)) → NoneTwice from (back p) ts → NoneTwice to p (map f ts)
  moved_once p [] h = tt
  moved_once p (t ∷ ts) h = (λ s w. h.0 (alike.inside t p s) (moved_inside p ts w), moved_once p ts h.1)

  pub tiling_moved : (R S : Point → Type 0) (ts : List (Triple A)) → Tiling from R S ts
      → Tiling to (λ p. R (back p)) (λ p. S (back p)) (map f ts)
  tiling_moved R S ts h = record {
    ccw = moved_ccw ts h.ccw;
    within = λ p w. h.within (back p) (moved_out p ts w);
    full = λ p r. moved_into p ts (h.full (back p) r);
    inner = λ p w. h.inner (back p) (moved_inside p ts w);
    once = λ p. moved_once p ts (h.once (back p));
  }

pub same_alike : {A : Type 0} (at : A → Point) → Alike at at (λ t. t) (λ p. p)
same_alike at = record { ccw = λ t h. h; out = λ t p h. h; into = λ t p h. h; inside = λ t p h. h }

-- ---- one corner on
abbrev pub shifted : {A : Type 0} → Triple A → Triple A
shifted t = record { a = t.c; b = t.a; c = t.b }

pub shifted_alike : {A : Type 0} (at : A → Point) → Alike at at shifted (λ p. p)
shifted_alike at = record {
  ccw = λ t h. omega (arith, ints, h, turned_on (at t.c) (at t.a) (at t.b));
  out = λ t p h. record { ab = h.bc; bc = h.ca; ca = h.ab };
  into = λ t p h. record { ab = h.ca; bc = h.ab; ca = h.bc };
  inside = λ t p h. record { ab = h.bc; bc = h.ca; ca = h.ab };
}

-- ---- u and v exchanged, and so the other way round
abbrev pub swapped : Point → Point
swapped p = point p.v p.u

abbrev pub flipped : {A : Type 0} → Triple A → Triple A
flipped t = record { a = t.a; b = t.c; c = t.b }

pub turn_swapped : (a b p : Point) → turn (swapped a) (swapped b) (swapped p) ≡ turn b a p
turn_swapped a b p =
    by_ring (turned (var 1) (var 0) (var 3) (var 2) (var 5) (var 4)) (turned_points 1 0 2)
    (points (a ∷ b ∷ p ∷ [])) refl

pub flipped_alike : {A : Type 0} (at : A → Point) → Alike (λ k. swapped (at k)) at flipped swapped
flipped_alike at = record {
  ccw = λ t h. omega (
    arith,
    ints,
    h,
    turn_swapped (at t.a) (at t.b) (at t.c),
    turned_on (at t.b) (at t.a) (at t.c),
  );
  out = λ t p h. record {
    ab = omega (arith, ints, h.ca, turn_swapped (at t.a) (at t.b) p);
    bc = omega (arith, ints, h.bc, turn_swapped (at t.b) (at t.c) p);
    ca = omega (arith, ints, h.ab, turn_swapped (at t.c) (at t.a) p);
  };
  into = λ t p h. record {
    ab = omega (arith, ints, h.ca, turn_swapped (at t.c) (at t.a) p);
    bc = omega (arith, ints, h.bc, turn_swapped (at t.b) (at t.c) p);
    ca = omega (arith, ints, h.ab, turn_swapped (at t.a) (at t.b) p);
  };
  inside = λ t p h. record {
    ab = omega (arith, ints, h.ca, turn_swapped (at t.a) (at t.b) p);
    bc = omega (arith, ints, h.bc, turn_swapped (at t.b) (at t.c) p);
    ca = omega (arith, ints, h.ab, turn_swapped (at t.c) (at t.a) p);
  };
}
