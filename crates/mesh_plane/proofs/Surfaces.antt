-- Where triangles cover the tile, their surface has exactly one height at each of its points.
use Rattle.std.proofs.Common.{◌≡◌, refl, ap, sym, subst, arith, ◌∙◌, List, [], ◌∷◌, inl, inr}
use Rattle.std.specs.Prelude.{ℤ, pos, ◌*ℤ◌, ◌≤ℤ◌, ◌⊎◌, Any, AllPairs}
use Rattle.std.specs.List.{AllByRecursion}
use Rattle.std.proofs.lemmas.Int.{ints}
use Rattle.polynomial.proofs.Expressions.{var, mul}
use Rattle.polynomial.proofs.NormalForm.{by_ring}
use Rattle.polynomial.proofs.Signs.{times_pos}
use Rattle.mesh_plane.specs.declared.corner.Tri.{Tri}
use Rattle.mesh_plane.specs.Plane.{doubled_area, IsCounterClockwise, TriangleHolds, IsTilePoint}
use Rattle.mesh_plane.specs.Surface.{lift_of, SameHeight, HasHeight, Surface}
use Rattle.mesh_plane.specs.Cover.{Covers}
use Rattle.mesh_plane.proofs.Heights.{cancelled}
use Rattle.mesh_plane.proofs.ListWords.{all_to, any_none, any_cases, pairs_head, pairs_tail}

pub surface_some : (ts : List Tri) (s x y : ℤ) → Covers ts → pos 1 ≤ℤ s → IsTilePoint s x y
    → (over : ℤ) × (under : ℤ) × Surface ts s x y over under
surface_some ts s x y c h i =
    let a = c.full s x y h i in
    let t = a.1 in
    let ccw : IsCounterClockwise t = subst IsCounterClockwise a.3 (c.counter_clockwise a.0 t a.2) in (
      lift_of t s x y,
      s *ℤ doubled_area t,
      record {
        above_zero = times_pos s (doubled_area t) (omega (arith, ints, h)) ccw;
        shown = (a.0, t, a.2, a.3, (a.4, refl));
      },
    )

module _ (s x y : ℤ) where
  abbrev At : ℤ → ℤ → Tri → Type 0
  At over under t = TriangleHolds s x y t × HasHeight s x y over under t

  abbrev Same : Tri → Tri → Type 0
  Same t u = TriangleHolds s x y t → TriangleHolds s x y u → SameHeight s x y t u

  module _ (m n k l : ℤ) (h : pos 1 ≤ℤ s) where
    -- two fractions of one height
    equal : (t u : Tri) → IsCounterClockwise t → IsCounterClockwise u → At m n t → At k l u
        → SameHeight s x y t u → m *ℤ l ≡ k *ℤ n
    equal t u ht hu a b e =
        let d = doubled_area t in let f = doubled_area u in let i = lift_of t s x y in
        let j = lift_of u s x y in
        let big = times_pos s (d *ℤ f) (omega (arith, ints, h)) (times_pos d f ht hu) in
        cancelled (s *ℤ (d *ℤ f)) (m *ℤ l) (k *ℤ n) big
        (by_ring (mul (mul (var 0) (mul (var 1) (var 2))) (mul (var 3) (var 4)))
        (mul (mul (var 3) (mul (var 0) (var 1))) (mul (var 2) (var 4)))
        (s ∷ d ∷ f ∷ m ∷ l ∷ []) refl
        ∙ ap (λ v. v *ℤ (f *ℤ l)) (sym a.1)
        ∙ by_ring (mul (mul (var 0) (var 1)) (mul (var 2) (var 3)))
        (mul (mul (var 0) (var 2)) (mul (var 1) (var 3))) (i ∷ n ∷ f ∷ l ∷ []) refl
        ∙ ap (λ v. v *ℤ (n *ℤ l)) e
        ∙ by_ring (mul (mul (var 0) (var 1)) (mul (var 2) (var 3)))
        (mul (mul (var 0) (var 3)) (mul (var 1) (var 2))) (j ∷ d ∷ n ∷ l ∷ []) refl
        ∙ ap (λ v. v *ℤ (d *ℤ n)) b.1
        ∙ by_ring (mul (mul (var 0) (mul (var 1) (var 2))) (mul (var 3) (var 4)))
        (mul (mul (var 1) (mul (var 3) (var 2))) (mul (var 0) (var 4)))
        (k ∷ s ∷ f ∷ d ∷ n ∷ []) refl)

    later : (t : Tri) (ts : List Tri) → IsCounterClockwise t → AllByRecursion IsCounterClockwise ts
        → AllByRecursion (Same t) ts
        → At m n t → Any (At k l) ts → m *ℤ l ≡ k *ℤ n
    later t [] ht c o a b = absurd (any_none (At k l) b)
    later t (u ∷ us) ht c o a b = go (any_cases (At k l) u us b) (later t us ht c.1 o.1 a)
      where
        go : At k l u ⊎ Any (At k l) us → (Any (At k l) us → m *ℤ l ≡ k *ℤ n) → m *ℤ l ≡ k *ℤ n
        go (inl i) f = equal t u ht c.0 a i (o.0 a.0 i.0)
        go (inr i) f = f i

  module _ (m n k l : ℤ) (h : pos 1 ≤ℤ s) where
    both_at : (ts : List Tri) → AllByRecursion IsCounterClockwise ts → AllPairs Same ts → Any (At m n) ts
        → Any (At k l) ts → m *ℤ l ≡ k *ℤ n
    both_at [] c o a b = absurd (any_none (At m n) a)
    both_at (t ∷ ts) c o a b =
        go (any_cases (At m n) t ts a) (any_cases (At k l) t ts b) (both_at ts c.1 (pairs_tail Same t ts o))
      where
        go : At m n t ⊎ Any (At m n) ts → At k l t ⊎ Any (At k l) ts
            → (Any (At m n) ts → Any (At k l) ts → m *ℤ l ≡ k *ℤ n) → m *ℤ l ≡ k *ℤ n
        go (inl i) (inl j) f = equal m n k l h t t c.0 c.0 i j refl
        go (inl i) (inr j) f = later m n k l h t ts c.0 c.1 (all_to (Same t) ts (pairs_head Same t ts o)) i j
        go (inr i) (inl j) f =
            sym (later k l m n h t ts c.0 c.1 (all_to (Same t) ts (pairs_head Same t ts o)) j i)
        go (inr i) (inr j) f = f i j

    pub surface_one : (ts : List Tri) → Covers ts → Surface ts s x y m n → Surface ts s x y k l
        → m *ℤ l ≡ k *ℤ n
    surface_one ts c a b =
        both_at ts (all_to IsCounterClockwise ts c.counter_clockwise) (c.one_height s x y h) a.shown b.shown
