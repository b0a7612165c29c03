-- Lines along the sides of a rectangle, as lines of sweeps.
use Rattle.std.proofs.Common.{◌≡◌, refl, ap, sym, arith, ◌∙◌, List, [], ◌∷◌, ◌++◌, map, subst}
use Rattle.std.specs.Prelude.{ℤ, pos, ◌-ℤ◌, ◌*ℤ◌, ◌<ℤ◌}
use Rattle.std.proofs.lemmas.Int.{ints}
use Rattle.polynomial.proofs.Expressions.{var, num, sub, mul}
use Rattle.polynomial.proofs.NormalForm.{by_ring}
use Rattle.mesh_plane.specs.Plane.{Point}
use Rattle.terrain_base.specs.declared.side.Side.{Side}
use Rattle.terrain_base.specs.declared.side.Side.TheVariants.{South, East, North, West}
use Rattle.mesh_plane.specs.Triangles.{Triple, Outer, outer_end, inner_end}
use Rattle.mesh_plane.specs.Fan.{ComesAfter, Follow}
use Rattle.mesh_plane.specs.Strip.{across}
use Rattle.mesh_plane.proofs.Turns.{turned, turned_back}
use Rattle.mesh_plane.proofs.Tilings.{Tiling, tiling_same}
use Rattle.mesh_plane.proofs.Moves.{swapped, turn_swapped}
use Rattle.mesh_plane.proofs.Sweeps.{Goes, Between, StrictlyBetween, Moves, sweep, Band, OpenBand, sweep_tiles}
use Rattle.mesh_plane.proofs.Sides.{reach, no_reach}
use Rattle.mesh_plane.proofs.Frames.{Sector, OpenSector}

-- where another height is the same
pub goes_same : (h k : Point → ℤ) (a b : Point) → ((p : Point) → h p ≡ k p) → Goes h a b → Goes k a b
goes_same h k a b f g = record { w = g.w; far = g.far; turns = λ p. g.turns p ∙ ap (λ i. g.w *ℤ i) (f p) }

-- the same way back, with what grows on the other side
pub goes_back : (h k : Point → ℤ) (a b : Point) → ((p : Point) → k p ≡ pos 0 -ℤ h p) → Goes h a b → Goes k b a
goes_back h k a b f g = record {
  w = g.w;
  far = g.far;
  turns = λ p.
      turned_back a b p ∙ ap (λ i. pos 0 -ℤ i) (g.turns p)
      ∙ by_ring (sub (num 0) (mul (var 0) (var 1))) (mul (var 0) (sub (num 0) (var 1))) (g.w ∷ h p ∷ []) refl
      ∙ ap (λ i. g.w *ℤ i) (sym (f p));
}

-- the same with u and v exchanged
goes_swapped : (h : Point → ℤ) (a b : Point) → Goes h (swapped b) (swapped a) → Goes (λ p. h (swapped p)) a b
goes_swapped h a b g = record {
  w = g.w;
  far = g.far;
  turns = λ p. sym (turn_swapped b a p) ∙ g.turns (swapped p);
}

goes_east : (line : ℤ) (a b : Point) → across South a ≡ line → ComesAfter South line a b → Goes (reach South line) a b
goes_east line a b e f = record {
  w = b.u -ℤ a.u;
  far = omega (arith, ints, f.1);
  turns = λ p.
      ap (λ i. (b.u -ℤ a.u) *ℤ (p.v -ℤ i) -ℤ (b.v -ℤ i) *ℤ (p.u -ℤ a.u)) e
      ∙ ap (λ i. (b.u -ℤ a.u) *ℤ (p.v -ℤ line) -ℤ (i -ℤ line) *ℤ (p.u -ℤ a.u)) f.0
      ∙ by_ring (turned (var 0) (var 2) (var 1) (var 2) (var 3) (var 4))
      (mul (sub (var 1) (var 0)) (sub (var 4) (var 2)))
      (a.u ∷ b.u ∷ line ∷ p.u ∷ p.v ∷ []) refl;
}

goes_west : (line : ℤ) (a b : Point) → across North a ≡ line → ComesAfter North line a b → Goes (reach North line) a b
goes_west line a b e f =
    goes_back (reach South line) (reach North line) b a (λ p. omega (arith, ints)) (goes_east line b a f.0 (e, f.1))

pub goes : (side : Side) (line : ℤ) (a b : Point) → across side a ≡ line → ComesAfter side line a b
    → Goes (reach side line) a b
goes South line a b e f = goes_east line a b e f
goes North line a b e f = goes_west line a b e f
goes East line a b e f =
    goes_swapped (reach North line) a b (goes_west line (swapped b) (swapped a) f.0 (e, f.1))
goes West line a b e f =
    goes_swapped (reach South line) a b (goes_east line (swapped b) (swapped a) f.0 (e, f.1))

on_line : (side : Side) (line : ℤ) (a b : Point) → ComesAfter side line a b → across side b ≡ line
on_line South line a b f = f.0
on_line East line a b f = f.0
on_line North line a b f = f.0
on_line West line a b f = f.0

-- the ends of a sweep of which all steps are outer ones
outers_end : {A : Type 0} (o e : A) (xs : List A) → outer_end o (map Outer (xs ++ e ∷ [])) ≡ e
outers_end o e [] = refl
outers_end o e (x ∷ xs) = outers_end x e xs

outers_stay : {A : Type 0} (n : A) (xs : List A) → inner_end n (map Outer xs) ≡ n
outers_stay n [] = refl
outers_stay n (x ∷ xs) = outers_stay n xs

module _ {A : Type 0} (at : A → Point) where
  pub follow_moves : (side : Side) (line m : ℤ) (c o : A) (rs : List A) → across side (at o) ≡ line
      → Follow at side line o rs → Moves at (reach side line) m o c (map Outer rs)
  follow_moves side line m c o [] e f = tt
  follow_moves side line m c o (r ∷ rs) e f = (
    goes side line (at o) (at r) e f.0,
    no_reach side line (at r) (on_line side line (at o) (at r) f.0),
    follow_moves side line m c r rs (on_line side line (at o) (at r) f.0) f.1,
  )

  -- a sweep of outer steps alone, up to the point e
  pub outers_tile : (h : Point → ℤ) (m : ℤ) (c o e : A) (xs : List A) → pos 0 <ℤ m → h (at o) ≡ pos 0
      → h (at c) ≡ m
      → Moves at h m o c (map Outer (xs ++ e ∷ []))
      → Tiling at (Band at h m o c e c) (OpenBand at h m o c e c) (sweep at o c (map Outer (xs ++ e ∷ [])))
  outers_tile h m c o e [] hm ho hc s = sweep_tiles at h m o c (Outer e) [] hm ho hc s
  outers_tile h m c o e (x ∷ xs) hm ho hc s =
      let ts = sweep at o c (Outer x ∷ map Outer (xs ++ e ∷ [])) in
      subst (λ (k : A). Tiling at (Band at h m o c e k) (OpenBand at h m o c e k) ts)
      (outers_stay c (xs ++ e ∷ []))
      (subst
      (λ (k : A). Tiling at (Band at h m o c k (inner_end c (map Outer (xs ++ e ∷ []))))
      (OpenBand at h m o c k (inner_end c (map Outer (xs ++ e ∷ [])))) ts)
      (outers_end x e xs)
      (sweep_tiles at h m o c (Outer x) (map Outer (xs ++ e ∷ [])) hm ho hc s))

  -- what lies between two segments, as a sector
  pub band_sector : (h A₁ B₁ first last : Point → ℤ) (m a b : ℤ) (ts : List (Triple A))
      → ((p : Point) → first p ≡ a *ℤ h p -ℤ m *ℤ A₁ p) → ((p : Point) → last p ≡ m *ℤ B₁ p -ℤ b *ℤ h p)
      → Tiling at (λ p. Between (h p) m (first p) (last p)) (λ p. StrictlyBetween (h p) m (first p) (last p)) ts
      → Tiling at (λ p. Sector m (h p) a (A₁ p) b (B₁ p)) (λ p. OpenSector m (h p) a (A₁ p) b (B₁ p)) ts
  band_sector h A₁ B₁ first last m a b ts f g t =
      tiling_same at (λ p. Between (h p) m (first p) (last p)) (λ p. StrictlyBetween (h p) m (first p) (last p))
      (λ p. Sector m (h p) a (A₁ p) b (B₁ p)) (λ p. OpenSector m (h p) a (A₁ p) b (B₁ p)) ts
      (λ p i. record {
        above = i.above;
        below = i.below;
        first = omega (arith, ints, f p, i.right);
        second = omega (arith, ints, g p, i.left);
      })
      (λ p i. record {
        above = i.above;
        below = i.below;
        right = omega (arith, ints, f p, i.first);
        left = omega (arith, ints, g p, i.second);
      })
      (λ p i. record {
        above = i.above;
        below = i.below;
        first = omega (arith, ints, f p, i.right);
        second = omega (arith, ints, g p, i.left);
      })
      t
