-- Heights where a segment meets a level: how large they are, and when two are one.
use Rattle.std.proofs.Common.{◌≡◌, ◌≤◌, refl, ap, sym, ◌∙◌, arith, IsTrue, nat_eq, of_z, [], ◌∷◌}
use Rattle.std.specs.Int.{w128}
use Rattle.std.specs.Prelude.{◌↔◌, ℤ, pos, negsuc, ◌-ℤ◌, ◌*ℤ◌, ◌≤ℤ◌, unsigned_abs}
use Rattle.std.proofs.lemmas.Int.{ints}
use Rattle.polynomial.proofs.Expressions.{var, mul}
use Rattle.polynomial.proofs.NormalForm.{by_ring}
use Rattle.polynomial.proofs.Signs.{times_nonneg, times_pos}
use Rattle.mesh_plane.specs.declared.corner.Tri.{Tri}
use Rattle.mesh_plane.specs.Plane.{side_of, doubled_area, IsScale, IsTilePoint}
use Rattle.mesh_plane.specs.Surface.{lift_of, gap_under}
use Rattle.mesh_plane.proofs.Sizes.{size_product}
use Rattle.mesh_plane.proofs.Heights.{cancelled}
use Rattle.mesh_check.specs.Slab.{Segment, under, over, SameAt}
use Rattle.mesh_check.specs.Members.{HoldsEnd}
use Rattle.mesh_check.specs.Level.{IsCodeTri, Meets}
use Rattle.mesh_check.proofs.Sides.{three_sides}
use Rattle.mesh_check.proofs.Bits.{at_most}

-- equal numbers of 128 bits
pub same_wide : (a b : ℤ) → pos 0 ≤ℤ a → pos 0 ≤ℤ b → IsTrue (nat_eq (of_z w128 a) (of_z w128 b)) ↔ (a ≡ b)
same_wide (pos a) (pos b) h k = (
  (λ e. let same : a ≡ b = grind arith in ap pos same),
  (λ e. let same : a ≡ b = omega (arith, ints, e) in grind arith),
)
same_wide (pos a) (negsuc b) h k = absurd (omega (arith, ints, k))
same_wide (negsuc a) b h k = absurd (omega (arith, ints, h))

-- a u times a rise
pub product_size : (a b : ℤ) → pos 0 ≤ℤ a → a ≤ℤ pos 1073676289 → pos 1 ≤ℤ b → b ≤ℤ pos 32767
    → unsigned_abs (a *ℤ b) ≤ 35181150961663
product_size a b al ah bl bh =
    size_product a b 1073676289 32767 (omega (arith, ints, al, ah)) (omega (arith, ints, bl, bh))

module _ (g : Segment) (v : ℤ) (m : Meets v g) where
  -- the point lies on the tile
  pub end_point : IsTilePoint (under g) (over g v) (under g *ℤ v)
  end_point =
      let low_part = at_most g.low.u (g.high.v -ℤ v) m.on_tile.low.east (omega (arith, ints, m.high)) in
      let high_part = at_most g.high.u (v -ℤ g.low.v) m.on_tile.high.east (omega (arith, ints, m.low)) in
      record {
        west = omega (
          arith,
          ints,
          times_nonneg g.low.u (g.high.v -ℤ v) m.on_tile.low.west (omega (arith, ints, m.high)),
          times_nonneg g.high.u (v -ℤ g.low.v) m.on_tile.high.west (omega (arith, ints, m.low)),
        );
        east = omega (arith, ints, low_part, high_part);
        south = times_nonneg (under g) v (omega (arith, ints, m.up)) (omega (arith, ints, m.low, m.on_tile.low.south));
        north = omega (
          arith,
          ints,
          at_most v (under g) (omega (arith, ints, m.high, m.on_tile.high.north)) (omega (arith, ints, m.up)),
          by_ring (mul (var 0) (var 1)) (mul (var 1) (var 0)) (under g ∷ v ∷ []) refl,
        );
      }

  pub end_scale : IsScale (under g)
  end_scale = record {
    least = omega (arith, ints, m.up);
    greatest = omega (arith, ints, m.on_tile.low.south, m.on_tile.high.north);
  }

  module _ (t : Tri) (i : IsCodeTri t) (h : HoldsEnd g v t) where
    abbrev s : ℤ
    s = under g

    abbrev x : ℤ
    x = over g v

    abbrev y : ℤ
    y = under g *ℤ v

    pub lift_low : pos 0 ≤ℤ lift_of t s x y
    lift_low = omega (
      arith,
      ints,
      times_nonneg t.a.h (side_of t.b t.c s x y) i.a.low h.bc,
      times_nonneg t.b.h (side_of t.c t.a s x y) i.b.low h.ca,
      times_nonneg t.c.h (side_of t.a t.b s x y) i.c.low h.ab,
    )

    lift_high : lift_of t s x y ≤ℤ (pos 32767 *ℤ gap_under t s)
    lift_high = omega (
      arith,
      ints,
      at_most t.a.h (side_of t.b t.c s x y) i.a.high h.bc,
      at_most t.b.h (side_of t.c t.a s x y) i.b.high h.ca,
      at_most t.c.h (side_of t.a t.b s x y) i.c.high h.ab,
      three_sides s x y t.a t.b t.c,
    )

    area_high : doubled_area t ≤ℤ pos 2147352578
    area_high =
        let o = i.on_tile in
        omega (
          arith,
          ints,
          size_product (t.b.u -ℤ t.a.u) (t.c.v -ℤ t.a.v) 32767 32767
              (omega (arith, ints, o.a.west, o.a.east, o.b.west, o.b.east))
              (omega (arith, ints, o.a.south, o.a.north, o.c.south, o.c.north)),
          size_product (t.b.v -ℤ t.a.v) (t.c.u -ℤ t.a.u) 32767 32767
              (omega (arith, ints, o.a.south, o.a.north, o.b.south, o.b.north))
              (omega (arith, ints, o.a.west, o.a.east, o.c.west, o.c.east)),
        )

    pub gap_high : gap_under t s ≤ℤ pos 70368744177664
    gap_high = omega (
      arith,
      ints,
      at_most s (doubled_area t) (omega (arith, ints, m.on_tile.low.south, m.on_tile.high.north))
          (omega (arith, ints, i.turned)),
      area_high,
    )

    pub lift_most : lift_of t s x y ≤ℤ pos 2305843009213693952
    lift_most = omega (arith, ints, lift_high, gap_high)

    pub gap_least : pos 1 ≤ℤ gap_under t s
    gap_least = omega (arith, ints, times_pos s (doubled_area t) (omega (arith, ints, m.up)) i.turned)

  -- heights with the scale below them
  pub same_gaps : (t u : Tri)
      → (lift_of t (under g) (over g v) (under g *ℤ v) *ℤ gap_under u (under g)
      ≡ lift_of u (under g) (over g v) (under g *ℤ v) *ℤ gap_under t (under g))
      ↔ SameAt g v t u
  same_gaps t u =
      let one = lift_of t (under g) (over g v) (under g *ℤ v) in
      let other = lift_of u (under g) (over g v) (under g *ℤ v) in
      let out : (n k : ℤ) → under g *ℤ (n *ℤ k) ≡ n *ℤ (under g *ℤ k) =
      λ n k. by_ring (mul (var 0) (mul (var 1) (var 2))) (mul (var 1) (mul (var 0) (var 2)))
      (under g ∷ n ∷ k ∷ []) refl in (
        (λ e. cancelled (under g) (one *ℤ doubled_area u) (other *ℤ doubled_area t) (omega (arith, ints, m.up))
            (out one (doubled_area u) ∙ e ∙ sym (out other (doubled_area t)))),
        (λ e. sym (out one (doubled_area u)) ∙ ap (λ n. under g *ℤ n) e ∙ out other (doubled_area t)),
      )
