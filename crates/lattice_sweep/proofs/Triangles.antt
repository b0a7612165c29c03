-- A triangle's part in the bound, from its greatest gap in the box.
use Rattle.std.proofs.Common.{◌≡◌, ℕ, ◌+◌, ◌*◌, ◌/◌, ◌%◌, ◌<◌, ◌≤◌, max, min, arith, refl, subst, sym, ◌∙◌}
use Rattle.std.specs.Prelude.{ℤ, pos, ◌*ℤ◌, ◌≤ℤ◌, ◌<ℤ◌, unsigned_abs}
use Rattle.std.specs.Int.{int_min, int_max}
use Rattle.std.proofs.lemmas.Int.{ints, by_lt_z}
use Rattle.std.proofs.lemmas.Nat.{mul-le}
use Rattle.cell_mosaic.specs.Cells.{Cells}
use Rattle.mesh_plane.specs.declared.corner.Tri.{Tri}
use Rattle.mesh_plane.specs.Surface.{gap_under}
use Rattle.lattice_sweep.specs.declared.axis.Axis.{Axis}
use Rattle.lattice_sweep.specs.declared.window.Window.{Window}
use Rattle.lattice_sweep.specs.Axis.{IsCut}
use Rattle.lattice_sweep.specs.Plane.{IsTerrainTri}
use Rattle.lattice_sweep.specs.Sweep.{InWindow, IsRaised}
use Rattle.lattice_sweep.specs.Bound.{GapIn, IsRaisedBound}
use Rattle.lattice_sweep.proofs.Bounds.{raised_by, ceil_few, ceil_keeps, ceil_least}
use Rattle.lattice_sweep.proofs.Boxes.{from_cut, to_cut}

-- the quotient rounded up is at most 32000 where the greatest gap is
pub whole_few : (worst whole : ℕ) (area under : ℤ) → pos 0 <ℤ area → area ≡ under → pos worst ≤ℤ (pos 32000 *ℤ under)
    → whole ≡ worst / unsigned_abs area + min 1 (worst % unsigned_abs area) → whole ≤ 32000
whole_few worst whole area under h e l w =
    let d = unsigned_abs area in
    let p : pos d ≡ under = omega (arith, ints, h, e) in
    subst (λ (k : ℕ). k ≤ 32000) (sym w) (ceil_few worst d (omega (arith, ints, h)) (subst (λ (z : ℤ). pos worst ≤ℤ (pos 32000 *ℤ z)) (sym p) l))

-- a product of two numbers, as one of whole numbers of either sign
product_pos : (b d : ℕ) → pos (b * d) ≡ pos b *ℤ pos d
product_pos b d = refl

module _ (cells : Cells) (window : Window) (t : Tri) (columns rows : Axis) (lu hu lv hv area : ℤ) (worst before : ℕ) (is : IsTerrainTri t)
    (wlu : lu ≡ pos 10125 *ℤ int_min (int_min t.a.u t.b.u) t.c.u) (whu : hu ≡ pos 10125 *ℤ int_max (int_max t.a.u t.b.u) t.c.u)
    (wlv : lv ≡ pos 10125 *ℤ int_min (int_min t.a.v t.b.v) t.c.v) (whv : hv ≡ pos 10125 *ℤ int_max (int_max t.a.v t.b.v) t.c.v)
    (c : IsCut window.east lu hu columns) (d : IsCut window.north lv hv rows)
    (area_is : area ≡ gap_under t (pos 10125)) (above : pos 0 <ℤ area)
    (raised : IsRaised (InWindow cells window.key t columns rows columns.to) 0 worst) where
  -- the greater of the bound so far and the quotient rounded up
  by_quotient : let k = unsigned_abs area in
      IsRaisedBound (GapIn cells window.key t window.east window.north) before (max before (worst / k + min 1 (worst % k)))
  by_quotient =
      let k = unsigned_abs area in
      let under_is : pos k ≡ gap_under t (pos 10125) = omega (arith, ints, above, area_is) in
      raised_by worst k before (omega (arith, ints, above)) raised
      (λ gap i. record { area = under_is; at = from_cut cells window.key t window.east window.north columns rows is lu hu lv hv wlu whu wlv whv c d gap i })
      (λ gap u g. to_cut cells window.key t window.east window.north columns rows is lu hu lv hv wlu whu wlv whv c d gap g.at)
      (λ gap u g. g.area ∙ sym under_is)

  -- a greatest gap within the bound so far leaves it
  pub kept_bound : worst ≤ before * unsigned_abs area → IsRaisedBound (GapIn cells window.key t window.east window.north) before before
  kept_bound within =
      let k = unsigned_abs area in
      let least = ceil_least worst k before (omega (arith, ints, above)) (subst (λ (z : ℤ). pos worst ≤ℤ z) (product_pos before k) (omega (arith, ints, within))) in
      subst (λ (n : ℕ). IsRaisedBound (GapIn cells window.key t window.east window.north) before n) (omega (arith, least)) by_quotient

  -- a greater one raises it to the quotient
  pub raised_bound : (whole : ℕ) → before * unsigned_abs area < worst → whole ≡ worst / unsigned_abs area + min 1 (worst % unsigned_abs area)
      → IsRaisedBound (GapIn cells window.key t window.east window.north) before whole
  raised_bound whole beyond whole_is =
      let k = unsigned_abs area in
      let q = worst / k + min 1 (worst % k) in
      let most = by_lt_z (pos q) (pos before) (λ less. absurd (
      let keeps = ceil_keeps worst k (omega (arith, ints, above)) in
      let grows = mul-le q k before k (omega (arith, ints, less)) (omega arith) in
      omega (arith, ints, beyond, grows, subst (λ (z : ℤ). pos worst ≤ℤ z) (sym (product_pos q k)) keeps)
      )) (λ (at_least : pos before ≤ℤ pos q). at_least) in
      subst (λ (n : ℕ). IsRaisedBound (GapIn cells window.key t window.east window.north) before n) (omega (arith, ints, most, whole_is)) by_quotient
