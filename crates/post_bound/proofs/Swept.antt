-- What was swept is the bound.
use Rattle.std.proofs.Common.{◌≡◌, ℕ, ◌+◌, ◌-◌, ◌*◌, ◌^◌, ◌≤◌, arith, refl, sym, ap, ◌∙◌, subst, List, [], ◌∷◌}
use Rattle.std.specs.Prelude.{ℤ, pos, ◌+ℤ◌, ◌-ℤ◌, ◌*ℤ◌, ◌≤ℤ◌, ◌<ℤ◌, All, Contains, unsigned_abs}
use Rattle.std.proofs.lemmas.Int.{ints}
use Rattle.std.proofs.lemmas.Nat.{pow-add}
use Rattle.common_laws.proofs.Sizes.{size_of_near, near_of_size}
use Rattle.polynomial.proofs.Expressions.{var, num, sub, mul}
use Rattle.polynomial.proofs.NormalForm.{by_ring}
use Rattle.polynomial.proofs.Signs.{times_pos}
use Rattle.terrain_base.specs.declared.tile.TileId.{TileId}
use Rattle.terrain_base.specs.declared.cell_key.CellKey.{CellKey}
use Rattle.cell_mosaic.specs.Cells.{Cells}
use Rattle.mesh_plane.specs.declared.corner.Tri.{Tri}
use Rattle.mesh_plane.specs.Plane.{IsCounterClockwise, doubled_area}
use Rattle.mesh_plane.specs.Surface.{Surface, HasHeight, lift_of, gap_over, gap_under}
use Rattle.mesh_plane.specs.SurfaceLaw.{IsSurfaceNear}
use Rattle.mesh_plane.proofs.SurfaceLaws.{surface_law, near_moved}
use Rattle.lattice_sweep.specs.Bound.{IsRaisedBound}
use Rattle.post_bound.specs.Posts.{seconds_east, seconds_north, IsPostOf, HasPostAt}
use Rattle.post_bound.specs.Bound.{KeepsBound}
use Rattle.post_bound.specs.Window.{WindowGap}
use Rattle.post_bound.specs.Squares.{GapAmong, Everywhere}
use Rattle.post_bound.specs.Laws.{SweptLaw, OneBoundLaw}

-- ---- from one fraction to the surface's
pub area_above : (ts : List Tri) (t : Tri) (s : ℤ) → pos 1 ≤ℤ s → All IsCounterClockwise ts → Contains ts t → pos 0 <ℤ gap_under t s
area_above ts t s h all i =
    times_pos s (doubled_area t) (omega (arith, ints, h)) (subst IsCounterClockwise i.2 (all i.0 t i.1))

-- where the plane of a triangle is near, and the surface has its height, the surface is near
pub surface_near : (t : Tri) (s u v over under metres n : ℤ) → pos 0 <ℤ gap_under t s → pos 0 <ℤ under → HasHeight s u v over under t
    → gap_over t s u v metres ≤ℤ (n *ℤ gap_under t s) → pos (unsigned_abs (over -ℤ metres *ℤ under)) ≤ℤ (n *ℤ under)
surface_near t s u v over under metres n area above e h =
    let d = gap_under t s in let l = lift_of t s u v in
    let near = near_of_size (l -ℤ metres *ℤ d) (n *ℤ d) h in
    let m = near_moved n metres d l under over area above (sym e) (record { above = near.0; below = omega (arith, ints, near.1) }) in
    size_of_near (over -ℤ metres *ℤ under) (n *ℤ under) m.above (omega (arith, ints, m.below))

-- ---- 648000 is 64 times 10125
pow_split : (z : ℕ) → 6 ≤ z → 2 ^ z ≡ 64 * 2 ^ (z - 6)
pow_split z h =
    let e : z ≡ 6 + (z - 6) = omega arith in
    ap (λ (n : ℕ). 2 ^ n) e ∙ pow-add 2 6 (z - 6)

sixty : (a n x : ℤ) → (a *ℤ (pos 64 *ℤ n) -ℤ pos 64 *ℤ x) *ℤ pos 32767 ≡ pos 64 *ℤ ((a *ℤ n -ℤ x) *ℤ pos 32767)
sixty a n x =
    by_ring (mul (sub (mul (var 0) (mul (num 64) (var 1))) (mul (num 64) (var 2))) (num 32767))
    (mul (num 64) (mul (sub (mul (var 0) (var 1)) (var 2)) (num 32767))) (a ∷ n ∷ x ∷ []) refl

pub coarse : (a : ℤ) (z x : ℕ) → 6 ≤ z → (a *ℤ pos (2 ^ z) -ℤ pos (648000 * x)) *ℤ pos 32767
    ≡ pos 64 *ℤ ((a *ℤ pos (2 ^ (z - 6)) -ℤ pos (10125 * x)) *ℤ pos 32767)
coarse a z x h =
    let e : pos (2 ^ z) ≡ pos 64 *ℤ pos (2 ^ (z - 6)) = ap pos (pow_split z h) in
    let f : pos (648000 * x) ≡ pos 64 *ℤ pos (10125 * x) = omega (arith, ints) in
    ap (λ p. (a *ℤ p -ℤ pos (648000 * x)) *ℤ pos 32767) e
    ∙ ap (λ q. (a *ℤ (pos 64 *ℤ pos (2 ^ (z - 6))) -ℤ q) *ℤ pos 32767) f
    ∙ sixty a (pos (2 ^ (z - 6))) (pos (10125 * x))

-- ---- the bound
module _ (cells : Cells) (tile : TileId) (ts : List Tri) (deep : 6 ≤ tile.z) (ccw : All IsCounterClockwise ts) where
  module _ (bound : ℕ) (r : IsRaisedBound (GapAmong Everywhere cells tile ts) 0 bound) where
    -- at a point of the coarser scale
    near_coarse : (key : CellKey) (turns u v metres over under : ℤ) → IsPostOf cells tile key turns (pos 64 *ℤ u) (pos 64 *ℤ v) metres
        → Surface ts (pos 10125) u v over under → pos (unsigned_abs (over -ℤ metres *ℤ under)) ≤ℤ (pos bound *ℤ under)
    near_coarse key turns u v metres over under p i =
        let a = i.shown in
        let t = a.1 in
        let among : Contains ts t = (a.0, a.2, a.3) in
        let l = lift_of t (pos 10125) u v in
        let d = gap_under t (pos 10125) in
        let w : WindowGap cells tile ts key turns (unsigned_abs (l -ℤ metres *ℤ d)) d = record {
          tri = t;
          u = u;
          v = v;
          metres = metres;
          among = among;
          post = p;
          held = a.4.0;
          area = refl;
          size = refl;
        } in
        surface_near t (pos 10125) u v over under metres (pos bound) (area_above ts t (pos 10125) (omega (arith, ints)) ccw among) i.above_zero a.4.1
        (r.keeps (unsigned_abs (l -ℤ metres *ℤ d)) d (record { key = key; turns = turns; named = tt; at = w }))

    near_all : (u v metres : ℤ) → HasPostAt cells tile u v metres → IsSurfaceNear ts (pos 648000) u v metres (pos bound)
    near_all u v metres h over under i =
        let p = h.post in let key = h.key in let turns = h.turns in
        let x = pos (seconds_east key p.col) +ℤ turns *ℤ pos 1296000 in
        let y = pos (seconds_north key p.row) in
        let u' = (x *ℤ pos (2 ^ (tile.z - 6)) -ℤ pos (10125 * tile.x)) *ℤ pos 32767 in
        let v' = (y *ℤ pos (2 ^ (tile.z - 6)) -ℤ pos (10125 * tile.y)) *ℤ pos 32767 in
        let eu : u ≡ pos 64 *ℤ u' = p.east ∙ coarse x tile.z tile.x deep in
        let ev : v ≡ pos 64 *ℤ v' = p.north ∙ coarse y tile.z tile.y deep in
        near_coarse key turns u' v' metres over under
        (subst (λ (k : ℤ). IsPostOf cells tile key turns (pos 64 *ℤ u') k metres) ev (subst (λ (k : ℤ). IsPostOf cells tile key turns k v metres) eu p))
        ((surface_law.scale ts (pos 10125) (pos 64) u' v' over under (omega (arith, ints))).1
        (subst (λ (k : ℤ). Surface ts (pos 648000) (pos 64 *ℤ u') k over under) ev (subst (λ (k : ℤ). Surface ts (pos 648000) k v over under) eu i)))

  -- what keeps the surface's bound keeps each gap
  each_gap : (n : ℕ) → KeepsBound cells tile ts n → (gap : ℕ) (under : ℤ) → GapAmong Everywhere cells tile ts gap under → pos gap ≤ℤ (pos n *ℤ under)
  each_gap n k gap under whole =
      let g = whole.at in
      let t = g.tri in let l = lift_of t (pos 10125) g.u g.v in let d = gap_under t (pos 10125) in
      let here : Surface ts (pos 10125) g.u g.v l d = record {
        above_zero = area_above ts t (pos 10125) (omega (arith, ints)) ccw g.among;
        shown = (g.among.0, t, g.among.1, g.among.2, (g.held, refl));
      } in
      let h = k.near (pos 64 *ℤ g.u) (pos 64 *ℤ g.v) g.metres (record { key = whole.key; turns = whole.turns; post = g.post }) l d
      ((surface_law.scale ts (pos 10125) (pos 64) g.u g.v l d (omega (arith, ints))).0 here) in
      subst (λ (z : ℤ). z ≤ℤ (pos n *ℤ under)) (sym g.size)
      (subst (λ (z : ℤ). gap_over t (pos 10125) g.u g.v g.metres ≤ℤ (pos n *ℤ z)) (sym g.area) h)

pub swept_law : SweptLaw
swept_law cells tile ts bound deep ccw r = record {
  keeps = record { near = near_all cells tile ts deep ccw bound r };
  least = λ n k. r.sharp n (omega arith) (each_gap cells tile ts deep ccw n k);
}

pub one_bound_law : OneBoundLaw
one_bound_law cells tile ts a b p q = omega (arith, p.least b q.keeps, q.least a p.keeps)
