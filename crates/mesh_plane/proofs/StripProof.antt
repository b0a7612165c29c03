-- The law of strips, at every scale.
use Rattle.std.proofs.Common.{◌≡◌, ap, arith, List, [], ◌∷◌}
use Rattle.std.specs.Prelude.{ℤ, pos, ◌-ℤ◌, ◌*ℤ◌, ◌≤ℤ◌, ◌<ℤ◌}
use Rattle.std.proofs.lemmas.Int.{ints}
use Rattle.polynomial.proofs.Signs.{times_nonneg, factor_nonneg, factor_pos, weaken}
use Rattle.mesh_plane.specs.declared.corner.Corner.{Corner}
use Rattle.mesh_plane.specs.Plane.{Point, point, place_at, side_of}
use Rattle.terrain_base.specs.declared.side.Side.{Side}
use Rattle.terrain_base.specs.declared.side.Side.TheVariants.{South, East, North, West}
use Rattle.mesh_plane.specs.Triangles.{Step, Outer, Inner, strip, outer_end, inner_end}
use Rattle.mesh_plane.specs.Strip.{along, across, IsOutside, Ascend, InQuad, InStrip, StripLaw}
use Rattle.mesh_plane.proofs.Turns.{turn, turned_back, side_scaled}
use Rattle.mesh_plane.proofs.Tilings.{tiling_same}
use Rattle.mesh_plane.proofs.Moves.{swapped, turn_swapped}
use Rattle.mesh_plane.proofs.Sweeps.{Goes}
use Rattle.mesh_plane.proofs.Sides.{reach, depth}
use Rattle.mesh_plane.proofs.Strips.{seen, seen_twice, rise, InBand, InsideBand, goes_along, goes_inner, strip_tiles, outer_end_on, inner_end_on}
use Rattle.mesh_plane.proofs.Scales.{scaled, grow_lt, nonneg_in, nonneg_out, tiles_at_each_scale}

-- ---- the quadrilateral is what lies between the lines and the end segments
pub record QuadAt (a b c d p : Point) : Type 0 where
  pub ab : pos 0 ≤ℤ turn a b p
  pub bc : pos 0 ≤ℤ turn b c p
  pub cd : pos 0 ≤ℤ turn c d p
  pub da : pos 0 ≤ℤ turn d a p

abbrev pub QuadOf : Side → Point → Point → Point → Point → Point → Type 0
QuadOf South o n o' n' = QuadAt o o' n' n
QuadOf East o n o' n' = QuadAt o o' n' n
QuadOf North o n o' n' = QuadAt o n n' o'
QuadOf West o n o' n' = QuadAt o n n' o'

pub left_in : (h : Point → ℤ) (a b p : Point) (g : Goes h a b) → pos 0 ≤ℤ h p → pos 0 ≤ℤ turn a b p
left_in h a b p g k = omega (arith, ints, g.turns p, times_nonneg g.w (h p) (weaken g.far) k)

pub left_out : (h : Point → ℤ) (a b p : Point) (g : Goes h a b) → pos 0 ≤ℤ turn a b p → pos 0 ≤ℤ h p
left_out h a b p g k = factor_nonneg g.w (h p) g.far (omega (arith, ints, g.turns p, k))

pub strictly_out : (h : Point → ℤ) (a b p : Point) (g : Goes h a b) → pos 0 <ℤ turn a b p → pos 0 <ℤ h p
strictly_out h a b p g k = factor_pos g.w (h p) g.far (omega (arith, ints, g.turns p, k))

-- u and v exchanged
exchanged : (a b c d p : Point) → QuadAt a d c b p
    → QuadAt (swapped a) (swapped b) (swapped c) (swapped d) (swapped p)
exchanged a b c d p i = record {
  ab = omega (arith, ints, i.da, turn_swapped a b p);
  bc = omega (arith, ints, i.cd, turn_swapped b c p);
  cd = omega (arith, ints, i.bc, turn_swapped c d p);
  da = omega (arith, ints, i.ab, turn_swapped d a p);
}

-- the quadrilateral as it is seen from its side
abbrev SeenQuad : Side → Point → Point → Point → Point → Point → Type 0
SeenQuad side o n o' n' p = QuadAt (seen side o) (seen side o') (seen side n') (seen side n) (seen side p)

quad_seen : (side : Side) (o n o' n' p : Point) → QuadOf side o n o' n' p → SeenQuad side o n o' n' p
quad_seen South o n o' n' p i = i
quad_seen East o n o' n' p i = i
quad_seen North o n o' n' p i = exchanged o o' n' n p i
quad_seen West o n o' n' p i = exchanged o o' n' n p i

seen_quad : (side : Side) (o n o' n' p : Point) → SeenQuad side o n o' n' p → QuadOf side o n o' n' p
seen_quad South o n o' n' p i = i
seen_quad East o n o' n' p i = i
seen_quad North o n o' n' p i = exchanged (swapped o) (swapped n) (swapped n') (swapped o') (swapped p) i
seen_quad West o n o' n' p i = exchanged (swapped o) (swapped n) (swapped n') (swapped o') (swapped p) i

module _ (outer inner : ℤ) (o n o' n' p : Point) (side : Side) (ho : across side o ≡ outer) (hn : across side n ≡ inner)
    (ho' : across side o' ≡ outer) (hn' : across side n' ≡ inner) (lo : along side o <ℤ along side o')
    (ln : along side n <ℤ along side n') where
  abbrev from_inner : Point → ℤ
  from_inner q = depth side outer inner -ℤ rise side outer q

  on_outer : Goes (rise side outer) (seen side o) (seen side o')
  on_outer = goes_along side outer o o' ho ho' lo

  on_inner : Goes from_inner (seen side n') (seen side n)
  on_inner = goes_inner side outer inner n n' hn hn' ln

  rise_is : rise side outer (seen side p) ≡ reach side outer p
  rise_is = ap (reach side outer) (seen_twice side p)

  pub band_quad : InBand side outer inner o n o' n' p → QuadOf side o n o' n' p
  band_quad i =
      seen_quad side o n o' n' p (record {
        ab = left_in (rise side outer) (seen side o) (seen side o') (seen side p) on_outer
            (omega (arith, ints, i.above, rise_is));
        bc = i.left;
        cd = left_in from_inner (seen side n') (seen side n) (seen side p) on_inner
            (omega (arith, ints, i.below, rise_is));
        da = omega (arith, ints, i.right, turned_back (seen side o) (seen side n) (seen side p));
      })

  pub quad_band : QuadOf side o n o' n' p → InBand side outer inner o n o' n' p
  quad_band k =
      let i = quad_seen side o n o' n' p k in
      let a = left_out (rise side outer) (seen side o) (seen side o') (seen side p) on_outer i.ab in
      let b = left_out from_inner (seen side n') (seen side n) (seen side p) on_inner i.cd in
      record {
        above = omega (arith, ints, a, rise_is);
        below = omega (arith, ints, b, rise_is);
        right = omega (arith, ints, i.da, turned_back (seen side o) (seen side n) (seen side p));
        left = i.bc;
      }

-- ---- the same at the scale s
module _ (s : ℤ) (h : pos 1 ≤ℤ s) where
  outside_scaled : (side : Side) (outer inner : ℤ) → IsOutside side outer inner
      → IsOutside side (s *ℤ outer) (s *ℤ inner)
  outside_scaled South outer inner l = grow_lt s outer inner h l
  outside_scaled East outer inner l = grow_lt s inner outer h l
  outside_scaled North outer inner l = grow_lt s inner outer h l
  outside_scaled West outer inner l = grow_lt s outer inner h l

  abbrev times : Point → Point
  times p = point (s *ℤ p.u) (s *ℤ p.v)

  across_scaled : (side : Side) (line : ℤ) (p : Point) → across side p ≡ line
      → across side (times p) ≡ s *ℤ line
  across_scaled South line p e = ap (λ i. s *ℤ i) e
  across_scaled East line p e = ap (λ i. s *ℤ i) e
  across_scaled North line p e = ap (λ i. s *ℤ i) e
  across_scaled West line p e = ap (λ i. s *ℤ i) e

  along_scaled : (side : Side) (p q : Point) → along side p <ℤ along side q
      → along side (times p) <ℤ along side (times q)
  along_scaled South p q l = grow_lt s p.u q.u h l
  along_scaled East p q l = grow_lt s p.v q.v h l
  along_scaled North p q l = grow_lt s p.u q.u h l
  along_scaled West p q l = grow_lt s p.v q.v h l

  pub ascend_scaled : {A : Type 0} (at : A → Point) (z : A
      → ℤ) (side : Side) (outer inner : ℤ) (o n : A) (steps : List (Step A))
      → Ascend at side outer inner o n steps → Ascend (scaled at z s) side (s *ℤ outer) (s *ℤ inner) o n steps
  ascend_scaled at z side outer inner o n [] a = tt
  ascend_scaled at z side outer inner o n (Outer x ∷ steps) a = (
    across_scaled side outer (at x) a.0,
    along_scaled side (at o) (at x) a.1,
    ascend_scaled at z side outer inner x n steps a.2,
  )
  ascend_scaled at z side outer inner o n (Inner x ∷ steps) a = (
    across_scaled side inner (at x) a.0,
    along_scaled side (at n) (at x) a.1,
    ascend_scaled at z side outer inner o x steps a.2,
  )

  turn_out : (a b : Corner) (p : Point) → pos 0 ≤ℤ turn (place_at s a) (place_at s b) p → pos 0 ≤ℤ side_of a b s p.u p.v
  turn_out a b p =
      nonneg_out s (side_of a b s p.u p.v) (turn (place_at s a) (place_at s b) p) h (side_scaled a b s p.u p.v)

  turn_in : (a b : Corner) (p : Point) → pos 0 ≤ℤ side_of a b s p.u p.v → pos 0 ≤ℤ turn (place_at s a) (place_at s b) p
  turn_in a b p =
      nonneg_in s (side_of a b s p.u p.v) (turn (place_at s a) (place_at s b) p) h (side_scaled a b s p.u p.v)

  quad_out : (a b c d : Corner) (p : Point)
      → QuadAt (place_at s a) (place_at s b) (place_at s c) (place_at s d) p → InQuad a b c d s p.u p.v
  quad_out a b c d p i = record {
    ab = turn_out a b p i.ab;
    bc = turn_out b c p i.bc;
    cd = turn_out c d p i.cd;
    da = turn_out d a p i.da;
  }

  quad_in : (a b c d : Corner) (p : Point) → InQuad a b c d s p.u p.v
      → QuadAt (place_at s a) (place_at s b) (place_at s c) (place_at s d) p
  quad_in a b c d p i = record {
    ab = turn_in a b p i.ab;
    bc = turn_in b c p i.bc;
    cd = turn_in c d p i.cd;
    da = turn_in d a p i.da;
  }

  strip_out : (side : Side) (o n o' n' : Corner) (p : Point)
      → QuadOf side (place_at s o) (place_at s n) (place_at s o') (place_at s n') p
      → InStrip side o n o' n' s p.u p.v
  strip_out South o n o' n' p i = quad_out o o' n' n p i
  strip_out East o n o' n' p i = quad_out o o' n' n p i
  strip_out North o n o' n' p i = quad_out o n n' o' p i
  strip_out West o n o' n' p i = quad_out o n n' o' p i

  strip_in : (side : Side) (o n o' n' : Corner) (p : Point) → InStrip side o n o' n' s p.u p.v
      → QuadOf side (place_at s o) (place_at s n) (place_at s o') (place_at s n') p
  strip_in South o n o' n' p i = quad_in o o' n' n p i
  strip_in East o n o' n' p i = quad_in o o' n' n p i
  strip_in North o n o' n' p i = quad_in o n n' o' p i
  strip_in West o n o' n' p i = quad_in o n n' o' p i

abbrev place : Corner → Point
place k = point k.u k.v

abbrev height : Corner → ℤ
height k = k.h

not_further : (side : Side) (p : Point) → along side p <ℤ along side p → ⊥
not_further side p l = omega (arith, ints, l)

-- what lies between the segments at the ends, at the scale s
abbrev Inner_at : Side → ℤ → ℤ → Corner → Corner → Corner → Corner → ℤ → Point → Type 0
Inner_at side outer inner o n o' n' s =
    InsideBand side (s *ℤ outer) (s *ℤ inner) (place_at s o) (place_at s n) (place_at s o') (place_at s n')

pub strip_law : StripLaw
strip_law side outer inner o n [] l ho hn a lo ln = absurd (not_further side (place o) lo)
strip_law side outer inner o n (t ∷ steps) l ho hn a lo ln =
    let o' = outer_end o (t ∷ steps) in let n' = inner_end n (t ∷ steps) in
    let ho' = outer_end_on place side outer inner o n (t ∷ steps) ho a in
    let hn' = inner_end_on place side outer inner o n (t ∷ steps) hn a in
    tiles_at_each_scale place height (λ s p. InStrip side o n o' n' s p.u p.v)
    (λ s p. Inner_at side outer inner o n o' n' s p)
    (strip side o n (t ∷ steps))
    (λ s h.
    let at = scaled place height s in
    let so = across_scaled s h side outer (place o) ho in
    let sn = across_scaled s h side inner (place n) hn in
    let so' = across_scaled s h side outer (place o') ho' in
    let sn' = across_scaled s h side inner (place n') hn' in
    let slo = along_scaled s h side (place o) (place o') lo in
    let sln = along_scaled s h side (place n) (place n') ln in
    tiling_same at
    (InBand side (s *ℤ outer) (s *ℤ inner) (place_at s o) (place_at s n) (place_at s o') (place_at s n'))
    (λ p. Inner_at side outer inner o n o' n' s p)
    (λ p. InStrip side o n o' n' s p.u p.v) (λ p. Inner_at side outer inner o n o' n' s p)
    (strip side o n (t ∷ steps))
    (λ p i. strip_out s h side o n o' n' p
    (band_quad (s *ℤ outer) (s *ℤ inner) (place_at s o) (place_at s n) (place_at s o')
    (place_at s n') p side so sn so' sn' slo sln i))
    (λ p i. quad_band (s *ℤ outer) (s *ℤ inner) (place_at s o) (place_at s n) (place_at s o')
    (place_at s n') p side so sn so' sn' slo sln
    (strip_in s h side o n o' n' p i))
    (λ p i. i)
    (strip_tiles at side (s *ℤ outer) (s *ℤ inner) o n t steps (outside_scaled s h side outer inner l) so sn
    (ascend_scaled s h place height side outer inner o n (t ∷ steps) a)))
