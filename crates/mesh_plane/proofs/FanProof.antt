-- The law of fans, at every scale.
use Rattle.std.proofs.Common.{ap, List, [], ◌∷◌}
use Rattle.std.specs.Prelude.{ℤ, pos, ◌*ℤ◌, ◌≤ℤ◌}
use Rattle.mesh_plane.specs.Plane.{Point, point}
use Rattle.terrain_base.specs.declared.side.Side.{Side}
use Rattle.terrain_base.specs.declared.side.Side.TheVariants.{South, East, North, West}
use Rattle.mesh_plane.specs.Triangles.{fan}
use Rattle.mesh_plane.specs.Fan.{Rect, grown, InRect, InsideRect, ComesAfter, Follow, Ring, IsRing, south_of, east_of, north_of, west_of, round, FanLaw}
use Rattle.mesh_plane.proofs.Rings.{fan_tiles}
use Rattle.mesh_plane.proofs.Scales.{scaled, grow_lt, tiles_at_each_scale}

after_scaled : (s : ℤ) → pos 1 ≤ℤ s → (side : Side) (line : ℤ) (a b : Point) → ComesAfter side line a b
    → ComesAfter side (s *ℤ line) (point (s *ℤ a.u) (s *ℤ a.v)) (point (s *ℤ b.u) (s *ℤ b.v))
after_scaled s h South line a b f = (ap (λ i. s *ℤ i) f.0, grow_lt s a.u b.u h f.1)
after_scaled s h East line a b f = (ap (λ i. s *ℤ i) f.0, grow_lt s a.v b.v h f.1)
after_scaled s h North line a b f = (ap (λ i. s *ℤ i) f.0, grow_lt s b.u a.u h f.1)
after_scaled s h West line a b f = (ap (λ i. s *ℤ i) f.0, grow_lt s b.v a.v h f.1)

-- what is strictly inside stays so
pub inside_scaled : (s : ℤ) → pos 1 ≤ℤ s → (r : Rect) (p : Point) → InsideRect r p
    → InsideRect (grown s r) (point (s *ℤ p.u) (s *ℤ p.v))
inside_scaled s h r p i = record {
  west = grow_lt s r.west p.u h i.west;
  south = grow_lt s r.south p.v h i.south;
  east = grow_lt s p.u r.east h i.east;
  north = grow_lt s p.v r.north h i.north;
}

module _ {A : Type 0} (at : A → Point) (z : A → ℤ) (s : ℤ) (h : pos 1 ≤ℤ s) where
  follow_scaled : (side : Side) (line : ℤ) (a : A) (bs : List A) → Follow at side line a bs
      → Follow (scaled at z s) side (s *ℤ line) a bs
  follow_scaled side line a [] f = tt
  follow_scaled side line a (b ∷ bs) f =
      (after_scaled s h side line (at a) (at b) f.0, follow_scaled side line b bs f.1)

  -- a ring stays one
  pub ring_scaled : (r : Rect) (g : Ring A) → IsRing at r g → IsRing (scaled at z s) (grown s r) g
  ring_scaled r g f = record {
    south_west = ap (λ p. point (s *ℤ p.u) (s *ℤ p.v)) f.south_west;
    south_east = ap (λ p. point (s *ℤ p.u) (s *ℤ p.v)) f.south_east;
    north_east = ap (λ p. point (s *ℤ p.u) (s *ℤ p.v)) f.north_east;
    north_west = ap (λ p. point (s *ℤ p.u) (s *ℤ p.v)) f.north_west;
    south = follow_scaled South r.south g.south_west (south_of g) f.south;
    east = follow_scaled East r.east g.south_east (east_of g) f.east;
    north = follow_scaled North r.north g.north_east (north_of g) f.north;
    west = follow_scaled West r.west g.north_west (west_of g) f.west;
  }

pub fan_law : FanLaw
fan_law r c g i ring =
    tiles_at_each_scale (λ k. point k.u k.v) (λ k. k.h) (λ s p. InRect (grown s r) p)
    (λ s p. InsideRect (grown s r) p)
    (fan c g.south_west (round g))
    (λ s h. fan_tiles (scaled (λ k. point k.u k.v) (λ k. k.h) s) (grown s r) c g
    (inside_scaled s h r (point c.u c.v) i)
    (ring_scaled (λ k. point k.u k.v) (λ k. k.h) s h r g ring))
