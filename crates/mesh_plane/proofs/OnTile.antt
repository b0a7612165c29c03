-- The triangles of a tiling of the tile lie on the tile.
use Rattle.std.proofs.Common.{arith, List, [], ◌∷◌, map, inl, inr}
use Rattle.std.specs.Prelude.{ℤ, pos, All}
use Rattle.std.specs.List.{AllByRecursion}
use Rattle.std.proofs.lemmas.Int.{ints}
use Rattle.common_laws.proofs.Lists.{all_weaker}
use Rattle.mesh_plane.specs.Plane.{Point, IsOnTile, IsTileTri}
use Rattle.mesh_plane.specs.Fan.{InRect, InsideRect}
use Rattle.mesh_plane.specs.Triangles.{Triple}
use Rattle.mesh_plane.proofs.Turns.{turn_at_first, turn_at_second, turned_on}
use Rattle.mesh_plane.proofs.Tilings.{IsCcw, Within, Held, Tiling}
use Rattle.mesh_plane.proofs.ListWords.{all_from, all_map_from}
use Rattle.mesh_plane.proofs.Scales.{corner_of, placed, scaled}
use Rattle.mesh_plane.proofs.TileSquare.{tile_at}

-- ---- a triangle holds its corners
module _ {A : Type 0} (at : A → Point) where
  holds_first : (t : Triple A) → IsCcw at t → Within at t (at t.a)
  holds_first t h = record {
    ab = omega (arith, ints, turn_at_first (at t.a) (at t.b));
    bc = omega (arith, ints, h, turned_on (at t.a) (at t.b) (at t.c));
    ca = omega (arith, ints, turn_at_second (at t.c) (at t.a));
  }

  holds_second : (t : Triple A) → IsCcw at t → Within at t (at t.b)
  holds_second t h = record {
    ab = omega (arith, ints, turn_at_second (at t.a) (at t.b));
    bc = omega (arith, ints, turn_at_first (at t.b) (at t.c));
    ca = omega (arith, ints, h, turned_on (at t.a) (at t.b) (at t.c), turned_on (at t.b) (at t.c) (at t.a));
  }

  holds_third : (t : Triple A) → IsCcw at t → Within at t (at t.c)
  holds_third t h = record {
    ab = omega (arith, ints, h);
    bc = omega (arith, ints, turn_at_second (at t.b) (at t.c));
    ca = omega (arith, ints, turn_at_first (at t.c) (at t.a));
  }

  -- all corners lie where the triangles hold points
  record AreCorners (region : Point → Type 0) (t : Triple A) : Type 0 where
    a : region (at t.a)
    b : region (at t.b)
    c : region (at t.c)

  corners_in : (region : Point → Type 0) (ts : List (Triple A)) → AllByRecursion (IsCcw at) ts
      → ((p : Point) → Held at p ts → region p) → AllByRecursion (AreCorners region) ts
  corners_in region [] h f = tt
  corners_in region (t ∷ ts) h f = (
    record {
      a = f (at t.a) (inl (holds_first t h.0));
      b = f (at t.b) (inl (holds_second t h.0));
      c = f (at t.c) (inl (holds_third t h.0));
    },
    corners_in region ts h.1 (λ p i. f p (inr i)),
  )

-- ---- at the scale 1
module _ {A : Type 0} (at : A → Point) (z : A → ℤ) where
  corner_on : (k : A) → InRect (tile_at (pos 1)) (scaled at z (pos 1) k) → IsOnTile (corner_of at z k)
  corner_on k h = record {
    west = omega (arith, ints, h.west);
    east = omega (arith, ints, h.east);
    south = omega (arith, ints, h.south);
    north = omega (arith, ints, h.north);
  }

  triangle_on : (t : Triple A) → AreCorners (scaled at z (pos 1)) (InRect (tile_at (pos 1))) t → IsTileTri (placed at z t)
  triangle_on t h = record { a = corner_on t.a h.a; b = corner_on t.b h.b; c = corner_on t.c h.c }

  pub all_on_tile : (ts : List (Triple A))
      → Tiling (scaled at z (pos 1)) (InRect (tile_at (pos 1))) (InsideRect (tile_at (pos 1))) ts
      → All IsTileTri (map (placed at z) ts)
  all_on_tile ts h =
      all_from IsTileTri (map (placed at z) ts)
      (all_map_from IsTileTri (placed at z) ts
      (all_weaker (AreCorners (scaled at z (pos 1)) (InRect (tile_at (pos 1)))) (λ t. IsTileTri (placed at z t)) triangle_on ts
      (corners_in (scaled at z (pos 1)) (InRect (tile_at (pos 1))) ts h.ccw h.within)))
