-- Triangles that cover the square of a tile exactly once.
use Rattle.std.specs.Prelude.{ℤ, pos, ◌≤ℤ◌, List, All, Any, AllPairs}
use Rattle.mesh_plane.specs.declared.corner.Tri.{Tri}
use Rattle.mesh_plane.specs.Plane.{IsCounterClockwise, TriangleHolds, TriangleHoldsInside, IsTilePoint, IsTileTri}
use Rattle.mesh_plane.specs.Surface.{SameHeight}

-- no two triangles at different places of the list hold the point strictly
abbrev pub HeldOnce : ℤ → ℤ → ℤ → List Tri → Type 0
HeldOnce s x y ts = AllPairs (λ t u. ¬ (TriangleHoldsInside s x y t × TriangleHoldsInside s x y u)) ts

-- all triangles that hold the point give it one height by their planes
abbrev pub OneHeight : ℤ → ℤ → ℤ → List Tri → Type 0
OneHeight s x y ts = AllPairs (λ t u. TriangleHolds s x y t → TriangleHolds s x y u → SameHeight s x y t u) ts

-- the triangles lie on the tile and cover it once, with one height at each of its points: at every whole scale
-- from 1 on, so at every rational point
pub record Covers (ts : List Tri) : Type 0 where
  pub on_tile : All IsTileTri ts
  pub counter_clockwise : All IsCounterClockwise ts
  pub full : (s x y : ℤ) → pos 1 ≤ℤ s → IsTilePoint s x y → Any (TriangleHolds s x y) ts
  pub once : (s x y : ℤ) → pos 1 ≤ℤ s → HeldOnce s x y ts
  pub one_height : (s x y : ℤ) → pos 1 ≤ℤ s → OneHeight s x y ts

-- at every whole scale from 1 on the triangles hold the points of the region and no others, and none strictly
-- twice; each has a positive area
pub record Tiles (region : ℤ → ℤ → ℤ → Type 0) (ts : List Tri) : Type 0 where
  pub counter_clockwise : All IsCounterClockwise ts
  pub full : (s x y : ℤ) → pos 1 ≤ℤ s → region s x y → Any (TriangleHolds s x y) ts
  pub within : (s x y : ℤ) → pos 1 ≤ℤ s → Any (TriangleHolds s x y) ts → region s x y
  pub once : (s x y : ℤ) → pos 1 ≤ℤ s → HeldOnce s x y ts
