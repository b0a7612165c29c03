-- A strip between two parallel lines tiles what lies between its ends.
use Rattle.std.specs.Prelude.{◌≡◌, ℤ, pos, ◌≤ℤ◌, ◌<ℤ◌, List, [], ◌∷◌, map}
use Rattle.mesh_plane.specs.declared.corner.Corner.{Corner}
use Rattle.mesh_plane.specs.Plane.{Point, point, side_of}
use Rattle.mesh_plane.specs.Cover.{Tiles}
use Rattle.terrain_base.specs.declared.side.Side.{Side}
use Rattle.terrain_base.specs.declared.side.Side.TheVariants.{South, East, North, West}
use Rattle.mesh_plane.specs.Triangles.{tri_of, Step, Outer, Inner, strip, outer_end, inner_end}

-- where the point lies along the lines of a strip, and on which line it is
abbrev pub along : Side → Point → ℤ
along South p = p.u
along East p = p.v
along North p = p.u
along West p = p.v

abbrev pub across : Side → Point → ℤ
across South p = p.v
across East p = p.u
across North p = p.v
across West p = p.u

-- the outer line is further to that side than the inner one
abbrev pub IsOutside : Side → ℤ → ℤ → Type 0
IsOutside South outer inner = outer <ℤ inner
IsOutside East outer inner = inner <ℤ outer
IsOutside North outer inner = inner <ℤ outer
IsOutside West outer inner = outer <ℤ inner

-- each step goes to a point of its line that lies further along than the one before it there
abbrev pub Ascend : {A : Type 0} → (A → Point) → Side → ℤ → ℤ → A → A → List (Step A) → Type 0
Ascend at side outer inner o n [] = Unit {0}
Ascend at side outer inner o n (Outer x ∷ steps) =
    (across side (at x) ≡ outer) × (along side (at o) <ℤ along side (at x))
    × Ascend at side outer inner x n steps
Ascend at side outer inner o n (Inner x ∷ steps) =
    (across side (at x) ≡ inner) × (along side (at n) <ℤ along side (at x))
    × Ascend at side outer inner o x steps

-- the point (x/s, y/s) lies in the closed quadrilateral of four corners that run counter-clockwise
pub record InQuad (a b c d : Corner) (s x y : ℤ) : Type 0 where
  pub ab : pos 0 ≤ℤ side_of a b s x y
  pub bc : pos 0 ≤ℤ side_of b c s x y
  pub cd : pos 0 ≤ℤ side_of c d s x y
  pub da : pos 0 ≤ℤ side_of d a s x y

-- the quadrilateral of a strip that goes from o and n to o' and n'
abbrev pub InStrip : Side → Corner → Corner → Corner → Corner → ℤ → ℤ → ℤ → Type 0
InStrip South o n o' n' = InQuad o o' n' n
InStrip East o n o' n' = InQuad o o' n' n
InStrip North o n o' n' = InQuad o n n' o'
InStrip West o n o' n' = InQuad o n n' o'

-- in whatever order the points of the two lines are taken, at least two on each
abbrev pub StripLaw : Type 0
StripLaw = (side : Side) (outer inner : ℤ) (o n : Corner) (steps : List (Step Corner))
    → let at : Corner → Point = λ k. point k.u k.v in let o' = outer_end o steps in
    let n' = inner_end n steps in
    IsOutside side outer inner → across side (at o) ≡ outer → across side (at n) ≡ inner
    → Ascend at side outer inner o n steps
    → along side (at o) <ℤ along side (at o') → along side (at n) <ℤ along side (at n')
    → Tiles (InStrip side o n o' n') (map tri_of (strip side o n steps))
