-- The four sides of a rectangle: which come next to each, and how far inside of its line a point lies.
use Rattle.std.proofs.Common.{◌≡◌, refl, arith}
use Rattle.std.specs.Prelude.{ℤ, pos, ◌-ℤ◌, ◌<ℤ◌}
use Rattle.std.proofs.lemmas.Int.{ints}
use Rattle.terrain_base.specs.declared.side.Side.{Side}
use Rattle.terrain_base.specs.declared.side.Side.TheVariants.{West, South, East, North}
use Rattle.mesh_plane.specs.Plane.{Point, point}
use Rattle.mesh_plane.specs.Fan.{Rect}
use Rattle.mesh_plane.specs.Strip.{across, IsOutside}

-- the side after this one, counter-clockwise, and the one before it
abbrev pub next : Side → Side
next South = East
next East = North
next North = West
next West = South

abbrev pub before : Side → Side
before South = West
before East = South
before North = East
before West = North

pub before_next : (side : Side) → before (next side) ≡ side
before_next South = refl
before_next East = refl
before_next North = refl
before_next West = refl

-- ---- lines
-- how far inside of the line along a side the point lies
abbrev pub reach : Side → ℤ → Point → ℤ
reach South line p = p.v -ℤ line
reach East line p = line -ℤ p.u
reach North line p = line -ℤ p.v
reach West line p = p.u -ℤ line

pub no_reach : (side : Side) (line : ℤ) (a : Point) → across side a ≡ line → reach side line a ≡ pos 0
no_reach South line a e = omega (arith, ints, e)
no_reach East line a e = omega (arith, ints, e)
no_reach North line a e = omega (arith, ints, e)
no_reach West line a e = omega (arith, ints, e)

-- how far the inner line is from the outer one
abbrev pub depth : Side → ℤ → ℤ → ℤ
depth South outer inner = inner -ℤ outer
depth East outer inner = outer -ℤ inner
depth North outer inner = outer -ℤ inner
depth West outer inner = inner -ℤ outer

pub depth_above : (side : Side) (outer inner : ℤ) → IsOutside side outer inner
    → pos 0 <ℤ depth side outer inner
depth_above South outer inner h = omega (arith, ints, h)
depth_above East outer inner h = omega (arith, ints, h)
depth_above North outer inner h = omega (arith, ints, h)
depth_above West outer inner h = omega (arith, ints, h)

-- how far a point lies from the inner line
pub depth_left : (side : Side) (outer inner : ℤ) (p : Point)
    → depth side outer inner -ℤ reach side outer p ≡ pos 0 -ℤ reach side inner p
depth_left South outer inner p = omega (arith, ints)
depth_left East outer inner p = omega (arith, ints)
depth_left North outer inner p = omega (arith, ints)
depth_left West outer inner p = omega (arith, ints)

pub full_depth : (side : Side) (outer inner : ℤ) (p : Point) → across side p ≡ inner
    → reach side outer p ≡ depth side outer inner
full_depth side outer inner p e = omega (arith, ints, depth_left side outer inner p, no_reach side inner p e)

-- ---- rectangles
-- the line of a rectangle along a side
abbrev pub border : Side → Rect → ℤ
border South r = r.south
border East r = r.east
border North r = r.north
border West r = r.west

-- the corner of a rectangle where a side begins, counter-clockwise
abbrev pub start_of : Side → Rect → Point
start_of South r = point r.west r.south
start_of East r = point r.east r.south
start_of North r = point r.east r.north
start_of West r = point r.west r.north

-- a side goes from its start to that of the next side
pub start_across : (side : Side) (r : Rect) → across side (start_of side r) ≡ border side r
start_across South r = refl
start_across East r = refl
start_across North r = refl
start_across West r = refl

pub end_across : (side : Side) (r : Rect) → across side (start_of (next side) r) ≡ border side r
end_across South r = refl
end_across East r = refl
end_across North r = refl
end_across West r = refl

-- how far inside of a side of r the point lies, and that side of an inner rectangle
abbrev pub inset : Rect → Side → Point → ℤ
inset r side p = reach side (border side r) p

abbrev pub gap : Rect → Rect → Side → ℤ
gap r q side = depth side (border side r) (border side q)
