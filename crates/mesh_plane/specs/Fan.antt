-- A fan round a point strictly inside a rectangle tiles the rectangle.
use Rattle.std.specs.Prelude.{◌≡◌, ℤ, ◌*ℤ◌, ◌≤ℤ◌, ◌<ℤ◌, List, [], ◌∷◌, ◌++◌, map}
use Rattle.mesh_plane.specs.declared.corner.Corner.{Corner}
use Rattle.mesh_plane.specs.Plane.{Point, point}
use Rattle.mesh_plane.specs.Cover.{Tiles}
use Rattle.terrain_base.specs.declared.side.Side.{Side}
use Rattle.terrain_base.specs.declared.side.Side.TheVariants.{South, East, North, West}
use Rattle.mesh_plane.specs.Triangles.{tri_of, fan}

-- a rectangle with sides along the axes
pub record Rect : Type 0 where
  pub west : ℤ
  pub south : ℤ
  pub east : ℤ
  pub north : ℤ

-- the same rectangle in a plane of which all lengths are multiplied by s
abbrev pub grown : ℤ → Rect → Rect
grown s r = record { west = s *ℤ r.west; south = s *ℤ r.south; east = s *ℤ r.east; north = s *ℤ r.north }

-- the point lies in the closed rectangle, and strictly inside it
pub record InRect (r : Rect) (p : Point) : Type 0 where
  pub west : r.west ≤ℤ p.u
  pub south : r.south ≤ℤ p.v
  pub east : p.u ≤ℤ r.east
  pub north : p.v ≤ℤ r.north

pub record InsideRect (r : Rect) (p : Point) : Type 0 where
  pub west : r.west <ℤ p.u
  pub south : r.south <ℤ p.v
  pub east : p.u <ℤ r.east
  pub north : p.v <ℤ r.north

-- the point b comes after a on the line along a side of a rectangle that is gone round counter-clockwise
abbrev pub ComesAfter : Side → ℤ → Point → Point → Type 0
ComesAfter South line a b = (b.v ≡ line) × (a.u <ℤ b.u)
ComesAfter East line a b = (b.u ≡ line) × (a.v <ℤ b.v)
ComesAfter North line a b = (b.v ≡ line) × (b.u <ℤ a.u)
ComesAfter West line a b = (b.u ≡ line) × (b.v <ℤ a.v)

-- each of the corners comes after the one before it, and the first after a
abbrev pub Follow : {A : Type 0} → (A → Point) → Side → ℤ → A → List A → Type 0
Follow at side line a [] = Unit {0}
Follow at side line a (b ∷ bs) = ComesAfter side line (at a) (at b) × Follow at side line b bs

-- a ring: its four corners, and what lies on each side between them, counter-clockwise
pub record Ring (A : Type 0) : Type 0 where
  pub south_west : A
  pub south : List A
  pub south_east : A
  pub east : List A
  pub north_east : A
  pub north : List A
  pub north_west : A
  pub west : List A

-- the sides after their first corners, up to the next ones
abbrev pub south_of : {A : Type 0} → Ring A → List A
south_of g = g.south ++ g.south_east ∷ []

abbrev pub east_of : {A : Type 0} → Ring A → List A
east_of g = g.east ++ g.north_east ∷ []

abbrev pub north_of : {A : Type 0} → Ring A → List A
north_of g = g.north ++ g.north_west ∷ []

abbrev pub west_of : {A : Type 0} → Ring A → List A
west_of g = g.west ++ g.south_west ∷ []

-- the ring after the south-west corner, once round and back to it
abbrev pub round : {A : Type 0} → Ring A → List A
round g = south_of g ++ (east_of g ++ (north_of g ++ west_of g))

-- the ring lies on the border of the rectangle and has its four corners
pub record IsRing {A : Type 0} (at : A → Point) (r : Rect) (g : Ring A) : Type 0 where
  pub south_west : at g.south_west ≡ point r.west r.south
  pub south_east : at g.south_east ≡ point r.east r.south
  pub north_east : at g.north_east ≡ point r.east r.north
  pub north_west : at g.north_west ≡ point r.west r.north
  pub south : Follow at South r.south g.south_west (south_of g)
  pub east : Follow at East r.east g.south_east (east_of g)
  pub north : Follow at North r.north g.north_east (north_of g)
  pub west : Follow at West r.west g.north_west (west_of g)

-- the triangles of c with each two neighbours on a ring round it tile the rectangle
abbrev pub FanLaw : Type 0
FanLaw = (r : Rect) (c : Corner) (g : Ring Corner)
    → InsideRect r (point c.u c.v) → IsRing (λ k. point k.u k.v) r g
    → Tiles (λ s x y. InRect (grown s r) (point x y)) (map tri_of (fan c g.south_west (round g)))
