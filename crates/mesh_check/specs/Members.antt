-- The slabs of a mesh, and the triangles that reach through each, in order.
use Rattle.std.specs.Prelude.{◌≡◌, ◌⊎◌, ℕ, ◌<◌, ℤ, pos, ◌+ℤ◌, ◌*ℤ◌, ◌≤ℤ◌, ◌<ℤ◌, List, [], ◌∷◌, length, slice_index_or}
use Rattle.std.specs.Prelude.{All, Any, AllPairs, Contains}
use Rattle.mesh_plane.specs.declared.corner.Tri.{Tri}
use Rattle.mesh_plane.specs.Plane.{IsTileTri, IsCounterClockwise, TriangleHolds}
use Rattle.mesh_check.specs.Slab.{Slab, Segment, under, over, Member, IsMember, Joined, HeightsJoined, SameAt, west}
use Rattle.mesh_check.specs.Slab.{IsTileSegment, IsCode}

-- neighbouring levels
pub record IsSlab (levels : List ℤ) (slab : Slab) : Type 0 where
  pub low : Contains levels slab.low
  pub high : Contains levels slab.high
  pub order : slab.low <ℤ slab.high
  pub none_between : All (λ v. (v ≤ℤ slab.low) ⊎ (slab.high ≤ℤ v)) levels

-- the triangle of a number
abbrev pub IsAt : List Tri → ℕ → Tri → Type 0
IsAt triangles number t = (number < length triangles) × (slice_index_or triangles number t ≡ t)

-- the least v of the triangle is at most the lower level, and its greatest v at least the upper one
pub record Reaches (slab : Slab) (t : Tri) : Type 0 where
  pub down : (t.a.v ≤ℤ slab.low) ⊎ ((t.b.v ≤ℤ slab.low) ⊎ (t.c.v ≤ℤ slab.low))
  pub up : (slab.high ≤ℤ t.a.v) ⊎ ((slab.high ≤ℤ t.b.v) ⊎ (slab.high ≤ℤ t.c.v))

-- the sum of the two u of a segment is over_both / under
abbrev pub over_both : Slab → Segment → ℤ
over_both slab g = over g slab.low +ℤ over g slab.high

-- the first has the lesser sum, and both have one
abbrev pub IsWestOf : Slab → Segment → Segment → Type 0
IsWestOf slab g h = (over_both slab g *ℤ under h) <ℤ (over_both slab h *ℤ under g)

abbrev pub IsLevelWith : Slab → Segment → Segment → Type 0
IsLevelWith slab g h = over_both slab g *ℤ under h ≡ over_both slab h *ℤ under g

-- the order of members: by the left segment, by the right one, by number
abbrev pub Before : Slab → Member → Member → Type 0
Before slab m n =
    IsWestOf slab m.left n.left
    ⊎ (IsLevelWith slab m.left n.left
    × (IsWestOf slab m.right n.right ⊎ (IsLevelWith slab m.right n.right × (m.number < n.number))))

-- the triangles that reach through the slab, with their segments there, in order
pub record AreMembers (slab : Slab) (triangles : List Tri) (ms : List Member) : Type 0 where
  pub numbered : All (λ m. IsAt triangles m.number m.tri) ms
  pub each : All (IsMember slab) ms
  pub ascending : AllPairs (Before slab) ms
  pub all : (number : ℕ) (t : Tri) → IsAt triangles number t → Reaches slab t → Any (λ m. m.number ≡ number) ms

-- the levels are from 0 to 32767, both are among them, and so is the v of each corner
pub record ArePlaced (levels : List ℤ) (triangles : List Tri) : Type 0 where
  pub south : Contains levels (pos 0)
  pub north : Contains levels (pos 32767)
  pub range : All (λ v. (pos 0 ≤ℤ v) × (v ≤ℤ pos 32767)) levels
  pub on_tile : All IsTileTri triangles
  pub corners : All (λ t. Contains levels t.a.v × Contains levels t.b.v × Contains levels t.c.v) triangles

-- the members are joined from edge to edge, with one height at each segment that two of them share
abbrev pub HasHeights : Slab → List Member → Type 0
HasHeights slab [] = Unit {0}
HasHeights slab (m ∷ ms) = HeightsJoined slab m ms

pub record IsWhole (slab : Slab) (triangles : List Tri) : Type 0 where
  pub members : List Member
  pub are : AreMembers slab triangles members
  pub joined : Joined slab west members
  pub heights : HasHeights slab members

-- a segment is one of the four
abbrev pub IsOneOf : Segment → Member → Member → Type 0
IsOneOf g m n = (g ≡ m.left) ⊎ ((g ≡ m.right) ⊎ ((g ≡ n.left) ⊎ (g ≡ n.right)))

-- the triangle holds the point where the segment meets the level v
abbrev pub HoldsEnd : Segment → ℤ → Tri → Type 0
HoldsEnd g v t = TriangleHolds (under g) (over g v) (under g *ℤ v) t

-- a member of the slab, with its number
pub record IsListed (slab : Slab) (triangles : List Tri) (m : Member) : Type 0 where
  pub at : IsAt triangles m.number m.tri
  pub is : IsMember slab m

-- the triangles of two slabs on the two sides of a level agree at the ends of their intervals
abbrev pub AgreesOn : List Tri → Slab → Slab → Type 0
AgreesOn triangles below above =
    (m n : Member) (g : Segment) → IsListed below triangles m → IsListed above triangles n → IsOneOf g m n
    → HoldsEnd g below.high m.tri → HoldsEnd g below.high n.tri → SameAt g below.high m.tri n.tri

-- what an audit without a finding has seen
pub record IsSwept (levels : List ℤ) (triangles : List Tri) : Type 0 where
  pub turned : All IsCounterClockwise triangles
  pub slabs : (slab : Slab) → IsSlab levels slab → IsWhole slab triangles
  pub lines : (below above : Slab) → IsSlab levels below → IsSlab levels above → below.high ≡ above.low
      → AgreesOn triangles below above

-- a member whose segments lie on the tile
pub record IsTileMember (slab : Slab) (m : Member) : Type 0 where
  pub is : IsMember slab m
  pub left : IsTileSegment m.left
  pub right : IsTileSegment m.right

-- no corner lies strictly inside the slab
pub record IsApart (slab : Slab) (t : Tri) : Type 0 where
  pub a : (t.a.v ≤ℤ slab.low) ⊎ (slab.high ≤ℤ t.a.v)
  pub b : (t.b.v ≤ℤ slab.low) ⊎ (slab.high ≤ℤ t.b.v)
  pub c : (t.c.v ≤ℤ slab.low) ⊎ (slab.high ≤ℤ t.c.v)

-- the heights of its segments are codes
pub record IsCodeMember (m : Member) : Type 0 where
  pub left_low : IsCode m.left.low.h
  pub left_high : IsCode m.left.high.h
  pub right_low : IsCode m.right.low.h
  pub right_high : IsCode m.right.high.h
