-- A level strictly inside the tile, with the members of the slab below it and those of the slab above.
use Rattle.std.specs.Prelude.{◌≡◌, ◌⊎◌, ℕ, ◌+◌, ◌<◌, ℤ, pos, ◌-ℤ◌, ◌*ℤ◌, ◌≤ℤ◌, ◌<ℤ◌, List, length, slice_index_or}
use Rattle.std.specs.Prelude.{All, Contains}
use Rattle.mesh_plane.specs.declared.corner.Tri.{Tri}
use Rattle.mesh_plane.specs.Plane.{IsTileTri, IsCounterClockwise}
use Rattle.mesh_check.specs.declared.level.Pair.{Pair}
use Rattle.mesh_check.specs.Slab.{Slab, Segment, Member, under, over, Joined, SameAt, west, east, IsTileSlab}
use Rattle.mesh_check.specs.Slab.{IsTileSegment, IsCode}
use Rattle.mesh_check.specs.Members.{IsAt, IsTileMember, HoldsEnd}

-- a triangle on the tile whose heights are codes
pub record IsCodeTri (t : Tri) : Type 0 where
  pub on_tile : IsTileTri t
  pub turned : IsCounterClockwise t
  pub a : IsCode t.a.h
  pub b : IsCode t.b.h
  pub c : IsCode t.c.h

-- the segment lies on the tile and meets the level
pub record Meets (v : ℤ) (g : Segment) : Type 0 where
  pub on_tile : IsTileSegment g
  pub up : g.low.v <ℤ g.high.v
  pub low : g.low.v ≤ℤ v
  pub high : v ≤ℤ g.high.v

-- how far the second segment is east of the first on the level, times both their rises
abbrev pub east_by : ℤ → Segment → Segment → ℤ
east_by v g h = over h v *ℤ under g -ℤ over g v *ℤ under h

-- the members of two slabs of one mesh, the one below the level and the other above it, each joined from edge to edge
pub record AreBeside (v : ℤ) (lower upper : List Member) : Type 0 where
  pub below : Slab
  pub above : Slab
  pub triangles : List Tri
  pub top : below.high ≡ v
  pub bottom : above.low ≡ v
  pub is_below : IsTileSlab below
  pub is_above : IsTileSlab above
  pub codes : All IsCodeTri triangles
  pub numbered_lower : All (λ m. IsAt triangles m.number m.tri) lower
  pub numbered_upper : All (λ m. IsAt triangles m.number m.tri) upper
  pub each_lower : All (IsTileMember below) lower
  pub each_upper : All (IsTileMember above) upper
  pub joined_lower : Joined below west lower
  pub joined_upper : Joined above west upper

-- a member below and one above that both hold the end of the segment on the level
pub record Held (v : ℤ) (lower upper : List Member) (g : Segment) : Type 0 where
  pub below : Member
  pub above : Member
  pub in_lower : Contains lower below
  pub in_upper : Contains upper above
  pub holds_below : HoldsEnd g v below.tri
  pub holds_above : HoldsEnd g v above.tri

-- both have one height there
pub record IsWitness (v : ℤ) (lower upper : List Member) (g : Segment) : Type 0 where
  pub held : Held v lower upper g
  pub agree : SameAt g v held.below.tri held.above.tri

-- at each left end on the level, from below or above, and at the east edge, a member below and one above have one
-- height
pub record IsWitnessed (v : ℤ) (lower upper : List Member) : Type 0 where
  pub lower_ends : All (λ m. IsWitness v lower upper m.left) lower
  pub upper_ends : All (λ m. IsWitness v lower upper m.left) upper
  pub last : IsWitness v lower upper east

-- an end on the level at which a member below and one above have two heights
pub record IsBreak (v : ℤ) (lower upper : List Member) : Type 0 where
  pub end_of : Member
  pub listed : Contains lower end_of ⊎ Contains upper end_of
  pub end : Segment
  pub is_end : (end ≡ end_of.left) ⊎ (end ≡ end_of.right)
  pub held : Held v lower upper end
  pub differs : ¬ SameAt end v held.below.tri held.above.tri

-- a member of the slab below the level and one of the slab above, of one mesh, that overlap on the level: neither
-- begins there further east than the other one ends
pub record Meeting (v : ℤ) (lower upper : Member) : Type 0 where
  pub below : Slab
  pub above : Slab
  pub top : below.high ≡ v
  pub bottom : above.low ≡ v
  pub is_below : IsTileSlab below
  pub is_above : IsTileSlab above
  pub is_lower : IsTileMember below lower
  pub is_upper : IsTileMember above upper
  pub lower_code : IsCodeTri lower.tri
  pub upper_code : IsCodeTri upper.tri
  pub one : lower.number ≡ upper.number → lower.tri ≡ upper.tri
  pub lower_first : pos 0 ≤ℤ east_by v lower.left upper.right
  pub upper_first : pos 0 ≤ℤ east_by v upper.left lower.right

-- the left segment that is not west of the other one on the level; both members hold that end
pub record Later (v : ℤ) (lower upper : Member) (g : Segment) : Type 0 where
  pub is : (g ≡ lower.left) ⊎ (g ≡ upper.left)
  pub after_lower : pos 0 ≤ℤ east_by v lower.left g
  pub after_upper : pos 0 ≤ℤ east_by v upper.left g
  pub meets : Meets v g
  pub holds_lower : HoldsEnd g v lower.tri
  pub holds_upper : HoldsEnd g v upper.tri

-- the left and the right segment of the member at a place
abbrev pub left_at : List Member → ℕ → Member → Segment
left_at ms k d = (slice_index_or ms k d).left

abbrev pub right_at : List Member → ℕ → Member → Segment
right_at ms k d = (slice_index_or ms k d).right

-- the members at the two places overlap
pub record Overlap (v : ℤ) (lower upper : List Member) (at : Pair) : Type 0 where
  pub in_lower : at.lower < length lower
  pub in_upper : at.upper < length upper
  pub lower_first : (d : Member) → pos 0 ≤ℤ east_by v (left_at lower at.lower d) (right_at upper at.upper d)
  pub upper_first : (d : Member) → pos 0 ≤ℤ east_by v (left_at upper at.upper d) (right_at lower at.lower d)

-- one place or both go on by one, each only where its member ends no further east than the other one
pub record IsNext (v : ℤ) (lower upper : List Member) (at next : Pair) : Type 0 where
  pub in_lower : next.lower < length lower
  pub in_upper : next.upper < length upper
  pub lower_by : (next.lower ≡ at.lower)
      ⊎ ((next.lower ≡ at.lower + 1)
      × ((d : Member) → pos 0 ≤ℤ east_by v (right_at lower at.lower d) (right_at upper at.upper d)))
  pub upper_by : (next.upper ≡ at.upper)
      ⊎ ((next.upper ≡ at.upper + 1)
      × ((d : Member) → pos 0 ≤ℤ east_by v (right_at upper at.upper d) (right_at lower at.lower d)))
  pub on : at.lower + at.upper < next.lower + next.upper
