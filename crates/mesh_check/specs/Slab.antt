-- Slabs of the tile between two levels, and the parts of triangles in them.
use Rattle.std.specs.Prelude.{◌≡◌, ◌⊎◌, ℕ, ℤ, pos, ◌+ℤ◌, ◌-ℤ◌, ◌*ℤ◌, ◌≤ℤ◌, ◌<ℤ◌, List, [], ◌∷◌, zero, suc}
use Rattle.mesh_plane.specs.declared.corner.Corner.{Corner}
use Rattle.mesh_plane.specs.declared.corner.Tri.{Tri}
pub use Rattle.mesh_check.specs.declared.slab.Slab.{Slab}
pub use Rattle.mesh_check.specs.declared.slab.Segment.{Segment}
pub use Rattle.mesh_check.specs.declared.member.Member.{Member}
use Rattle.mesh_plane.specs.Surface.{SameHeight}
use Rattle.mesh_plane.specs.Plane.{IsOnTile}

abbrev pub segment : Corner → Corner → Segment
segment low high = record { low = low; high = high }

-- the u of a segment at the level v is the fraction over g v / under g
abbrev pub under : Segment → ℤ
under g = g.high.v -ℤ g.low.v

abbrev pub over : Segment → ℤ → ℤ
over g v = g.low.u *ℤ (g.high.v -ℤ v) +ℤ g.high.u *ℤ (v -ℤ g.low.v)

-- the segment reaches through the slab
pub record Spans (slab : Slab) (g : Segment) : Type 0 where
  pub low : g.low.v ≤ℤ slab.low
  pub high : slab.high ≤ℤ g.high.v

-- both segments have one u on the lower level of the slab, and one on its upper level
pub record IsSame (slab : Slab) (g h : Segment) : Type 0 where
  pub low : over g slab.low *ℤ under h ≡ over h slab.low *ℤ under g
  pub high : over g slab.high *ℤ under h ≡ over h slab.high *ℤ under g

-- the west and the east edge of the tile
abbrev pub west : Segment
west = segment (record { u = pos 0; v = pos 0; h = pos 0 }) (record { u = pos 0; v = pos 32767; h = pos 0 })

abbrev pub east : Segment
east =
    segment (record { u = pos 32767; v = pos 0; h = pos 0 }) (record { u = pos 32767; v = pos 32767; h = pos 0 })

-- counter-clockwise triangles go down on their left
abbrev pub IsDown : Tri → Segment → Type 0
IsDown t g = (g ≡ segment t.b t.a) ⊎ ((g ≡ segment t.c t.b) ⊎ (g ≡ segment t.a t.c))

-- and up on their right
abbrev pub IsUp : Tri → Segment → Type 0
IsUp t g = (g ≡ segment t.a t.b) ⊎ ((g ≡ segment t.b t.c) ⊎ (g ≡ segment t.c t.a))

-- the segments are those edges of the triangle that reach through the slab
pub record IsMember (slab : Slab) (m : Member) : Type 0 where
  pub down : IsDown m.tri m.left
  pub up : IsUp m.tri m.right
  pub left : Spans slab m.left
  pub right : Spans slab m.right

-- from the segment on, each left segment is the right one before it, and the last right one is the east edge
abbrev pub Joined : Slab → Segment → List Member → Type 0
Joined slab g [] = IsSame slab g east
Joined slab g (m ∷ ms) = IsSame slab g m.left × Joined slab m.right ms

-- the first place that does not agree, and the number of members where all places do
abbrev pub GapAt : Slab → Segment → List Member → ℕ → Type 0
GapAt slab g [] zero = ¬ IsSame slab g east
GapAt slab g [] (suc place) = ⊥
GapAt slab g (m ∷ ms) zero = ¬ IsSame slab g m.left
GapAt slab g (m ∷ ms) (suc place) = IsSame slab g m.left × GapAt slab m.right ms place

-- the two triangles' planes have one height where the segment meets the level v
abbrev pub SameAt : Segment → ℤ → Tri → Tri → Type 0
SameAt g v t u = SameHeight (under g) (over g v) (under g *ℤ v) t u

-- each member has the height of the one before it at both ends of its left segment
abbrev pub HeightsJoined : Slab → Member → List Member → Type 0
HeightsJoined slab m [] = Unit {0}
HeightsJoined slab m (n ∷ ms) =
    SameAt n.left slab.low m.tri n.tri × SameAt n.left slab.high m.tri n.tri × HeightsJoined slab n ms

-- the slab lies on the tile
pub record IsTileSlab (slab : Slab) : Type 0 where
  pub floor : pos 0 ≤ℤ slab.low
  pub order : slab.low <ℤ slab.high
  pub ceiling : slab.high ≤ℤ pos 32767

-- both ends of the segment lie on the tile
pub record IsTileSegment (g : Segment) : Type 0 where
  pub low : IsOnTile g.low
  pub high : IsOnTile g.high

-- a height code
pub record IsCode (h : ℤ) : Type 0 where
  pub low : pos 0 ≤ℤ h
  pub high : h ≤ℤ pos 32767

-- the segment with heights in place of u
abbrev pub upright_of : Segment → Segment
upright_of g =
    segment (record { u = g.low.h; v = g.low.v; h = pos 0 }) (record { u = g.high.h; v = g.high.v; h = pos 0 })

-- the segments begin at one place and end at one place
pub record HasSameEnds (g h : Segment) : Type 0 where
  pub low_u : g.low.u ≡ h.low.u
  pub low_v : g.low.v ≡ h.low.v
  pub high_u : g.high.u ≡ h.high.u
  pub high_v : g.high.v ≡ h.high.v
