-- The findings of an audit, each exactly where its condition holds and no earlier one does.
use Rattle.std.specs.Prelude.{◌≡◌, ◌⊎◌, ◌↔◌, ℕ, zero, suc, ◌<◌, ◌≤◌, ℤ, pos, ◌<ℤ◌, List, [], ◌∷◌, All}
use Rattle.mesh_plane.specs.declared.corner.Tri.{Tri}
use Rattle.mesh_plane.specs.Plane.{IsCounterClockwise}
use Rattle.mesh_plane.specs.Cover.{Covers}
use Rattle.mesh_check.specs.declared.verdict.Finding.{Finding}
use Rattle.mesh_check.specs.declared.verdict.Finding.TheVariants.{TooLarge, NotCounterClockwise, SlabGap, HeightGap}
use Rattle.mesh_check.specs.declared.verdict.Finding.TheVariants.{LineDisagrees}
use Rattle.mesh_check.specs.declared.verdict.Verdict.{Verdict}
use Rattle.mesh_check.specs.declared.verdict.Verdict.TheVariants.{Good, Found}
use Rattle.mesh_check.specs.Slab.{Slab, Segment, Member, SameAt, west, GapAt}
use Rattle.mesh_check.specs.Members.{IsSlab, IsAt, AreMembers, IsListed, HoldsEnd, IsSwept}

-- the slab between two levels
abbrev pub slab_of : ℕ → ℕ → Slab
slab_of low high = record { low = pos low; high = pos high }

-- the triangle of the number is not counter-clockwise
abbrev pub IsTurnedBack : List Tri → ℕ → Type 0
IsTurnedBack triangles number = (t : Tri) × IsAt triangles number t × ¬ IsCounterClockwise t

-- the first such triangle
abbrev pub IsFirstTurnedBack : List Tri → ℕ → Type 0
IsFirstTurnedBack triangles number =
    IsTurnedBack triangles number × ((earlier : ℕ) → earlier < number → ¬ IsTurnedBack triangles earlier)

-- from the member on, the first place whose height is not that of the member before it, at an end of its left segment
abbrev pub StepAt : Slab → Member → List Member → ℕ → Type 0
StepAt slab m [] place = ⊥
StepAt slab m (n ∷ ms) zero = ¬ (SameAt n.left slab.low m.tri n.tri × SameAt n.left slab.high m.tri n.tri)
StepAt slab m (n ∷ ms) (suc place) = SameAt n.left slab.low m.tri n.tri × SameAt n.left slab.high m.tri n.tri
    × StepAt slab n ms place

-- the first such place of a slab, from 1 on
abbrev pub FirstStepAt : Slab → List Member → ℕ → Type 0
FirstStepAt slab [] place = ⊥
FirstStepAt slab (m ∷ ms) zero = ⊥
FirstStepAt slab (m ∷ ms) (suc place) = StepAt slab m ms place

module _ (levels : List ℤ) (triangles : List Tri) where
  -- the slab has a gap at the place
  pub record HasGap (slab : Slab) (place : ℕ) : Type 0 where
    pub is : IsSlab levels slab
    pub members : List Member
    pub are : AreMembers slab triangles members
    pub at : GapAt slab west members place

  -- the slab has a step of heights at the place
  pub record HasStep (slab : Slab) (place : ℕ) : Type 0 where
    pub is : IsSlab levels slab
    pub members : List Member
    pub are : AreMembers slab triangles members
    pub at : FirstStepAt slab members place

  -- an end of an interval on the level, of the slab below it or of the one above, at which their heights differ
  pub record HasBreak (v : ℕ) : Type 0 where
    pub below : Slab
    pub above : Slab
    pub is_below : IsSlab levels below
    pub is_above : IsSlab levels above
    pub top : below.high ≡ pos v
    pub bottom : above.low ≡ pos v
    pub lower : Member
    pub upper : Member
    pub listed_lower : IsListed below triangles lower
    pub listed_upper : IsListed above triangles upper
    pub end_of : Member
    pub listed_end : IsListed below triangles end_of ⊎ IsListed above triangles end_of
    pub end : Segment
    pub is_end : (end ≡ end_of.left) ⊎ (end ≡ end_of.right)
    pub holds_lower : HoldsEnd end (pos v) lower.tri
    pub holds_upper : HoldsEnd end (pos v) upper.tri
    pub differs : ¬ SameAt end (pos v) lower.tri upper.tri

  -- no earlier finding
  abbrev pub AllTurned : Type 0
  AllTurned = All IsCounterClockwise triangles

  abbrev pub NoGap : Type 0
  NoGap = (slab : Slab) (place : ℕ) → ¬ HasGap slab place

  abbrev pub NoStep : Type 0
  NoStep = (slab : Slab) (place : ℕ) → ¬ HasStep slab place

  -- the condition of a finding, and that no earlier one holds, in a mesh of so many vertices
  abbrev pub Comes : ℕ → Finding → Type 0
  Comes count (TooLarge vertices) = (vertices ≡ count) × (16384 < count)
  Comes count (NotCounterClockwise triangle) =
      (count ≤ 16384) × IsTurnedBack triangles triangle × ((earlier : ℕ) → earlier < triangle
      → ¬ IsTurnedBack triangles earlier)
  Comes count (SlabGap low high place) =
      (count ≤ 16384) × AllTurned × HasGap (slab_of low high) place
      × ((slab : Slab) (other : ℕ) → slab.low <ℤ pos low → ¬ HasGap slab other)
  Comes count (HeightGap low high place) =
      (count ≤ 16384) × AllTurned × NoGap × HasStep (slab_of low high) place
      × ((slab : Slab) (other : ℕ) → slab.low <ℤ pos low → ¬ HasStep slab other)
  Comes count (LineDisagrees v) =
      (count ≤ 16384) × AllTurned × NoGap × NoStep × HasBreak v × ((lower : ℕ) → lower < v → ¬ HasBreak lower)

  -- what shows a verdict on a mesh of so many vertices
  abbrev pub IsShown : ℕ → Verdict → Type 0
  IsShown count Good = (count ≤ 16384) × IsSwept levels triangles
  IsShown count (Found finding) = Comes count finding

-- what an audit answers of a mesh of so many vertices: Good exactly where there are few vertices and the triangles
-- cover the tile, and each
-- finding exactly where it comes
pub record IsExact (levels : List ℤ) (triangles : List Tri) (count : ℕ) (verdict : Verdict) : Type 0 where
  pub good : (verdict ≡ Good) ↔ ((count ≤ 16384) × Covers triangles)
  pub found : (finding : Finding) → (verdict ≡ Found finding) ↔ Comes levels triangles count finding
