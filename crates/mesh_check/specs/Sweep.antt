-- What a sweep from slab to slab has seen.
use Rattle.std.specs.Prelude.{
  ◌≡◌,
  ℕ,
  ◌^◌,
  ◌<◌,
  ◌≤◌,
  ℤ,
  pos,
  ◌≤ℤ◌,
  List,
  length,
  map,
  All,
  Option,
  None,
  Some,
  MatchOption,
  IfSome,
}
use Rattle.std.specs.List.Sorted.{IsStrictlyIncreasing}
use Rattle.mesh_plane.specs.declared.corner.Tri.{Tri}
use Rattle.mesh_check.specs.declared.verdict.Finding.{Finding}
use Rattle.mesh_check.specs.declared.verdict.Finding.TheVariants.{HeightGap, LineDisagrees}
use Rattle.mesh_check.specs.declared.verdict.Verdict.{Verdict}
use Rattle.mesh_check.specs.declared.verdict.Verdict.TheVariants.{Good, Found}
pub use Rattle.mesh_check.specs.declared.sweep.Course.{Course}
pub use Rattle.mesh_check.specs.declared.sweep.Layer.{Layer}
pub use Rattle.mesh_check.specs.declared.sweep.Seen.{Seen}
use Rattle.mesh_check.specs.Slab.{Slab, Member, Joined, west}
use Rattle.mesh_check.specs.Members.{IsSlab, AreMembers, ArePlaced, IsTileMember, IsWhole}
use Rattle.mesh_check.specs.Findings.{slab_of, FirstStepAt, HasStep, HasBreak, IsShown}
use Rattle.mesh_check.specs.Spans.{Active, AreSpans, AreBegun}
use Rattle.mesh_check.specs.Level.{IsCodeTri, IsWitnessed, IsBreak}

-- the levels as whole numbers
abbrev pub levels_in : Course → List ℤ
levels_in course = map pos course.levels.items

-- ascending levels from edge to edge, counter-clockwise triangles with their corners on them, and their spans
pub record IsCourse (course : Course) : Type 0 where
  pub ascending : IsStrictlyIncreasing course.levels.items
  pub placed : ArePlaced (levels_in course) course.triangles.items
  pub codes : All IsCodeTri course.triangles.items
  pub few : length course.triangles.items < 2 ^ 32
  pub spans : AreSpans course.triangles.items course.spans.items

-- a slab between two levels with its members
pub record IsLayer (course : Course) (low high : ℕ) (layer : Layer) : Type 0 where
  pub slab : layer.slab ≡ slab_of low high
  pub is : IsSlab (levels_in course) layer.slab
  pub are : AreMembers layer.slab course.triangles.items layer.members.items
  pub on_tile : All (IsTileMember layer.slab) layer.members.items
  pub few : length layer.members.items < 2 ^ 32

-- a slab that ends at the level, with its members, joined from edge to edge
pub record IsBelow (course : Course) (v : ℕ) (layer : Layer) : Type 0 where
  pub low : ℕ
  pub is : IsLayer course low v layer
  pub joined : Joined layer.slab west layer.members.items

-- the members of the slab are joined
pub record IsJoined (slab : Slab) (triangles : List Tri) : Type 0 where
  pub members : List Member
  pub are : AreMembers slab triangles members
  pub joined : Joined slab west members

-- between the two slabs a member below and one above have one height at each end
pub record AreWitnessed (triangles : List Tri) (below above : Slab) : Type 0 where
  pub lower : List Member
  pub upper : List Member
  pub are_lower : AreMembers below triangles lower
  pub are_upper : AreMembers above triangles upper
  pub ends : IsWitnessed below.high lower upper

module _ (levels : List ℤ) (triangles : List Tri) where
  -- all slabs up to the level
  abbrev pub AllJoined : ℕ → Type 0
  AllJoined v = (slab : Slab) → IsSlab levels slab → slab.high ≤ℤ pos v → IsJoined slab triangles

  abbrev pub AllWhole : ℕ → Type 0
  AllWhole v = (slab : Slab) → IsSlab levels slab → slab.high ≤ℤ pos v → IsWhole slab triangles

  -- all levels between two slabs up to the level
  abbrev pub AllWitnessed : ℕ → Type 0
  AllWitnessed v = (below above : Slab) → IsSlab levels below → IsSlab levels above → below.high ≡ above.low
      → above.high ≤ℤ pos v
      → AreWitnessed triangles below above

  -- the lowest slab with a step of heights
  pub record IsFirstStep (finding : Finding) : Type 0 where
    pub low : ℕ
    pub high : ℕ
    pub place : ℕ
    pub is : finding ≡ HeightGap low high place
    pub has : HasStep levels triangles (slab_of low high) place
    pub before : AllWhole low

  -- the lowest level that disagrees
  pub record IsFirstBreak (v : ℕ) : Type 0 where
    pub has : HasBreak levels triangles v
    pub before : AllWitnessed v

  -- the first step of heights up to the level, and where there is none, the first level below that disagrees
  pub record AreSeen (seen : Seen) (v : ℕ) : Type 0 where
    pub step : MatchOption seen.step (AllWhole v) IsFirstStep
    pub line : seen.step ≡ None → MatchOption seen.line (AllWitnessed v) IsFirstBreak

-- what a sweep up to the level has found, and what it goes on with
pub record IsSweptTo (course : Course) (active : Active) (last : Option Layer) (now : Seen) (v : ℕ) : Type 0 where
  pub begun : AreBegun course.spans.items active v
  pub below : MatchOption last (v ≡ 0) (IsBelow course v)
  pub joined : AllJoined (levels_in course) course.triangles.items v
  pub seen : AreSeen (levels_in course) course.triangles.items now v

-- the finding is the first step of heights in the slab between the two levels
abbrev pub IsStepOf : Layer → ℕ → ℕ → Finding → Type 0
IsStepOf layer low high finding =
    (place : ℕ) × (finding ≡ HeightGap low high place) × FirstStepAt layer.slab layer.members.items place

-- on the level, the slab below and the one above have one height at each end, where there is one below
abbrev pub Agrees : ℕ → Option Layer → Layer → Type 0
Agrees v below above = IfSome below (λ layer. IsWitnessed (pos v) layer.members.items above.members.items)

-- there is one below, and at an end they have two heights
abbrev pub Disagrees : ℕ → Option Layer → Layer → Type 0
Disagrees v below above = MatchOption below ⊥ (λ layer. IsBreak (pos v) layer.members.items above.members.items)

-- the verdict is shown for a mesh of any number of vertices up to the greatest
abbrev pub IsToldOf : Course → Verdict → Type 0
IsToldOf course verdict =
    (count : ℕ) → count ≤ 16384 → IsShown (levels_in course) course.triangles.items count verdict

-- the verdict where no slab has a gap
abbrev pub told_of : Option Finding → Option ℕ → Verdict
told_of (Some step) line = Found step
told_of None (Some v) = Found (LineDisagrees v)
told_of None None = Good

abbrev pub told : Seen → Verdict
told seen = told_of seen.step seen.line
