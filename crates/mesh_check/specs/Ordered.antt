-- Members and ranks of triangles by their numbers.
use Rattle.std.specs.Prelude.{◌≡◌, ◌≢◌, ℕ, ◌<◌, List, length, HoldsAt, Any, AllPairs}
use Rattle.std.specs.List.{AllZip}
use Rattle.mesh_plane.specs.declared.corner.Tri.{Tri}
use Rattle.mesh_check.specs.declared.rank.Rank.{Rank}
use Rattle.mesh_check.specs.declared.span.Span.{Span}
use Rattle.mesh_check.specs.Slab.{Slab, Member}
use Rattle.mesh_check.specs.Members.{IsAt, Reaches, IsApart, IsTileMember}
use Rattle.mesh_check.specs.Ranks.{key_of}

-- the number is that of a triangle that reaches through the slab and has no corner inside it
abbrev pub IsActive : Slab → List Tri → ℕ → Type 0
IsActive slab triangles number =
    (number < length triangles) × HoldsAt (λ t. Reaches slab t × IsApart slab t) triangles number

-- the member of the number
pub record IsMemberAt (slab : Slab) (triangles : List Tri) (number : ℕ) (m : Member) : Type 0 where
  pub numbered : m.number ≡ number
  pub at : IsAt triangles number m.tri
  pub is : IsTileMember slab m

-- the rank of a member
pub record IsRankOf (slab : Slab) (m : Member) (r : Rank) : Type 0 where
  pub left : r.left ≡ key_of slab m.left
  pub right : r.right ≡ key_of slab m.right
  pub number : r.number ≡ m.number

-- the rank of the member of the number
pub record IsRankAt (slab : Slab) (triangles : List Tri) (number : ℕ) (r : Rank) : Type 0 where
  pub member : Member
  pub is_member : IsMemberAt slab triangles number member
  pub is_rank : IsRankOf slab member r

-- no triangle stands at two places
abbrev pub IsEachOnce : List Span → Type 0
IsEachOnce spans = AllPairs (λ r s. r.number ≢ s.number) spans

-- all triangles that reach through the slab are there
abbrev pub AreAll : Slab → List Tri → List Span → Type 0
AreAll slab triangles spans =
    (number : ℕ) (t : Tri) → IsAt triangles number t → Reaches slab t → Any (λ s. s.number ≡ number) spans

-- the members of the ranks, one each
abbrev pub AreMembersAt : Slab → List Tri → List Rank → List Member → Type 0
AreMembersAt slab triangles ranks members = AllZip (λ r m. IsMemberAt slab triangles r.number m) ranks members
