-- What the walk along a level means for the mesh: its slabs agree on the level, or the level has a break.
use Rattle.std.proofs.Common.{◌≡◌, ℕ, refl, sym, subst, List, inl, inr, ⊎_elim}
use Rattle.std.specs.Prelude.{ℤ, pos, All, Contains}
use Rattle.std.specs.List.{AllByRecursion}
use Rattle.mesh_plane.specs.declared.corner.Tri.{Tri}
use Rattle.mesh_plane.specs.Plane.{IsCounterClockwise}
use Rattle.mesh_plane.proofs.ListWords.{all_to}
use Rattle.mesh_check.specs.Slab.{Slab, Segment, Member, IsMember, Joined, west, east, IsTileSlab}
use Rattle.mesh_check.specs.Members.{IsAt, IsSlab, ArePlaced, IsWhole, IsListed, AgreesOn, AreMembers, IsTileMember}
use Rattle.mesh_check.specs.Findings.{HasBreak}
use Rattle.mesh_check.specs.Level.{left_at, IsCodeTri, AreBeside, IsWitness, IsWitnessed, IsBreak}
use Rattle.mesh_check.proofs.Ends.{Witness}
use Rattle.mesh_check.proofs.Exact.{one_members}
use Rattle.mesh_check.proofs.LevelEnds.{lines_from_ends}
use Rattle.mesh_check.proofs.ListFacts.{contains_all}

-- the members of a slab are listed
pub member_listed : (slab : Slab) (ts : List Tri) (ms : List Member) (m : Member) → AreMembers slab ts ms
    → Contains ms m → IsListed slab ts m
member_listed slab ts ms m are c = record {
  at = contains_all (λ n. IsAt ts n.number n.tri) ms m are.numbered c;
  is = contains_all (IsMember slab) ms m are.each c;
}

module _ (below above : Slab) (ts : List Tri) (lower upper : List Member) (are_lower : AreMembers below ts lower)
    (are_upper : AreMembers above ts upper) where
  -- the premise of the walk
  pub beside_of : IsTileSlab below → IsTileSlab above → below.high ≡ above.low → All IsCodeTri ts
      → All (IsTileMember below) lower → All (IsTileMember above) upper
      → Joined below west lower → Joined above west upper → AreBeside above.low lower upper
  beside_of t t' meet codes each each' j j' = record {
    below = below;
    above = above;
    triangles = ts;
    top = meet;
    bottom = refl;
    is_below = t;
    is_above = t';
    codes = codes;
    numbered_lower = are_lower.numbered;
    numbered_upper = are_upper.numbered;
    each_lower = each;
    each_upper = each';
    joined_lower = j;
    joined_upper = j';
  }

  witness_of : (v : ℤ) (g : Segment) → IsWitness v lower upper g → Witness below above ts v g
  witness_of v g w = record {
    lower = w.held.below;
    upper = w.held.above;
    listed_lower = member_listed below ts lower w.held.below are_lower w.held.in_lower;
    listed_upper = member_listed above ts upper w.held.above are_upper w.held.in_upper;
    holds_lower = w.held.holds_below;
    holds_upper = w.held.holds_above;
    agree = w.agree;
  }

  -- a break that the walk has found
  pub break_of : (levels : List ℤ) (v : ℕ) → IsSlab levels below → IsSlab levels above → below.high ≡ pos v
      → above.low ≡ pos v → IsBreak (pos v) lower upper → HasBreak levels ts v
  break_of levels v is is' top bottom b = record {
    below = below;
    above = above;
    is_below = is;
    is_above = is';
    top = top;
    bottom = bottom;
    lower = b.held.below;
    upper = b.held.above;
    listed_lower = member_listed below ts lower b.held.below are_lower b.held.in_lower;
    listed_upper = member_listed above ts upper b.held.above are_upper b.held.in_upper;
    end_of = b.end_of;
    listed_end = ⊎_elim (λ c. inl (member_listed below ts lower b.end_of are_lower c))
        (λ c. inr (member_listed above ts upper b.end_of are_upper c)) b.listed;
    end = b.end;
    is_end = b.is_end;
    holds_lower = b.held.holds_below;
    holds_upper = b.held.holds_above;
    differs = b.differs;
  }

  -- a level without a break
  pub lines_of : (levels : List ℤ) (placed : ArePlaced levels ts) (turned : All IsCounterClockwise ts)
      (slabs : (slab : Slab) → IsSlab levels slab → IsWhole slab ts)
      → IsSlab levels below → IsSlab levels above → below.high ≡ above.low → IsWitnessed above.low lower upper
      → AgreesOn ts below above
  lines_of levels placed turned slabs is is' meet w =
      lines_from_ends levels ts placed turned slabs below above is is' meet
      (ends_of lower (slabs below is).members
      (one_members below is.order ts lower (slabs below is).members are_lower (slabs below is).are) w.lower_ends)
      (ends_of upper (slabs above is').members
      (one_members above is'.order ts upper (slabs above is').members are_upper (slabs above is').are) w.upper_ends)
      (at_top east w.last)
    where
      at_top : (g : Segment) → IsWitness above.low lower upper g → Witness below above ts below.high g
      at_top g i = witness_of below.high g (subst (λ (v : ℤ). IsWitness v lower upper g) (sym meet) i)

      ends_of : (ms ns : List Member) → ms ≡ ns → All (λ m. IsWitness above.low lower upper m.left) ms
          → AllByRecursion (λ m. Witness below above ts below.high m.left) ns
      ends_of ms ns e all =
          subst (λ (ns : List Member). AllByRecursion (λ m. Witness below above ts below.high m.left) ns) e
          (all_to (λ m. Witness below above ts below.high m.left) ms (λ k d l. at_top (left_at ms k d) (all k d l)))
