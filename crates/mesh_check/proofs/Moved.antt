-- The levels count as a set: in another order, or with some twice, they have the same slabs and findings.
use Rattle.std.proofs.Common.{ℕ, List, ◌↔◌}
use Rattle.std.specs.Prelude.{◌⊎◌, ℤ, pos, ◌≤ℤ◌, All, Contains, slice_index_or}
use Rattle.mesh_plane.specs.declared.corner.Tri.{Tri}
use Rattle.mesh_check.specs.declared.verdict.Finding.TheVariants.{TooLarge, NotCounterClockwise, SlabGap, HeightGap}
use Rattle.mesh_check.specs.declared.verdict.Finding.TheVariants.{LineDisagrees}
use Rattle.mesh_check.specs.declared.verdict.Verdict.{Verdict}
use Rattle.mesh_check.specs.declared.verdict.Verdict.TheVariants.{Good, Found}
use Rattle.mesh_check.specs.Slab.{Slab}
use Rattle.mesh_check.specs.Members.{IsSlab, ArePlaced}
use Rattle.mesh_check.specs.Findings.{HasGap, HasStep, HasBreak, IsShown}
use Rattle.mesh_check.proofs.ListFacts.{contains_all, at_own}

abbrev pub SameLevels : List ℤ → List ℤ → Type 0
SameLevels xs ys = (v : ℤ) → Contains xs v ↔ Contains ys v

pub back : (xs ys : List ℤ) → SameLevels xs ys → SameLevels ys xs
back xs ys h v = ((h v).1, (h v).0)

module _ (xs ys : List ℤ) (same : SameLevels xs ys) where
  all_moved : (P : ℤ → Type 0) → All P xs → All P ys
  all_moved P h k d l = contains_all P xs (slice_index_or ys k d) h ((same (slice_index_or ys k d)).1 (
    k,
    l,
    at_own ys k d l,
  ))

  slab_moved : (slab : Slab) → IsSlab xs slab → IsSlab ys slab
  slab_moved slab i = record {
    low = (same slab.low).0 i.low;
    high = (same slab.high).0 i.high;
    order = i.order;
    none_between = all_moved (λ v. (v ≤ℤ slab.low) ⊎ (slab.high ≤ℤ v)) i.none_between;
  }

  gap_moved : (ts : List Tri) (slab : Slab) (place : ℕ) → HasGap xs ts slab place → HasGap ys ts slab place
  gap_moved ts slab place h = record { is = slab_moved slab h.is; members = h.members; are = h.are; at = h.at }

  step_moved : (ts : List Tri) (slab : Slab) (place : ℕ) → HasStep xs ts slab place → HasStep ys ts slab place
  step_moved ts slab place h = record { is = slab_moved slab h.is; members = h.members; are = h.are; at = h.at }

  break_moved : (ts : List Tri) (v : ℕ) → HasBreak xs ts v → HasBreak ys ts v
  break_moved ts v h = record {
    below = h.below;
    above = h.above;
    is_below = slab_moved h.below h.is_below;
    is_above = slab_moved h.above h.is_above;
    top = h.top;
    bottom = h.bottom;
    lower = h.lower;
    upper = h.upper;
    listed_lower = h.listed_lower;
    listed_upper = h.listed_upper;
    end_of = h.end_of;
    listed_end = h.listed_end;
    end = h.end;
    is_end = h.is_end;
    holds_lower = h.holds_lower;
    holds_upper = h.holds_upper;
    differs = h.differs;
  }

  pub placed_moved : (ts : List Tri) → ArePlaced xs ts → ArePlaced ys ts
  placed_moved ts p = record {
    south = (same (pos 0)).0 p.south;
    north = (same (pos 32767)).0 p.north;
    range = all_moved (λ v. (pos 0 ≤ℤ v) × (v ≤ℤ pos 32767)) p.range;
    on_tile = p.on_tile;
    corners = λ k d l. let c = p.corners k d l in (
      (same (slice_index_or ts k d).a.v).0 c.0,
      (same (slice_index_or ts k d).b.v).0 c.1,
      (same (slice_index_or ts k d).c.v).0 c.2,
    );
  }

pub shown_moved : (xs ys : List ℤ) → SameLevels xs ys → (ts : List Tri) (count : ℕ) (verdict : Verdict)
    → IsShown xs ts count verdict → IsShown ys ts count verdict
shown_moved xs ys same ts count Good s = (
  s.0,
  record {
    turned = s.1.turned;
    slabs = λ slab i. s.1.slabs slab (to slab i);
    lines =
        λ below above i j e. s.1.lines below above (to below i) (to above j) e;
  },
)
  where
    to : (slab : Slab) → IsSlab ys slab → IsSlab xs slab
    to slab i = slab_moved ys xs (back xs ys same) slab i
shown_moved xs ys same ts count (Found (TooLarge n)) s = s
shown_moved xs ys same ts count (Found (NotCounterClockwise k)) s = s
shown_moved xs ys same ts count (Found (SlabGap low high place)) s = (
  s.0,
  s.1,
  gap_moved xs ys same ts _ place s.2,
  λ slab other l h. s.3 slab other l
      (gap_moved ys xs (back xs ys same) ts slab other h),
)
shown_moved xs ys same ts count (Found (HeightGap low high place)) s = (
  s.0,
  s.1,
  λ slab other h. s.2 slab other (gap_moved ys xs (back xs ys same) ts slab other h),
  step_moved xs ys same ts _ place s.3,
  λ slab other l h. s.4 slab other l (step_moved ys xs (back xs ys same) ts slab other h),
)
shown_moved xs ys same ts count (Found (LineDisagrees v)) s = (
  s.0,
  s.1,
  λ slab other h. s.2 slab other (gap_moved ys xs (back xs ys same) ts slab other h),
  λ slab other h. s.3 slab other (step_moved ys xs (back xs ys same) ts slab other h),
  break_moved xs ys same ts v s.4,
  λ lower l h. s.5 lower l (break_moved ys xs (back xs ys same) ts lower h),
)
