-- The rank by the two segments of a triangle is that of its member.
use Rattle.std.proofs.Common.{◌≡◌, ℕ, ◌<◌, refl, length, slice_index_or, inl, inr, subst, sym, List}
use Rattle.std.specs.Prelude.{All}
use Rattle.mesh_plane.specs.declared.corner.Tri.{Tri}
use Rattle.mesh_plane.specs.Plane.{IsTileTri}
use Rattle.mesh_check.specs.declared.rank.Rank.{Rank}
use Rattle.mesh_check.specs.Slab.{Slab, Segment, IsDown, IsUp, Spans, IsTileSegment, HasSameEnds, IsSame, under, over}
use Rattle.mesh_check.specs.Ranks.{key_of}
use Rattle.mesh_check.specs.Ordered.{IsMemberAt, IsRankAt}
use Rattle.mesh_check.proofs.ListFacts.{at_own}

tile_down : (t : Tri) (g : Segment) → IsTileTri t → IsDown t g → IsTileSegment g
tile_down t g i (inl e) = subst (λ (z : Segment). IsTileSegment z) (sym e) (record { low = i.b; high = i.a })
tile_down t g i (inr (inl e)) = subst (λ (z : Segment). IsTileSegment z) (sym e) (record { low = i.c; high = i.b })
tile_down t g i (inr (inr e)) = subst (λ (z : Segment). IsTileSegment z) (sym e) (record { low = i.a; high = i.c })

tile_up : (t : Tri) (g : Segment) → IsTileTri t → IsUp t g → IsTileSegment g
tile_up t g i (inl e) = subst (λ (z : Segment). IsTileSegment z) (sym e) (record { low = i.a; high = i.b })
tile_up t g i (inr (inl e)) = subst (λ (z : Segment). IsTileSegment z) (sym e) (record { low = i.b; high = i.c })
tile_up t g i (inr (inr e)) = subst (λ (z : Segment). IsTileSegment z) (sym e) (record { low = i.c; high = i.a })

-- the member of both segments
pub is_member : (slab : Slab) (ts : List Tri) (number : ℕ) (d : Tri) (left right : Segment) → All IsTileTri ts
    → number < length ts → IsDown (slice_index_or ts number d) left → Spans slab left
    → IsUp (slice_index_or ts number d) right → Spans slab right
    → IsMemberAt slab ts number
    (record { number = number; tri = slice_index_or ts number d; left = left; right = right })
is_member slab ts number d left right tile l down ls up rs =
    let t = slice_index_or ts number d in record {
      numbered = refl;
      at = (l, at_own ts number d l);
      is = record {
        is = record { down = down; up = up; left = ls; right = rs };
        left = tile_down t left (tile number d l) down;
        right = tile_up t right (tile number d l) up;
      };
    }

pub is_ranked : (slab : Slab) (ts : List Tri) (number : ℕ) (d : Tri) (left right : Segment) (r : Rank)
    → All IsTileTri ts
    → number < length ts → IsDown (slice_index_or ts number d) left → Spans slab left
    → IsUp (slice_index_or ts number d) right → Spans slab right
    → r.left ≡ key_of slab left → r.right ≡ key_of slab right → r.number ≡ number → IsRankAt slab ts number r
is_ranked slab ts number d left right r tile l down ls up rs kl kr n = record {
  member = record { number = number; tri = slice_index_or ts number d; left = left; right = right };
  is_member = is_member slab ts number d left right tile l down ls up rs;
  is_rank = record { left = kl; right = kr; number = n };
}

-- segments with the same ends are one
pub ends_same : (slab : Slab) (g h : Segment) → HasSameEnds g h → IsSame slab g h
ends_same slab g h e =
    let u : under g ≡ under h = cc (e.low_v, e.high_v) in
    let l : over g slab.low ≡ over h slab.low = cc (e.low_u, e.low_v, e.high_u, e.high_v) in
    let k : over g slab.high ≡ over h slab.high = cc (e.low_u, e.low_v, e.high_u, e.high_v) in
    record { low = cc (u, l); high = cc (u, k) }
