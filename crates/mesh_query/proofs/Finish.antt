-- From the listed crossings to the profile.
use Rattle.std.proofs.Common.{◌<◌, List, [], ◌∷◌}
use Rattle.std.specs.Prelude.{All, AllPairs}
use Rattle.std.specs.List.{AllByRecursion, dedup}
use Rattle.std.specs.List.Sorted.{IsPermutation}
use Rattle.std.proofs.lemmas.List.Sorted.{All-permutation}
use Rattle.mesh_plane.specs.declared.corner.Tri.{Tri}
use Rattle.mesh_plane.specs.Plane.{Point}
use Rattle.mesh_plane.proofs.ListWords.{all_from, all_to, pairs_head, pairs_tail}
use Rattle.mesh_query.specs.declared.rank.Ranked.{Ranked}
use Rattle.mesh_query.specs.declared.spot.Break.{Break}
use Rattle.mesh_query.specs.Rank.{IsRanked, IsOnWay}
use Rattle.mesh_query.specs.Made.{AreMade}
use Rattle.mesh_query.specs.Profile.{IsSmall, IsProfile}
use Rattle.mesh_query.specs.Listed.{IsFoundAt, AreListed}
use Rattle.mesh_query.proofs.Adding.{all_weaker}
use Rattle.mesh_query.proofs.Listings.{Rises, each_small, listed_profile}
use Rattle.mesh_query.proofs.Ranking.{same, thinned_all, thinned_at, ordered_at}

module _ (ts : List Tri) (p q : Point) (found ordered : List Ranked) (listed : AreListed ts p q found)
    (perm : IsPermutation found ordered) where
  each_ordered : AllByRecursion (IsFoundAt ts p q) ordered
  each_ordered = all_to (IsFoundAt ts p q) ordered (All-permutation (IsFoundAt ts p q) found ordered perm listed.each)

  each_kept : AllByRecursion (IsFoundAt ts p q) (dedup same ordered)
  each_kept = thinned_all (IsFoundAt ts p q) ordered each_ordered

  pub kept_on_way : All (λ r. IsOnWay r.crossing) (dedup same ordered)
  kept_on_way =
      all_from (λ r. IsOnWay r.crossing) (dedup same ordered)
      (all_weaker (IsFoundAt ts p q) (λ r. IsOnWay r.crossing) (λ r h. h.ranked.on_way) (dedup same ordered) each_kept)

  rises : (rs : List Ranked) → AllPairs (λ r s. r.rank < s.rank) rs → Rises ts p q rs
  rises [] h = tt
  rises (r ∷ rs) h = (
    all_to (λ s. r.rank < s.rank) rs (pairs_head (λ x y. x.rank < y.rank) r rs h),
    rises rs (pairs_tail (λ x y. x.rank < y.rank) r rs h),
  )

  pub kept_small : (bs : List Break) → AreMade (dedup same ordered) bs → All IsSmall bs
  kept_small bs made = all_from IsSmall bs (each_small ts p q (dedup same ordered) bs each_kept made)

  pub kept_profile : (bs : List Break) → AllPairs (λ r s. r.rank < s.rank) (dedup same ordered)
      → AreMade (dedup same ordered) bs → IsProfile ts p q bs
  kept_profile bs up made =
      listed_profile ts p q (dedup same ordered) bs each_kept (rises (dedup same ordered) up)
      (λ k b. thinned_at k ordered
      (all_weaker (IsFoundAt ts p q) IsRanked (λ r h. h.ranked) ordered each_ordered)
      (ordered_at k found ordered perm (listed.every k b))) made
