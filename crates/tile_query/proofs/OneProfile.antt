-- A way has one profile.
use Rattle.std.proofs.Common.{◌≡◌, sym, subst, arith, List, [], ◌∷◌}
use Rattle.std.specs.Prelude.{pos, ◌<ℤ◌, AllPairs}
use Rattle.std.specs.List.{AllByRecursion}
use Rattle.std.proofs.lemmas.Int.{ints}
use Rattle.mesh_plane.specs.declared.corner.Tri.{Tri}
use Rattle.mesh_plane.specs.Plane.{Point}
use Rattle.mesh_plane.specs.Cover.{Covers}
use Rattle.mesh_plane.proofs.ListWords.{all_to, all_from, pairs_none, pairs_cons}
use Rattle.mesh_plane.proofs.Surfaces.{surface_one}
use Rattle.mesh_query.specs.declared.ratio.Ratio.{Ratio}
use Rattle.mesh_query.specs.declared.spot.Break.{Break}
use Rattle.mesh_query.specs.Profile.{IsBreakOf, IsProfile, Neighbours}
use Rattle.mesh_query.specs.Ratios.{IsBelow, IsLowest, IsSame}
use Rattle.mesh_query.specs.Way.{way, SurfaceAt}
use Rattle.mesh_query.proofs.Profiles.{below_trans}
use Rattle.tile_query.proofs.Ascending.{Has, all_at, any_weaker, same_list}
use Rattle.tile_query.proofs.OneRatio.{one_ratio}

-- ---- breaks that ascend
abbrev Rising : Break → Break → Type 0
Rising b c = IsBelow b.at c.at

apart : (b c : Break) → Rising b c → Rising c b → ⊥
apart b c h i = omega (arith, ints, h, i)

abbrev IsAbove : Break → Type 0
IsAbove b = pos 0 <ℤ b.at.under

further : (b c : Break) (rest : List Break) → IsAbove b → IsAbove c → AllByRecursion IsAbove rest → Rising b c
    → AllByRecursion (Rising c) rest → AllByRecursion (Rising b) rest
further b c [] hb hc above h n = tt
further b c (d ∷ rest) hb hc above h n =
    (below_trans b.at c.at d.at hb hc above.0 h n.0, further b c rest hb hc above.1 h n.1)

below_all : (b : Break) (rest : List Break) → IsAbove b → AllByRecursion IsAbove rest → Neighbours Rising (b ∷ rest)
    → AllByRecursion (Rising b) rest
below_all b [] hb above n = tt
below_all b (c ∷ rest) hb above n =
    (n.0, further b c rest hb above.0 above.1 n.0 (below_all c rest above.0 above.1 n.1))

neighbours_tail : (b : Break) (rest : List Break) → Neighbours Rising (b ∷ rest) → Neighbours Rising rest
neighbours_tail b [] n = tt
neighbours_tail b (c ∷ rest) n = n.1

pairs : (list : List Break) → AllByRecursion IsAbove list → Neighbours Rising list → AllPairs Rising list
pairs [] above n = pairs_none Rising
pairs (b ∷ rest) above n =
    pairs_cons Rising b rest (all_from (Rising b) rest (below_all b rest above.0 above.1 n))
    (pairs rest above.1 (neighbours_tail b rest n))

-- ---- the surface there
module _ (ts : List Tri) (p q : Point) (covers : Covers ts) where
  pub one_height : (k h i : Ratio) → pos 0 <ℤ k.under → SurfaceAt ts p q k h → SurfaceAt ts p q k i → IsLowest h → IsLowest i
      → h ≡ i
  one_height k h i above s t hl il =
      one_ratio h i hl il
      (surface_one k.under (way p q k).u (way p q k).v h.over h.under i.over i.under (omega (arith, ints, above)) ts covers s t)

  one_break : (b c : Break) → IsBreakOf ts p q b → IsBreakOf ts p q c → IsSame b.at c.at → b ≡ c
  one_break b c h i e =
      let at : b.at ≡ c.at = one_ratio b.at c.at h.at_lowest i.at_lowest e in
      let moved : SurfaceAt ts p q b.at c.metres =
      subst (λ (k : Ratio). SurfaceAt ts p q k c.metres) (sym at) i.surface in
      let metres : b.metres ≡ c.metres =
      one_height b.at b.metres c.metres h.at_lowest.above_zero h.surface moved h.metres_lowest i.metres_lowest in
      λ k. record { at = at k; metres = metres k }

  members : (list other : List Break) → IsProfile ts p q list → IsProfile ts p q other → (b : Break) → Has list b → Has other b
  members list other h i b m =
      let of_b = all_at (IsBreakOf ts p q) list b h.each m in
      any_weaker (λ c. IsSame c.at b.at) (λ c. c ≡ b) (IsBreakOf ts p q) other i.each
      (λ c of_c e. one_break c b of_c of_b e) (i.every b.at of_b.is_break)

  ascends : (list : List Break) → IsProfile ts p q list → AllPairs Rising list
  ascends list h = pairs list (all_to IsAbove list (λ k d l. (h.each k d l).at_lowest.above_zero)) h.ascending

  pub one_profile : (list other : List Break) → IsProfile ts p q list → IsProfile ts p q other → list ≡ other
  one_profile list other h i =
      same_list Rising apart list other (ascends list h) (ascends other i) (members list other h i) (members other list i h)
