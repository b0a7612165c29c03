-- A question of sight has one answer.
use Rattle.std.proofs.Common.{◌≡◌, refl, sym, subst, arith, ℕ, ◌<◌, List}
use Rattle.std.specs.Prelude.{ℤ, pos, ◌*ℤ◌, ◌≤ℤ◌, ◌<ℤ◌}
use Rattle.std.proofs.lemmas.Int.{ints}
use Rattle.common_laws.proofs.Orders.{same_from_neither_below}
use Rattle.mesh_plane.specs.declared.corner.Tri.{Tri}
use Rattle.mesh_plane.specs.Plane.{Point}
use Rattle.mesh_plane.specs.Cover.{Covers}
use Rattle.mesh_query.specs.declared.ratio.Ratio.{Ratio}
use Rattle.mesh_query.specs.Field.{MetreMesh}
use Rattle.mesh_query.specs.Holder.{IsHolder}
use Rattle.mesh_query.specs.Ratios.{IsSame}
use Rattle.mesh_query.proofs.Listings.{below_same, same_trans}
use Rattle.sight_line.specs.declared.eye.SightAnswer.{SightAnswer}
use Rattle.sight_line.specs.declared.eye.SightAnswer.TheVariants.{Clear, Blocked}
use Rattle.sight_line.specs.Answer.{IsAnswer, IsBlocked}
use Rattle.sight_line.specs.Seen.{AreSeen, IsSeen}
use Rattle.sight_line.specs.Sight.{line_at, IsClear, IsUnder}
use Rattle.tile_query.proofs.Ascending.{Has, all_at, same_list}
use Rattle.tile_query.proofs.OneProfile.{one_height}
use Rattle.tile_query.proofs.OneRatio.{one_ratio}

-- ---- the triangle
no_tri : Tri
no_tri = record {
  a = record { u = pos 0; v = pos 0; h = pos 0 };
  b = record { u = pos 0; v = pos 0; h = pos 0 };
  c = record { u = pos 0; v = pos 0; h = pos 0 };
}

one_holder : (ts : List Tri) (s x y : ℤ) (j k : ℕ) → IsHolder ts s x y j → IsHolder ts s x y k → j ≡ k
one_holder ts s x y j k h i =
    same_from_neither_below j k (λ l. i.least j no_tri l (h.holds no_tri)) (λ l. h.least k no_tri l (i.holds no_tri))

-- ---- sight
not_below : (x y : ℤ) → x ≤ℤ y → y <ℤ x → ⊥
not_below x y h i = omega (arith, ints, h, i)

both_most : (x y : ℤ) → x ≤ℤ y → y ≤ℤ x → x ≡ y
both_most x y h i = omega (arith, ints, h, i)

module _ (ts : List Tri) (p : Point) (a : ℤ) (q : Point) (b : ℤ) (covers : Covers ts) where
  abbrev is_under : (at : Ratio) (k : ℕ) (height line : Ratio) → IsBlocked ts p a q b at k height line → IsUnder ts p a q b at
  is_under at k height line h = record {
    height = height;
    surface = h.surface;
    below = below_same line (line_at a b at) height height h.line_lowest.above_zero h.at_lowest.above_zero
        h.height_lowest.above_zero h.height_lowest.above_zero (sym h.line_is) refl h.below;
  }

  not_both : (at : Ratio) (k : ℕ) (height line : Ratio) → IsClear ts p a q b → IsBlocked ts p a q b at k height line → ⊥
  not_both at k height line clear h =
      not_below (height.over *ℤ at.under) ((line_at a b at).over *ℤ height.under)
      (clear at height h.is_break.fraction h.surface) (is_under at k height line h).below

  one_at : (at other : Ratio) (j k : ℕ) (height line other_height other_line : Ratio)
      → IsBlocked ts p a q b at j height line → IsBlocked ts p a q b other k other_height other_line → at ≡ other
  one_at at other j k height line other_height other_line h i =
      let most = h.first other i.is_break (is_under other k other_height other_line i) in
      let least = i.first at h.is_break (is_under at j height line h) in
      let same : IsSame at other = both_most (at.over *ℤ other.under) (other.over *ℤ at.under) most least in
      one_ratio at other h.at_lowest i.at_lowest same

  one_there : (at : Ratio) (j k : ℕ) (height line other_height other_line : Ratio)
      → IsBlocked ts p a q b at j height line → IsBlocked ts p a q b at k other_height other_line
      → Blocked at j height line ≡ Blocked at k other_height other_line
  one_there at j k height line other_height other_line h i =
      let number : j ≡ k = one_holder ts at.under _ _ j k h.holder i.holder in
      let heights : height ≡ other_height =
      one_height ts p q covers at height other_height h.at_lowest.above_zero h.surface i.surface h.height_lowest
      i.height_lowest in
      let lines : line ≡ other_line = one_ratio line other_line h.line_lowest i.line_lowest
      (same_trans line (line_at a b at) other_line h.at_lowest.above_zero (sym h.line_is) i.line_is) in
      λ w. Blocked at (number w) (heights w) (lines w)

  one_blocked : (at other : Ratio) (j k : ℕ) (height line other_height other_line : Ratio)
      → IsBlocked ts p a q b at j height line → IsBlocked ts p a q b other k other_height other_line
      → Blocked at j height line ≡ Blocked other k other_height other_line
  one_blocked at other j k height line other_height other_line h i =
      let e : at ≡ other = one_at at other j k height line other_height other_line h i in
      subst (λ (r : Ratio). Blocked at j height line ≡ Blocked r k other_height other_line) e
      (one_there at j k height line other_height other_line h
      (subst (λ (r : Ratio). IsBlocked ts p a q b r k other_height other_line) (sym e) i))

  pub one_sight : (answer other : SightAnswer) → IsAnswer ts p a q b answer → IsAnswer ts p a q b other → answer ≡ other
  one_sight Clear Clear h i = refl
  one_sight Clear (Blocked at k height line) h i = absurd (not_both at k height line h i)
  one_sight (Blocked at k height line) Clear h i = absurd (not_both at k height line i h)
  one_sight (Blocked at j height line) (Blocked other k other_height other_line) h i =
      one_blocked at other j k height line other_height other_line h i

-- ---- views
module _ (mesh : MetreMesh) (p : Point) (a : ℤ) (n : ℕ) where
  members : (seen other : List ℕ) → AreSeen mesh p a n seen → AreSeen mesh p a n other → (k : ℕ) → Has seen k → Has other k
  members seen other h i k m =
      let of_k = all_at (λ k. (k < n) × IsSeen mesh p a k) seen k h.each m in i.every k of_k.0 of_k.1

  pub one_view : (seen other : List ℕ) → AreSeen mesh p a n seen → AreSeen mesh p a n other → seen ≡ other
  one_view seen other h i =
      same_list (λ j k. j < k) (λ j k less more. omega (arith, less, more)) seen other h.ascending i.ascending
      (members seen other h i) (members other seen i h)
