-- The first break of a profile at which the line is below the surface.
use Rattle.std.proofs.Common.{◌≡◌, ℕ, zero, suc, ◌<◌, refl, sym, subst, arith, List, [], ◌∷◌, inl, inr, length, take, get_or}
use Rattle.std.specs.Prelude.{◌↔◌, ℤ, pos, ◌*ℤ◌, ◌<ℤ◌, ◌⊎◌, Any}
use Rattle.std.specs.List.{AllByRecursion}
use Rattle.std.proofs.lemmas.Int.{ints, by_lt_z}
use Rattle.mesh_plane.specs.declared.corner.Tri.{Tri}
use Rattle.mesh_plane.specs.Plane.{Point}
use Rattle.mesh_plane.specs.Cover.{Covers}
use Rattle.mesh_plane.proofs.ListWords.{all_to, any_cases, any_none}
use Rattle.mesh_query.specs.declared.ratio.Ratio.{Ratio}
use Rattle.mesh_query.specs.declared.spot.Break.{Break}
use Rattle.mesh_query.specs.Ratios.{IsLowest, IsSame, IsAtMost, IsBelow}
use Rattle.mesh_query.specs.Holder.{IsHolder}
use Rattle.mesh_query.specs.Way.{way}
use Rattle.mesh_query.specs.Breaks.{IsBreak}
use Rattle.mesh_query.specs.Profile.{Neighbours, IsBreakOf, IsProfile}
use Rattle.mesh_query.proofs.Listings.{below_same}
use Rattle.mesh_query.proofs.Profiles.{later}
use Rattle.sight_line.specs.declared.eye.SightAnswer.{SightAnswer}
use Rattle.sight_line.specs.declared.eye.SightAnswer.TheVariants.{Clear, Blocked}
use Rattle.sight_line.specs.Sight.{line_at, IsClear, IsUnder}
use Rattle.sight_line.specs.Answer.{IsBlocked, IsAnswer}
use Rattle.sight_line.proofs.Sights.{clear_law}
use Rattle.sight_line.proofs.Unders.{under_at, not_below}

-- one element more
pub all_one_more : {X : Type 0} (P : X → Type 0) (xs : List X) (i : ℕ) (d : X) → i < length xs
    → AllByRecursion P (take i xs) → P (get_or xs i d) → AllByRecursion P (take (suc i) xs)
all_one_more P [] i d l a h = absurd (omega (arith, l))
all_one_more P (x ∷ xs) zero d l a h = (h, tt)
all_one_more P (x ∷ xs) (suc i) d l a h = (a.0, all_one_more P xs i d (omega (arith, l)) a.1 h)

module _ (P : Break → Type 0) (k : Ratio) (up : pos 0 <ℤ k.under) where
  -- in an ascending list the first element with P is at most each fraction of an element with P
  pub least : (bs : List Break) (i : ℕ) (d : Break) → AllByRecursion (λ b. pos 0 <ℤ b.at.under) bs
      → Neighbours (λ b c. IsBelow b.at c.at) bs → i < length bs → AllByRecursion (λ b. ¬ P b) (take i bs)
      → Any (λ b. P b × IsSame b.at k) bs → IsAtMost (get_or bs i d).at k
  least [] i d a n l none x = absurd (omega (arith, l))
  least (b ∷ bs) zero d a n l none x =
      by_lt_z (k.over *ℤ b.at.under) (b.at.over *ℤ k.under)
      (λ h. absurd (later k b bs up a.0 a.1 n h (x.0, x.1, x.2, x.3, x.4.1)))
      (λ h. h)
  least (b ∷ []) (suc i) d a n l none x = absurd (omega (arith, l))
  least (b ∷ (c ∷ bs)) (suc i) d a n l none x =
      least (c ∷ bs) i d a.1 n.1 (omega (arith, l)) none.1 (go (any_cases (λ e. P e × IsSame e.at k) b (c ∷ bs) x))
    where
      go : (P b × IsSame b.at k) ⊎ Any (λ (e : Break). P e × IsSame e.at k) (c ∷ bs)
          → Any (λ (e : Break). P e × IsSame e.at k) (c ∷ bs)
      go (inl y) = absurd (none.0 y.0)
      go (inr y) = y

-- the line from the height a to the height b is below the height of the break
abbrev pub Dips : ℤ → ℤ → Break → Type 0
Dips a b c = IsBelow (line_at a b c.at) c.metres

module _ (ts : List Tri) (p q : Point) (a b : ℤ) (cover : Covers ts) (bs : List Break) (profile : IsProfile ts p q bs) where
  unders : (cs : List Break) → AllByRecursion (IsBreakOf ts p q) cs → AllByRecursion (λ c. pos 0 <ℤ c.at.under) cs
  unders [] h = tt
  unders (c ∷ cs) h = (h.0.at_lowest.above_zero, unders cs h.1)

  at_break : (k : Ratio) → IsUnder ts p a q b k → IsBreak ts p q k → (c : Break) → IsBreakOf ts p q c → IsSame c.at k
      → Dips a b c
  at_break k u i c h e =
      under_at ts p q a b k c.at c.metres cover i.fraction h.is_break.fraction (sym e) h.surface u

  some_break : (k : Ratio) → IsBreak ts p q k → IsUnder ts p a q b k → Any (λ c. Dips a b c × IsSame c.at k) bs
  some_break k i u =
      let x = profile.every k i in
      let h : IsBreakOf ts p q x.1 = subst (IsBreakOf ts p q) x.3 (profile.each x.0 x.1 x.2) in
      (x.0, x.1, x.2, x.3, (at_break k u i x.1 h x.4, x.4))

  pub first_dip : (i : ℕ) (d : Break) → i < length bs → AllByRecursion (λ c. ¬ Dips a b c) (take i bs)
      → (k : Ratio) → IsBreak ts p q k → IsUnder ts p a q b k → IsAtMost (get_or bs i d).at k
  first_dip i d l none k h u =
      least (Dips a b) k (omega (arith, ints, h.fraction.above_zero)) bs i d
      (unders bs (all_to (IsBreakOf ts p q) bs profile.each)) profile.ascending l none (some_break k h u)

  -- the break, with the heights there and the triangle, is the first block
  pub blocked : (i : ℕ) (d : Break) → i < length bs → AllByRecursion (λ c. ¬ Dips a b c) (take i bs)
      → Dips a b (get_or bs i d) → (triangle : ℕ) (line : Ratio)
      → IsHolder ts (get_or bs i d).at.under (way p q (get_or bs i d).at).u (way p q (get_or bs i d).at).v triangle
      → IsSame (line_at a b (get_or bs i d).at) line → IsLowest line
      → IsBlocked ts p a q b (get_or bs i d).at triangle (get_or bs i d).metres line
  blocked i d l none dips triangle line held same lowest =
      let c = get_or bs i d in
      let h : IsBreakOf ts p q c = profile.each i d l in
      record {
        at_lowest = h.at_lowest;
        is_break = h.is_break;
        first = first_dip i d l none;
        holder = held;
        height_lowest = h.metres_lowest;
        surface = h.surface;
        line_lowest = lowest;
        line_is = same;
        below = below_same (line_at a b c.at) line c.metres c.metres h.at_lowest.above_zero lowest.above_zero
            h.metres_lowest.above_zero h.metres_lowest.above_zero same refl dips;
      }

  none_of : (P : Break → Type 0) (cs : List Break) → AllByRecursion (λ c. ¬ P c) cs → (e : Ratio)
      → Any (λ c. P c × IsSame c.at e) cs → ⊥
  none_of P [] h e x = any_none (λ (c : Break). P c × IsSame c.at e) x
  none_of P (c ∷ cs) h e x = go (any_cases (λ (d : Break). P d × IsSame d.at e) c cs x) (none_of P cs h.1 e)
    where
      go : (P c × IsSame c.at e) ⊎ Any (λ (d : Break). P d × IsSame d.at e) cs
          → (Any (λ (d : Break). P d × IsSame d.at e) cs → ⊥) → ⊥
      go (inl y) f = h.0 y.0
      go (inr y) f = f y

  pub no_dip : AllByRecursion (λ c. ¬ Dips a b c) bs → IsClear ts p a q b
  no_dip none =
      (clear_law ts p q a b cover).1 (λ k i u. none_of (Dips a b) bs none k (some_break k i u))

-- the numbers of a block show that sight is not clear
not_clear : (ts : List Tri) (p q : Point) (a b : ℤ) (at : Ratio) (triangle : ℕ) (height line : Ratio)
    → IsBlocked ts p a q b at triangle height line → IsClear ts p a q b → ⊥
not_clear ts p q a b at triangle height line h c =
    not_below ts p q a b at height c h.is_break.fraction h.surface
    (below_same line (line_at a b at) height height h.line_lowest.above_zero h.at_lowest.above_zero
    h.height_lowest.above_zero h.height_lowest.above_zero (sym h.line_is) refl h.below)

-- an answer is Clear exactly where sight is clear
pub clear_answer : (ts : List Tri) (p q : Point) (a b : ℤ) (answer : SightAnswer) → IsAnswer ts p a q b answer
    → (answer ≡ Clear) ↔ IsClear ts p a q b
clear_answer ts p q a b Clear h = (λ e. h, λ c. refl)
clear_answer ts p q a b (Blocked at triangle height line) h =
    (λ e. cc, λ c. absurd (not_clear ts p q a b at triangle height line h c))

-- the same triangle, at equal points of equal lists
pub same_holder : (ts us : List Tri) (p q r s : Point) (k : Ratio) (n : ℕ) → us ≡ ts → r ≡ p → s ≡ q
    → IsHolder us k.under (way r s k).u (way r s k).v n → IsHolder ts k.under (way p q k).u (way p q k).v n
same_holder ts us p q r s k n e f g h =
    subst (λ (xs : List Tri). IsHolder xs k.under (way p q k).u (way p q k).v n) e
    (subst (λ (x : Point). IsHolder us k.under (way x q k).u (way x q k).v n) f
    (subst (λ (y : Point). IsHolder us k.under (way r y k).u (way r y k).v n) g h))
