-- One crossing more, or none.
use Rattle.std.proofs.lemmas.List.{append-nil}
use Rattle.mesh_plane.specs.declared.corner.Tri.{Tri}
use Rattle.std.proofs.Common.{◌≡◌, ℕ, zero, suc, ◌<◌, refl, ◌∙◌, length, take, get_or, ap, arith, List, [], ◌∷◌, ◌++◌, append_assoc, subst, sym, inl, inr}
use Rattle.std.specs.Prelude.{ℤ, pos, ◌-ℤ◌, ◌≤ℤ◌, ◌<ℤ◌, ◌⊎◌, Any}
use Rattle.std.specs.List.{AllByRecursion}
use Rattle.std.proofs.lemmas.Int.{ints}
use Rattle.mesh_plane.specs.declared.corner.Corner.{Corner}
use Rattle.mesh_plane.specs.Plane.{Point}
use Rattle.mesh_query.specs.declared.ratio.Ratio.{Ratio}
use Rattle.mesh_query.specs.declared.crossing.Crossing.{Crossing}
use Rattle.mesh_query.specs.declared.rank.Ranked.{Ranked}
use Rattle.mesh_query.specs.Found.{IsCrossing}
use Rattle.mesh_query.specs.Rank.{IsOnWay, IsRanked}
use Rattle.mesh_query.specs.Added.{DirectedSide, side, sides_of, all_sides, AreCrossings}
use Rattle.mesh_query.specs.Crossing.{CrossesOut}
use Rattle.mesh_plane.proofs.ListWords.{all_from, all_to, any_here, any_there, any_none, any_cases}
use Rattle.mesh_query.proofs.Crossings.{at_p, at_q}

inside : (m n : ℤ) (c : Crossing) → c.over ≡ m → c.under ≡ m -ℤ n → pos 0 ≤ℤ m → n ≤ℤ pos 0 → n <ℤ m
    → c.under ≤ℤ pos 2147352578 → IsOnWay c
inside m n c e f h i j s = record {
  low = omega (arith, ints, e, h);
  high = omega (arith, ints, e, f, i);
  above_zero = omega (arith, ints, f, j);
  under_size = s;
}

pub on_way : (p q : Point) (a b : Corner) (c : Crossing) → IsCrossing p q a b c → IsOnWay c
on_way p q a b c h =
    inside (at_p p q a b) (at_q p q a b) c (ap (λ (r : Ratio). r.over) h.at) (ap (λ (r : Ratio). r.under) h.at)
    h.crosses.from h.crosses.to h.crosses.turns h.under_size

-- ---- some and each of longer lists
module _ {X : Type 0} where
  pub any_first : (P : X → Type 0) (xs ys : List X) → Any P xs → Any P (xs ++ ys)
  any_first P [] ys a = absurd (any_none P a)
  any_first P (x ∷ xs) ys a = go (any_cases P x xs a) (any_first P xs ys)
    where
      go : P x ⊎ Any P xs → (Any P xs → Any P (xs ++ ys)) → Any P (x ∷ (xs ++ ys))
      go (inl h) f = any_here P x (xs ++ ys) h
      go (inr h) f = any_there P x (xs ++ ys) (f h)

  pub any_last : (P : X → Type 0) (xs : List X) (x : X) → P x → Any P (xs ++ x ∷ [])
  any_last P [] x h = any_here P x [] h
  any_last P (y ∷ ys) x h = any_there P y (ys ++ x ∷ []) (any_last P ys x h)

  pub all_more : (P : X → Type 0) (xs : List X) (x : X) → AllByRecursion P xs → P x → AllByRecursion P (xs ++ x ∷ [])
  all_more P [] x a h = (h, tt)
  all_more P (y ∷ ys) x a h = (a.0, all_more P ys x a.1 h)

  pub all_weaker : (P Q : X → Type 0) → ((x : X) → P x → Q x) → (xs : List X) → AllByRecursion P xs → AllByRecursion Q xs
  all_weaker P Q f [] a = tt
  all_weaker P Q f (x ∷ xs) a = (f x a.0, all_weaker P Q f xs a.1)

module _ (p q : Point) where
  abbrev From : List DirectedSide → Ranked → Type 0
  From sides r = Any (λ s. IsCrossing p q s.a s.b r.crossing) sides

  abbrev Has : List Ranked → DirectedSide → Type 0
  Has found s = CrossesOut p q s.a s.b → Any (λ r. IsCrossing p q s.a s.b r.crossing) found

  -- a side that is not crossed
  pub not_crossed : (sides : List DirectedSide) (found : List Ranked) (a b : Corner) → ¬ CrossesOut p q a b
      → AreCrossings p q sides found → AreCrossings p q (sides ++ side a b ∷ []) found
  not_crossed sides found a b none h = record {
    ranked = h.ranked;
    each = all_from (From (sides ++ side a b ∷ [])) found
        (all_weaker (From sides) (From (sides ++ side a b ∷ []))
        (λ r i. any_first (λ s. IsCrossing p q s.a s.b r.crossing) sides (side a b ∷ []) i) found
        (all_to (From sides) found h.each));
    every = all_from (Has found) (sides ++ side a b ∷ [])
        (all_more (Has found) sides (side a b) (all_to (Has found) sides h.every) (λ c. absurd (none c)));
  }

  -- a side that is
  pub crossed : (sides : List DirectedSide) (found : List Ranked) (a b : Corner) (r : Ranked) (c : Crossing)
      → IsCrossing p q a b c → IsRanked r → r.crossing ≡ c
      → AreCrossings p q sides found → AreCrossings p q (sides ++ side a b ∷ []) (found ++ r ∷ [])
  crossed sides found a b r c is ranked e h =
      let at : IsCrossing p q a b r.crossing = subst (λ (x : Crossing). IsCrossing p q a b x) (sym e) is in
      let more = sides ++ side a b ∷ [] in
      record {
        ranked = all_from IsRanked (found ++ r ∷ []) (all_more IsRanked found r (all_to IsRanked found h.ranked) ranked);
        each = all_from (From more) (found ++ r ∷ [])
            (all_more (From more) found r
            (all_weaker (From sides) (From more)
            (λ x i. any_first (λ s. IsCrossing p q s.a s.b x.crossing) sides (side a b ∷ []) i) found
            (all_to (From sides) found h.each))
            (any_last (λ s. IsCrossing p q s.a s.b r.crossing) sides (side a b) at));
        every = all_from (Has (found ++ r ∷ [])) more
            (all_more (Has (found ++ r ∷ [])) sides (side a b)
            (all_weaker (Has found) (Has (found ++ r ∷ []))
            (λ s i c. any_first (λ x. IsCrossing p q s.a s.b x.crossing) found (r ∷ []) (i c)) sides
            (all_to (Has found) sides h.every))
            (λ c. any_last (λ x. IsCrossing p q a b x.crossing) found r at));
      }

-- six sides, taken one by one
pub six_more : {X : Type 0} (xs : List X) (a b c d e f : X)
    → (((((xs ++ a ∷ []) ++ b ∷ []) ++ c ∷ []) ++ d ∷ []) ++ e ∷ []) ++ f ∷ [] ≡ xs ++ a ∷ b ∷ c ∷ d ∷ e ∷ f ∷ []
six_more [] a b c d e f = refl
six_more (x ∷ xs) a b c d e f = ap (λ ys. x ∷ ys) (six_more xs a b c d e f)

-- the sides of one triangle more
pub sides_more : (ts : List Tri) (i : ℕ) (d : Tri) → i < length ts
    → all_sides (take (suc i) ts) ≡ all_sides (take i ts) ++ sides_of (get_or ts i d)
sides_more [] i d l = absurd (omega (arith, l))
sides_more (t ∷ ts) zero d l = append-nil (sides_of t)
sides_more (t ∷ ts) (suc i) d l =
    ap (λ xs. sides_of t ++ xs) (sides_more ts i d (omega (arith, l)))
    ∙ sym (append_assoc (sides_of t) (all_sides (take i ts)) (sides_of (get_or ts i d)))

pub no_crossings : (p q : Point) → AreCrossings p q [] []
no_crossings p q = record {
  ranked = all_from IsRanked [] tt;
  each = all_from (From p q []) [] tt;
  every = all_from (Has p q []) [] tt;
}
