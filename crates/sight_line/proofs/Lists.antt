-- The list of seen vertices, one vertex more.
use Rattle.std.proofs.Common.{◌≡◌, ℕ, zero, suc, ◌<◌, refl, sym, subst, ap, arith, List, [], ◌∷◌, ◌++◌, inl, inr, Bool}
use Rattle.std.specs.Prelude.{◌↔◌, ℤ, ◌⊎◌, All, Any, AllPairs, IsTrue}
use Rattle.std.specs.List.{AllByRecursion}
use Rattle.mesh_plane.specs.declared.corner.Corner.{Corner}
use Rattle.mesh_plane.specs.declared.corner.Tri.{Tri}
use Rattle.mesh_plane.specs.Plane.{Point, point}
use Rattle.mesh_plane.proofs.ListWords.{all_from, all_to, pairs_none, pairs_cons, pairs_head, pairs_tail}
use Rattle.mesh_query.specs.Field.{MetreMesh, corner_at, triangles_of}
use Rattle.mesh_query.proofs.Adding.{any_first, any_last, all_more, all_weaker}
use Rattle.sight_line.specs.Sight.{IsClear}
use Rattle.sight_line.specs.Seen.{IsSeen, AreSeen}

pairs_last : (xs : List ℕ) (x : ℕ) → AllPairs (λ j k. j < k) xs → AllByRecursion (λ y. y < x) xs
    → AllPairs (λ j k. j < k) (xs ++ x ∷ [])
pairs_last [] x h a = pairs_cons (λ j k. j < k) x [] (all_from (λ k. x < k) [] tt) (pairs_none (λ j k. j < k))
pairs_last (y ∷ ys) x h a =
    pairs_cons (λ j k. j < k) y (ys ++ x ∷ [])
    (all_from (λ k. y < k) (ys ++ x ∷ [])
    (all_more (λ k. y < k) ys x (all_to (λ k. y < k) ys (pairs_head (λ j k. j < k) y ys h)) a.0))
    (pairs_last ys x (pairs_tail (λ j k. j < k) y ys h) a.1)

split : (k n : ℕ) → k < suc n → (k < n) ⊎ (k ≡ n)
split zero zero l = inr refl
split zero (suc n) l = inl (omega arith)
split (suc k) zero l = absurd (omega (arith, l))
split (suc k) (suc n) l = go (split k n (omega (arith, l)))
  where
    go : (k < n) ⊎ (k ≡ n) → (suc k < suc n) ⊎ (suc k ≡ suc n)
    go (inl h) = inl (omega (arith, h))
    go (inr e) = inr (ap suc e)

module _ (mesh : MetreMesh) (p : Point) (a : ℤ) where
  abbrev Before : ℕ → ℕ → Type 0
  Before n k = (k < n) × IsSeen mesh p a k

  later_too : (n : ℕ) (seen : List ℕ) → All (Before n) seen → AllByRecursion (Before (suc n)) seen
  later_too n seen h =
      all_weaker (Before n) (Before (suc n)) (λ k x. (omega (arith, x.0), x.1)) seen (all_to (Before n) seen h)

  pub seen_none : AreSeen mesh p a 0 []
  seen_none = record {
    each = all_from (Before 0) [] tt;
    every = λ k l s. absurd (omega (arith, l));
    ascending = pairs_none (λ j k. j < k);
  }

  pub seen_more : (n : ℕ) (seen : List ℕ) → IsSeen mesh p a n → AreSeen mesh p a n seen
      → AreSeen mesh p a (suc n) (seen ++ n ∷ [])
  seen_more n seen s h = record {
    each = all_from (Before (suc n)) (seen ++ n ∷ [])
        (all_more (Before (suc n)) seen n (later_too n seen h.each) (omega arith, s));
    every = λ k l x. go k x (split k n l);
    ascending = pairs_last seen n h.ascending
        (all_weaker (Before n) (λ k. k < n) (λ k x. x.0) seen (all_to (Before n) seen h.each));
  }
    where
      go : (k : ℕ) → IsSeen mesh p a k → (k < n) ⊎ (k ≡ n) → Any (λ j. j ≡ k) (seen ++ n ∷ [])
      go k x (inl l) = any_first (λ j. j ≡ k) seen (n ∷ []) (h.every k l x)
      go k x (inr e) = any_last (λ j. j ≡ k) seen n (sym e)

  pub seen_same : (n : ℕ) (seen : List ℕ) → ¬ IsSeen mesh p a n → AreSeen mesh p a n seen
      → AreSeen mesh p a (suc n) seen
  seen_same n seen none h = record {
    each = all_from (Before (suc n)) seen (later_too n seen h.each);
    every = λ k l x. go k x (split k n l);
    ascending = h.ascending;
  }
    where
      go : (k : ℕ) → IsSeen mesh p a k → (k < n) ⊎ (k ≡ n) → Any (λ j. j ≡ k) seen
      go k x (inl l) = h.every k l x
      go k x (inr e) = absurd (none (subst (IsSeen mesh p a) e x))

-- what is asked of a vertex
pub seen_is : (mesh : MetreMesh) (p r : Point) (a : ℤ) (k : ℕ) (t : Bool) (ts : List Tri) (c : Corner)
    → ts ≡ triangles_of mesh → r ≡ p → c ≡ corner_at mesh.corners k
    → IsTrue t ↔ IsClear ts r a (point c.u c.v) c.h → IsTrue t ↔ IsSeen mesh p a k
seen_is mesh p r a k t ts c e f g h =
    subst (λ (d : Corner). IsTrue t ↔ IsClear (triangles_of mesh) p a (point d.u d.v) d.h) g
    (subst (λ (x : Point). IsTrue t ↔ IsClear (triangles_of mesh) x a (point c.u c.v) c.h) f
    (subst (λ (xs : List Tri). IsTrue t ↔ IsClear xs r a (point c.u c.v) c.h) e h))
