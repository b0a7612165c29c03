-- The merge is in order.
use Rattle.std.proofs.Common.{◌≡◌, ℕ, ◌<◌, ◌≤◌, arith, Bool, true, false, cond, List, [], ◌∷◌, map, nat_le, refl, ap, ◌∙◌}
use Rattle.std.specs.Prelude.{AllPairs}
use Rattle.std.specs.List.{AllByRecursion}
use Rattle.std.proofs.lemmas.Bool.{leb-true, leb-false}
use Rattle.common_laws.proofs.Lists.{all_weaker}
use Rattle.mesh_plane.specs.Triangles.{Step, Outer, Inner}
use Rattle.mesh_plane.proofs.StripHeights.{outers, inners}
use Rattle.mesh_plane.proofs.ListWords.{all_from, all_to, pairs_none, pairs_cons, pairs_head, pairs_tail}
use Rattle.tile_mesh.specs.Merge.{outer_after, merge}
use Rattle.tile_mesh.specs.Merging.{outers_in, inners_in, ComesBefore, IsMerge}
use Rattle.tile_mesh.proofs.Merges.{merge_outers, merge_inners}

-- R holds of each element and each later one
abbrev pub Pairs : {X : Type 0} → (X → X → Type 0) → List X → Type 0
Pairs R [] = Unit {0}
Pairs R (x ∷ xs) = AllByRecursion (R x) xs × Pairs R xs

pub pairs_to : {X : Type 0} (R : X → X → Type 0) (xs : List X) → AllPairs R xs → Pairs R xs
pairs_to R [] h = tt
pairs_to R (x ∷ xs) h = (all_to (R x) xs (pairs_head R x xs h), pairs_to R xs (pairs_tail R x xs h))

pub pairs_from : {X : Type 0} (R : X → X → Type 0) (xs : List X) → Pairs R xs → AllPairs R xs
pairs_from R [] h = pairs_none R
pairs_from R (x ∷ xs) h = pairs_cons R x xs (all_from (R x) xs h.0) (pairs_from R xs h.1)

-- ---- what holds of the points of both lines holds of all steps
inner_each : (Q : Step ℕ → Type 0) (ys : List ℕ) → AllByRecursion (λ y. Q (Inner y)) ys → AllByRecursion Q (map Inner ys)
inner_each Q [] h = tt
inner_each Q (y ∷ ys) h = (h.0, inner_each Q ys h.1)

after_each : (Q : Step ℕ → Type 0) (x : ℕ) (rest : List ℕ → List (Step ℕ)) → Q (Outer x)
    → ((zs : List ℕ) → AllByRecursion (λ y. Q (Inner y)) zs → AllByRecursion Q (rest zs))
    → (ys : List ℕ) → AllByRecursion (λ y. Q (Inner y)) ys → AllByRecursion Q (outer_after x rest ys)
after_each Q x rest q f [] h = (q, f [] tt)
after_each Q x rest q f (y ∷ ys) h = (elim (nat_le x y) as (λ b. AllByRecursion Q (cond b (Outer x ∷ rest (y ∷ ys)) (Inner y ∷ outer_after x rest ys))) [
  | true ↦ (q, f (y ∷ ys) h)
  | false ↦ (h.0, after_each Q x rest q f ys h.1)
])

pub merge_each : (Q : Step ℕ → Type 0) (xs ys : List ℕ) → AllByRecursion (λ x. Q (Outer x)) xs
    → AllByRecursion (λ y. Q (Inner y)) ys → AllByRecursion Q (merge xs ys)
merge_each Q [] ys h k = inner_each Q ys k
merge_each Q (x ∷ xs) ys h k = after_each Q x (merge xs) h.0 (λ zs j. merge_each Q xs zs h.1 j) ys k

-- ---- order
Ascending : List ℕ → Type 0
Ascending xs = Pairs (λ i j. i < j) xs

inner_pairs : (ys : List ℕ) → Pairs (λ i j. i < j) ys → Pairs ComesBefore (map Inner ys)
inner_pairs [] h = tt
inner_pairs (y ∷ ys) h = (inner_each (ComesBefore (Inner y)) ys h.0, inner_pairs ys h.1)

above : (a b : ℕ) (xs : List ℕ) → a < b → AllByRecursion (λ x. b < x) xs → AllByRecursion (λ x. a < x) xs
above a b xs l h = all_weaker (λ x. b < x) (λ x. a < x) (λ x k. omega (arith, l, k)) xs h

at_least : (a b : ℕ) (xs : List ℕ) → a ≤ b → AllByRecursion (λ x. b < x) xs → AllByRecursion (λ x. a ≤ x) xs
at_least a b xs l h = all_weaker (λ x. b < x) (λ x. a ≤ x) (λ x k. omega (arith, l, k)) xs h

after_pairs : (x : ℕ) (xs : List ℕ) → Pairs (λ i j. i < j) (x ∷ xs)
    → ((zs : List ℕ) → Pairs (λ i j. i < j) zs → Pairs ComesBefore (merge xs zs))
    → (ys : List ℕ) → Pairs (λ i j. i < j) ys → Pairs ComesBefore (outer_after x (merge xs) ys)
after_pairs x xs h f [] k = (merge_each (ComesBefore (Outer x)) xs [] h.0 tt, f [] tt)
after_pairs x xs h f (y ∷ ys) k = go (nat_le x y) refl (after_pairs x xs h f ys k.1)
  where
    go : (b : Bool) → nat_le x y ≡ b → Pairs ComesBefore (outer_after x (merge xs) ys)
        → Pairs ComesBefore (cond b (Outer x ∷ merge xs (y ∷ ys)) (Inner y ∷ outer_after x (merge xs) ys))
    go true e r =
        let l = leb-true x y e in
        (merge_each (ComesBefore (Outer x)) xs (y ∷ ys) h.0 (l, at_least x y ys l k.0), f (y ∷ ys) k)
    go false e r =
        let l = leb-false x y e in
        (merge_each (ComesBefore (Inner y)) (x ∷ xs) ys (l, above y x xs l h.0) k.0, r)

merge_pairs : (xs ys : List ℕ) → Pairs (λ i j. i < j) xs → Pairs (λ i j. i < j) ys → Pairs ComesBefore (merge xs ys)
merge_pairs [] ys h k = inner_pairs ys k
merge_pairs (x ∷ xs) ys h k = after_pairs x xs h (λ zs j. merge_pairs xs zs h.1 j) ys k

-- ---- the law
same_outers : (steps : List (Step ℕ)) → outers_in steps ≡ outers steps
same_outers [] = refl
same_outers (Outer i ∷ steps) = ap (λ (xs : List ℕ). i ∷ xs) (same_outers steps)
same_outers (Inner i ∷ steps) = same_outers steps

same_inners : (steps : List (Step ℕ)) → inners_in steps ≡ inners steps
same_inners [] = refl
same_inners (Outer i ∷ steps) = same_inners steps
same_inners (Inner i ∷ steps) = ap (λ (xs : List ℕ). i ∷ xs) (same_inners steps)

pub merge_law : (xs ys : List ℕ) → AllPairs (λ i j. i < j) xs → AllPairs (λ i j. i < j) ys → IsMerge xs ys (merge xs ys)
merge_law xs ys h k = record {
  outer = same_outers (merge xs ys) ∙ merge_outers xs ys;
  inner = same_inners (merge xs ys) ∙ merge_inners xs ys;
  order = pairs_from ComesBefore (merge xs ys)
      (merge_pairs xs ys (pairs_to (λ i j. i < j) xs h) (pairs_to (λ i j. i < j) ys k));
}
