-- How many points there can be.
use Rattle.std.proofs.Common.{◌≡◌, ℕ, zero, suc, ◌+◌, ◌*◌, ◌<◌, ◌≤◌, Bool, true, false, ◌&&◌, ◌||◌, List, [], ◌∷◌, map, ◌++◌, length, nat_eq, eqb, refl, arith}
use Rattle.std.proofs.lemmas.Bool.Decides.{nat_tests}
use Rattle.std.specs.Prelude.{slice_index_or}
use Rattle.std.specs.List.{list_any, IsDistinct, AllByRecursion}
use Rattle.std.proofs.lemmas.Map.Steps.{length-le_from_distinct_below}
use Rattle.tile_mesh.specs.declared.point.GridPoint.{GridPoint}
use Rattle.tile_mesh.specs.Numbers.{point_eq, AreOnGrid, IsOnGrid}

code : GridPoint → ℕ
code p = 67 * p.j + p.i

apart : (a b c d : ℕ) → a ≤ 66 → c ≤ 66 → (nat_eq a c && nat_eq b d) ≡ false → eqb (67 * b + a) (67 * d + c) ≡ false
apart a b c d h k e = grind (arith, nat_tests)

first_found : (p : GridPoint) (ks : List GridPoint) → list_any (point_eq p) (p ∷ ks) ≡ true
first_found p ks = let e : nat_eq p.i p.i ≡ true = grind (arith, nat_tests) in let f : nat_eq p.j p.j ≡ true = grind (arith, nat_tests) in rw (e, f)

rest_small : (p : GridPoint) (ks : List GridPoint) → AreOnGrid (p ∷ ks) → AreOnGrid ks
rest_small p ks h q e = h q (by_or (point_eq q p) (list_any (point_eq q) ks) e)
  where
    by_or : (a b : Bool) → b ≡ true → (a || b) ≡ true
    by_or true b e = refl
    by_or false b e = e

codes_apart : (p : GridPoint) (ks : List GridPoint) → p.i ≤ 66 → AreOnGrid ks → AllByRecursion (λ y. point_eq p y ≡ false) ks → AllByRecursion (λ y. eqb (code p) y ≡ false) (map code ks)
unfolding code
codes_apart p [] s h a = tt
codes_apart p (k ∷ ks) s h a = (apart p.i p.j k.i k.j s (h k (first_found k ks)).0 a.0, codes_apart p ks s (rest_small k ks h) a.1)

codes_distinct : (ks : List GridPoint) → IsDistinct point_eq ks → AreOnGrid ks → IsDistinct eqb (map code ks)
unfolding IsDistinct
codes_distinct [] d h = d
codes_distinct (k ∷ ks) d h = (codes_apart k ks (h k (first_found k ks)).0 (rest_small k ks h) d.0, codes_distinct ks d.1 (rest_small k ks h))

codes_below : (ks : List GridPoint) → AreOnGrid ks → (q : ℕ) → list_any (eqb q) (map code ks) ≡ true → q < 4489
unfolding code
codes_below [] h q e = cc
codes_below (k ∷ ks) h q e = go (eqb q (67 * k.j + k.i)) refl (list_any (eqb q) (map code ks)) e (codes_below ks (rest_small k ks h) q)
  where
    go : (a : Bool) → eqb q (67 * k.j + k.i) ≡ a → (b : Bool) → (a || b) ≡ true → (b ≡ true → q < 4489) → q < 4489
    go true f b g r = let s = h k (first_found k ks) in let x : k.i ≤ 66 = s.0 in let y : k.j ≤ 66 = s.1 in let z : q ≡ 67 * k.j + k.i = grind (arith, nat_tests) in omega arith
    go false f b g r = r g

same_length : (ks : List GridPoint) → length (map code ks) ≡ length ks
same_length [] = refl
same_length (k ∷ ks) = rw (same_length ks)

pub few : (ks : List GridPoint) → IsDistinct point_eq ks → AreOnGrid ks → length ks ≤ 4489
few ks d h = let l = length-le_from_distinct_below (map code ks) 4489 (codes_distinct ks d h) (codes_below ks h) in omega (arith, same_length ks)

same_small : (a b c d : ℕ) → (nat_eq a c && nat_eq b d) ≡ true → c ≤ 66 → d ≤ 66 → (a ≤ 66) × (b ≤ 66)
same_small a b c d e h k = (grind (arith, nat_tests), grind (arith, nat_tests))

pub small_last : (p : GridPoint) (ks : List GridPoint) → IsOnGrid p → AreOnGrid ks → AreOnGrid (ks ++ p ∷ [])
small_last p [] s h q e = let f : point_eq q p ≡ true = or_false (point_eq q p) e in same_small q.i q.j p.i p.j f s.column s.row
  where
    or_false : (a : Bool) → (a || false) ≡ true → a ≡ true
    or_false true e = refl
    or_false false e = e
small_last p (k ∷ ks) s h q e = go (point_eq q k) refl e (small_last p ks s (rest_small k ks h) q)
  where
    go : (a : Bool) → point_eq q k ≡ a → (a || list_any (point_eq q) (ks ++ p ∷ [])) ≡ true → (list_any (point_eq q) (ks ++ p ∷ []) ≡ true → (q.i ≤ 66) × (q.j ≤ 66)) → (q.i ≤ 66) × (q.j ≤ 66)
    go true f g r = let z = h k (first_found k ks) in same_small q.i q.j k.i k.j f z.0 z.1
    go false f g r = r g

-- each of the points is on the grid
pub on_grid_at : (ks : List GridPoint) → AreOnGrid ks → (k : ℕ) (d : GridPoint) → k < length ks → IsOnGrid (slice_index_or ks k d)
on_grid_at [] a k d l = absurd (omega (arith, l))
on_grid_at (p ∷ ks) a zero d l = let h = a p (first_found p ks) in record { column = h.0; row = h.1 }
on_grid_at (p ∷ ks) a (suc k) d l = on_grid_at ks (rest_small p ks a) k d (omega (arith, l))
