-- The value between four posts keeps its laws.
use Rattle.std.proofs.Common.{◌≡◌, ℕ, ◌+◌, ◌-◌, ◌*◌, ◌<◌, ◌≤◌, ◌==◌, List, [], ◌∷◌, ◌++◌, Some, refl, ap, ◌∙◌, arith}
use Rattle.std.specs.List.{AllByRecursion, find}
use Rattle.std.proofs.lemmas.Int.{ints}
use Rattle.terrain_base.proofs.Quotients.{floor_is}
use Rattle.cell_mosaic.specs.declared.weighted.Weighted.{Weighted}
use Rattle.cell_mosaic.specs.Blend.{greatest_weight, post_of_first}
use Rattle.cell_mosaic.specs.BlendLaws.{FirstIsHeaviest, WeightsMakeTheUnit, RoundsHalfUp}
use Rattle.cell_mosaic.proofs.Heaviest.{greatest_next, past, found}

at_most : (m : ℕ) (posts : List Weighted) → AllByRecursion (λ other. other.weight ≤ m) posts → greatest_weight posts ≤ m
at_most m [] all = omega arith
at_most m (one ∷ posts) all = let rest = at_most m posts all.1 in let h = all.0 in omega (arith, greatest_next one posts, rest, h)

greatest_is : (before after : List Weighted) (one : Weighted) → AllByRecursion (λ other. other.weight < one.weight) before → AllByRecursion (λ other. other.weight ≤ one.weight) after → greatest_weight (before ++ one ∷ after) ≡ one.weight
greatest_is [] after one less all = omega (arith, greatest_next one after, at_most one.weight after all)
greatest_is (first ∷ before) after one less all =
    let rest = greatest_is before after one less.1 all in
    let h = less.0 in
    omega (arith, greatest_next first (before ++ one ∷ after), rest, h)

first_is : (before after : List Weighted) (one : Weighted) → AllByRecursion (λ other. other.weight < one.weight) before → find (λ (o : Weighted). o.weight == one.weight) (before ++ one ∷ after) ≡ Some one
first_is [] after one less = found one.weight one after refl
first_is (first ∷ before) after one less =
    let h = less.0 in
    past one.weight first (before ++ one ∷ after) (λ e. omega (arith, h, e)) ∙ first_is before after one less.1

pub first_is_heaviest : FirstIsHeaviest
first_is_heaviest before after one less all =
    ap (λ m. post_of_first (find (λ (o : Weighted). o.weight == m) (before ++ one ∷ after))) (greatest_is before after one less all)
    ∙ ap post_of_first (first_is before after one less)

whole : (w e s n : ℕ) → w * s + e * s + w * n + e * n ≡ (w + e) * (s + n)
whole w e s n = omega arith

pub weights_make_the_unit : WeightsMakeTheUnit
weights_make_the_unit quad e eu n nu h k =
    let x : eu - e + e ≡ eu = omega arith in
    let y : nu - n + n ≡ nu = omega arith in
    let w = whole (eu - e) e (nu - n) n in
    let both : (eu - e + e) * (nu - n + n) ≡ eu * nu = λ i. x i * y i in
    omega (arith, w, both)

pub rounds_half_up : RoundsHalfUp
rounds_half_up sum unit p = floor_is _ _ (omega (arith, ints, p))
