use Rattle.std.proofs.Common.{arith, ◌≡◌, ◌∙◌, ap, ℤ, pos, ◌*ℤ◌, ◌-ℤ◌, ◌≤ℤ◌, ◌<ℤ◌, FitsSigned, w64, to_z}
use Rattle.std.specs.Prelude.{int_le, ◌&&◌}
use Rattle.std.proofs.lemmas.Int.{ints, to_z-of_z}
use Rattle.edge_decimate.specs.Straight.{is_near}
use Rattle.edge_decimate.proofs.straight.near.Goals as goal

lower : (g l : ℤ) → g ≤ℤ l → int_le (pos 0 -ℤ g) l ≡ (int_le g l && int_le (pos 0 -ℤ g) l)
lower g l h = grind (arith, ints)

upper : (g l : ℤ) → l <ℤ g → int_le g l ≡ (int_le g l && int_le (pos 0 -ℤ g) l)
upper g l h = grind (arith, ints)

-- what both branches answer
value : (g l t d g' d' : ℤ) → g ≡ g' → l ≡ t *ℤ d → d ≡ d' → (int_le g l && int_le (pos 0 -ℤ g) l)
    ≡ (int_le g' (t *ℤ d') && int_le (pos 0 -ℤ g') (t *ℤ d'))
value g l t d g' d' e k h = cc

pub returns-then-gap-limit : goal.returns-then-gap-limit
unfolding is_near
returns-then-gap-limit c =
    let g = c.gap_at-gap.result in let l = c.product-limit.result in
    let gap_fits : FitsSigned w64 g = omega (arith, ints) in
    let limit_fits : FitsSigned w64 l = omega (arith, ints) in
    let negated_gap_fits : FitsSigned w64 (pos 0 -ℤ g) = omega (arith, ints) in
    let length_fits : FitsSigned w64 c.length_from.result = omega (arith, ints) in
    let t : to_z w64 c.args.tol ≡ pos c.args.tol = omega (arith, ints) in
    let k = simp to_z-of_z at c.product-limit.ensures.value in
    let h : g ≤ℤ l = omega (arith, ints) in
    simp to_z-of_z (lower g l h ∙ value g l (pos c.args.tol) c.length_from.result _ _
    c.gap_at-gap.ensures.value (k ∙ ap (λ i. i *ℤ c.length_from.result) t) c.length_from.ensures.value)

pub returns-else-gap-limit : goal.returns-else-gap-limit
unfolding is_near
returns-else-gap-limit c =
    let g = c.gap_at-gap.result in let l = c.product-limit.result in
    let gap_fits : FitsSigned w64 g = omega (arith, ints) in
    let limit_fits : FitsSigned w64 l = omega (arith, ints) in
    let length_fits : FitsSigned w64 c.length_from.result = omega (arith, ints) in
    let t : to_z w64 c.args.tol ≡ pos c.args.tol = omega (arith, ints) in
    let k = simp to_z-of_z at c.product-limit.ensures.value in
    let h : l <ℤ g = omega (arith, ints) in
    simp to_z-of_z (upper g l h ∙ value g l (pos c.args.tol) c.length_from.result _ _
    c.gap_at-gap.ensures.value (k ∙ ap (λ i. i *ℤ c.length_from.result) t) c.length_from.ensures.value)
