use Rattle.std.proofs.Common.{◌≡◌, ◌∙◌, sym, ◌+◌, ◌^◌, rules, FitsSigned}
use Rattle.std.proofs.lemmas.Int.{to_z-of_z}
use Rattle.std.specs.Prelude.{pos, ◌-ℤ◌, ◌*ℤ◌, ◌≤ℤ◌}
use mir.Syntax.{w64}
use Rattle.bound_spheres.proofs.Horizons.{is_not_less}
use Rattle.bound_spheres.proofs.Together.{all_hidden_by, by_naturals}
use Rattle.bound_spheres.proofs.hiding.hides_farthest.Goals as goal

pub returns : goal.returns
returns c = λ yes.
    let square = c.bounds-square.result.0 in
    let product = c.bounds-square.result.1 in
    let centre = c.args.c.now in
    let square_fits : FitsSigned w64 square = search rules in
    let product_fits : FitsSigned w64 product = search rules in
    let centre_fits : FitsSigned w64 c.inner-centre.result = search rules in
    let over_fits : FitsSigned w64 c.over-w.result = search rules in
    let over_is : c.over-w.result ≡ pos c.args.m *ℤ product -ℤ pos 256 *ℤ square =
    simp to_z-of_z at c.over-w.ensures.exact in
    let low : pos 0 ≤ℤ square = is_not_less _ _ (simp to_z-of_z at c.if-square-lt0.false) in
    let near : square ≤ℤ pos (2 ^ 36 + 2 ^ 29) = is_not_less _ _ (simp to_z-of_z at c.if-square-gt-NEAR.false) in
    let close : c.inner-centre.result ≤ℤ pos (2 ^ 36 + 2 ^ 29) =
    is_not_less _ _ (simp to_z-of_z at c.if-centre-gt-NEAR.false) in
    let along : pos 0 ≤ℤ product = is_not_less _ _ (simp to_z-of_z at c.if-product-lt0.false) in
    let above : pos 0 ≤ℤ c.over-w.result = is_not_less _ _ (simp to_z-of_z at c.if-w-lt0.false) in
    let longest_is = simp to_z-of_z at c.unsigned_abs-longest.ensures.value in
    let away_is = simp to_z-of_z at c.unsigned_abs-away.ensures.value in
    let along_is = simp to_z-of_z at c.unsigned_abs-along.ensures.value in
    let over_size = simp to_z-of_z at c.unsigned_abs.ensures.value in
    let excess_is = simp to_z-of_z at c.excess.ensures.exact in
    let narrow = rw (longest_is, away_is, along_is, c.inner-centre.ensures) at c.if-along-longest.false in
    let test = rw (c.across-across.ensures.exact, excess_is, over_size, longest_is, away_is, along_is, over_is, c.inner-centre.ensures)
    at (sym c.is_beyond.ensures ∙ yes) in
    all_hidden_by c.args.m centre c.args.corners.now square product
    (by_naturals c.args.m centre square product low near (rw c.inner-centre.ensures at close) along (rw over_is at above) narrow test)
    c.bounds-square.ensures.squares c.bounds-square.ensures.products
