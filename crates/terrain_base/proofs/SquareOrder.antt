-- The order of squares is total, and tells them apart.
use Rattle.std.proofs.Common.{ap}
use Rattle.std.specs.Ordering.{nat_cmp}
use Rattle.std.specs.Cmp.{IsTotalOrder}
use Rattle.std.proofs.lemmas.Cmp.{nat_cmp_total, on_total, then_total}
use Rattle.std.proofs.lemmas.Map.Lookups.{exact_pairs, exact_unsigned}
use Rattle.std.specs.FinMap.{IsAntisymmetric}
use Rattle.terrain_base.specs.declared.square.Square.{Square}
use Rattle.terrain_base.specs.SquareOrder.{square_cmp}
use Rattle.terrain_base.proofs.SquareTexts.{same_square}

pub squares_total : IsTotalOrder square_cmp
squares_total = then_total (on_total (λ (s : Square). s.lat) nat_cmp_total) (on_total (λ (s : Square). s.lon) nat_cmp_total)

pub squares_exact : IsAntisymmetric square_cmp
squares_exact s t e =
    let pair = exact_pairs nat_cmp nat_cmp exact_unsigned exact_unsigned (s.lat, s.lon) (t.lat, t.lon) e in
    same_square s t (ap (λ p. p.0) pair) (ap (λ p. p.1) pair)
