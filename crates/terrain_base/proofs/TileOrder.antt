-- The order of tiles is total, and tells them apart.
use Rattle.std.specs.Prelude.{ℕ}
use Rattle.std.proofs.Common.{ap}
use Rattle.std.specs.Ordering.{nat_cmp, ordering_then}
use Rattle.std.specs.Cmp.{IsTotalOrder}
use Rattle.std.specs.FinMap.{IsAntisymmetric}
use Rattle.std.proofs.lemmas.Cmp.{nat_cmp_total, on_total, then_total}
use Rattle.std.proofs.lemmas.Map.Lookups.{exact_pairs, exact_unsigned}
use Rattle.terrain_base.specs.declared.tile.TileId.{TileId}
use Rattle.terrain_base.specs.TileOrder.{tile_cmp}
use Rattle.terrain_base.proofs.TileNumbers.{same_tile}

pub tiles_total : IsTotalOrder tile_cmp
tiles_total =
    then_total (on_total (λ (t : TileId). t.z) nat_cmp_total)
    (then_total (on_total (λ (t : TileId). t.y) nat_cmp_total) (on_total (λ (t : TileId). t.x) nat_cmp_total))

pub tiles_exact : IsAntisymmetric tile_cmp
tiles_exact s t e =
    let rest = λ (a b : ℕ × ℕ). ordering_then (nat_cmp a.0 b.0) (nat_cmp a.1 b.1) in
    let p = exact_pairs nat_cmp rest exact_unsigned (exact_pairs nat_cmp nat_cmp exact_unsigned exact_unsigned) (s.z, (s.y, s.x)) (t.z, (t.y, t.x)) e in
    same_tile s t (ap (λ p. p.0) p) (ap (λ p. p.1.0) p) (ap (λ p. p.1.1) p)
