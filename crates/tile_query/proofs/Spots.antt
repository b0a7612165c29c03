-- Different spots lie at different places.
use Rattle.std.proofs.Common.{◌≡◌, ap}
use Rattle.std.specs.Prelude.{◌≢◌, unsigned_abs}
use Rattle.mesh_query.specs.declared.spot.Spot.{Spot}
use Rattle.mesh_query.specs.Way.{place}

pub place_apart : (a b : Spot) → a ≢ b → place a ≢ place b
place_apart a b apart e =
    let u : a.u ≡ b.u = ap (λ p. unsigned_abs p.u) e in
    let v : a.v ≡ b.v = ap (λ p. unsigned_abs p.v) e in
    apart (λ i. record { u = u i; v = v i })
