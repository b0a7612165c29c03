use Rattle.std.proofs.Common.{refl}
use Rattle.quad_split.proofs.Nearby.{larger, outside}
use Rattle.quad_split.proofs.laws.split.Goals as goal

pub returns : goal.returns
returns c = record { smallest = λ grid tol x y. refl; larger = larger; outside = outside }
