-- The order of squares: by latitude, then longitude.
use Rattle.std.specs.declared.cmp.Ordering.{Ordering}
use Rattle.std.specs.Ordering.{nat_cmp, ordering_then}
use Rattle.terrain_base.specs.declared.square.Square.{Square}

abbrev pub square_cmp : Square → Square → Ordering
square_cmp a b = ordering_then (nat_cmp a.lat b.lat) (nat_cmp a.lon b.lon)
