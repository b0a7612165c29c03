use Rattle.std.proofs.Common.{◌≡◌, arith}
use Rattle.terrain_base.proofs.SquareTexts.{north_of, south_of, east_of, west_of, square_found}
use Rattle.terrain_base.proofs.square_text.guess.Goals as goal
use Rattle.terrain_base.proofs.square_text.guess.Goals.{then-side-eq110, else-side-eq110, then-half-eq101, else-half-eq101}

pub returns : goal.returns
returns c wanted e =
    let lat : c.if-side-eq110.lat ≡ wanted.lat = elim c.if-side-eq110.branch [
      | then-side-eq110 w ↦ omega (arith, north_of _ wanted e w.if-side-eq110.true)
      | else-side-eq110 w ↦ omega (arith, south_of _ wanted e w.if-side-eq110.false)
    ] in
    let lon : c.if-half-eq101.lon ≡ wanted.lon = elim c.if-half-eq101.branch [
      | then-half-eq101 w ↦ omega (arith, east_of _ wanted e w.if-half-eq101.true)
      | else-half-eq101 w ↦ omega (arith, west_of _ wanted e w.if-half-eq101.false)
    ] in
    square_found _ _ _ wanted c.of.ensures.some c.of.ensures.value lat lon
