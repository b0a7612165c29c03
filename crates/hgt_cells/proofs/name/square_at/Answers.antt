use Rattle.hgt_cells.proofs.Corners.{found_along}
use Rattle.hgt_cells.proofs.name.square_at.Goals as goal

pub returns : goal.returns
returns c =
    found_along c.of.result c.args.part.now c.longitude-lon.result c.latitude-lat.result c.longitude-lon.ensures.value
    c.latitude-lat.ensures.value c.latitude-lat.ensures.most c.of.ensures.some c.of.ensures.value
