use Rattle.cell_mosaic.proofs.ValueLaws.{places_have_meshes}
use Rattle.cell_mosaic.proofs.laws.places_have_meshes.Goals as goal

pub returns : goal.returns
returns c = places_have_meshes
