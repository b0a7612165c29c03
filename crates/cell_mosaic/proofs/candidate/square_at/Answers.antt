use Rattle.std.proofs.Common.{arith, refl}
use Rattle.terrain_base.proofs.SquareTexts.{same_square}
use Rattle.dted_cell.specs.Header.{square_of}
use Rattle.cell_mosaic.proofs.candidate.square_at.Goals as goal

pub returns : goal.returns
unfolding square_of
returns c = same_square _ _ (omega (arith, c.requires)) refl
