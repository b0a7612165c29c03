use Rattle.height_lattice.proofs.Frames.{frame_is}
use Rattle.height_lattice.proofs.laws.frame.Goals as goal

pub returns : goal.returns
returns c = frame_is
