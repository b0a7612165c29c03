use Rattle.height_lattice.proofs.Frames.{code_of_is, code_of_small}
use Rattle.height_lattice.proofs.laws.code.Goals as goal

pub returns : goal.returns
returns c = record {
  place = λ frame metres d within. code_of_is frame metres d within.low;
  bound = code_of_small;
}
