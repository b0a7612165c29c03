use Rattle.std.proofs.Common.{ap, [], ◌++◌}
use Rattle.terrain_base.proofs.SquareTexts.{square_cut}
use Rattle.terrain_base.proofs.laws.squares_differ.Goals as goal

pub returns : goal.returns
returns c a b e = square_cut a b [] [] (ap (λ text. text ++ []) e)
