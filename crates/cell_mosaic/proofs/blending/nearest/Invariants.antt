use Rattle.std.proofs.Common.{◌≡◌, drop}
use Rattle.cell_mosaic.proofs.Heaviest.{pick, nothing}
use Rattle.cell_mosaic.proofs.blending.nearest.Given as goal

abbrev pub invariant-loop-one : goal.invariant-loop-one
invariant-loop-one l = pick l.best (drop l.one-index l.posts) ≡ pick nothing l.posts
