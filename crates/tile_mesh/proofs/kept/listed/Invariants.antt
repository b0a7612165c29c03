use Rattle.std.proofs.Common.{◌≡◌, ◌++◌, ◌-◌, ◌≤◌, suc}
use Rattle.tile_mesh.proofs.KeptLists.{from_on}
use Rattle.tile_mesh.proofs.kept.listed.Given as goal

abbrev pub invariant-loop-index : goal.invariant-loop-index
invariant-loop-index l = (l.index ≤ 66) × (l.indexes.items ++ from_on (suc l.index) l.kept ≡ l.kept)

abbrev pub decreases-loop-index : goal.decreases-loop-index
decreases-loop-index l = 66 - l.index
