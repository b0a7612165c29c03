use Rattle.std.proofs.Common.{arith}
use Rattle.quad_split.proofs.NodeLines.{level_most}
use Rattle.quad_split.proofs.splits.Splits.split.Goals as goal

pub split_at-requires : goal.split_at-requires
split_at-requires c = omega (arith, c.level-level.ensures, level_most c.args.node.now.side)
