use Rattle.std.proofs.Common.{◌*◌, ◌%◌, ◌^◌, arith}
use Rattle.quad_split.proofs.Nodes.{node_facts, same_side, level_small, NodeFacts}
use Rattle.quad_split.proofs.node.Node.at.Goals as goal

-- the facts at the side as the program works it out
facts : (c : goal.Start) → NodeFacts c.args.level c.args.column c.args.row (1 * 2 ^ c.args.level % 256)
facts c =
    node_facts c.args.level c.args.column c.args.row (1 * 2 ^ c.args.level % 256) c.requires
    (same_side c.args.level c.args.column c.args.row c.requires)

pub overflow_shl-side : goal.overflow_shl-side
overflow_shl-side c = omega (arith, level_small c.args.level c.args.column c.args.row c.requires)

pub overflow_mul-result : goal.overflow_mul-result
overflow_mul-result c = let f = facts c in omega (arith, f.wide)

pub overflow_add-result : goal.overflow_add-result
overflow_add-result c = let f = facts c in omega (arith, f.wide)

pub overflow_mul-result-2 : goal.overflow_mul-result-2
overflow_mul-result-2 c = let f = facts c in omega (arith, f.high)

pub overflow_add-result-2 : goal.overflow_add-result-2
overflow_add-result-2 c = let f = facts c in omega (arith, f.high)

pub returns-clause-node : goal.returns-clause-node
returns-clause-node c = (facts c).node

pub returns-clause-level : goal.returns-clause-level
returns-clause-level c = (facts c).level

pub returns-clause-column : goal.returns-clause-column
returns-clause-column c = (facts c).column

pub returns-clause-row : goal.returns-clause-row
returns-clause-row c = (facts c).row
