use Rattle.std.proofs.Common.{◌∙◌, ap, arith, ℕ, suc, ◌^◌, add-one}
use Rattle.std.proofs.lemmas.Nat.{pow_pos}
use Rattle.quad_split.proofs.Nodes.{across_small, node_x, node_y}
use Rattle.quad_split.proofs.splits.decide.Goals as goal

pub near_split-requires-clause-column : goal.near_split-requires-clause-column
near_split-requires-clause-column c =
    omega (arith, node_x (suc c.args.k) c.args.x c.args.y c.requires.place, across_small c.args.k c.requires.level)

pub near_split-requires-clause-row : goal.near_split-requires-clause-row
near_split-requires-clause-row c =
    omega (arith, node_y (suc c.args.k) c.args.x c.args.y c.requires.place, across_small c.args.k c.requires.level)

pub fits-requires-clause-side : goal.fits-requires-clause-side
fits-requires-clause-side c =
    let l = c.at.ensures.level ∙ add-one c.args.k in
    let e = c.at.ensures.node.side ∙ ap (λ (n : ℕ). 2 ^ n) l in
    omega (arith, e, pow_pos c.args.k)
