use Rattle.std.proofs.Common.{◌∙◌, ap, sym, arith, ◌-◌, ◌+◌, ◌*◌, ◌++◌, List, ℕ, append_assoc}
use Rattle.quad_split.specs.SplitMap.{bit_at}
use Rattle.tile_mesh.specs.Rule.{border_split, leaf_ends}
use Rattle.tile_mesh.proofs.InnerLists.{half_length, first_half_fits, second_half_fits, ends_split}
use Rattle.tile_mesh.proofs.inner.+push_leaf_ends.Goals as goal

pub push_leaf_ends-requires : goal.push_leaf_ends-requires
push_leaf_ends-requires t c =
    let k = c.args.level in let h = c.if-level-eq0.false in let e = c.requires.length in
    (omega (arith, c.decreases, h), (omega (arith, c.requires.level), (half_length k c.args.length h e, first_half_fits k c.args.length c.args.place h e c.requires.place)))

pub push_leaf_ends-requires-then-is_border_split : goal.push_leaf_ends-requires-then-is_border_split
push_leaf_ends-requires-then-is_border_split t c =
    let k = c.args.level in let h = c.if-level-eq0.false in let e = c.requires.length in
    (omega (arith, c.decreases, h), (omega (arith, c.requires.level), (half_length k c.args.length h e, second_half_fits k c.args.length c.args.place h e c.requires.place)))

pub returns-then-is_border_split : goal.returns-then-is_border_split
returns-then-is_border_split t c =
    let b = border_split (bit_at c.args.splits.now) c.args.side in let k = c.args.level in let m = c.args.place in
    c.in_ok-push_leaf_ends-2.ensures
    ∙ ap (λ (xs : List ℕ). xs ++ leaf_ends b (k - 1) (2 * m + 1)) c.in_ok-push_leaf_ends.ensures
    ∙ append_assoc c.args.ends.now.items (leaf_ends b (k - 1) (2 * m)) (leaf_ends b (k - 1) (2 * m + 1))
    ∙ ap (λ (xs : List ℕ). c.args.ends.now.items ++ xs)
    (ends_split b k m c.if-level-eq0.false (sym c.if-is_border_split.ensures))
