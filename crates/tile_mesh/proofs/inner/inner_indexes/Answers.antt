use Rattle.std.proofs.Common.{◌∙◌, ap, sym, arith, [], ◌∷◌, ◌++◌, List, ℕ, subst}
use Rattle.std.specs.List.{AllByRecursion}
use Rattle.std.specs.Prelude.{◌≤◌}
use Rattle.quad_split.specs.SplitMap.{bit_at}
use Rattle.tile_mesh.specs.Rule.{border_split, leaf_ends, inner_points}
use Rattle.tile_mesh.proofs.InnerLists.{ends_within}
use Rattle.tile_mesh.proofs.inner.inner_indexes.Goals as goal

pub returns-clause-indexes : goal.returns-clause-indexes
unfolding inner_points
returns-clause-indexes c =
    let b = border_split (bit_at c.args.splits.now) c.args.side in
    c.in_ok-push_leaf_ends.ensures ∙ ap (λ (xs : List ℕ). xs ++ leaf_ends b 6 0)
    (c.in_ok-push.ensures.items ∙ ap (λ (xs : List ℕ). xs ++ 1 ∷ []) c.new-indexes.ensures.items)

pub returns-clause-within : goal.returns-clause-within
returns-clause-within c =
    let b = border_split (bit_at c.args.splits.now) c.args.side in
    subst (λ (xs : List ℕ). AllByRecursion (λ x. x ≤ 66) xs)
    (sym (c.in_ok-push_leaf_ends.ensures ∙ ap (λ (xs : List ℕ). xs ++ leaf_ends b 6 0)
    (c.in_ok-push.ensures.items ∙ ap (λ (xs : List ℕ). xs ++ 1 ∷ []) c.new-indexes.ensures.items)))
    (omega arith, ends_within b 6 0 (omega arith))
