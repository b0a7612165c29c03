use Rattle.std.proofs.Common.{length, ◌∙◌, subst, rules}
use Rattle.std.specs.List.Sorted.{IsSearchInRange, IsBinarySearchResult}
use Rattle.std.proofs.lemmas.List.Sorted.{answers_always}
use Rattle.terrain_base.specs.CellKey.{key_at, key_cmp}
use Rattle.cell_cache.specs.Cached.{row_key}
use Rattle.cell_cache.proofs.Rows.{found}
use Rattle.cell_cache.proofs.cached.CachedCells.has.Goals as goal

pub returns : goal.returns
returns c =
    let key = key_at c.args.square c.args.level in
    let answer = c.binary_search_by_key.result in
    let facts = c.binary_search_by_key.ensures in
    let by_key = facts.position row_key (answers_always _ _ _ (λ f a r g called. search rules)) in
    c.is_ok.ensures.value ∙ found c.args.self.now.summaries.items c.args.self.now.ascend key answer
    (subst (λ rows. IsSearchInRange answer (length rows)) c.deref.ensures.value facts.bound)
    (subst (λ rows. IsBinarySearchResult (λ row. key_cmp (row_key row) key) rows answer) c.deref.ensures.value by_key)
