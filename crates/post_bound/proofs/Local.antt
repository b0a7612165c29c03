-- The bound depends on the cells alone that touch the tile.
use Rattle.std.proofs.Common.{◌≡◌, ℕ, Bool, true, false, cond, refl, sym, ap, ◌∙◌, List, Option, None}
use Rattle.std.specs.Prelude.{nat_lt, if◌then◌else◌}
use Rattle.std.specs.List.{filter}
use Rattle.std.specs.FinMap.{get, entries, entries_sorted, keys, get-entries, get-retain_keys, same_map}
use Rattle.std.specs.FinMap.Entries.{is_sorted-where_key, find-where_key, same_entries}
use Rattle.std.specs.declared.cmp.Ordering.TheVariants.{Equal}
use Rattle.terrain_base.specs.declared.cell_key.CellKey.{CellKey}
use Rattle.terrain_base.specs.declared.tile.TileId.{TileId}
use Rattle.terrain_base.specs.CellKey.{key_cmp, keys_total}
use Rattle.terrain_base.proofs.KeyOrder.{keys_exact}
use Rattle.tms_tree.specs.Touch.{touches_of}
use Rattle.cell_mosaic.specs.Cells.{Cells}
use Rattle.tile_mesh.specs.Mesh.{Mesh}
use Rattle.tile_mesh.specs.Plane.{triangles_in}
use Rattle.post_bound.specs.Greatest.{greatest_of}
use Rattle.post_bound.specs.Bound.{near, gap_of_cell, post_bound_of}
use Rattle.post_bound.specs.Span.{least_metres, most_metres, span_of_extremes, span_of_cell, span_bound_of}
use Rattle.cell_mosaic.specs.Summaries.{summary_of, summaries_of}
use Rattle.post_bound.specs.Rule.{bound_of}
use Rattle.post_bound.specs.Laws.{AgreeNear, BoundIsLocalLaw}
use Rattle.post_bound.proofs.Greatest.{greatest_map, greatest_without}
use Rattle.post_bound.proofs.Numbers.{near_cell}

same_where : (b : Bool) (x y : Option (List ℕ)) → (b ≡ true → x ≡ y) → cond b x None ≡ cond b y None
same_where true x y same = same refl
same_where false x y same = refl

pub near_same : (cells others : Cells) (tile : TileId) → AgreeNear tile cells others → near tile cells ≡ near tile others
near_same cells others tile agree =
    same_map keys_total keys_exact (near tile cells) (near tile others) (λ key.
    near_cell cells tile key ∙ same_where (touches_of tile key.square) (get cells key) (get others key) (agree key) ∙ sym (near_cell others tile key))

none_of : (b : Bool) (n : ℕ) → b ≡ false → (if b then n else 0) ≡ 0
none_of true n e = absurd (cc)
none_of false n e = refl

-- summaries that do not touch the tile have no part
near_entries : (cells : Cells) (tile : TileId) → entries (near tile cells) ≡ filter (λ (e : CellKey × List ℕ). touches_of tile e.0.square) (entries cells)
near_entries cells tile =
    let p = λ (key : CellKey). touches_of tile key.square in
    let alike : (q x : CellKey) → key_cmp q x ≡ Equal → p x ≡ p q = λ q x e. ap p (sym (keys_exact q x e)) in
    same_entries key_cmp keys_total keys_exact (entries (near tile cells)) (filter (λ (e : CellKey × List ℕ). p e.0) (entries cells))
    (entries_sorted (near tile cells)) (is_sorted-where_key key_cmp p (entries cells) (entries_sorted cells))
    (λ q.
    sym (get-entries (near tile cells) q) ∙ get-retain_keys cells p q (alike q) ∙ ap (λ o. cond (p q) o None) (get-entries cells q)
    ∙ sym (find-where_key key_cmp p q (alike q) (entries cells)))

span_near_cells : (cells : Cells) (tile : TileId) (mesh : Mesh) → span_bound_of (summaries_of (near tile cells)) tile mesh ≡ span_bound_of (summaries_of cells) tile mesh
unfolding span_bound_of
span_near_cells cells tile mesh =
    let least = least_metres mesh.points in let most = most_metres mesh.points in
    let summary = λ (e : CellKey × List ℕ). summary_of e.0 e.1 in
    let span = λ (e : CellKey × List ℕ). span_of_cell tile least most (summary e) in
    greatest_map (span_of_cell tile least most) summary (entries (near tile cells))
    ∙ ap (greatest_of span) (near_entries cells tile)
    ∙ greatest_without span (λ (e : CellKey × List ℕ). touches_of tile e.0.square) (entries cells)
    (λ e apart. none_of (touches_of tile e.0.square) (span_of_extremes least most (summary e).extremes) apart)
    ∙ sym (greatest_map (span_of_cell tile least most) summary (entries cells))

post_local : (cells others : Cells) (tile : TileId) (mesh : Mesh) → near tile cells ≡ near tile others → post_bound_of cells tile mesh ≡ post_bound_of others tile mesh
unfolding post_bound_of
post_local cells others tile mesh same = ap (λ (c : Cells). greatest_of (gap_of_cell tile (triangles_in mesh) c) (keys c)) same

span_local : (cells others : Cells) (tile : TileId) (mesh : Mesh) → near tile cells ≡ near tile others
    → span_bound_of (summaries_of cells) tile mesh ≡ span_bound_of (summaries_of others) tile mesh
span_local cells others tile mesh same =
    sym (span_near_cells cells tile mesh) ∙ ap (λ (c : Cells). span_bound_of (summaries_of c) tile mesh) same ∙ span_near_cells others tile mesh

pub bound_is_local : BoundIsLocalLaw
unfolding bound_of
bound_is_local cells others tile mesh agree =
    let same = near_same cells others tile agree in
    λ i. if nat_lt tile.z 8 then span_local cells others tile mesh same i else post_local cells others tile mesh same i
