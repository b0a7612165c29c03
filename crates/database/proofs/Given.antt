-- What the crates below give, in the words that are used here.
use Rattle.std.proofs.Common.{◌≡◌, ℕ, Bool, true, false, ◌||◌, nat_le, ◌==◌, cond, List, [], ◌∷◌, map, Option, Some, ⊎_elim, refl, sym, ap, ◌∙◌, arith, T}
use Rattle.std.proofs.lemmas.Bool.{or_cases, or_right}
use Rattle.std.proofs.lemmas.Bool.Decides.{nat_tests}
use Rattle.std.specs.Cmp.{IsTotalOrder}
use Rattle.std.specs.Ordering.{eq_by_cmp, is_eq, ordering_reverse}
use Rattle.std.specs.declared.cmp.Ordering.{Ordering}
use Rattle.std.proofs.lemmas.Cmp.{eq_by_cmp_equiv}
use Rattle.std.proofs.lemmas.Map.Views.{tells_apart}
use Rattle.std.specs.List.{list_any}
use Rattle.std.specs.FinMap.{entries, entries_sorted, get, get-entries, find, is_sorted, IsAntisymmetric}
use Rattle.std.specs.FinMap.Entries.{below_all}
use Rattle.std.specs.declared.cmp.Ordering.TheVariants.{Less, Greater}
use Rattle.common_laws.proofs.Booleans.{left_holds, right_holds, same_from_both}
use Rattle.common_laws.proofs.Orders.{less_from_holds}
use Rattle.terrain_base.specs.declared.square.Square.{Square}
use Rattle.terrain_base.specs.declared.tile.TileId.{TileId}
use Rattle.terrain_base.specs.declared.params.Params.{Params}
use Rattle.terrain_base.specs.declared.summary.Summary.{Summary}
use Rattle.terrain_base.specs.declared.cell_key.CellKey.{CellKey}
use Rattle.terrain_base.specs.CellKey as keys
use Rattle.terrain_base.specs.CellKey.{key_cmp}
use Rattle.terrain_base.specs.Name.{by_text}
use Rattle.terrain_base.specs.TileOrder.{tile_cmp}
use Rattle.terrain_base.proofs.KeyOrder as key_order
use Rattle.terrain_base.proofs.NameOrder as name_order
use Rattle.tms_tree.specs.Touch.{touches_of}
use Rattle.cell_mosaic.specs.Cells.{Cells}
use Rattle.availability.specs.Existence.{exists_of, makes_of}
use Rattle.availability.proofs.Existing.{above_cap, makes_touches}
use Rattle.tile_rule.specs.Tile.{terrain_of, note_of}
use Rattle.post_bound.proofs.Local.{bound_is_local}
use Rattle.tile_rule.proofs.Tiles as tile_files
use Rattle.tile_deps.specs.Tiles.{touched}
use Rattle.tile_deps.proofs.TileLists as tile_lists
use Rattle.cell_mosaic.specs.Summaries.{summary_of, summaries_of}
use Rattle.database.specs.State.{State, tile_exists}
use Rattle.database.specs.Commands.{existing}

-- ---- orders

pub keys_total : IsTotalOrder key_cmp
keys_total = keys.keys_total

pub keys_exact : IsAntisymmetric key_cmp
keys_exact = key_order.keys_exact

pub by_text_total : IsTotalOrder by_text
by_text_total = name_order.by_text_total

pub by_text_exact : IsAntisymmetric by_text
by_text_exact = name_order.by_text_exact

-- ---- the tests of the crates below, by cells

abbrev pub square_of : CellKey → Square
square_of k = k.square

abbrev pub touches : TileId → Square → Bool
touches t q = touches_of t q

abbrev pub exists : ℕ → Cells → TileId → Bool
exists cap c t = exists_of cap (summaries_of c) t

abbrev pub terrain_text : Params → Cells → TileId → List ℕ
terrain_text p c t = terrain_of p c t

abbrev pub note_text : Params → Cells → TileId → List ℕ
note_text p c t = note_of p c t

-- the cells that touch the tile are the same
abbrev pub AgreeNear : TileId → Cells → Cells → Type 0
AgreeNear t c d = (k : CellKey) → touches t (square_of k) ≡ true → get c k ≡ get d k

-- ---- locality

pub terrain_local : (p : Params) (t : TileId) (c d : Cells) → AgreeNear t c d → terrain_text p c t ≡ terrain_text p d t
terrain_local p t c d same = tile_files.terrain_local p c d t same

pub note_local : (p : Params) (t : TileId) (c d : Cells) → AgreeNear t c d → note_text p c t ≡ note_text p d t
note_local p t c d same = tile_files.note_local bound_is_local p c d t same

abbrev row_of : CellKey × List ℕ → Summary
row_of e = summary_of e.0 e.1

not_equal : (o : Ordering) → o ≡ Greater → is_eq o ≡ false
not_equal o e = ap is_eq e

-- an entry behind a key has another one
found_at : (x k : CellKey) (bytes : List ℕ) (e : CellKey × List ℕ) (rest : Option (List ℕ)) (b : Bool) → (b ≡ true → k ≡ e.0) → key_cmp x e.0 ≡ Less → (rest ≡ Some bytes → key_cmp x k ≡ Less)
    → cond b (Some e.1) rest ≡ Some bytes → key_cmp x k ≡ Less
found_at x k bytes e rest true here less later found = ap (key_cmp x) (here refl) ∙ less
found_at x k bytes e rest false here less later found = later found

found_above : (x k : CellKey) (bytes : List ℕ) (es : List (CellKey × List ℕ)) → T (below_all key_cmp x es) → find key_cmp k es ≡ Some bytes → key_cmp x k ≡ Less
found_above x k bytes [] below found = absurd (cc)
found_above x k bytes (e ∷ es) below found =
    found_at x k bytes e (find key_cmp k es) (eq_by_cmp key_cmp k e.0) (tells_apart keys_exact k e.0) (less_from_holds _ (left_holds _ _ below)) (found_above x k bytes es (right_holds _ _ below)) found

found_later : (e : CellKey × List ℕ) (es : List (CellKey × List ℕ)) (k : CellKey) (bytes : List ℕ) → T (below_all key_cmp e.0 es) → find key_cmp k es ≡ Some bytes → find key_cmp k (e ∷ es) ≡ Some bytes
found_later e es k bytes below found =
    let over : key_cmp k e.0 ≡ Greater = keys_total.antisymm k e.0 ∙ ap ordering_reverse (found_above e.0 k bytes es below found) in
    ap (λ b. cond b (Some e.1) (find key_cmp k es)) (not_equal _ over) ∙ found

-- a row that passes is that of a cell
any_entry : (p : Summary → Bool) (es : List (CellKey × List ℕ)) → T (is_sorted key_cmp es) → list_any p (map row_of es) ≡ true
    → (k : CellKey) × (bytes : List ℕ) × (find key_cmp k es ≡ Some bytes) × (p (summary_of k bytes) ≡ true)
any_entry p [] sorted h = absurd (cc)
any_entry p (e ∷ es) sorted h = ⊎_elim
    (λ here. (e.0, e.1, ap (λ b. cond b (Some e.1) (find key_cmp e.0 es)) ((eq_by_cmp_equiv keys_total).refl e.0), here))
    (λ later. let one = any_entry p es (right_holds _ _ sorted) later in (one.0, one.1, found_later e es one.0 one.1 (left_holds _ _ sorted) one.2, one.3))
    (or_cases _ _ h)

one_entry : (p : Summary → Bool) (e : CellKey × List ℕ) (es : List (CellKey × List ℕ)) (k : CellKey) (bytes : List ℕ) (b : Bool) → (b ≡ true → k ≡ e.0) → cond b (Some e.1) (find key_cmp k es) ≡ Some bytes → p (summary_of k bytes) ≡ true
    → (find key_cmp k es ≡ Some bytes → list_any p (map row_of es) ≡ true) → (p (row_of e) || list_any p (map row_of es)) ≡ true
one_entry p e es k bytes true here found passes later =
    let same : e.1 ≡ bytes = cc in
    let row : row_of e ≡ summary_of k bytes = λ i. summary_of (sym (here refl) i) (same i) in
    rw (ap p row ∙ passes) refl
one_entry p e es k bytes false here found passes later = or_right (p (row_of e)) _ (later found)

entry_any : (p : Summary → Bool) (es : List (CellKey × List ℕ)) (k : CellKey) (bytes : List ℕ) → find key_cmp k es ≡ Some bytes → p (summary_of k bytes) ≡ true → list_any p (map row_of es) ≡ true
entry_any p [] k bytes found passes = absurd (cc)
entry_any p (e ∷ es) k bytes found passes = one_entry p e es k bytes (eq_by_cmp key_cmp k e.0) (tells_apart keys_exact k e.0) found passes (λ later. entry_any p es k bytes later passes)

more_made : (cap : ℕ) (t : TileId) (c d : Cells) → AgreeNear t c d → list_any (makes_of cap t) (summaries_of c) ≡ true → list_any (makes_of cap t) (summaries_of d) ≡ true
more_made cap t c d same made =
    let one = any_entry (makes_of cap t) (entries c) (entries_sorted c) made in
    let near = makes_touches cap t (summary_of one.0 one.1) one.3 in
    entry_any (makes_of cap t) (entries d) one.0 one.1 (sym (get-entries d one.0) ∙ sym (same one.0 near) ∙ get-entries c one.0 ∙ one.2) one.3

pub exists_local : (cap : ℕ) (t : TileId) (c d : Cells) → AgreeNear t c d → exists cap c t ≡ exists cap d t
unfolding exists_of
exists_local cap t c d same =
    ap (λ b. (t.z == 0) || b) (same_from_both _ _ (more_made cap t c d same) (more_made cap t d c (λ k near. sym (same k near))))

-- no tile exists above the cap
pub exists_within : (cap : ℕ) (t : TileId) (c : Cells) → nat_le t.z cap ≡ false → exists cap c t ≡ false
exists_within cap t c above = above_cap cap (summaries_of c) t (grind (arith, nat_tests))

-- ---- lists of tiles

-- each tile that touches the square is among those that are touched, and no other
pub touched_all : (cap : ℕ) (t : TileId) (q : Square) → nat_le t.z cap ≡ true → touches t q ≡ true → list_any (eq_by_cmp tile_cmp t) (touched cap q) ≡ true
touched_all = tile_lists.touched_all

pub touched_only : (cap : ℕ) (t : TileId) (q : Square) → list_any (eq_by_cmp tile_cmp t) (touched cap q) ≡ true → (nat_le t.z cap ≡ true) × (touches t q ≡ true)
touched_only = tile_lists.touched_only

-- each tile that exists is in the list
pub existing_all : (s : State) (t : TileId) → tile_exists s t ≡ true → list_any (eq_by_cmp tile_cmp t) (existing s) ≡ true
existing_all s t is = tile_lists.existing_all s.params.cap (summaries_of s.cells) t is
