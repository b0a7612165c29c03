-- The names that are looked at are all that can show a difference.
use Rattle.std.proofs.Common.{◌==◌, ◌≡◌, Bool, true, false, ◌||◌, is_some, List, [], ◌∷◌, ◌++◌, map, ℕ, Option, Some, None, refl, sym, ap, subst, ◌∙◌}
use Rattle.std.specs.Cmp.Lexicographic.{pointwise}
use Rattle.std.specs.FinMap.{get, keys, contains_key-keys}
use Rattle.std.specs.List.{list_any}
use Rattle.std.proofs.lemmas.List.Folds.{list_any-append}
use Rattle.common_laws.proofs.Orders.{equal_itself}
use Rattle.terrain_base.specs.Overwrite.{is_among}
use Rattle.terrain_base.specs.Step.{Files}
use Rattle.terrain_base.specs.declared.cell_key.CellKey.{CellKey}
use Rattle.terrain_base.specs.declared.name.Key.{Key}
use Rattle.terrain_base.specs.declared.name.Key.TheVariants.{Manifest, Layer, Stage, Cell, OldCell, Terrain, Note}
use Rattle.manifest_lines.specs.declared.state.State.TheVariants.{Closed}
use Rattle.database.specs.Commands.{tile_names, existing}
use Rattle.database.specs.State.{State, ReadsAs}
use Rattle.database.specs.Verdict.{difference_of, difference_at, unwanted_names}
use Rattle.database.proofs.Tests.{is_name, name_other}
use Rattle.database.proofs.Verdicts.{AllNames, all_names, cell_among_map}

-- ---- what is held as it is wanted shows no difference

self_bytes : (xs : List ℕ) → pointwise ◌==◌ xs xs ≡ true
self_bytes [] = refl
self_bytes (x ∷ xs) = rw (equal_itself x) (self_bytes xs)

self_none : (held : Option (List ℕ)) → difference_of held held ≡ None
self_none None = refl
self_none (Some bytes) = rw (self_bytes bytes) refl

pub none_where : (held wanted : Option (List ℕ)) → held ≡ wanted → difference_of held wanted ≡ None
none_where held wanted same = subst (λ o. difference_of held o ≡ None) same (self_none held)

-- ---- the names

-- those that are held and not wanted, the manifest, the layer, and those of tiles; no cell's
abbrev pub looked_names : State → Files → List Key
looked_names s files = (unwanted_names s files ++ Manifest ∷ Layer ∷ []) ++ tile_names (existing s)

not_cell : (name : Key) → ((k : CellKey) → name ≡ Cell k → ⊥) → (ks : List CellKey)
    → is_among name (map Cell ks) ≡ false
not_cell name other [] = refl
not_cell name other (k ∷ ks) = rw (name_other name (Cell k) (other k)) (not_cell name other ks)

none_of : (u m l c t : Bool) → c ≡ false → ((u || (m || (l || false))) || t) ≡ false
    → (u || (m || (l || (c || t)))) ≡ false
none_of true m l c t none e = absurd (cc)
none_of false true l c t none e = absurd (cc)
none_of false false true c t none e = absurd (cc)
none_of false false false c t none e = rw none e

-- a name that is not looked at and is of no cell of the state shows none
other_name : (s : State) (files : Files) (name : Key) → is_among name (map Cell (keys s.cells)) ≡ false
    → is_among name (looked_names s files) ≡ false → difference_at s files name ≡ None
other_name s files name cell out =
    let unwanted = unwanted_names s files in
    let cells = map Cell (keys s.cells) in
    let tiles = tile_names (existing s) in
    let is = is_name name in
    let looked : ((list_any is unwanted || (is Manifest || (is Layer || false))) || list_any is tiles) ≡ false =
    ap (λ b. b || list_any is tiles) (sym (list_any-append is unwanted (Manifest ∷ Layer ∷ [])))
    ∙ sym (list_any-append is (unwanted ++ Manifest ∷ Layer ∷ []) tiles) ∙ out in
    (all_names s files).rest name
    (list_any-append is unwanted (Manifest ∷ Layer ∷ (cells ++ tiles))
    ∙ ap (λ b. list_any is unwanted || (is Manifest || (is Layer || b))) (list_any-append is cells tiles)
    ∙ none_of (list_any is unwanted) (is Manifest) (is Layer) (list_any is cells) (list_any is tiles) cell looked)

-- nor does a cell that is held as it is read
cell_name : (s : State) (files : Files) (k : CellKey) (found : Option (List ℕ)) → get s.cells k ≡ found
    → ReadsAs files s Closed → is_among (Cell k) (looked_names s files) ≡ false → difference_at s files (Cell k) ≡ None
cell_name s files k None at r out = other_name s files (Cell k)
    (cell_among_map k (keys s.cells) ∙ sym (contains_key-keys s.cells k) ∙ ap is_some at) out
cell_name s files k (Some bytes) at r out = none_where (get files (Cell k)) (get s.cells k)
    (r.cells k bytes at ∙ sym at)

rest_of : (s : State) (files : Files) → ReadsAs files s Closed → (name : Key)
    → is_among name (looked_names s files) ≡ false → difference_at s files name ≡ None
rest_of s files r Manifest out = other_name s files Manifest (not_cell Manifest (λ k e. cc) (keys s.cells)) out
rest_of s files r Layer out = other_name s files Layer (not_cell Layer (λ k e. cc) (keys s.cells)) out
rest_of s files r Stage out = other_name s files Stage (not_cell Stage (λ k e. cc) (keys s.cells)) out
rest_of s files r (Cell k) out = cell_name s files k (get s.cells k) refl r out
rest_of s files r (OldCell q) out = other_name s files (OldCell q) (not_cell (OldCell q) (λ k e. cc) (keys s.cells)) out
rest_of s files r (Terrain t) out = other_name s files (Terrain t) (not_cell (Terrain t) (λ k e. cc) (keys s.cells)) out
rest_of s files r (Note t) out = other_name s files (Note t) (not_cell (Note t) (λ k e. cc) (keys s.cells)) out

-- over files that read as the state no cell need be looked at
pub all_looked : (s : State) (files : Files) → ReadsAs files s Closed → AllNames s files (looked_names s files)
all_looked s files r = record { rest = rest_of s files r }
