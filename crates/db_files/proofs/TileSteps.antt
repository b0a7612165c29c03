-- The changes of tiles, how many of them exist, and what serves them.
use Rattle.std.proofs.Common.{◌≡◌, ℕ, ◌≤◌, ◌+◌, ◌++◌, ◌∷◌, [], List, cond, true, false, Option, Some, ap, sym, ◌∙◌, refl, arith, append_assoc}
use Rattle.std.proofs.lemmas.List.{map-append}
use Rattle.std.specs.FinMap.{get}
use Rattle.std.specs.Ordering.{eq_by_cmp}
use Rattle.terrain_base.specs.declared.cell_key.CellKey.{CellKey}
use Rattle.terrain_base.specs.declared.name.Key.TheVariants.{Cell, Terrain, Note}
use Rattle.terrain_base.specs.declared.params.Params.{Params}
use Rattle.terrain_base.specs.declared.store.Change.{Change}
use Rattle.terrain_base.specs.declared.summary.Summary.{Summary}
use Rattle.terrain_base.specs.declared.tile.TileId.{TileId}
use Rattle.terrain_base.specs.CellKey.{key_cmp}
use Rattle.terrain_base.specs.Step.{Files, Step, Write, Erase, changed, held_after}
use Rattle.terrain_base.specs.Run.{AllDone}
use Rattle.terrain_base.specs.Overwrite.{step_to, steps_to}
use Rattle.terrain_base.proofs.Overwrites.{get-step_to}
use Rattle.availability.specs.Existence.{exists_of}
use Rattle.cell_mosaic.specs.Cells.{Cells}
use Rattle.cell_mosaic.specs.Summaries.{summaries_of}
use Rattle.cell_cache.specs.Cached.{HoldsCells}
use Rattle.tile_file.specs.Files.{AreFilesOf}
use Rattle.tile_file.specs.declared.tile_files.TileFiles.{TileFiles}
use Rattle.tile_rule.specs.Tile.{terrain_of, note_of}
use Rattle.tile_deps.specs.Tiles.{touched}
use Rattle.database.specs.State.{State, file_of, tile_exists}
use Rattle.database.specs.Commands.{tile_names, last_names, closing}
use Rattle.database.proofs.Tests.{is_name, key_other, name_self, name_same}
use Rattle.database.proofs.Standing.{by_test}
use Rattle.db_files.specs.Serving.{Serves, Closing, count_existing}

-- ---- the changes of tiles

abbrev pub tile_steps : State → List TileId → List Step
tile_steps s ts = steps_to (file_of s) (tile_names ts)

pub names_append : (ts us : List TileId) → tile_names (ts ++ us) ≡ tile_names ts ++ tile_names us
names_append [] us = refl
names_append (t ∷ ts) us = ap (λ ns. Terrain t ∷ Note t ∷ ns) (names_append ts us)

pub steps_append : (s : State) (ts us : List TileId) → tile_steps s (ts ++ us) ≡ tile_steps s ts ++ tile_steps s us
steps_append s ts us = ap (steps_to (file_of s)) (names_append ts us) ∙ map-append (λ name. step_to (file_of s name) name) (tile_names ts) (tile_names us)

-- those that were given, one more, and the rest
pub steps_split : (s : State) (all given : List TileId) (t : TileId) (rest : List TileId) → all ≡ (given ++ t ∷ []) ++ rest → tile_steps s given ++ (tile_steps s (t ∷ []) ++ tile_steps s rest) ≡ tile_steps s all
steps_split s all given t rest whole =
    ap (λ xs. tile_steps s given ++ xs) (sym (steps_append s (t ∷ []) rest))
    ∙ sym (steps_append s given (t ∷ rest))
    ∙ ap (tile_steps s) (sym (whole ∙ append_assoc given (t ∷ []) rest))

count_append : (s : State) (ts us : List TileId) → count_existing s (ts ++ us) ≡ count_existing s ts + count_existing s us
count_append s [] us = omega arith
count_append s (t ∷ ts) us = let e = count_append s ts us in omega arith

pub count_more : (s : State) (given : List TileId) (t : TileId) → count_existing s (given ++ t ∷ []) ≡ count_existing s given + count_existing s (t ∷ [])
count_more s given t = count_append s given (t ∷ [])

pub count_part : (s : State) (all given : List TileId) (t : TileId) (rest : List TileId) → all ≡ (given ++ t ∷ []) ++ rest → count_existing s given + count_existing s (t ∷ []) ≤ count_existing s all
count_part s all given t rest whole =
    let e : count_existing s all ≡ count_existing s given + count_existing s (t ∷ []) + count_existing s rest =
    ap (count_existing s) whole ∙ count_append s (given ++ t ∷ []) rest ∙ ap (λ n. n + count_existing s rest) (count_append s given (t ∷ [])) in
    omega arith

-- ---- a tile

-- whether it exists, by params and rows
pub exists_in : {told : Option Cells} {params : Params} {rows : List Summary} (s : State) (t : TileId) → Serves told params rows s → exists_of params.cap rows t ≡ tile_exists s t
exists_in s t h = λ i. exists_of ((h.params_is i).cap) (h.rows_is i) t

-- its two changes
steps_there : (s : State) (t : TileId) (terrain note : List ℕ) → tile_exists s t ≡ true → terrain ≡ terrain_of s.params s.cells t → note ≡ note_of s.params s.cells t
    → Write (Terrain t) terrain ∷ Write (Note t) note ∷ [] ≡ tile_steps s (t ∷ [])
steps_there s t terrain note there p q = rw there (rw p (rw q refl))

pub steps_gone : (s : State) (t : TileId) → tile_exists s t ≡ false → Erase (Terrain t) ∷ Erase (Note t) ∷ [] ≡ tile_steps s (t ∷ [])
steps_gone s t gone = rw gone refl

pub steps_made : {told : Option Cells} {params : Params} {rows : List Summary} (s : State) (t : TileId) (made : TileFiles) → Serves told params rows s → exists_of params.cap rows t ≡ true
    → ((cells : Cells) → told ≡ Some cells → rows ≡ summaries_of cells → AreFilesOf params cells t made)
    → Write (Terrain t) made.terrain.items ∷ Write (Note t) made.note.items ∷ [] ≡ tile_steps s (t ∷ [])
steps_made s t made h there files =
    let are = files s.cells h.told_is h.rows_is in
    steps_there s t made.terrain.items made.note.items (sym (exists_in s t h) ∙ there)
    (are.terrain ∙ ap (λ p. terrain_of p s.cells t) h.params_is) (are.note ∙ ap (λ p. note_of p s.cells t) h.params_is)

pub one_counted : {told : Option Cells} {params : Params} {rows : List Summary} (s : State) (t : TileId) → Serves told params rows s → exists_of params.cap rows t ≡ true → count_existing s (t ∷ []) ≡ 1
one_counted s t h there = ap (λ b. cond b 1 0 + 0) (sym (exists_in s t h) ∙ there)

-- ---- what serves them

other_key : (j k : CellKey) → is_name (Cell j) (Cell k) ≡ false → eq_by_cmp key_cmp j k ≡ false
other_key j k e = key_other j k (λ same. let names : is_name (Cell j) (Cell k) ≡ true = rw same (name_self (Cell k)) in cc)

-- once the cell is put or deleted, all cells are held
all_held : {held : Option Files} {params : Params} {rows : List Summary} {k : CellKey} {bytes : Option (List ℕ)} {s : State} → (c : Closing held params rows k bytes s)
    → HoldsCells (changed (step_to (get s.cells k) (Cell k)) c.files) s.cells
all_held {k = k} {s = s} c = record {
  sound = c.sound;
  named = λ j found at.
      get-step_to (get s.cells k) (Cell k) c.files (Cell j)
      ∙ by_test (is_name (Cell j) (Cell k)) (cond (is_name (Cell j) (Cell k)) (get s.cells k) (get c.files (Cell j)) ≡ Some found)
      (λ e. let names : Cell j ≡ Cell k = name_same _ _ e in let keys : k ≡ j = cc in rw e (ap (get s.cells) keys ∙ at))
      (λ e. rw e (c.others j found (other_key j k e) at));
}

pub serves_after : (told : Option Cells) {held held' : Option Files} {log log' : Option (List Change)} {params : Params} {rows : List Summary} {k : CellKey} {bytes : Option (List ℕ)} {s : State}
    → Closing held params rows k bytes s → AllDone (step_to bytes (Cell k) ∷ []) held log held' log'
    → ((files : Files) → held' ≡ Some files → HoldsCells files s.cells → told ≡ Some s.cells) → Serves told params rows s
serves_after told {held' = held'} {k = k} {bytes = bytes} {s = s} c done tells =
    let now : held' ≡ Some (changed (step_to (get s.cells k) (Cell k)) c.files) = done.held ∙ ap (held_after (step_to bytes (Cell k))) c.held_is ∙ ap (λ b. Some (changed (step_to b (Cell k)) c.files)) (sym c.cell_is) in
    record {
      told_is = tells _ now (all_held c);
      params_is = c.params_is;
      rows_is = c.rows_is;
    }

pub serves_on : {told told' : Option Cells} {params : Params} {rows : List Summary} {s : State} → told' ≡ told → Serves told params rows s → Serves told' params rows s
serves_on same h = record { told_is = same ∙ h.told_is; params_is = h.params_is; rows_is = h.rows_is }

-- ---- the changes of a command behind its mark

pub closing_split : (s : State) (k : CellKey) → (step_to (get s.cells k) (Cell k) ∷ []) ++ (tile_steps s (touched s.params.cap k.square) ++ steps_to (file_of s) last_names) ≡ closing k s
closing_split s k = ap (λ xs. step_to (get s.cells k) (Cell k) ∷ xs) (sym (map-append (λ name. step_to (file_of s name) name) (tile_names (touched s.params.cap k.square)) last_names))
