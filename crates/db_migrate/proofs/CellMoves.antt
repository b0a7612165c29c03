-- Cells that are put under the names of the present version, one after another.
use Rattle.std.proofs.Common.{◌≡◌, ℕ, zero, suc, ◌+◌, ◌<◌, true, false, ◌||◌, ◌++◌, List, [], ◌∷◌, length, map, take, drop, cond, get_or, is_some, Option, Some, None, refl, sym, ap, subst, ◌∙◌, ◌⊎◌, ⊎_elim, add-one, drop-cons, arith}
use Rattle.std.specs.FinMap.{get, keys, contains_key-keys}
use Rattle.std.specs.List.{filter, list_any}
use Rattle.std.specs.Ordering.{eq_by_cmp}
use Rattle.std.proofs.lemmas.List.{take_more, take-append-drop, take-map, map-append}
use Rattle.std.proofs.lemmas.List.Elements.{filter-append}
use Rattle.std.proofs.lemmas.Bool.{or_right}
use Rattle.terrain_base.specs.declared.cell_key.CellKey.{CellKey}
use Rattle.terrain_base.specs.declared.name.Key.{Key}
use Rattle.terrain_base.specs.declared.name.Key.TheVariants.{Manifest, Cell}
use Rattle.terrain_base.specs.declared.summary.Summary.{Summary}
use Rattle.terrain_base.specs.CellKey.{key_cmp}
use Rattle.terrain_base.specs.Overwrite.{is_among, step_to, steps_to, all_changed}
use Rattle.terrain_base.specs.declared.store.Change.{Change}
use Rattle.terrain_base.specs.Run.{AllDone, files_after}
use Rattle.terrain_base.specs.Step.{Files, Step}
use Rattle.terrain_base.proofs.Overwrites.{files_of_told}
use Rattle.terrain_base.proofs.Stops.{missed}
use Rattle.manifest_lines.specs.declared.version.Version.{Version}
use Rattle.old_manifest.specs.declared.row.OldRow.{OldRow}
use Rattle.old_manifest.specs.Manifest.{staged_of}
use Rattle.database.specs.Cells.{row_key, row_keys}
use Rattle.database.specs.State.{State, file_of}
use Rattle.database.proofs.Standing.{over, over_agrees, over_missed, over_hit, by_test}
use Rattle.database.proofs.Starting.{HasAll}
use Rattle.database.proofs.Tests.{key_self}
use Rattle.db_files.proofs.RowKeys.{keys_of_rows}
use Rattle.db_old_reading.specs.Kept.{row_of, kept_under}
use Rattle.db_migrate.specs.Moves.{Gives, Keeps, is_moved, moved, moving}
use Rattle.db_old_reading.specs.OldReads.{OldMark, OldReads}
use Rattle.db_migrate.proofs.MovedNames.{NoCell, no_cell_among, kept_either, not_moved, moved_among}

-- ---- while cells are put, the files read as before

kept_cell : (s : State) (files : Files) (names : List Key) (key : CellKey) (bytes : List ℕ) (name : Key) → ((n : Key) → NoCell n → is_among n names ≡ false) → get s.cells key ≡ Some bytes → get files name ≡ Some bytes
    → (name ≡ Cell key) ⊎ NoCell name → get (over s names files) name ≡ Some bytes
kept_cell s files names key bytes name cells_alone at kept either = ⊎_elim
    (λ own. ap (get (over s names files)) own ∙ over_agrees s names files (Cell key) (sym (ap (get files) own) ∙ kept ∙ sym at) ∙ at)
    (λ other. over_missed s names files name (cells_alone name other) ∙ kept)
    either

pub reads_over : {files : Files} {v : Version} {s : State} {mark : OldMark} (names : List Key) → ((n : Key) → NoCell n → is_among n names ≡ false) → OldReads files v s mark → OldReads (over s names files) v s mark
reads_over {files = files} {v = v} {s = s} {mark = mark} names cells_alone r = record {
  old = r.old;
  manifest = over_missed s names files Manifest (cells_alone Manifest (λ key e. cc)) ∙ r.manifest;
  good = r.good;
  state = r.state;
  cells = λ key bytes at. kept_cell s files names key bytes (kept_under (staged_of mark) (row_of v key)) cells_alone at (r.cells key bytes at) (kept_either (staged_of mark) v key);
}

abbrev moved_keys : Version → Option OldRow → List CellKey → List CellKey
moved_keys v staged ks = filter (λ key. is_moved staged (row_of v key)) ks

pub moved_alone : (v : Version) (staged : Option OldRow) (ks : List CellKey) (name : Key) → NoCell name → is_among name (moved v staged ks) ≡ false
moved_alone v staged ks name other = no_cell_among name (moved_keys v staged ks) other

-- so they do after each front of it
pub front_reads : {files : Files} {v : Version} {s : State} {mark : OldMark} → OldReads files v s mark → (n : ℕ) → OldReads (all_changed (take n (moving v mark s)) files) v s mark
front_reads {files = files} {v = v} {s = s} {mark = mark} r n =
    let names = moved v (staged_of mark) (keys s.cells) in
    subst (λ steps. OldReads (all_changed steps files) v s mark) (sym (take-map (λ name. step_to (file_of s name) name) n names))
    (reads_over (take n names) (λ name other. missed name n names (moved_alone v (staged_of mark) (keys s.cells) name other)) r)

pub all_reads : {files : Files} {v : Version} {s : State} {mark : OldMark} → OldReads files v s mark → OldReads (all_changed (moving v mark s) files) v s mark
all_reads {v = v} {s = s} {mark = mark} r = reads_over (moved v (staged_of mark) (keys s.cells)) (moved_alone v (staged_of mark) (keys s.cells)) r

-- ---- and then each cell is held under its name

there : (cells : List CellKey) (key : CellKey) (own : Option (List ℕ)) (bytes : List ℕ) → is_some own ≡ list_any (eq_by_cmp key_cmp key) cells → own ≡ Some bytes → list_any (eq_by_cmp key_cmp key) cells ≡ true
there cells key own bytes same at = sym same ∙ ap is_some at

named_now : {files : Files} {v : Version} {s : State} {mark : OldMark} → OldReads files v s mark → (key : CellKey) (bytes : List ℕ) → get s.cells key ≡ Some bytes
    → get (all_changed (moving v mark s) files) (Cell key) ≡ Some bytes
named_now {files = files} {v = v} {s = s} {mark = mark} r key bytes at =
    let staged = staged_of mark in
    let names = moved v staged (keys s.cells) in
    let among = there (keys s.cells) key (get s.cells key) bytes (contains_key-keys s.cells key) at in
    by_test (is_moved staged (row_of v key)) (get (over s names files) (Cell key) ≡ Some bytes)
    (λ is. over_hit s names files (Cell key) (moved_among (λ k. is_moved staged (row_of v k)) key (keys s.cells) among is) ∙ at)
    (λ not. over_agrees s names files (Cell key) (sym (ap (get files) (not_moved staged v key not)) ∙ r.cells key bytes at ∙ sym at) ∙ at)

pub has_all : {files : Files} {v : Version} {s : State} {mark : OldMark} → OldReads files v s mark → HasAll (all_changed (moving v mark s) files) s
has_all r = record { state = r.state; cells = named_now r }

-- ---- one cell

-- the new names of one more
abbrev pub moved_steps : State → Version → Option OldRow → List CellKey → List Step
moved_steps s v staged ks = steps_to (file_of s) (moved v staged ks)

moved_append : (s : State) (v : Version) (staged : Option OldRow) (xs ys : List CellKey) → moved_steps s v staged (xs ++ ys) ≡ moved_steps s v staged xs ++ moved_steps s v staged ys
moved_append s v staged xs ys =
    ap (λ ks. steps_to (file_of s) (map Cell ks)) (filter-append (λ key. is_moved staged (row_of v key)) xs ys)
    ∙ ap (steps_to (file_of s)) (map-append Cell (moved_keys v staged xs) (moved_keys v staged ys))
    ∙ map-append (λ name. step_to (file_of s name) name) (map Cell (moved_keys v staged xs)) (map Cell (moved_keys v staged ys))

pub none_moved : (s : State) (v : Version) (staged : Option OldRow) (key : CellKey) → is_moved staged (row_of v key) ≡ false → [] ≡ moved_steps s v staged (key ∷ [])
none_moved s v staged key e = ap (λ b. steps_to (file_of s) (map Cell (cond b (key ∷ []) []))) (sym e)

pub one_moved : (s : State) (v : Version) (staged : Option OldRow) (key : CellKey) → is_moved staged (row_of v key) ≡ true → step_to (get s.cells key) (Cell key) ∷ [] ≡ moved_steps s v staged (key ∷ [])
one_moved s v staged key e = ap (λ b. steps_to (file_of s) (map Cell (cond b (key ∷ []) []))) (sym e)

pub more_moved : (s : State) (v : Version) (staged : Option OldRow) (rows : List Summary) (i : ℕ) (row : Summary) → i < length rows → row ≡ get_or rows i row
    → moved_steps s v staged (row_keys (take (i + 1) rows)) ≡ moved_steps s v staged (row_keys (take i rows)) ++ moved_steps s v staged (row_key row ∷ [])
more_moved s v staged rows i row less is =
    ap (λ rs. moved_steps s v staged (row_keys rs)) (take_more rows i row less ∙ ap (λ r. take i rows ++ r ∷ []) (sym is))
    ∙ ap (moved_steps s v staged) (map-append row_key (take i rows) (row ∷ []))
    ∙ moved_append s v staged (row_keys (take i rows)) (row_key row ∷ [])

pub split_moved : (s : State) (v : Version) (staged : Option OldRow) (rows : List Summary) (i : ℕ) (row : Summary) → i < length rows → row ≡ get_or rows i row
    → moved_steps s v staged (row_keys (take i rows)) ++ (moved_steps s v staged (row_key row ∷ []) ++ moved_steps s v staged (row_keys (drop (i + 1) rows))) ≡ moved_steps s v staged (row_keys rows)
split_moved s v staged rows i row less is =
    ap (λ xs. moved_steps s v staged (row_keys (take i rows)) ++ xs) (sym (moved_append s v staged (row_key row ∷ []) (row_keys (drop (i + 1) rows))))
    ∙ sym (moved_append s v staged (row_keys (take i rows)) (row_key row ∷ row_keys (drop (i + 1) rows)))
    ∙ ap (moved_steps s v staged) (sym (map-append row_key (take i rows) (row ∷ drop (i + 1) rows)))
    ∙ ap (λ rs. moved_steps s v staged (row_keys rs)) (ap (λ r. take i rows ++ r ∷ drop (i + 1) rows) is ∙ ap (λ rs. take i rows ++ rs) (rw add-one (sym (drop-cons rows i row less))) ∙ take-append-drop i rows)

-- of all rows, by the state's words
pub steps_read : {held : Option Files} {v : Version} {staged : Option OldRow} {rows : List Summary} {files : Files} {s : State} {mark : OldMark} → Keeps held v staged rows files s mark → moved_steps s v staged (row_keys rows) ≡ moving v mark s
steps_read {v = v} {s = s} k = λ i. moved_steps s v (k.staged_is i) ((ap row_keys k.rows_is ∙ keys_of_rows s.cells) i)

key_there : (rows : List Summary) (i : ℕ) (row : Summary) → i < length rows → row ≡ get_or rows i row → list_any (eq_by_cmp key_cmp (row_key row)) (row_keys rows) ≡ true
key_there [] i row less is = absurd (omega arith)
key_there (r ∷ rows) zero row less is = ap (λ x. eq_by_cmp key_cmp (row_key row) (row_key x) || list_any (eq_by_cmp key_cmp (row_key row)) (row_keys rows)) (sym is) ∙ rw (key_self (row_key row)) refl
key_there (r ∷ rows) (suc i) row less is = or_right (eq_by_cmp key_cmp (row_key row) (row_key r)) _ (key_there rows i row (omega arith) is)

some_bytes : (own : Option (List ℕ)) → is_some own ≡ true → (bytes : List ℕ) × (own ≡ Some bytes)
some_bytes None e = absurd (cc)
some_bytes (Some bytes) e = (bytes, refl)

-- behind the cells so far the next one's bytes are where they are kept
pub gives : {before held : Option Files} {log log' : Option (List Change)} {v : Version} {staged : Option OldRow} {rows : List Summary} {files : Files} {s : State} {mark : OldMark} (i : ℕ) (row : Summary) → Keeps before v staged rows files s mark
    → i < length rows → row ≡ get_or rows i row → AllDone (moved_steps s v staged (row_keys (take i rows))) before log held log' → Gives held v staged (row_key row) s
gives {v = v} {staged = staged} {rows = rows} {files = files} {s = s} i row k less is done =
    let ks = row_keys (take i rows) in
    let names = moved v staged ks in
    let reads = reads_over names (moved_alone v staged ks) k.reads in
    let among : list_any (eq_by_cmp key_cmp (row_key row)) (keys s.cells) ≡ true = ap (list_any (eq_by_cmp key_cmp (row_key row))) (sym (ap row_keys k.rows_is ∙ keys_of_rows s.cells)) ∙ key_there rows i row less is in
    let found = some_bytes (get s.cells (row_key row)) (contains_key-keys s.cells (row_key row) ∙ among) in
    record {
      files = over s names files;
      held_is = done.held ∙ ap (files_after (moved_steps s v staged ks)) k.held_is ∙ files_of_told (moved_steps s v staged ks) files;
      bytes = found.0;
      cell = found.1;
      kept = ap (λ p. get (over s names files) (kept_under p (row_of v (row_key row)))) k.staged_is ∙ reads.cells (row_key row) found.0 found.1;
    }

pub gives_key : {before held : Option Files} {log log' : Option (List Change)} {v : Version} {staged : Option OldRow} {rows : List Summary} {files : Files} {s : State} {mark : OldMark} (i : ℕ) (row : Summary) (key : CellKey) → key ≡ row_key row → Keeps before v staged rows files s mark
    → i < length rows → row ≡ get_or rows i row → AllDone (moved_steps s v staged (row_keys (take i rows))) before log held log' → Gives held v staged key s
gives_key {held = held} {v = v} {staged = staged} {s = s} i row key e k less is done = subst (λ j. Gives held v staged j s) (sym e) (gives i row k less is done)

pub key_steps : (s : State) (v : Version) (staged : Option OldRow) (row : Summary) (key : CellKey) → key ≡ row_key row → moved_steps s v staged (key ∷ []) ≡ moved_steps s v staged (row_key row ∷ [])
key_steps s v staged row key e = ap (λ j. moved_steps s v staged (j ∷ [])) e
