-- The changes of a command, begun on closed files, and those of settling.
use Rattle.common_laws.proofs.Options.{some_beside_none}
use Rattle.terrain_base.specs.declared.tile.TileId.{TileId}
use Rattle.database.proofs.Given.{by_text_total, square_of, keys_total}
use Rattle.terrain_base.specs.declared.name.Key.{Key}
use Rattle.terrain_base.specs.declared.name.Key.TheVariants.{Manifest, Layer, Stage, Cell, OldCell, Terrain, Note}
use Rattle.terrain_base.specs.Step.{Files}
use Rattle.terrain_base.specs.Overwrite.{steps_to, all_changed, is_among}
use Rattle.db_manifest.specs.Manifest.{ManifestState}
use Rattle.manifest_lines.specs.declared.state.State.TheVariants.{Closed, Put, Drop}
use Rattle.cell_mosaic.specs.Cells.{Cells}
use Rattle.terrain_base.specs.declared.cell_key.CellKey.{CellKey}
use Rattle.terrain_base.specs.CellKey.{key_cmp}
use Rattle.tile_deps.specs.Tiles.{touched}
use Rattle.database.specs.State.{State, IsState, file_of, AreFiles, is_changed, is_free, is_stage, StandsMarked, StandsFor}
use Rattle.database.specs.Commands.{key_of, Edit, PutCell, DropCell, after, inner_names, changed_names, marked_text, closing, calls, OldOrNew}
use Rattle.database.proofs.Tests.{is_name, name_other, key_self}
use Rattle.database.proofs.Among.{not_tile, among_changed}
use Rattle.database.proofs.Local.{AgreeBut, files_local}
use Rattle.database.proofs.Standing.{over_at, Covers, closed_stands, stage_apart, closing_stands, over_all}
use Rattle.std.proofs.Common.{◌≡◌, ℕ, zero, suc, ◌≤◌, Bool, true, false, not, is_some, cond, List, [], ◌∷◌, ◌++◌, length, take, Option, Some, None, refl, sym, ap, subst, ◌∙◌, inl, inr, arith, append_assoc}
use Rattle.std.specs.FinMap.{get, insert, remove, get-insert, get-remove, contains_key-keys}
use Rattle.std.specs.Ordering.{eq_by_cmp}
use Rattle.std.proofs.lemmas.List.Folds.{list_any-append}

-- ---- settling

-- neither manifest nor stage is among the names up to the layer
pub front_free : (cap : ℕ) (k : CellKey) (name : Key) → is_name name (Cell k) ≡ false → ((t : TileId) → ((name ≡ Terrain t → ⊥) × (name ≡ Note t → ⊥))) → is_name name Layer ≡ false
    → is_among name (inner_names cap k ++ Layer ∷ []) ≡ false
front_free cap k name no_cell no_tile no_layer =
    list_any-append (is_name name) (inner_names cap k) (Layer ∷ []) ∙ rw no_cell (rw (not_tile name no_tile (touched cap (square_of k))) (rw no_layer refl))

pub settles : (s : State) (files : Files) (m : ManifestState) (k : CellKey) → ((q : Key) → is_changed s.params.cap k q ≡ false → is_free s.params.cap m q ≡ false) → StandsMarked files s m → Covers files s (changed_names s.params.cap k)
settles s files m k free st = record { rest = λ q out. st.agrees q (free q (sym (among_changed s.params.cap k q) ∙ out)) }

pub settling_stands : (s : State) (files : Files) (m : ManifestState) (k : CellKey) → ((q : Key) → is_changed s.params.cap k q ≡ false → is_free s.params.cap m q ≡ false) → StandsMarked files s m
    → (n : ℕ) → n ≤ length (closing k s) → StandsFor (all_changed (take n (closing k s)) files) s
settling_stands s files m k free st n le =
    let cap = s.params.cap in
    let front = inner_names cap k ++ Layer ∷ [] in
    let same : front ++ (Manifest ∷ Stage ∷ []) ≡ changed_names cap k = append_assoc (inner_names cap k) (Layer ∷ []) (Manifest ∷ Stage ∷ []) in
    subst (λ names. n ≤ length (steps_to (file_of s) names) → StandsFor (all_changed (take n (steps_to (file_of s) names)) files) s) same
    (closing_stands s files m front
    (front_free cap k Manifest (name_other Manifest (Cell k) (λ e. cc)) (λ t. ((λ e. cc), (λ e. cc))) (name_other Manifest Layer (λ e. cc)))
    (front_free cap k Stage (name_other Stage (Cell k) (λ e. cc)) (λ t. ((λ e. cc), (λ e. cc))) (name_other Stage Layer (λ e. cc)))
    st (subst (λ names. Covers files s names) (sym same) (settles s files m k free st)) n) le

pub settling_ends : (s : State) (files : Files) (m : ManifestState) (k : CellKey) → ((q : Key) → is_changed s.params.cap k q ≡ false → is_free s.params.cap m q ≡ false) → StandsMarked files s m
    → AreFiles (all_changed (closing k s) files) s
settling_ends s files m k free st = over_all s files (changed_names s.params.cap k) (settles s files m k free st)

-- ---- up to the mark

pub staged : (s : State) (files : Files) (bytes : List ℕ) → StandsMarked files s Closed → StandsMarked (insert files Stage bytes) s Closed
staged s files bytes st = closed_stands s (insert files Stage bytes) st.reads.state
    (λ q e. get-insert by_text_total files Stage bytes q ∙ rw (stage_apart q e) (st.agrees q e))

pub but_put : (c : Cells) (k : CellKey) (bytes : List ℕ) → AgreeBut k c (insert c k bytes)
but_put c k bytes = record { same = λ j e. sym (get-insert keys_total c k bytes j ∙ rw e refl) }

pub but_dropped : (c : Cells) (k : CellKey) → AgreeBut k c (remove c k)
but_dropped c k = record { same = λ j e. sym (get-remove keys_total c k j ∙ rw e refl) }

just_put : (c : Cells) (k : CellKey) (bytes : List ℕ) → get (insert c k bytes) k ≡ Some bytes
just_put c k bytes = get-insert keys_total c k bytes k ∙ rw (key_self k) refl

just_dropped : (c : Cells) (k : CellKey) → get (remove c k) k ≡ None
just_dropped c k = get-remove keys_total c k k ∙ rw (key_self k) refl

pub record Outside (name : Key) : Type 0 where
  pub manifest : is_name name Manifest ≡ false
  pub stage : is_name name Stage ≡ false
  pub no_stage : is_stage name ≡ false

pub outside : (cap : ℕ) (k : CellKey) (name : Key) → is_changed cap k name ≡ false → Outside name
outside cap k Manifest e = absurd (cc)
outside cap k Layer e = absurd (cc)
outside cap k Stage e = absurd (cc)
outside cap k (Cell j) e = record { manifest = name_other (Cell j) Manifest (λ e. cc); stage = name_other (Cell j) Stage (λ e. cc); no_stage = refl }
outside cap k (OldCell q) e = record { manifest = name_other (OldCell q) Manifest (λ e. cc); stage = name_other (OldCell q) Stage (λ e. cc); no_stage = refl }
outside cap k (Terrain t) e = record { manifest = name_other (Terrain t) Manifest (λ e. cc); stage = name_other (Terrain t) Stage (λ e. cc); no_stage = refl }
outside cap k (Note t) e = record { manifest = name_other (Note t) Manifest (λ e. cc); stage = name_other (Note t) Stage (λ e. cc); no_stage = refl }

-- a manifest over files
marked_at : (files : Files) (text : List ℕ) (q : Key) → is_name q Manifest ≡ false → get (insert files Manifest text) q ≡ get files q
marked_at files text q e = get-insert by_text_total files Manifest text q ∙ rw e refl

staged_at : (files : Files) (bytes : List ℕ) (q : Key) → is_name q Stage ≡ false → get (insert files Stage bytes) q ≡ get files q
staged_at files bytes q e = get-insert by_text_total files Stage bytes q ∙ rw e refl

manifest_at : (files : Files) (text : List ℕ) → get (insert files Manifest text) Manifest ≡ Some text
manifest_at files text = get-insert by_text_total files Manifest text Manifest

stage_at : (files : Files) (bytes : List ℕ) → get (insert files Stage bytes) Stage ≡ Some bytes
stage_at files bytes = get-insert by_text_total files Stage bytes Stage

put_cells : (s : State) (files : Files) (k j : CellKey) (bytes text found : List ℕ) (b : Bool) → StandsMarked files s Closed
    → cond b (Some bytes) (get s.cells j) ≡ Some found → get (insert (insert files Stage bytes) Manifest text) (cond b Stage (Cell j)) ≡ Some found
put_cells s files k j bytes text found true st at = marked_at (insert files Stage bytes) text Stage (name_other Stage Manifest (λ e. cc)) ∙ stage_at files bytes ∙ at
put_cells s files k j bytes text found false st at =
    marked_at (insert files Stage bytes) text (Cell j) (name_other (Cell j) Manifest (λ e. cc)) ∙ staged_at files bytes (Cell j) (name_other (Cell j) Stage (λ e. cc)) ∙ st.agrees (Cell j) refl ∙ at

pub put_marked : (s : State) (files : Files) (k : CellKey) (bytes : List ℕ) → IsState (after (PutCell k bytes) s) → StandsMarked files s Closed
    → StandsMarked (insert (insert files Stage bytes) Manifest (marked_text (Put k) (after (PutCell k bytes) s))) (after (PutCell k bytes) s) (Put k)
put_marked s files k bytes cell st =
    let text = marked_text (Put k) (after (PutCell k bytes) s) in
    record {
      reads = record {
        manifest = manifest_at (insert files Stage bytes) text;
        fit = sym (contains_key-keys (insert s.cells k bytes) k) ∙ ap is_some (just_put s.cells k bytes);
        cells = λ j found at. put_cells s files k j bytes text found (eq_by_cmp key_cmp j k) st (sym (get-insert keys_total s.cells k bytes j) ∙ at);
        state = cell;
      };
      agrees = λ q free.
          let out = outside s.params.cap k q free in
          marked_at (insert files Stage bytes) text q out.manifest ∙ staged_at files bytes q out.stage ∙ st.agrees q out.no_stage
          ∙ files_local s.params k s.cells (insert s.cells k bytes) (but_put s.cells k bytes) q free;
    }

pub drop_marked : (s : State) (files : Files) (k : CellKey) → IsState (after (DropCell k) s) → StandsMarked files s Closed
    → StandsMarked (insert files Manifest (marked_text (Drop k) (after (DropCell k) s))) (after (DropCell k) s) (Drop k)
drop_marked s files k cell st =
    let text = marked_text (Drop k) (after (DropCell k) s) in
    record {
      reads = record {
        manifest = manifest_at files text;
        fit = ap not (sym (contains_key-keys (remove s.cells k) k) ∙ ap is_some (just_dropped s.cells k));
        cells = λ j found at. marked_at files text (Cell j) (name_other (Cell j) Manifest (λ e. cc)) ∙ st.agrees (Cell j) refl ∙ some_beside_none _ _ _ (sym (get-remove keys_total s.cells k j) ∙ at);
        state = cell;
      };
      agrees = λ q free.
          let out = outside s.params.cap k q free in
          marked_at files text q out.manifest ∙ st.agrees q out.no_stage
          ∙ files_local s.params k s.cells (remove s.cells k) (but_dropped s.cells k) q free;
    }

-- ---- a whole command

pub command_stands : (c : Edit) (s : State) (files : Files) → IsState (after c s) → StandsMarked files s Closed → (n : ℕ) → n ≤ length (calls c s) → OldOrNew c s (all_changed (take n (calls c s)) files)
command_stands (PutCell k bytes) s files cell st zero le = inl (record { mark = Closed; stands = st })
command_stands (PutCell k bytes) s files cell st (suc zero) le = inl (record { mark = Closed; stands = staged s files bytes st })
command_stands (PutCell k bytes) s files cell st (suc (suc n)) le =
    inr (settling_stands (after (PutCell k bytes) s) _ (Put k) k (λ q e. e) (put_marked s files k bytes cell st) n (omega arith))
command_stands (DropCell k) s files cell st zero le = inl (record { mark = Closed; stands = st })
command_stands (DropCell k) s files cell st (suc n) le =
    inr (settling_stands (after (DropCell k) s) _ (Drop k) k (λ q e. e) (drop_marked s files k cell st) n (omega arith))

pub command_ends : (c : Edit) (s : State) (files : Files) → IsState (after c s) → StandsMarked files s Closed → AreFiles (all_changed (calls c s) files) (after c s)
command_ends (PutCell k bytes) s files cell st = settling_ends (after (PutCell k bytes) s) _ (Put k) k (λ q e. e) (put_marked s files k bytes cell st)
command_ends (DropCell k) s files cell st = settling_ends (after (DropCell k) s) _ (Drop k) k (λ q e. e) (drop_marked s files k cell st)

-- ---- over files that only read as the state

staged_other : (files : Files) (bytes text : List ℕ) (b : Bool) (q : Key) (x : Option (List ℕ)) → (b ≡ false → Outside q) → cond b x (get (insert (insert files Stage bytes) Manifest text) q) ≡ cond b x (get files q)
staged_other files bytes text true q x out = refl
staged_other files bytes text false q x out = marked_at (insert files Stage bytes) text q (out refl).manifest ∙ staged_at files bytes q (out refl).stage

marked_other : (files : Files) (text : List ℕ) (b : Bool) (q : Key) (x : Option (List ℕ)) → (b ≡ false → Outside q) → cond b x (get (insert files Manifest text) q) ≡ cond b x (get files q)
marked_other files text true q x out = refl
marked_other files text false q x out = marked_at files text q (out refl).manifest

-- after the calls the changed names are those of the new state, and every other is as before, whatever was held there
pub command_changes : (c : Edit) (s : State) (files : Files) (q : Key) → get (all_changed (calls c s) files) q ≡ cond (is_changed s.params.cap (key_of c) q) (file_of (after c s) q) (get files q)
command_changes (PutCell k bytes) s files q =
    over_at (after (PutCell k bytes) s) (changed_names s.params.cap k) _ q
    ∙ ap (λ b. cond b (file_of (after (PutCell k bytes) s) q) (get (insert (insert files Stage bytes) Manifest (marked_text (Put k) (after (PutCell k bytes) s))) q)) (among_changed s.params.cap k q)
    ∙ staged_other files bytes _ (is_changed s.params.cap k q) q _ (outside s.params.cap k q)
command_changes (DropCell k) s files q =
    over_at (after (DropCell k) s) (changed_names s.params.cap k) _ q
    ∙ ap (λ b. cond b (file_of (after (DropCell k) s) q) (get (insert files Manifest (marked_text (Drop k) (after (DropCell k) s))) q)) (among_changed s.params.cap k q)
    ∙ marked_other files _ (is_changed s.params.cap k q) q _ (outside s.params.cap k q)
