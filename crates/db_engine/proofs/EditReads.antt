-- A command's changes over files that only read as a state.
use Rattle.std.proofs.Common.{◌≡◌, ℕ, zero, suc, ◌≤◌, Bool, true, false, not, is_some, cond, List, length, take, Option, Some, None, refl, sym, ap, ◌∙◌, inl, inr, arith}
use Rattle.std.specs.FinMap.{get, insert, remove, get-insert, get-remove, contains_key-keys}
use Rattle.std.specs.Ordering.{eq_by_cmp}
use Rattle.common_laws.proofs.Options.{some_beside_none}
use Rattle.manifest_lines.specs.declared.state.State.TheVariants.{Closed, Put, Drop, Rebuild}
use Rattle.terrain_base.specs.declared.cell_key.CellKey.{CellKey}
use Rattle.terrain_base.specs.declared.name.Key.{Key}
use Rattle.terrain_base.specs.declared.name.Key.TheVariants.{Manifest, Stage, Cell}
use Rattle.terrain_base.specs.CellKey.{key_cmp, keys_total}
use Rattle.terrain_base.specs.Step.{Files}
use Rattle.terrain_base.specs.Overwrite.{all_changed}
use Rattle.db_manifest.specs.Manifest.{ManifestState}
use Rattle.database.specs.Commands.{Edit, PutCell, DropCell, after, calls, marked_text, settling}
use Rattle.database.specs.State.{State, IsState, ReadsAs, settled}
use Rattle.database.proofs.Given.{by_text_total}
use Rattle.database.proofs.Settled.{settling_reads, settling_leaves}
use Rattle.database.proofs.Tests.{is_name, name_other, key_self}
use Rattle.db_engine.specs.Edited.{ReadsAsOldOrNew}

-- a file of another name is as it was
pub at_other : (files : Files) (name other : Key) (bytes : List ℕ) → is_name other name ≡ false → get (insert files name bytes) other ≡ get files other
at_other files name other bytes e = get-insert by_text_total files name bytes other ∙ rw e refl

-- ---- the settled files read as the state, closed

kept_cell : (b : Bool) (wanted held : Option (List ℕ)) (bytes : List ℕ) → wanted ≡ Some bytes → (b ≡ false → held ≡ Some bytes) → cond b wanted held ≡ Some bytes
kept_cell true wanted held bytes want have = want
kept_cell false wanted held bytes want have = have refl

put_kept : (files : Files) (j : CellKey) (bytes : List ℕ) (b : Bool) → get files (cond b Stage (Cell j)) ≡ Some bytes → b ≡ false → get files (Cell j) ≡ Some bytes
put_kept files j bytes true at e = absurd (cc)
put_kept files j bytes false at e = at

pub closed_of : (m : ManifestState) (s : State) (files now : Files) → ReadsAs files s m → ((name : Key) → get now name ≡ settled m s files name) → ReadsAs now s Closed
closed_of Closed s files now r is = record {
  manifest = is Manifest ∙ r.manifest;
  fit = refl;
  state = r.state;
  cells = λ j bytes at. is (Cell j) ∙ r.cells j bytes at;
}
closed_of (Put k) s files now r is = record {
  manifest = is Manifest;
  fit = refl;
  state = r.state;
  cells = λ j bytes at. is (Cell j) ∙ kept_cell (eq_by_cmp key_cmp j k) (get s.cells j) (get files (Cell j)) bytes at (put_kept files j bytes (eq_by_cmp key_cmp j k) (r.cells j bytes at));
}
closed_of (Drop k) s files now r is = record {
  manifest = is Manifest;
  fit = refl;
  state = r.state;
  cells = λ j bytes at. is (Cell j) ∙ kept_cell (eq_by_cmp key_cmp j k) (get s.cells j) (get files (Cell j)) bytes at (λ e. r.cells j bytes at);
}
closed_of Rebuild s files now r is = record {
  manifest = is Manifest;
  fit = refl;
  state = r.state;
  cells = λ j bytes at. is (Cell j) ∙ at;
}

-- all of settling leaves files that read as the state, closed
pub settles_closed : (m : ManifestState) (s : State) (files : Files) → ReadsAs files s m → ReadsAs (all_changed (settling m files s) files) s Closed
settles_closed m s files r = closed_of m s files (all_changed (settling m files s) files) r (settling_leaves m s files r)

-- ---- up to the mark

staged_reads : (s : State) (files : Files) (bytes : List ℕ) → ReadsAs files s Closed → ReadsAs (insert files Stage bytes) s Closed
staged_reads s files bytes r = record {
  manifest = at_other files Stage Manifest bytes (name_other Manifest Stage (λ e. cc)) ∙ r.manifest;
  fit = refl;
  state = r.state;
  cells = λ j found at. at_other files Stage (Cell j) bytes (name_other (Cell j) Stage (λ e. cc)) ∙ r.cells j found at;
}

put_cell : (s : State) (files : Files) (k j : CellKey) (bytes text found : List ℕ) (b : Bool) → ReadsAs files s Closed
    → cond b (Some bytes) (get s.cells j) ≡ Some found → get (insert (insert files Stage bytes) Manifest text) (cond b Stage (Cell j)) ≡ Some found
put_cell s files k j bytes text found true r at =
    at_other (insert files Stage bytes) Manifest Stage text (name_other Stage Manifest (λ e. cc)) ∙ get-insert by_text_total files Stage bytes Stage ∙ at
put_cell s files k j bytes text found false r at =
    at_other (insert files Stage bytes) Manifest (Cell j) text (name_other (Cell j) Manifest (λ e. cc)) ∙ at_other files Stage (Cell j) bytes (name_other (Cell j) Stage (λ e. cc)) ∙ r.cells j found at

just_put : (s : State) (k : CellKey) (bytes : List ℕ) → get (insert s.cells k bytes) k ≡ Some bytes
just_put s k bytes = get-insert keys_total s.cells k bytes k ∙ rw (key_self k) refl

just_dropped : (s : State) (k : CellKey) → get (remove s.cells k) k ≡ None
just_dropped s k = get-remove keys_total s.cells k k ∙ rw (key_self k) refl

pub put_reads : (s : State) (files : Files) (k : CellKey) (bytes : List ℕ) → IsState (after (PutCell k bytes) s) → ReadsAs files s Closed
    → ReadsAs (insert (insert files Stage bytes) Manifest (marked_text (Put k) (after (PutCell k bytes) s))) (after (PutCell k bytes) s) (Put k)
put_reads s files k bytes state r =
    let text = marked_text (Put k) (after (PutCell k bytes) s) in
    record {
      manifest = get-insert by_text_total (insert files Stage bytes) Manifest text Manifest;
      fit = sym (contains_key-keys (insert s.cells k bytes) k) ∙ ap is_some (just_put s k bytes);
      state = state;
      cells = λ j found at. put_cell s files k j bytes text found (eq_by_cmp key_cmp j k) r (sym (get-insert keys_total s.cells k bytes j) ∙ at);
    }

pub drop_reads : (s : State) (files : Files) (k : CellKey) → IsState (after (DropCell k) s) → ReadsAs files s Closed
    → ReadsAs (insert files Manifest (marked_text (Drop k) (after (DropCell k) s))) (after (DropCell k) s) (Drop k)
drop_reads s files k state r =
    let text = marked_text (Drop k) (after (DropCell k) s) in
    record {
      manifest = get-insert by_text_total files Manifest text Manifest;
      fit = ap not (sym (contains_key-keys (remove s.cells k) k) ∙ ap is_some (just_dropped s k));
      state = state;
      cells = λ j found at. at_other files Manifest (Cell j) text (name_other (Cell j) Manifest (λ e. cc)) ∙ r.cells j found (some_beside_none _ _ _ (sym (get-remove keys_total s.cells k j) ∙ at));
    }

-- ---- a whole command

-- each front leaves files that read as the old state or as the new one
pub edit_reads : (c : Edit) (s : State) (files : Files) → IsState (after c s) → ReadsAs files s Closed → (n : ℕ) → n ≤ length (calls c s) → ReadsAsOldOrNew c s (all_changed (take n (calls c s)) files)
edit_reads (PutCell k bytes) s files state r zero le = inl (record { mark = Closed; reads = r })
edit_reads (PutCell k bytes) s files state r (suc zero) le = inl (record { mark = Closed; reads = staged_reads s files bytes r })
edit_reads (PutCell k bytes) s files state r (suc (suc n)) le =
    inr (settling_reads (Put k) (after (PutCell k bytes) s) _ (put_reads s files k bytes state r) n (omega arith))
edit_reads (DropCell k) s files state r zero le = inl (record { mark = Closed; reads = r })
edit_reads (DropCell k) s files state r (suc n) le =
    inr (settling_reads (Drop k) (after (DropCell k) s) _ (drop_reads s files k state r) n (omega arith))

-- all of them leave files that read as the new one, closed
pub edit_closed : (c : Edit) (s : State) (files : Files) → IsState (after c s) → ReadsAs files s Closed → ReadsAs (all_changed (calls c s) files) (after c s) Closed
edit_closed (PutCell k bytes) s files state r = settles_closed (Put k) (after (PutCell k bytes) s) _ (put_reads s files k bytes state r)
edit_closed (DropCell k) s files state r = settles_closed (Drop k) (after (DropCell k) s) _ (drop_reads s files k state r)
