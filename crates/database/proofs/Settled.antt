-- What settling leaves, of files that stand for a state and of files that only read as one.
use Rattle.std.proofs.Common.{◌≡◌, ℕ, zero, suc, ◌+◌, ◌≤◌, Bool, true, false, cond, List, [], ◌∷◌, ◌++◌, length, take, Some, refl, sym, ap, subst, ◌∙◌, ◌⊎◌, inl, inr, ⊎_elim, arith, append_assoc, length-append}
use Rattle.std.specs.FinMap.{get, keys, remove, get-remove}
use Rattle.std.specs.List.{filter}
use Rattle.std.specs.Ordering.{eq_by_cmp}
use Rattle.std.proofs.lemmas.List.{take-map, take-append-le, length-map}
use Rattle.std.proofs.lemmas.List.Folds.{list_any-append}
use Rattle.std.proofs.lemmas.Bool.{or_left, or_right}
use Rattle.std.proofs.Math.Seq.{take-append-add}
use Rattle.terrain_base.specs.declared.cell_key.CellKey.{CellKey}
use Rattle.db_manifest.specs.Manifest.{ManifestState}
use Rattle.manifest_lines.specs.declared.state.State.TheVariants.{Closed, Put, Drop, Rebuild}
use Rattle.terrain_base.specs.declared.name.Key.{Key}
use Rattle.terrain_base.specs.declared.name.Key.TheVariants.{Manifest, Layer, Stage, Cell, OldCell, Terrain, Note}
use Rattle.terrain_base.specs.CellKey.{key_cmp}
use Rattle.terrain_base.specs.Step.{Files}
use Rattle.terrain_base.specs.Overwrite.{step_to, steps_to, all_changed, is_among}
use Rattle.database.specs.State.{State, file_of, AreFiles, ReadsAs, StandsMarked, StandsFor, is_stage, is_changed, settled}
use Rattle.database.specs.Commands.{tile_names, inner_names, changed_names, existing, is_extra, rebuild_names, closing, settling}
use Rattle.database.specs.State.{ReadsFor}
use Rattle.database.proofs.Given.{by_text_total, existing_all}
use Rattle.database.proofs.Tests.{is_name, name_self, name_same, name_other, key_same}
use Rattle.database.proofs.Among.{among_changed, not_tile}
use Rattle.terrain_base.proofs.Stops.{missed}
use Rattle.database.proofs.Standing.{over, over_at, over_agrees, over_hit, by_test, closed_stands, reads_kept, three_ways}
use Rattle.database.proofs.Command.{settling_stands, settling_ends, front_free}
use Rattle.database.proofs.Rebuild.{rebuild_stands, rebuild_ends, left_by}

-- ---- the stage alone

not_stage : (q : Key) → is_name q Stage ≡ false → is_stage q ≡ false
not_stage Manifest e = refl
not_stage Layer e = refl
not_stage Stage e = absurd (let h : is_name Stage Stage ≡ true = name_self Stage in cc)
not_stage (Cell k) e = refl
not_stage (OldCell k) e = refl
not_stage (Terrain t) e = refl
not_stage (Note t) e = refl

stage_settled : (s : State) (files : Files) (q : Key) → get (remove files Stage) q ≡ settled Closed s files q
stage_settled s files q = by_test (is_name q Stage) (get (remove files Stage) q ≡ settled Closed s files q)
    (λ e. get-remove by_text_total files Stage q ∙ rw e (sym (ap (settled Closed s files) (name_same q Stage e))))
    (λ e. get-remove by_text_total files Stage q ∙ rw e (sym (ap (λ b. cond b (file_of s q) (get files q)) (not_stage q e))))

stage_gone : (s : State) (files : Files) → StandsMarked files s Closed → (q : Key) → get (remove files Stage) q ≡ file_of s q
stage_gone s files st q = by_test (is_name q Stage) (get (remove files Stage) q ≡ file_of s q)
    (λ e. get-remove by_text_total files Stage q ∙ rw e (sym (ap (file_of s) (name_same q Stage e))))
    (λ e. get-remove by_text_total files Stage q ∙ rw e (st.agrees q (not_stage q e)))

-- ---- files that stand for the state

stands_now : {files : Files} {s : State} {m : ManifestState} → StandsMarked files s m → StandsFor files s
stands_now {m = m} st = record { mark = m; stands = st }

pub settling_fronts : (m : ManifestState) (s : State) (files : Files) → StandsMarked files s m → (n : ℕ) → n ≤ length (settling m files s) → StandsFor (all_changed (take n (settling m files s)) files) s
settling_fronts Closed s files st zero le = stands_now st
settling_fronts Closed s files st (suc zero) le = stands_now (closed_stands s (remove files Stage) st.reads.state (λ q e. stage_gone s files st q))
settling_fronts Closed s files st (suc (suc n)) le = absurd (omega arith)
settling_fronts (Put k) s files st n le = settling_stands s files (Put k) k (λ q e. e) st n le
settling_fronts (Drop k) s files st n le = settling_stands s files (Drop k) k (λ q e. e) st n le
settling_fronts Rebuild s files st n le = rebuild_stands s files (existing s) (existing_all s) st n le

pub settling_files : (m : ManifestState) (s : State) (files : Files) → StandsMarked files s m → AreFiles (all_changed (settling m files s) files) s
settling_files Closed s files st = record { each = stage_gone s files st }
settling_files (Put k) s files st = settling_ends s files (Put k) k (λ q e. e) st
settling_files (Drop k) s files st = settling_ends s files (Drop k) k (λ q e. e) st
settling_files Rebuild s files st = rebuild_ends s files (existing s) (existing_all s) st.reads

-- ---- files that only read as the state

over_settled : (s : State) (files : Files) (k : CellKey) (q : Key) → get (over s (changed_names s.params.cap k) files) q ≡ cond (is_changed s.params.cap k q) (file_of s q) (get files q)
over_settled s files k q = over_at s (changed_names s.params.cap k) files q ∙ ap (λ b. cond b (file_of s q) (get files q)) (among_changed s.params.cap k q)

-- after all steps of settling
pub settling_leaves : (m : ManifestState) (s : State) (files : Files) → ReadsAs files s m → (q : Key) → get (all_changed (settling m files s) files) q ≡ settled m s files q
settling_leaves Closed s files r q = stage_settled s files q
settling_leaves (Put k) s files r q = over_settled s files k q
settling_leaves (Drop k) s files r q = over_settled s files k q
settling_leaves Rebuild s files r q = (rebuild_ends s files (existing s) (existing_all s) r).each q

-- each cell is held under its name, or is among the names
abbrev pub Right : State → Files → List Key → Type 0
Right s files names = (k : CellKey) (bytes : List ℕ) → get s.cells k ≡ Some bytes → (get files (Cell k) ≡ Some bytes) ⊎ (is_among (Cell k) names ≡ true)

-- with the closed manifest
pub closed_reads : (s : State) (files : Files) (m : ManifestState) (front more : List Key) → is_among Manifest more ≡ true → ReadsAs files s m → Right s files front → ReadsAs (over s (front ++ more) files) s Closed
closed_reads s files m front more here r right = record {
  manifest = over_hit s (front ++ more) files Manifest (list_any-append (is_name Manifest) front more ∙ or_right _ _ here);
  fit = refl;
  state = r.state;
  cells = λ k bytes at. ⊎_elim
      (λ held. over_agrees s (front ++ more) files (Cell k) (held ∙ sym at) ∙ at)
      (λ among. over_hit s (front ++ more) files (Cell k) (list_any-append (is_name (Cell k)) front more ∙ or_left _ _ among) ∙ at)
      (right k bytes at);
}

by_front : (s : State) (files : Files) (m : ManifestState) (front : List Key) → is_among Manifest front ≡ false → is_among Stage front ≡ false
    → ReadsAs files s m → Right s files front → (n : ℕ) → (n ≤ length front) ⊎ ((n ≡ length front + 1) ⊎ (n ≡ length front + 2))
    → ReadsFor (over s (take n (front ++ (Manifest ∷ Stage ∷ []))) files) s
by_front s files m front no_manifest no_stage r right n (inl le) =
    subst (λ names. ReadsFor (over s names files) s) (sym (take-append-le n front (Manifest ∷ Stage ∷ []) le))
    (record { mark = m; reads = reads_kept s files m (take n front) (missed Manifest n front no_manifest) (missed Stage n front no_stage) r })
by_front s files m front no_manifest no_stage r right n (inr (inl e)) =
    let names : take n (front ++ (Manifest ∷ Stage ∷ [])) ≡ front ++ Manifest ∷ [] = ap (λ k. take k (front ++ (Manifest ∷ Stage ∷ []))) e ∙ take-append-add front (Manifest ∷ Stage ∷ []) 1 in
    subst (λ ns. ReadsFor (over s ns files) s) (sym names) (record { mark = Closed; reads = closed_reads s files m front (Manifest ∷ []) refl r right })
by_front s files m front no_manifest no_stage r right n (inr (inr e)) =
    let names : take n (front ++ (Manifest ∷ Stage ∷ [])) ≡ front ++ (Manifest ∷ Stage ∷ []) = ap (λ k. take k (front ++ (Manifest ∷ Stage ∷ []))) e ∙ take-append-add front (Manifest ∷ Stage ∷ []) 2 in
    subst (λ ns. ReadsFor (over s ns files) s) (sym names) (record { mark = Closed; reads = closed_reads s files m front (Manifest ∷ Stage ∷ []) refl r right })

-- each front of the steps behind a mark leaves files that read as the state
pub closing_reads : (s : State) (files : Files) (m : ManifestState) (front names : List Key) → front ++ (Manifest ∷ Stage ∷ []) ≡ names → is_among Manifest front ≡ false → is_among Stage front ≡ false
    → ReadsAs files s m → Right s files front → (n : ℕ) → n ≤ length (steps_to (file_of s) names) → ReadsFor (all_changed (take n (steps_to (file_of s) names)) files) s
closing_reads s files m front names same no_manifest no_stage r right n le =
    let long : length names ≡ length front + 2 = ap length (sym same) ∙ length-append front (Manifest ∷ Stage ∷ []) in
    let fits : n ≤ length front + 2 = omega (arith, long, length-map names (λ name. step_to (file_of s name) name)) in
    subst (λ steps. ReadsFor (all_changed steps files) s) (sym (take-map (λ name. step_to (file_of s name) name) n names))
    (subst (λ ns. ReadsFor (over s (take n ns) files) s) same (by_front s files m front no_manifest no_stage r right n (three_ways n (length front) fits)))

-- ---- for each mark

cell_among : (cap : ℕ) (k j : CellKey) → j ≡ k → is_among (Cell j) (inner_names cap k ++ Layer ∷ []) ≡ true
cell_among cap k j e = subst (λ i. is_among (Cell i) (inner_names cap k ++ Layer ∷ []) ≡ true) (sym e)
    (list_any-append (is_name (Cell k)) (inner_names cap k) (Layer ∷ []) ∙ or_left _ _ (or_left _ _ (name_self (Cell k))))

pub put_right : (s : State) (files : Files) (k : CellKey) → ReadsAs files s (Put k) → Right s files (inner_names s.params.cap k ++ Layer ∷ [])
put_right s files k r j bytes at = by_test (eq_by_cmp key_cmp j k) ((get files (Cell j) ≡ Some bytes) ⊎ (is_among (Cell j) (inner_names s.params.cap k ++ Layer ∷ []) ≡ true))
    (λ e. inr (cell_among s.params.cap k j (key_same j k e)))
    (λ e. inl (sym (ap (λ b. get files (cond b Stage (Cell j))) e) ∙ r.cells j bytes at))

command_reads : (s : State) (files : Files) (m : ManifestState) (k : CellKey) → ReadsAs files s m → Right s files (inner_names s.params.cap k ++ Layer ∷ [])
    → (n : ℕ) → n ≤ length (closing k s) → ReadsFor (all_changed (take n (closing k s)) files) s
command_reads s files m k r right n le =
    let cap = s.params.cap in
    closing_reads s files m (inner_names cap k ++ Layer ∷ []) (changed_names cap k) (append_assoc (inner_names cap k) (Layer ∷ []) (Manifest ∷ Stage ∷ []))
    (front_free cap k Manifest (name_other Manifest (Cell k) (λ e. cc)) (λ t. ((λ e. cc), (λ e. cc))) (name_other Manifest Layer (λ e. cc)))
    (front_free cap k Stage (name_other Stage (Cell k) (λ e. cc)) (λ t. ((λ e. cc), (λ e. cc))) (name_other Stage Layer (λ e. cc)))
    r right n le

not_kept : (p : Key → Bool) (q : Key) (xs : List Key) → p q ≡ false → is_among q (filter p xs) ≡ false
not_kept p q [] pq = refl
not_kept p q (x ∷ xs) pq = left_by p q x xs (is_name q x) (p x) refl refl pq (not_kept p q xs pq)

rebuild_front : (s : State) (files : Files) (q : Key) → is_extra s q ≡ false → is_among q (tile_names (existing s)) ≡ false → is_name q Layer ≡ false
    → is_among q (filter (is_extra s) (keys files) ++ (tile_names (existing s) ++ Layer ∷ [])) ≡ false
rebuild_front s files q extra tile layer =
    list_any-append (is_name q) (filter (is_extra s) (keys files)) (tile_names (existing s) ++ Layer ∷ []) ∙ rw (not_kept (is_extra s) q (keys files) extra)
    (list_any-append (is_name q) (tile_names (existing s)) (Layer ∷ []) ∙ rw tile (rw layer refl))

pub settling_reads : (m : ManifestState) (s : State) (files : Files) → ReadsAs files s m → (n : ℕ) → n ≤ length (settling m files s) → ReadsFor (all_changed (take n (settling m files s)) files) s
settling_reads Closed s files r zero le = record { mark = Closed; reads = r }
settling_reads Closed s files r (suc zero) le = record {
  mark = Closed;
  reads = record {
    manifest = get-remove by_text_total files Stage Manifest ∙ r.manifest;
    fit = refl;
    state = r.state;
    cells = λ k bytes at. get-remove by_text_total files Stage (Cell k) ∙ r.cells k bytes at;
  };
}
settling_reads Closed s files r (suc (suc n)) le = absurd (omega arith)
settling_reads (Put k) s files r n le = command_reads s files (Put k) k r (put_right s files k r) n le
settling_reads (Drop k) s files r n le = command_reads s files (Drop k) k r (λ j bytes at. inl (r.cells j bytes at)) n le
settling_reads Rebuild s files r n le =
    closing_reads s files Rebuild (filter (is_extra s) (keys files) ++ (tile_names (existing s) ++ Layer ∷ [])) (rebuild_names files s) (simp append_assoc)
    (rebuild_front s files Manifest refl (not_tile Manifest (λ t. ((λ e. cc), (λ e. cc))) (existing s)) (name_other Manifest Layer (λ e. cc)))
    (rebuild_front s files Stage refl (not_tile Stage (λ t. ((λ e. cc), (λ e. cc))) (existing s)) (name_other Stage Layer (λ e. cc)))
    r (λ k bytes at. inl (r.cells k bytes at)) n le
