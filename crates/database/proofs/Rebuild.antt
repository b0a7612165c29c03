-- A rebuilding's names cover all that differs.
use Rattle.terrain_base.specs.declared.name.Key.{Key}
use Rattle.terrain_base.specs.declared.name.Key.TheVariants.{Manifest, Layer, Stage, Cell, OldCell, Terrain, Note}
use Rattle.terrain_base.specs.Step.{Files}
use Rattle.terrain_base.specs.Overwrite.{steps_to, all_changed, is_among}
use Rattle.terrain_base.specs.declared.tile.TileId.{TileId}
use Rattle.manifest_lines.specs.declared.state.State.TheVariants.{Rebuild}
use Rattle.terrain_base.specs.declared.cell_key.CellKey.{CellKey}
use Rattle.database.proofs.Given.{exists, terrain_text, note_text}
use Rattle.terrain_base.specs.TileOrder.{tile_cmp}
use Rattle.database.specs.State.{State, file_of, where_it_is, AreFiles, ReadsAs, StandsMarked, StandsFor}
use Rattle.database.specs.Commands.{tile_names, last_names, is_extra}
use Rattle.database.proofs.Tests.{is_name, name_same, name_other}
use Rattle.database.proofs.Among.{not_tile, terrain_among, note_among}
use Rattle.database.proofs.Standing.{Covers, over_all, closing_stands}
use Rattle.std.proofs.Common.{◌≤◌, length, take, subst, append_assoc, ◌≡◌, ℕ, Bool, true, false, ◌||◌, ◌&&◌, not, is_some, cond, List, [], ◌∷◌, ◌++◌, Option, Some, None, refl, sym, ap, ◌∙◌}
use Rattle.std.specs.FinMap.{get, keys, contains_key-keys}
use Rattle.std.specs.List.{list_any, filter}
use Rattle.std.specs.Ordering.{eq_by_cmp}
use Rattle.std.proofs.lemmas.List.Folds.{list_any-append}
use Rattle.std.proofs.lemmas.Bool.{or_parts}

abbrev pub extra_names : Files → State → List Key
extra_names files s = filter (is_extra s) (keys files)

kept_by : (p : Key → Bool) (q x : Key) (xs : List Key) (b c : Bool) → is_name q x ≡ b → p x ≡ c → p q ≡ true → (b || list_any (is_name q) xs) ≡ true → (list_any (is_name q) xs ≡ true → list_any (is_name q) (filter p xs) ≡ true)
    → list_any (is_name q) (cond c (x ∷ filter p xs) (filter p xs)) ≡ true
kept_by p q x xs true true e f pq at ih = rw e refl
kept_by p q x xs true false e f pq at ih = absurd (let same : p q ≡ p x = ap p (name_same q x e) in cc)
kept_by p q x xs false true e f pq at ih = rw e (ih at)
kept_by p q x xs false false e f pq at ih = ih at

among_filter : (p : Key → Bool) (q : Key) (xs : List Key) → p q ≡ true → list_any (is_name q) xs ≡ true → list_any (is_name q) (filter p xs) ≡ true
among_filter p q [] pq at = at
among_filter p q (x ∷ xs) pq at = kept_by p q x xs (is_name q x) (p x) refl refl pq at (among_filter p q xs pq)

held_among : (files : Files) (q : Key) → is_some (get files q) ≡ true → list_any (is_name q) (keys files) ≡ true
held_among files q held = sym (contains_key-keys files q) ∙ held

none_held : (o : Option (List ℕ)) → (is_some o ≡ true → ⊥) → o ≡ None
none_held None never = refl
none_held (Some b) never = absurd (never refl)

extra_gone : (s : State) (files : Files) (q : Key) → is_extra s q ≡ true → is_among q (extra_names files s) ≡ false → get files q ≡ None
extra_gone s files q extra out = none_held (get files q) (λ held. let here : is_among q (extra_names files s) ≡ true = among_filter (is_extra s) q (keys files) extra (held_among files q held) in cc)

at_cell : (s : State) (files : Files) (k : CellKey) (o : Option (List ℕ)) → get s.cells k ≡ o → ReadsAs files s Rebuild → is_among (Cell k) (extra_names files s) ≡ false → get files (Cell k) ≡ o
at_cell s files k None at r out = extra_gone s files (Cell k) (ap (λ o. not (is_some o) && true) at) out
at_cell s files k (Some bytes) at r out = r.cells k bytes at

at_tile : (s : State) (files : Files) (name : Key) (there : Bool) (text : List ℕ) (b : Bool) → (there ≡ true → b ≡ true) → b ≡ false → (there ≡ false → get files name ≡ None) → get files name ≡ where_it_is there text
at_tile s files name true text b in_list out gone = absurd (let h : b ≡ true = in_list refl in cc)
at_tile s files name false text b in_list out gone = gone refl

rest_of : (s : State) (files : Files) (ts : List TileId) → ReadsAs files s Rebuild → ((t : TileId) → exists s.params.cap s.cells t ≡ true → list_any (eq_by_cmp tile_cmp t) ts ≡ true)
    → (q : Key) → is_among q (extra_names files s) ≡ false → is_among q (tile_names ts) ≡ false → is_among q last_names ≡ false → get files q ≡ file_of s q
rest_of s files ts r all Manifest a b c = absurd (cc)
rest_of s files ts r all Layer a b c = absurd (cc)
rest_of s files ts r all Stage a b c = absurd (cc)
rest_of s files ts r all (Cell k) a b c = at_cell s files k (get s.cells k) refl r a
rest_of s files ts r all (OldCell q) a b c = extra_gone s files (OldCell q) refl a
rest_of s files ts r all (Terrain t) a b c =
    at_tile s files (Terrain t) (exists s.params.cap s.cells t) (terrain_text s.params s.cells t) (is_among (Terrain t) (tile_names ts)) (λ e. terrain_among t ts ∙ all t e) b
    (λ e. extra_gone s files (Terrain t) (ap (λ x. not (is_some (where_it_is x (terrain_text s.params s.cells t))) && true) e) a)
rest_of s files ts r all (Note t) a b c =
    at_tile s files (Note t) (exists s.params.cap s.cells t) (note_text s.params s.cells t) (is_among (Note t) (tile_names ts)) (λ e. note_among t ts ∙ all t e) b
    (λ e. extra_gone s files (Note t) (ap (λ x. not (is_some (where_it_is x (note_text s.params s.cells t))) && true) e) a)

pub rebuild_covers : (s : State) (files : Files) (ts : List TileId) → ReadsAs files s Rebuild → ((t : TileId) → exists s.params.cap s.cells t ≡ true → list_any (eq_by_cmp tile_cmp t) ts ≡ true)
    → Covers files s (extra_names files s ++ (tile_names ts ++ last_names))
rebuild_covers s files ts r all = record {
  rest = λ q out.
      let parts = sym (list_any-append (is_name q) (extra_names files s) (tile_names ts ++ last_names)) ∙ out in
      let more = sym (list_any-append (is_name q) (tile_names ts) last_names) ∙ (or_parts _ _ parts).1 in
      rest_of s files ts r all q (or_parts _ _ parts).0 (or_parts _ _ more).0 (or_parts _ _ more).1;
}

pub left_by : (p : Key → Bool) (q x : Key) (xs : List Key) (b c : Bool) → is_name q x ≡ b → p x ≡ c → p q ≡ false → list_any (is_name q) (filter p xs) ≡ false → list_any (is_name q) (cond c (x ∷ filter p xs) (filter p xs)) ≡ false
left_by p q x xs true true e f pq ih = absurd (let same : p q ≡ p x = ap p (name_same q x e) in cc)
left_by p q x xs false true e f pq ih = rw e ih
left_by p q x xs b false e f pq ih = ih

not_kept : (p : Key → Bool) (q : Key) (xs : List Key) → p q ≡ false → list_any (is_name q) (filter p xs) ≡ false
not_kept p q [] pq = refl
not_kept p q (x ∷ xs) pq = left_by p q x xs (is_name q x) (p x) refl refl pq (not_kept p q xs pq)

abbrev pub rebuilt_names : Files → State → List TileId → List Key
rebuilt_names files s ts = extra_names files s ++ (tile_names ts ++ last_names)

abbrev pub Lists : State → List TileId → Type 0
Lists s ts = (t : TileId) → exists s.params.cap s.cells t ≡ true → list_any (eq_by_cmp tile_cmp t) ts ≡ true

front_out : (s : State) (files : Files) (ts : List TileId) (q : Key) → is_extra s q ≡ false → is_among q (tile_names ts) ≡ false → is_name q Layer ≡ false → is_among q (extra_names files s ++ (tile_names ts ++ Layer ∷ [])) ≡ false
front_out s files ts q extra tile layer =
    list_any-append (is_name q) (extra_names files s) (tile_names ts ++ Layer ∷ []) ∙ rw (not_kept (is_extra s) q (keys files) extra) (list_any-append (is_name q) (tile_names ts) (Layer ∷ []) ∙ rw tile (rw layer refl))

-- each front of a rebuilding's steps behind the mark stands for the state
pub rebuild_stands : (s : State) (files : Files) (ts : List TileId) → Lists s ts → StandsMarked files s Rebuild → (n : ℕ) → n ≤ length (steps_to (file_of s) (rebuilt_names files s ts))
    → StandsFor (all_changed (take n (steps_to (file_of s) (rebuilt_names files s ts))) files) s
rebuild_stands s files ts all st n le =
    let front = extra_names files s ++ (tile_names ts ++ Layer ∷ []) in
    let same : front ++ (Manifest ∷ Stage ∷ []) ≡ rebuilt_names files s ts = simp append_assoc in
    subst (λ names. n ≤ length (steps_to (file_of s) names) → StandsFor (all_changed (take n (steps_to (file_of s) names)) files) s) same
    (closing_stands s files Rebuild front
    (front_out s files ts Manifest refl (not_tile Manifest (λ t. ((λ e. cc), (λ e. cc))) ts) (name_other Manifest Layer (λ e. cc)))
    (front_out s files ts Stage refl (not_tile Stage (λ t. ((λ e. cc), (λ e. cc))) ts) (name_other Stage Layer (λ e. cc)))
    st (subst (λ names. Covers files s names) (sym same) (rebuild_covers s files ts st.reads all)) n) le

pub rebuild_ends : (s : State) (files : Files) (ts : List TileId) → Lists s ts → ReadsAs files s Rebuild → AreFiles (all_changed (steps_to (file_of s) (rebuilt_names files s ts)) files) s
rebuild_ends s files ts all r = over_all s files (rebuilt_names files s ts) (rebuild_covers s files ts r all)
