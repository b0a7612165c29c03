-- The parts of a rebuilding.
use Rattle.std.proofs.Common.{◌≡◌, ℕ, ◌<◌, ◌+◌, ◌++◌, ◌∷◌, [], ◌&&◌, Bool, true, false, not, is_some, cond, List, length, get_or, take, drop, Option, Some, None, Result, ap, sym, ◌∙◌, refl, add-one, drop-cons}
use Rattle.std.proofs.lemmas.List.{take_more, take-append-drop, map-append}
use Rattle.std.specs.List.{filter}
use Rattle.std.specs.FinMap.{keys, insert, get-insert}
use Rattle.terrain_base.specs.declared.name.Key.{Key}
use Rattle.terrain_base.specs.declared.name.Key.TheVariants.{Manifest, Cell}
use Rattle.terrain_base.specs.declared.params.Params.{Params}
use Rattle.terrain_base.specs.declared.store.Change.{Change}
use Rattle.terrain_base.specs.declared.summary.Summary.{Summary}
use Rattle.terrain_base.specs.declared.tile.TileId.{TileId}
use Rattle.terrain_base.specs.Step.{Files, Step, Write, Erase}
use Rattle.terrain_base.specs.Run.{AllDone, SomeDone, Ran, files_after}
use Rattle.terrain_base.specs.Overwrite.{step_to, steps_to}
use Rattle.terrain_base.proofs.Overwrites.{files_of_told}
use Rattle.terrain_base.proofs.Runs.{both_done, goes_on, stops, all_as, some_as, quiet}
use Rattle.manifest_lines.specs.declared.state.State.TheVariants.{Rebuild}
use Rattle.cell_mosaic.specs.Cells.{Cells}
use Rattle.cell_cache.specs.Cached.{HoldsCells}
use Rattle.database.specs.State.{State, file_of, is_stage}
use Rattle.database.specs.Commands.{tile_names, last_names, existing, is_extra, rebuilding, marked_text}
use Rattle.database.proofs.Given.{by_text_total}
use Rattle.database.proofs.Standing.{over, over_agrees}
use Rattle.db_files.specs.Serving.{Serves, Filling}
use Rattle.db_files.proofs.Parts.{ran_as, ran_behind}
use Rattle.db_files.proofs.TileSteps.{tile_steps}

-- ---- extra names one by one

abbrev pub extra_steps : State → List Key → List Step
extra_steps s names = steps_to (file_of s) (filter (is_extra s) names)

filter_step : (s : State) (x : Key) (xs ys : List Key) (b : Bool) → filter (is_extra s) (xs ++ ys) ≡ filter (is_extra s) xs ++ filter (is_extra s) ys
    → cond b (x ∷ filter (is_extra s) (xs ++ ys)) (filter (is_extra s) (xs ++ ys)) ≡ cond b (x ∷ filter (is_extra s) xs) (filter (is_extra s) xs) ++ filter (is_extra s) ys
filter_step s x xs ys true e = ap (λ zs. x ∷ zs) e
filter_step s x xs ys false e = e

filter_append : (s : State) (xs ys : List Key) → filter (is_extra s) (xs ++ ys) ≡ filter (is_extra s) xs ++ filter (is_extra s) ys
filter_append s [] ys = refl
filter_append s (x ∷ xs) ys = filter_step s x xs ys (is_extra s x) (filter_append s xs ys)

extra_append : (s : State) (xs ys : List Key) → extra_steps s (xs ++ ys) ≡ extra_steps s xs ++ extra_steps s ys
extra_append s xs ys = ap (steps_to (file_of s)) (filter_append s xs ys) ∙ map-append (λ name. step_to (file_of s name) name) (filter (is_extra s) xs) (filter (is_extra s) ys)

no_file : (o : Option (List ℕ)) (b : Bool) → (not (is_some o) && b) ≡ true → o ≡ None
no_file None b e = refl
no_file (Some bytes) b e = absurd (cc)

-- an extra name is erased
pub one_extra : (s : State) (name : Key) (rest : List Key) → is_extra s name ≡ true → extra_steps s (name ∷ rest) ≡ Erase name ∷ extra_steps s rest
one_extra s name rest e =
    ap (λ b. steps_to (file_of s) (cond b (name ∷ filter (is_extra s) rest) (filter (is_extra s) rest))) e
    ∙ ap (λ o. step_to o name ∷ extra_steps s rest) (no_file (file_of s name) (not (is_stage name)) e)

pub one_kept : (s : State) (name : Key) (rest : List Key) → is_extra s name ≡ false → extra_steps s (name ∷ rest) ≡ extra_steps s rest
one_kept s name rest e = ap (λ b. steps_to (file_of s) (cond b (name ∷ filter (is_extra s) rest) (filter (is_extra s) rest))) e

pub more_of : (s : State) (names : List Key) (i : ℕ) (name : Key) → i < length names → name ≡ get_or names i name → extra_steps s (take (i + 1) names) ≡ extra_steps s (take i names) ++ extra_steps s (name ∷ [])
more_of s names i name less is = ap (extra_steps s) (take_more names i name less) ∙ extra_append s (take i names) (get_or names i name ∷ []) ∙ ap (λ n. extra_steps s (take i names) ++ extra_steps s (n ∷ [])) (sym is)

pub split_of : (s : State) (names : List Key) (i : ℕ) (name : Key) → i < length names → name ≡ get_or names i name → extra_steps s (take i names) ++ (extra_steps s (name ∷ []) ++ extra_steps s (drop (i + 1) names)) ≡ extra_steps s names
split_of s names i name less is =
    ap (λ xs. extra_steps s (take i names) ++ xs) (sym (extra_append s (name ∷ []) (drop (i + 1) names)))
    ∙ sym (extra_append s (take i names) (name ∷ drop (i + 1) names))
    ∙ ap (extra_steps s) (ap (λ u. take i names ++ u ∷ drop (i + 1) names) is ∙ ap (λ us. take i names ++ us) (rw add-one (sym (drop-cons names i name less))) ∙ take-append-drop i names)

-- ---- the parts joined

filling_split : (files : Files) (s : State) → extra_steps s (keys files) ++ (tile_steps s (existing s) ++ steps_to (file_of s) last_names) ≡ rebuilding files s
filling_split files s =
    ap (λ xs. extra_steps s (keys files) ++ xs) (sym (map-append (λ name. step_to (file_of s name) name) (tile_names (existing s)) last_names))
    ∙ sym (map-append (λ name. step_to (file_of s name) name) (filter (is_extra s) (keys files)) (tile_names (existing s) ++ last_names))

-- the cells are held still when the extra names are gone
pub serves_filling : (told : Option Cells) {held held' : Option Files} {log log' : Option (List Change)} {params : Params} {rows : List Summary} (files : Files) (s : State)
    → Filling held params rows files s → AllDone (extra_steps s (keys files)) held log held' log'
    → ((files : Files) → held' ≡ Some files → HoldsCells files s.cells → told ≡ Some s.cells) → Serves told params rows s
serves_filling told {held' = held'} files s f done tells =
    let names = filter (is_extra s) (keys files) in
    let now : held' ≡ Some (over s names files) = done.held ∙ ap (files_after (extra_steps s (keys files))) f.held_is ∙ files_of_told (extra_steps s (keys files)) files in
    let holds : HoldsCells (over s names files) s.cells = record {
      sound = f.cells.sound;
      named = λ k bytes at. over_agrees s names files (Cell k) (f.cells.named k bytes at ∙ sym at) ∙ at;
    } in
    record {
      told_is = tells (over s names files) now holds;
      params_is = f.params_is;
      rows_is = f.rows_is;
    }

pub stop_at_extra : (files : Files) (s : State) {f : Option Files} {l : Option (List Change)} {f' : Option Files} {l' : Option (List Change)} → SomeDone (extra_steps s (keys files)) f l f' l' → SomeDone (rebuilding files s) f l f' l'
stop_at_extra files s d = some_as (filling_split files s) (stops _ d)

pub stop_at_tiles : (files : Files) (s : State) (tiles : List TileId) {f : Option Files} {l : Option (List Change)} {m : Option Files} {n : Option (List Change)} {f' : Option Files} {l' : Option (List Change)}
    → tiles ≡ existing s → AllDone (extra_steps s (keys files)) f l m n → SomeDone (tile_steps s tiles) m n f' l' → SomeDone (rebuilding files s) f l f' l'
stop_at_tiles files s tiles t a d = some_as (filling_split files s) (goes_on a (stops _ (some_as (ap (tile_steps s) t) d)))

pub to_the_end : {T E : Type 0} (files : Files) (s : State) (tiles : List TileId) (result : Result T E) {f : Option Files} {l : Option (List Change)} {m : Option Files} {n : Option (List Change)} {o : Option Files} {p : Option (List Change)} {f' : Option Files} {l' : Option (List Change)}
    → tiles ≡ existing s → AllDone (extra_steps s (keys files)) f l m n → AllDone (tile_steps s tiles) m n o p → Ran (steps_to (file_of s) last_names) o p f' l' result → Ran (rebuilding files s) f l f' l' result
to_the_end files s tiles result t a b r = ran_as result (filling_split files s) (ran_behind result a (ran_behind result (all_as (ap (tile_steps s) t) b) r))

-- behind the mark of a rebuilding all cells are held still
pub marked_filling : {held held' : Option Files} {log log' : Option (List Change)} {params : Params} {rows : List Summary} (files : Files) (s : State)
    → Filling held params rows files s → AllDone (Write Manifest (marked_text Rebuild s) ∷ []) held log held' log' → Filling held' params rows (insert files Manifest (marked_text Rebuild s)) s
marked_filling files s f done = record {
  held_is = done.held ∙ ap (files_after (Write Manifest (marked_text Rebuild s) ∷ [])) f.held_is;
  params_is = f.params_is;
  rows_is = f.rows_is;
  cells = record {
    sound = f.cells.sound;
    named = λ k bytes at. get-insert by_text_total files Manifest (marked_text Rebuild s) (Cell k) ∙ f.cells.named k bytes at;
  };
}

-- ---- behind a reading of the names

pub extra_done : (files : Files) (s : State) {names : List Key} {f : Option Files} {l : Option (List Change)} {m : Option Files} {n : Option (List Change)} {f' : Option Files} {l' : Option (List Change)}
    → m ≡ f → n ≡ l → names ≡ keys files → AllDone (extra_steps s names) m n f' l' → AllDone (extra_steps s (keys files)) f l f' l'
extra_done files s held logged same d = both_done (quiet held logged) (all_as (ap (extra_steps s) same) d)

pub extra_some : (files : Files) (s : State) {names : List Key} {f : Option Files} {l : Option (List Change)} {m : Option Files} {n : Option (List Change)} {f' : Option Files} {l' : Option (List Change)}
    → m ≡ f → n ≡ l → names ≡ keys files → SomeDone (extra_steps s names) m n f' l' → SomeDone (extra_steps s (keys files)) f l f' l'
extra_some files s held logged same d = goes_on (quiet held logged) (some_as (ap (extra_steps s) same) d)
