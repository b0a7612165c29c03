-- Changes of other names leave the files under the names of cells.
use Rattle.std.proofs.Common.{◌≡◌, ℕ, zero, suc, Bool, true, false, List, [], ◌∷◌, take, Option, Some, None, refl, sym, subst, ◌∙◌}
use Rattle.std.specs.List.{AllByRecursion}
use Rattle.std.specs.FinMap.{get, get-insert, get-remove}
use Rattle.std.specs.FinSet.{contains}
use Rattle.std.proofs.lemmas.Bool.{both_ways}
use Rattle.terrain_base.specs.declared.cell_key.CellKey.{CellKey}
use Rattle.terrain_base.specs.declared.name.Key.{Key}
use Rattle.terrain_base.specs.declared.name.Key.TheVariants.{Manifest, Cell, Terrain, Note}
use Rattle.terrain_base.specs.declared.store.Change.{Change}
use Rattle.terrain_base.specs.declared.summary.Summary.{Summary}
use Rattle.terrain_base.specs.declared.tile.TileId.{TileId}
use Rattle.terrain_base.specs.Step.{Files, Step, Write, Erase, changed, held_after}
use Rattle.terrain_base.specs.Run.{files_after, SomeDone}
use Rattle.cell_mosaic.specs.Cells.{Shapes}
use Rattle.cell_mosaic.specs.Source.{AlikeCells}
use Rattle.cell_cache.specs.Cached.{shapes_of_rows}
use Rattle.cell_cache.proofs.Rows.{known_rows}
use Rattle.database.specs.Cells.{has_row}
use Rattle.database.proofs.Given.{by_text_total}
use Rattle.database.proofs.Tests.{is_name, name_other}

-- the step is of the name of no key's cell
abbrev pub IsOfNoCell : Shapes → Step → Type 0
IsOfNoCell keys (Write name bytes) = (key : CellKey) → contains keys key ≡ true → is_name (Cell key) name ≡ false
IsOfNoCell keys (Erase name) = (key : CellKey) → contains keys key ≡ true → is_name (Cell key) name ≡ false

one_left : (keys : Shapes) (step : Step) (files : Files) → IsOfNoCell keys step → (key : CellKey) → contains keys key ≡ true → get (changed step files) (Cell key) ≡ get files (Cell key)
one_left keys (Write name bytes) files other key known = get-insert by_text_total files name bytes (Cell key) ∙ rw (other key known) refl
one_left keys (Erase name) files other key known = get-remove by_text_total files name (Cell key) ∙ rw (other key known) refl

pub alike_self : (keys : Shapes) (files : Option Files) → AlikeCells keys files files
alike_self keys None = tt
alike_self keys (Some files) = λ key known. refl

-- what is held is the same
pub alike_as : (keys : Shapes) {a b : Option Files} → b ≡ a → AlikeCells keys a b
alike_as keys {a = a} same = subst (λ held. AlikeCells keys a held) (sym same) (alike_self keys a)

pub alike_then : (keys : Shapes) (a b c : Option Files) → AlikeCells keys a b → AlikeCells keys b c → AlikeCells keys a c
alike_then keys None None c first next = next
alike_then keys None (Some g) c first next = absurd first
alike_then keys (Some f) None c first next = absurd first
alike_then keys (Some f) (Some g) None first next = absurd next
alike_then keys (Some f) (Some g) (Some h) first next = λ key known. first key known ∙ next key known

alike_step : (keys : Shapes) (step : Step) (a b : Option Files) → IsOfNoCell keys step → AlikeCells keys (held_after step a) b → AlikeCells keys a b
alike_step keys step None None other h = tt
alike_step keys step None (Some b) other h = absurd h
alike_step keys step (Some a) None other h = absurd h
alike_step keys step (Some a) (Some b) other h = λ key known. sym (one_left keys step a other key known) ∙ h key known

alike_front : (keys : Shapes) (n : ℕ) (steps : List Step) (files : Option Files) → AllByRecursion (IsOfNoCell keys) steps → AlikeCells keys files (files_after (take n steps) files)
alike_front keys zero steps files other = alike_self keys files
alike_front keys (suc n) [] files other = alike_self keys files
alike_front keys (suc n) (step ∷ steps) files other = alike_step keys step files _ other.0 (alike_front keys n steps (held_after step files) other.1)

pub alike_some : (keys : Shapes) {steps : List Step} {files : Option Files} {log : Option (List Change)} {files' : Option Files} {log' : Option (List Change)} → AllByRecursion (IsOfNoCell keys) steps → SomeDone steps files log files' log' → AlikeCells keys files files'
alike_some keys {steps = steps} {files = files} other s = subst (λ o. AlikeCells keys files o) (sym s.held) (alike_front keys s.done steps files other)

pub write_tile : (keys : Shapes) (t : TileId) (a b : List ℕ) → AllByRecursion (IsOfNoCell keys) (Write (Terrain t) a ∷ Write (Note t) b ∷ [])
write_tile keys t a b = ((λ key known. name_other (Cell key) (Terrain t) (λ e. cc)), ((λ key known. name_other (Cell key) (Note t) (λ e. cc)), tt))

pub erase_tile : (keys : Shapes) (t : TileId) → AllByRecursion (IsOfNoCell keys) (Erase (Terrain t) ∷ Erase (Note t) ∷ [])
erase_tile keys t = ((λ key known. name_other (Cell key) (Terrain t) (λ e. cc)), ((λ key known. name_other (Cell key) (Note t) (λ e. cc)), tt))

pub write_manifest : (keys : Shapes) (text : List ℕ) → AllByRecursion (IsOfNoCell keys) (Write Manifest text ∷ [])
write_manifest keys text = ((λ key known. name_other (Cell key) Manifest (λ e. cc)), tt)

-- a name that is found extra is of no row's cell
pub erase_extra : (rows : List Summary) (name : Key) (extra : Bool) → extra ≡ true → ((key : CellKey) → name ≡ Cell key → has_row rows key ≡ true → extra ≡ false)
    → AllByRecursion (IsOfNoCell (shapes_of_rows rows)) (Erase name ∷ [])
erase_extra rows name extra is kept =
    ((λ key known. name_other (Cell key) name (λ e. both_ways extra (kept key (sym e) (sym (known_rows rows key) ∙ known)) is)), tt)
