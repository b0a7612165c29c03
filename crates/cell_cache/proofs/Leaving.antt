-- What a call on a source that keeps cells leaves, and what its troubles show.
use Rattle.std.proofs.Common.{◌≡◌, ◌↔◌, ℕ, Bool, true, false, ◌||◌, ◌⊎◌, arith, inl, List, Contains, Option, Some, None, refl, sym, ap, ◌∙◌, subst}
use Rattle.std.specs.Prelude.{Result, Ok, Err, IfSome, IsTrue}
use Rattle.std.specs.FinMap.{get}
use Rattle.std.specs.FinSet.{contains}
use Rattle.std.proofs.lemmas.Bool.{or_right}
use Rattle.terrain_base.specs.declared.cell_key.CellKey.{CellKey}
use Rattle.terrain_base.specs.declared.name.Key.{Key}
use Rattle.terrain_base.specs.declared.name.Key.TheVariants.{Cell as CellName}
use Rattle.terrain_base.specs.declared.store.Change.{Change}
use Rattle.terrain_base.specs.declared.summary.Summary.{Summary}
use Rattle.terrain_base.specs.Step.{Files}
use Rattle.dted_cell.specs.declared.trouble.CellTrouble.{CellTrouble}
use Rattle.dted_cell.specs.declared.trouble.CellTrouble.TheVariants.{Lost, Bad, Elsewhere, Changed}
use Rattle.dted_cell.specs.Trouble.{IsCellAt, ShowsAt, name_of}
use Rattle.cell_mosaic.specs.Cells.{Cells, Shapes}
use Rattle.cell_mosaic.specs.Source.{ShowsNamed, FaultIsShown, FaultHasCause, TroubleIsShown, IsTrouble, Marks, Leaves}
use Rattle.cell_mosaic.specs.declared.fault.SourceFault.{SourceFault}
use Rattle.cell_mosaic.specs.declared.fault.SourceFault.TheVariants.{Failed, NoMemory, Cell}
use Rattle.cell_cache.specs.declared.cached.CachedCells.{CachedCells}
use Rattle.cell_cache.specs.declared.slot.Slot.{Slot}
use Rattle.cell_cache.specs.Cached.{shapes_of_rows, is_fresh, cells_through}
use Rattle.cell_cache.specs.Fetched.{IsFaultAt, told_under}
use Rattle.cell_cache.proofs.Told.{is_told, still_told}

-- ---- troubles

-- a cell that is held shows no trouble
pub no_trouble : (key : CellKey) (bytes : List ℕ) (trouble : CellTrouble) → IsCellAt key bytes → ShowsAt key (Some bytes) trouble → ⊥
no_trouble key bytes (Lost name) cell shown = absurd (cc)
no_trouble key bytes (Bad name refusal) cell shown = absurd (let none = cell.accepted in cc)
no_trouble key bytes (Elsewhere name found) cell shown = shown.2 (sym shown.1 ∙ cell.square)
no_trouble key bytes (Changed name opened found) cell shown = shown.4 (sym shown.2 ∙ cell.level ∙ sym shown.3)

nothing : (o : Option Cells) → ((told : Cells) → o ≡ Some told → ⊥) → o ≡ None
nothing None never = refl
nothing (Some told) never = absurd (never told refl)

-- where the files show a trouble with a cell, none are told
untold : (rows : List Summary) (held : List (Slot × List ℕ)) (key : CellKey) (files : Option Files) (trouble : CellTrouble) → contains (shapes_of_rows rows) key ≡ true
    → IfSome (told_under files key) (λ held. ShowsAt key held trouble) → cells_through rows held files ≡ None
untold rows held key None trouble known shown = refl
untold rows held key (Some files) trouble known shown = nothing (cells_through rows held (Some files)) (λ told is.
    let at = is_told rows held files told key known is in
    no_trouble key at.bytes trouble at.cell (subst (λ o. ShowsAt key o trouble) at.file shown))

same_name : (a b : CellKey) → ◌≡◌ {A = Key} (CellName a) (CellName b) → a ≡ b
same_name a b e = cc

named : (key : CellKey) (files : Option Files) (trouble : CellTrouble) → name_of trouble ≡ CellName key → IfSome (told_under files key) (λ held. ShowsAt key held trouble) → IfSome files (λ files. ShowsNamed files trouble)
named key None trouble name shown = tt
named key (Some files) trouble name shown = λ other name'.
    subst (λ k. ShowsAt k (get files (name_of trouble)) trouble) (same_name key other (sym name ∙ name'))
    (subst (λ n. ShowsAt key (get files n) trouble) (sym name) shown)

pub fault_shown : (rows : List Summary) (held : List (Slot × List ℕ)) (key : CellKey) (files : Option Files) (fault : SourceFault) → contains (shapes_of_rows rows) key ≡ true → IsFaultAt key (told_under files key) fault
    → FaultIsShown (shapes_of_rows rows) files (cells_through rows held files) fault
fault_shown rows held key files Failed known at = tt
fault_shown rows held key files NoMemory known at = tt
fault_shown rows held key files (Cell trouble) known at = record {
  subject = record { key = key; known = known; name = at.name; opened = at.opened };
  shown = named key files trouble at.name at.shown;
  untold = untold rows held key files trouble known at.shown;
}

-- ---- what a call leaves

abbrev pub cells_in : CachedCells → Option Files → Option Cells
cells_in source files = cells_through source.summaries.items source.cells.entries files

abbrev pub shapes_in : CachedCells → Shapes
shapes_in source = shapes_of_rows source.summaries.items

abbrev pub is_sure : CachedCells → Bool
is_sure source = false

abbrev pub is_spoilt : CachedCells → Bool
is_spoilt source = source.is_spoilt

-- what is held after it was before, or is what the files hold under its name
abbrev pub CacheHolds : CachedCells → CachedCells → Option Files → Type 0
CacheHolds source source' files = (slot : Slot) (bytes : List ℕ) → Contains source'.cells.entries (slot, bytes) → Contains source.cells.entries (slot, bytes) ⊎ IfSome files (λ files. is_fresh files bytes ≡ true)

stays : (source source' : CachedCells) (files : Option Files) → source'.summaries.items ≡ source.summaries.items → CacheHolds source source' files
    → (told : Cells) → cells_in source files ≡ Some told → cells_in source' files ≡ Some told
stays source source' files rows each told is =
    ap (λ rows. cells_through rows source'.cells.entries files) rows ∙ still_told source.summaries.items source.cells.entries source'.cells.entries files each told is

pub leaves_of : {S T : Type 0} {holds : S → Option Files} {log : S → Option (List Change)} {faults : S → ℕ} {source source' : CachedCells} {store store' : S} {result : Result T SourceFault}
    → source'.summaries.items ≡ source.summaries.items → CacheHolds source source' (holds store) → holds store' ≡ holds store → log store' ≡ log store
    → FaultHasCause (faults store) (faults store') result → TroubleIsShown (shapes_in source) (holds store) (cells_in source (holds store)) result → Marks source.is_spoilt source'.is_spoilt result
    → Leaves cells_in shapes_in is_sure is_spoilt holds log faults source source' store store' result
leaves_of {holds = holds} {source = source} {source' = source'} {store = store} rows each held logged cause shown marks = record {
  sure = λ is. absurd (cc);
  shown = shown;
  cause = cause;
  keeps = record { shape = ap shapes_of_rows rows; certain = refl; stays = stays source source' (holds store) rows each; held = held; logged = logged };
  spoilt = marks;
}

-- an answer of what was held
pub held_leaves : {S T : Type 0} {holds : S → Option Files} {log : S → Option (List Change)} {faults : S → ℕ} {source source' : CachedCells} {store : S} {given : T}
    → source'.summaries.items ≡ source.summaries.items → source'.is_spoilt ≡ source.is_spoilt → ((slot : Slot) (bytes : List ℕ) → Contains source'.cells.entries (slot, bytes) → Contains source.cells.entries (slot, bytes))
    → Leaves cells_in shapes_in is_sure is_spoilt holds log faults source source' store store (Ok given)
held_leaves rows same none_else = leaves_of rows (λ slot bytes there. inl (none_else slot bytes there)) refl refl
    (record { later = omega arith; failed = λ is. absurd (cc) }) tt (record { unspoilt = same; troubled = tt })

abbrev failure : (T : Type 0) → SourceFault → Result T SourceFault
failure T fault = Err fault

abbrev success : {T : Type 0} → T → Result T SourceFault
success given = Ok given

same_fault : (T : Type 0) (fault other : SourceFault) → failure T fault ≡ failure T other → fault ≡ other
same_fault T fault other same = cc

-- a fault that is handed on has the cause that it had
pub cause_on : {T U : Type 0} {before now : ℕ} {fault : SourceFault} → FaultHasCause before now (failure T fault) → FaultHasCause before now (failure U fault)
cause_on {T = T} {U = U} {fault = fault} cause = record { later = cause.later; failed = λ same. cause.failed (ap (failure T) (same_fault U fault Failed same)) }

pub no_cause : {T U : Type 0} {before now : ℕ} {given : T} {other : U} → FaultHasCause before now (success given) → FaultHasCause before now (success other)
no_cause cause = record { later = cause.later; failed = λ is. absurd (cc) }

pub memory_cause : {T U : Type 0} {before now : ℕ} {given : T} → FaultHasCause before now (success given) → FaultHasCause before now (failure U NoMemory)
memory_cause cause = record { later = cause.later; failed = λ is. absurd (cc) }

pub marked : {T : Type 0} {before trouble : Bool} {fault : SourceFault} → IsTrue trouble ↔ IsTrouble fault → Marks before (before || trouble) (failure T fault)
marked {before = before} {trouble = trouble} tells = record { unspoilt = tt; troubled = λ is. or_right before trouble (tells.1 is) }
