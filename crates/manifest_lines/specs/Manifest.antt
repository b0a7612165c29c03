-- What a manifest says, and its text.
use Rattle.std.specs.Prelude.{ℕ, ℤ, ◌≤◌, List, [], ◌∷◌, ◌++◌, length, map, codes, decimal, IsTrue, Contains}
use Rattle.std.specs.Fmt.{signed_decimal}
use Rattle.std.specs.List.{AllByRecursion}
use Rattle.std.specs.List.Sorted.{IsStrictlySortedBy}
use Rattle.terrain_base.specs.declared.params.Params.{Params}
use Rattle.manifest_lines.specs.declared.state.State.{State}
use Rattle.manifest_lines.specs.declared.state.State.TheVariants.{Closed, Put, Drop, Rebuild}
use Rattle.manifest_lines.specs.declared.version.Version.{Version}
use Rattle.manifest_lines.specs.Line.{ended}
use Rattle.manifest_lines.specs.Version.{version_line}
use Rattle.manifest_lines.specs.Grammar.{Grammar}

-- what a manifest says
pub record Contents (R : Type 0) : Type 0 where
  pub params : Params
  pub state : State R
  pub rows : List R

-- each row is less than those after it
abbrev pub Ascend : {R : Type 0} → Grammar R → List R → Type 0
Ascend g rows = IsStrictlySortedBy g.cmp rows

-- the rows ascend, and each is one of the version
abbrev pub AreRowsOf : {R : Type 0} → Grammar R → Version → List R → Type 0
AreRowsOf g v rows = Ascend g rows × AllByRecursion (λ r. IsTrue (g.suits v r)) rows

-- what is under way names only a row of the version
abbrev pub IsStateOf : {R : Type 0} → Grammar R → Version → State R → Type 0
IsStateOf g v Closed = Unit
IsStateOf g v (Put key) = IsTrue (g.suits v key)
IsStateOf g v (Drop key) = IsTrue (g.suits v key)
IsStateOf g v Rebuild = Unit

-- a row that is put is among the rows, and one that is dropped is not
abbrev pub Fits : {R : Type 0} → State R → List R → Type 0
Fits Closed rows = Unit
Fits (Put key) rows = Contains rows key
Fits (Drop key) rows = ¬ (Contains rows key)
Fits Rebuild rows = Unit

-- each line is as a manifest has it
pub record HasLines {R : Type 0} (g : Grammar R) (v : Version) (m : Contents R) : Type 0 where
  pub state : IsStateOf g v m.state
  pub rows : AreRowsOf g v m.rows
  pub few : length m.rows ≤ 4096

-- the contents of a good manifest
pub record IsManifest {R : Type 0} (g : Grammar R) (v : Version) (m : Contents R) : Type 0 where
  pub lines : HasLines g v m
  pub fits : Fits m.state m.rows

-- ---- its lines, without their line feeds

abbrev pub cap_line : ℕ → List ℕ
cap_line cap = codes "cap " ++ decimal cap

abbrev pub fill_line : ℤ → List ℕ
fill_line fill = codes "fill " ++ signed_decimal fill

abbrev pub cells_line : ℕ → List ℕ
cells_line count = codes "cells " ++ decimal count

abbrev pub state_word : {R : Type 0} → Grammar R → State R → List ℕ
state_word g Closed = codes "closed"
state_word g (Put key) = codes "put " ++ g.text key
state_word g (Drop key) = codes "drop " ++ g.text key
state_word g Rebuild = codes "rebuild"

abbrev pub state_line : {R : Type 0} → Grammar R → State R → List ℕ
state_line g state = codes "state " ++ state_word g state

-- the five lines before the rows, with the number of rows that they announce
abbrev pub head_lines : {R : Type 0} → Grammar R → Version → Params → State R → ℕ → List (List ℕ)
head_lines g v params state count =
    version_line v ∷ cap_line params.cap ∷ fill_line params.fill ∷ state_line g state ∷ cells_line count ∷ []

abbrev pub lines_of : {R : Type 0} → Grammar R → Version → Params → State R → ℕ → List R → List (List ℕ)
lines_of g v params state count rows = head_lines g v params state count ++ map g.text rows

-- the text of a manifest
unfoldable pub manifest_text : {R : Type 0} → Grammar R → Version → Contents R → List ℕ
manifest_text g v m = ended (lines_of g v m.params m.state (length m.rows) m.rows)
