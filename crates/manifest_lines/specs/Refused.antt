-- The line for which bytes are refused: the first that no manifest could have there, or the state's.
use Rattle.std.specs.Prelude.{◌≡◌, ◌≢◌, ◌⊎◌, ℕ, ◌+◌, ◌≤◌, List, ◌++◌, length, take}
use Rattle.common_laws.specs.First.{IsLeastFailing}
use Rattle.terrain_base.specs.declared.params.Params.{Params}
use Rattle.manifest_lines.specs.declared.state.State.{State}
use Rattle.manifest_lines.specs.declared.version.Version.{Version}
use Rattle.manifest_lines.specs.Line.{ended}
use Rattle.manifest_lines.specs.Grammar.{Grammar}
use Rattle.manifest_lines.specs.Manifest.{Contents, HasLines, Fits, AreRowsOf, IsStateOf, lines_of, manifest_text}

-- the first n lines of the bytes are as a manifest has them: five lines that announce at most 4096 rows, and then
-- at most so many rows that ascend
pub record Begins {R : Type 0} (g : Grammar R) (v : Version) (n : ℕ) (bytes : List ℕ) : Type 0 where
  pub params : Params
  pub state : State R
  pub count : ℕ
  pub rows : List R
  pub rest : List ℕ
  pub named : IsStateOf g v state
  pub few : count ≤ 4096
  pub announced : length rows ≤ count
  pub ascend : AreRowsOf g v rows
  pub reached : n ≤ 5 + length rows
  pub same : bytes ≡ ended (take n (lines_of g v params state count rows)) ++ rest

-- the lines before this one are as a manifest has them, and this one is not: it says something else, is missing, lacks
-- its line feed or follows the last row
pub record IsFirstBad {R : Type 0} (g : Grammar R) (v : Version) (line : ℕ) (bytes : List ℕ) : Type 0 where
  pub least : IsLeastFailing (λ n. Begins g v n bytes) line
  pub wrong : (m : Contents R) → HasLines g v m → bytes ≢ manifest_text g v m

-- all lines are as a manifest has them, but the row of line 4 is put and not among the rows, or dropped and among them
pub record IsMisfit {R : Type 0} (g : Grammar R) (v : Version) (line : ℕ) (bytes : List ℕ) : Type 0 where
  pub contents : Contents R
  pub lines : HasLines g v contents
  pub text : bytes ≡ manifest_text g v contents
  pub unfit : ¬ (Fits contents.state contents.rows)
  pub fourth : line ≡ 4

-- the line for which bytes are refused
abbrev pub IsBadLine : {R : Type 0} → Grammar R → Version → ℕ → List ℕ → Type 0
IsBadLine g v line bytes = (IsFirstBad g v line bytes) ⊎ (IsMisfit g v line bytes)
