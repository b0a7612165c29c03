-- The rows of a manifest, behind its head.
use Rattle.std.specs.Prelude.{◌≡◌, ℕ, ◌+◌, ◌≤◌, List, ◌++◌, length, map}
use Rattle.manifest_lines.specs.declared.version.Version.{Version}
use Rattle.manifest_lines.specs.Line.{ended}
use Rattle.manifest_lines.specs.Grammar.{Grammar}
use Rattle.manifest_lines.specs.Manifest.{AreRowsOf}

-- the bytes begin with n rows of the count that is announced
pub record HasRows {R : Type 0} (g : Grammar R) (v : Version) (count n : ℕ) (bytes : List ℕ) : Type 0 where
  pub rows : List R
  pub rest : List ℕ
  pub announced : n ≤ count
  pub number : length rows ≡ n
  pub ascend : AreRowsOf g v rows
  pub same : bytes ≡ ended (map g.text rows) ++ rest

-- the bytes are the rows, and nothing more
pub record AreRows {R : Type 0} (g : Grammar R) (v : Version) (bytes : List ℕ) (rows : List R) : Type 0 where
  pub ascend : AreRowsOf g v rows
  pub same : bytes ≡ ended (map g.text rows)

-- the bytes are not these rows: those before this line are, it is not, where the first row is line 6
pub record IsBadRow {R : Type 0} (g : Grammar R) (v : Version) (count line : ℕ) (bytes : List ℕ) : Type 0 where
  pub good : ℕ
  pub numbered : line ≡ 6 + good
  pub before : HasRows g v count good bytes
  pub here : ¬ (HasRows g v count (good + 1) bytes)
  pub wrong : (rows : List R) → length rows ≡ count → ¬ (AreRows g v bytes rows)
