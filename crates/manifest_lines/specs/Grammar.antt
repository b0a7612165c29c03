-- What may differ between the rows of a manifest's versions: their text, their order, and which a version may have.
use Rattle.std.specs.Prelude.{◌≡◌, ℕ, List, Bool}
use Rattle.std.specs.declared.cmp.Ordering.{Ordering}
use Rattle.std.specs.declared.cmp.Ordering.TheVariants.{Less}
use Rattle.manifest_lines.specs.declared.version.Version.{Version}
use Rattle.manifest_lines.specs.Line.{IsLine}

-- a row's text, the order of rows, and which rows a version may have
pub record Grammar (R : Type 0) : Type 0 where
  pub text : R → List ℕ
  pub cmp : R → R → Ordering
  pub suits : Version → R → Bool

-- rows are lines that tell them apart, and their order is one
pub record IsGrammar {R : Type 0} (g : Grammar R) : Type 0 where
  pub line : (r : R) → IsLine (g.text r)
  pub apart : (a b : R) → g.text a ≡ g.text b → a ≡ b
  pub trans : (a b c : R) → g.cmp a b ≡ Less → g.cmp b c ≡ Less → g.cmp a c ≡ Less
