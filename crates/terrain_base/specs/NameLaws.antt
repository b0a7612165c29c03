-- What names are held to.
use Rattle.std.specs.Prelude.{◌≡◌, codes}
use Rattle.terrain_base.specs.declared.square.Square.{Square}
use Rattle.std.specs.declared.cmp.Ordering.TheVariants.{Equal}
use Rattle.terrain_base.specs.declared.cell_key.CellKey.{CellKey}
use Rattle.terrain_base.specs.CellKey.{key_cmp}
use Rattle.terrain_base.specs.declared.name.Key.{Key}
use Rattle.terrain_base.specs.SquareText.{square_text}
use Rattle.terrain_base.specs.Name.{key_text, row_text, name_text}

-- squares with one text are one square
abbrev pub SquaresDiffer : Type 0
SquaresDiffer = (a b : Square) → square_text a ≡ square_text b → a ≡ b

-- keys that stand at one place in the order are one key
abbrev pub KeysDiffer : Type 0
KeysDiffer = (a b : CellKey) → key_cmp a b ≡ Equal → a ≡ b

-- names with one text are one name
abbrev pub NamesDiffer : Type 0
NamesDiffer = (a b : Key) → name_text a ≡ name_text b → a ≡ b

-- a key's text in a row is its square's text, a blank and its level's number in decimal
abbrev pub RowsAreSpelt : Type 0
RowsAreSpelt = (key : CellKey) → row_text key ≡ key_text (codes " ") key
