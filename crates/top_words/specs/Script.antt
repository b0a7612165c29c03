-- Scripts: their lines, and what each asks for.
use Rattle.std.specs.Prelude.{◌≡◌, ◌≢◌, ◌<◌, ◌-◌, ◌==◌, ℕ, Bool, List, [], ◌∷◌, ◌++◌, length, take, codes, map, if◌then◌else◌, slice_index}
use Rattle.std.specs.List.{AllZip, slice_split}
use Rattle.std.specs.Str.{IsUtf8}
use Rattle.std.specs.Str.Lines.{strip_carriage_return}
use Rattle.terrain_base.specs.Name.{row_text}
use Rattle.top_words.specs.Words.{Edit, Add, Replace, Remove}

pub data Line : Type 0 where
  Passed : Line
  Change : (edit : Edit) → Line
  NoCommand : Line

-- the line is a word, a blank and a file's name, which is not empty and is the rest of the line
pub record IsFileLine (line word file : List ℕ) : Type 0 where
  pub same : line ≡ word ++ file
  pub some : 0 < length file
  pub text : IsUtf8 file

-- the line asks for the edit: `add FILE`, `replace FILE` or `remove SQUARE V`, with one blank
abbrev pub IsEditLine : List ℕ → Edit → Type 0
IsEditLine line (Add file) = IsFileLine line (codes "add ") file
IsEditLine line (Replace file) = IsFileLine line (codes "replace ") file
IsEditLine line (Remove key) = line ≡ codes "remove " ++ row_text key

-- empty, or a note: text that begins with `#`
abbrev pub IsPassed : List ℕ → Type 0
IsPassed [] = Unit {0}
IsPassed (first ∷ rest) = (first ≡ 35) × IsUtf8 (first ∷ rest)

-- what a line is, without what ends it
abbrev pub IsLine : List ℕ → Line → Type 0
IsLine line Passed = IsPassed line
IsLine line (Change edit) = IsEditLine line edit
IsLine line NoCommand = (¬ (IsPassed line)) × ((edit : Edit) → ¬ (IsEditLine line edit))

abbrev pub is_line_feed : ℕ → Bool
is_line_feed byte = byte == 10

-- no line feed stands in the text
abbrev pub HasNoFeed : List ℕ → Type 0
HasNoFeed text = (k : ℕ) → k < length text → slice_index text k ≢ 10

-- a text without the line feed at its end, if it has one
abbrev pub without_last_feed : List ℕ → List ℕ
without_last_feed text = if slice_index text (length text - 1) == 10 then take (length text - 1) text else text

-- the lines of a text: it is cut at line feeds, of which the last line may lack its own, and a carriage return at a
-- line's end is dropped
abbrev pub parts_of : List ℕ → List (List ℕ)
parts_of [] = []
parts_of (first ∷ rest) = slice_split is_line_feed (without_last_feed (first ∷ rest))

abbrev pub lines_of : List ℕ → List (List ℕ)
lines_of text = map strip_carriage_return (parts_of text)

-- each line of the text is what is said of it
abbrev pub AreLines : List ℕ → List Line → Type 0
AreLines text lines = AllZip IsLine (lines_of text) lines
