-- The files that a script's lines name have no line feed in their names.
use Rattle.std.proofs.Common.{◌≡◌, ◌≢◌, ℕ, zero, suc, ◌+◌, ◌-◌, ◌==◌, Bool, true, false, List, [], ◌∷◌, ◌++◌, length, take, map, codes, cond, Option, Some, None, refl, subst, if◌then◌else◌}
use Rattle.std.specs.Prelude.{slice_index}
use Rattle.std.specs.List.{AllByRecursion, AllZip, onto_first, slice_split}
use Rattle.std.specs.Str.Lines.{strip_carriage_return}
use Rattle.std.proofs.lemmas.Bool.{eq-eqb}
use Rattle.manifest_lines.specs.Line.{IsLine}
use Rattle.top_words.specs.Script as script
use Rattle.top_words.specs.Script.{Line, Passed, Change, NoCommand, AreLines, is_line_feed, lines_of, parts_of, without_last_feed}
use Rattle.top_words.specs.Words.{Edit, Add, Replace, Remove}
use Rattle.top_reply.specs.Lines.{Numbered, commands_of}

-- the name of its file, if it has one, has no line feed
abbrev pub HasLineName : Option Edit → Type 0
HasLineName None = Unit {0}
HasLineName (Some (Add file)) = IsLine file
HasLineName (Some (Replace file)) = IsLine file
HasLineName (Some (Remove key)) = Unit {0}

abbrev pub HaveLineNames : List Numbered → Type 0
HaveLineNames lines = AllByRecursion (λ line. HasLineName line.edit) lines

-- ---- lines of a text

onto : (byte : ℕ) (parts : List (List ℕ)) → byte ≢ 10 → AllByRecursion IsLine parts
    → AllByRecursion IsLine (onto_first byte parts)
onto byte [] other all = ((other, tt), tt)
onto byte (part ∷ parts) other all = ((other, all.0), all.1)

cut_lines : (text : List ℕ) → AllByRecursion IsLine (slice_split is_line_feed text)
cut_lines [] = (tt, tt)
cut_lines (byte ∷ text) = by_test (byte == 10) refl (cut_lines text)
  where
    by_test : (b : Bool) → (byte == 10) ≡ b → AllByRecursion IsLine (slice_split is_line_feed text)
        → AllByRecursion IsLine (cond b ([] ∷ slice_split is_line_feed text)
        (onto_first byte (slice_split is_line_feed text)))
    by_test true is all = (tt, all)
    by_test false is all =
        onto byte (slice_split is_line_feed text) (λ same. let feed = eq-eqb byte 10 same in absurd (cc)) all

pub front_line : (n : ℕ) (text : List ℕ) → IsLine text → IsLine (take n text)
front_line zero text is = tt
front_line (suc n) [] is = tt
front_line (suc n) (byte ∷ text) is = (is.0, front_line n text is.1)

stripped : (text : List ℕ) → IsLine text → IsLine (strip_carriage_return text)
stripped text is = by_test (slice_index text (length text - 1) == 13)
  where
    by_test : (b : Bool) → IsLine (if b then take (length text - 1) text else text)
    by_test true = front_line (length text - 1) text is
    by_test false = is

all_stripped : (parts : List (List ℕ)) → AllByRecursion IsLine parts
    → AllByRecursion IsLine (map strip_carriage_return parts)
all_stripped [] all = tt
all_stripped (part ∷ parts) all = (stripped part all.0, all_stripped parts all.1)

parts_are : (text : List ℕ) → AllByRecursion IsLine (parts_of text)
parts_are [] = tt
parts_are (byte ∷ text) = cut_lines (without_last_feed (byte ∷ text))

-- ---- names behind words

behind_word : (word file : List ℕ) → IsLine (word ++ file) → IsLine file
behind_word [] file is = is
behind_word (byte ∷ word) file is = behind_word word file is.1

edit_named : (text : List ℕ) (edit : Edit) → IsLine text → script.IsEditLine text edit → HasLineName (Some edit)
edit_named text (Add file) is line = behind_word (codes "add ") file (subst IsLine line.same is)
edit_named text (Replace file) is line = behind_word (codes "replace ") file (subst IsLine line.same is)
edit_named text (Remove key) is line = tt

all_named : (number : ℕ) (texts : List (List ℕ)) (lines : List Line) → AllByRecursion IsLine texts
    → AllZip script.IsLine texts lines → HaveLineNames (commands_of number lines)
all_named number [] [] all are = tt
all_named number [] (line ∷ lines) all are = absurd are
all_named number (text ∷ texts) [] all are = tt
all_named number (text ∷ texts) (Passed ∷ lines) all are = all_named (number + 1) texts lines all.1 are.1
all_named number (text ∷ texts) (Change edit ∷ lines) all are =
    (edit_named text edit all.0 are.0, all_named (number + 1) texts lines all.1 are.1)
all_named number (text ∷ texts) (NoCommand ∷ lines) all are = (tt, all_named (number + 1) texts lines all.1 are.1)

pub have_line_names : (number : ℕ) (bytes : List ℕ) (lines : List Line) → AreLines bytes lines
    → HaveLineNames (commands_of number lines)
have_line_names number bytes lines are =
    all_named number (lines_of bytes) lines (all_stripped (parts_of bytes) (parts_are bytes)) are
