-- The lines that reports are made of have no line feed inside.
use Rattle.std.proofs.Common.{◌≡◌, ◌≢◌, ℕ, ℤ, pos, negsuc, zero, suc, ◌+◌, ◌/◌, ◌%◌, ◌==◌, nat_le, nat_lt, Bool, true, false, not, ◌&&◌, List, [], ◌∷◌, length, codes, decimal, Option, Some, None, refl, subst, arith, if◌then◌else◌}
use Rattle.std.specs.List.{AllByRecursion}
use Rattle.std.specs.Fmt.{digit_glyph, digits, digits_onto, signed_decimal}
use Rattle.std.proofs.lemmas.Bool.{eq-eqb}
use Rattle.std.specs.FinMap.{keys}
use Rattle.terrain_base.specs.declared.square.Square.{Square}
use Rattle.terrain_base.specs.declared.level.CellLevel.{CellLevel}
use Rattle.terrain_base.specs.Level.{level_number}
use Rattle.terrain_base.specs.SquareText.{square_text}
use Rattle.terrain_base.proofs.KeyTexts.{line-square}
use Rattle.dted_cell.specs.declared.refusal.CellRefusal.{CellRefusal}
use Rattle.dted_cell.specs.declared.refusal.CellRefusal.TheVariants.{TooShort, NoUhl, BadField, OffDegree, WrongSpacing, WrongCounts, NoDsi, SeriesDisagrees, NotWgs84, NoAcc, BadSentinel, BadColumn, BadChecksum, HeightOutOfRange}
use Rattle.manifest_lines.specs.Line.{IsLine}
use Rattle.manifest_lines.proofs.Lines.{line-append}
use Rattle.report_text.specs.Refusal.{cell_refusal_of}
use Rattle.report_text.specs.Words.{joined}
use Rattle.database.specs.declared.answer.EngineAnswer.{EngineAnswer}
use Rattle.database.specs.declared.answer.EngineAnswer.TheVariants.{CellPresent, CellAbsent, DatabaseFull}
use Rattle.database.specs.Commands.{Command, Add, Replace, Remove, has_key, refusal_of}
use Rattle.database.specs.State.{State}
use Rattle.db_report.specs.declared.done.Edited.{Edited}
use Rattle.db_report.specs.declared.done.Edited.TheVariants.{Added, Replaced, Removed}
use Rattle.db_report.specs.Done.{edited_line_of, script_line_of, script_mark_of, word_of}
use Rattle.db_report.specs.Refusal.{key_text_of}
use Rattle.top_reply.specs.Edits.{done_line, tiles_in}
use Rattle.top_reply.specs.File.{absent_text, too_long_text}
use Rattle.top_reply.specs.Reply.{cause_of}

-- ---- pieces

abbrev is_plain : List ℕ → Bool
is_plain [] = true
is_plain (byte ∷ bytes) = not (byte == 10) && is_plain bytes

-- a text by a test of its bytes
pub plain : (text : List ℕ) → is_plain text ≡ true → IsLine text
plain [] e = tt
plain (byte ∷ bytes) e = by_test (byte == 10) refl (λ rest. plain bytes rest) e
  where
    by_test : (b : Bool) → (byte == 10) ≡ b → (is_plain bytes ≡ true → IsLine bytes)
        → (not b && is_plain bytes) ≡ true → IsLine (byte ∷ bytes)
    by_test true is rest e = absurd (cc)
    by_test false is rest e = (λ same. let feed = eq-eqb byte 10 same in absurd (cc), rest e)

digit_line : (digit : ℕ) → digit_glyph false digit ≢ 10
digit_line digit = by_test (nat_lt digit 10)
  where
    by_test : (b : Bool) → (if b then 48 + digit else (87 + digit)) ≢ 10
    by_test true = omega arith
    by_test false = omega arith

digits_line : (k n : ℕ) (behind : List ℕ) → IsLine behind → IsLine (digits_onto k 10 false n behind)
digits_line zero n behind is = is
digits_line (suc k) n behind is =
    by_test (n / 10 == 0) (digits_line k (n / 10) (digit_glyph false (n % 10) ∷ behind) (digit_line (n % 10), is))
  where
    by_test : (b : Bool) → IsLine (digits_onto k 10 false (n / 10) (digit_glyph false (n % 10) ∷ behind))
        → IsLine (if b then digit_glyph false (n % 10) ∷ behind
        else digits_onto k 10 false (n / 10) (digit_glyph false (n % 10) ∷ behind))
    by_test true more = (digit_line (n % 10), is)
    by_test false more = more

pub number : (n : ℕ) → IsLine (decimal n)
unfolding digits
number n = digits_line 64 n [] tt

whole : (z : ℤ) → IsLine (signed_decimal z)
whole (pos n) = number n
whole (negsuc n) = (omega arith, number (suc n))

pub joined_line : (pieces : List (List ℕ)) → AllByRecursion IsLine pieces → IsLine (joined pieces)
joined_line [] all = tt
joined_line (piece ∷ []) all = all.0
joined_line (piece ∷ next ∷ pieces) all =
    line-append piece (joined (next ∷ pieces)) all.0 (joined_line (next ∷ pieces) all.1)

-- ---- refusals of files

pub absent_line : (file : List ℕ) → IsLine file → IsLine (absent_text file)
absent_line file is = joined_line (codes "F1 absent " ∷ file ∷ []) (plain (codes "F1 absent ") refl, (is, tt))

pub too_long_line : (file : List ℕ) (limit : ℕ) → IsLine file → IsLine (too_long_text file limit)
too_long_line file limit is = joined_line (codes "F2 too long " ∷ file ∷ codes " limit " ∷ decimal limit ∷ [])
    (plain (codes "F2 too long ") refl, (is, (plain (codes " limit ") refl, (number limit, tt))))

one_number : (a : List ℕ) (m : ℕ) → is_plain a ≡ true → IsLine (joined (a ∷ decimal m ∷ []))
one_number a m p = joined_line (a ∷ decimal m ∷ []) (plain a p, (number m, tt))

two_numbers : (a b : List ℕ) (m n : ℕ) → is_plain a ≡ true → is_plain b ≡ true
    → IsLine (joined (a ∷ decimal m ∷ b ∷ decimal n ∷ []))
two_numbers a b m n p q =
    joined_line (a ∷ decimal m ∷ b ∷ decimal n ∷ []) (plain a p, (number m, (plain b q, (number n, tt))))

-- and a third text behind a third word
three_texts : (a b c : List ℕ) (m n : ℕ) (text : List ℕ) → is_plain a ≡ true → is_plain b ≡ true → is_plain c ≡ true
    → IsLine text → IsLine (joined (a ∷ decimal m ∷ b ∷ decimal n ∷ c ∷ text ∷ []))
three_texts a b c m n text p q r is =
    let last : AllByRecursion IsLine (c ∷ text ∷ []) = (plain c r, (is, tt)) in
    joined_line (a ∷ decimal m ∷ b ∷ decimal n ∷ c ∷ text ∷ [])
    (plain a p, (number m, (plain b q, (number n, last))))

pub cell_line : (refusal : CellRefusal) → IsLine (cell_refusal_of refusal)
cell_line (TooShort need have) = two_numbers (codes "C1 too short need ") (codes " have ") need have refl refl
cell_line NoUhl = plain (codes "C2 no UHL") refl
cell_line (BadField offset) = one_number (codes "C3 bad field at ") offset refl
cell_line OffDegree = plain (codes "C4 off degree") refl
cell_line WrongSpacing = plain (codes "C5 wrong spacing") refl
cell_line WrongCounts = plain (codes "C6 wrong counts") refl
cell_line NoDsi = plain (codes "C7 no DSI") refl
cell_line SeriesDisagrees = plain (codes "C8 series disagrees") refl
cell_line NotWgs84 = plain (codes "C9 not WGS84") refl
cell_line NoAcc = plain (codes "C10 no ACC") refl
cell_line (BadSentinel col) = one_number (codes "C11 bad sentinel column ") col refl
cell_line (BadColumn col) = one_number (codes "C12 bad column ") col refl
cell_line (BadChecksum col stated summed) =
    three_texts (codes "C13 bad checksum column ") (codes " stated ") (codes " summed ") col stated (decimal summed)
    refl refl refl (number summed)
cell_line (HeightOutOfRange col row value) =
    three_texts (codes "C14 height column ") (codes " row ") (codes " value ") col row (signed_decimal value)
    refl refl refl (whole value)

-- ---- what a database answers to an edit

key_line : (square : Square) (level : CellLevel) → IsLine (key_text_of square level)
key_line square level = joined_line (square_text square ∷ codes " level " ∷ decimal (level_number level) ∷ [])
    (line-square square, (plain (codes " level ") refl, (number (level_number level), tt)))

present_line : (square : Square) (level : CellLevel) → IsLine (cause_of (CellPresent square level))
present_line square level = joined_line (codes "K1 cell present " ∷ key_text_of square level ∷ [])
    (plain (codes "K1 cell present ") refl, (key_line square level, tt))

missing_line : (square : Square) (level : CellLevel) → IsLine (cause_of (CellAbsent square level))
missing_line square level = joined_line (codes "K2 cell absent " ∷ key_text_of square level ∷ [])
    (plain (codes "K2 cell absent ") refl, (key_line square level, tt))

same_cause : (a b : EngineAnswer) → Some a ≡ Some b → IsLine (cause_of a) → IsLine (cause_of b)
same_cause a b e is = let same : a ≡ b = cc in subst (λ answer. IsLine (cause_of answer)) same is

none_there : {A : Type 0} (a : EngineAnswer) → ◌≡◌ {A = Option EngineAnswer} None (Some a) → A
none_there a e = absurd (cc)

pub refusal_line : (c : Command) (s : State) (answer : EngineAnswer) → refusal_of c s ≡ Some answer
    → IsLine (cause_of answer)
refusal_line (Add key bytes) s answer e = by_tests (has_key s key) (nat_le 4096 (length (keys s.cells))) e
  where
    by_tests : (there full : Bool) → (if there then Some (CellPresent key.square key.level)
        else (if full then Some DatabaseFull else None)) ≡ Some answer → IsLine (cause_of answer)
    by_tests true full e = same_cause (CellPresent key.square key.level) answer e (present_line key.square key.level)
    by_tests false true e = same_cause DatabaseFull answer e (plain (codes "K3 database full") refl)
    by_tests false false e = none_there answer e
refusal_line (Replace key bytes) s answer e = by_test (has_key s key) e
  where
    by_test : (there : Bool) → (if there then None else Some (CellAbsent key.square key.level)) ≡ Some answer
        → IsLine (cause_of answer)
    by_test true e = none_there answer e
    by_test false e = same_cause (CellAbsent key.square key.level) answer e (missing_line key.square key.level)
refusal_line (Remove key) s answer e = by_test (has_key s key) e
  where
    by_test : (there : Bool) → (if there then None else Some (CellAbsent key.square key.level)) ≡ Some answer
        → IsLine (cause_of answer)
    by_test true e = none_there answer e
    by_test false e = same_cause (CellAbsent key.square key.level) answer e (missing_line key.square key.level)

word_line : (edited : Edited) → IsLine (word_of edited)
word_line Added = plain (codes "added") refl
word_line Replaced = plain (codes "replaced") refl
word_line Removed = plain (codes "removed") refl

edited_line : (edited : Edited) (square : Square) (tiles : ℕ) → IsLine (edited_line_of edited square tiles)
edited_line edited square tiles =
    joined_line (word_of edited ∷ codes " " ∷ square_text square ∷ codes " tiles " ∷ decimal tiles ∷ []) (
      word_line edited,
      (
        plain (codes " ") refl,
        (
          line-square square,
          (
            plain (codes " tiles ") refl,
            (number tiles, tt),
          ),
        ),
      ),
    )

pub done_is_line : (c : Command) (s : State) → IsLine (done_line c s)
done_is_line (Add key bytes) s = edited_line Added key.square (tiles_in s)
done_is_line (Replace key bytes) s = edited_line Replaced key.square (tiles_in s)
done_is_line (Remove key) s = edited_line Removed key.square (tiles_in s)

-- ---- the lines of a script's report

pub mark_line : (n : ℕ) → IsLine (script_mark_of n)
mark_line n = joined_line (codes "line " ∷ decimal n ∷ codes ": " ∷ [])
    (plain (codes "line ") refl, (number n, (plain (codes ": ") refl, tt)))

pub script_line : (done refused : ℕ) → IsLine (script_line_of done refused)
script_line done refused =
    joined_line (codes "script done " ∷ decimal done ∷ codes " refused " ∷ decimal refused ∷ [])
    (plain (codes "script done ") refl, (number done, (plain (codes " refused ") refl, (number refused, tt))))
