-- The lines of a script's bytes are one list.
use Rattle.std.proofs.Common.{◌≡◌, ℕ, ◌≤◌, List, [], ◌∷◌, codes, ap, sym, refl, ◌∙◌, arith, get_or}
use Rattle.std.proofs.lemmas.List.{append_cancel_left}
use Rattle.std.specs.List.{AllZip}
use Rattle.terrain_base.specs.Name.{row_text}
use Rattle.terrain_base.proofs.KeyTexts.{key_apart}
use Rattle.top_words.specs.Script.{Line, Passed, Change, NoCommand, IsPassed, IsFileLine, IsEditLine, IsLine, AreLines, lines_of}
use Rattle.top_words.specs.Words.{Edit, Add, Replace, Remove}

-- ---- lines that are passed over, and edits, by their first byte

not_passed : (line : List ℕ) → 36 ≤ get_or line 0 0 → IsPassed line → ⊥
not_passed [] above passed = omega (arith, above)
not_passed (first ∷ rest) above passed = let is = passed.0 in omega (arith, above, is)

first_of_edit : (line : List ℕ) (edit : Edit) → IsEditLine line edit → 36 ≤ get_or line 0 0
first_of_edit line (Add file) is =
    let first : get_or line 0 0 ≡ 97 = ap (λ text. get_or text 0 0) is.same in omega (arith, first)
first_of_edit line (Replace file) is =
    let first : get_or line 0 0 ≡ 114 = ap (λ text. get_or text 0 0) is.same in omega (arith, first)
first_of_edit line (Remove key) is =
    let first : get_or line 0 0 ≡ 114 = ap (λ text. get_or text 0 0) is in omega (arith, first)

-- ---- one edit of a line

same_file : (line word a b : List ℕ) → IsFileLine line word a → IsFileLine line word b → a ≡ b
same_file line word a b p q = append_cancel_left word a b (sym p.same ∙ q.same)

one_edit : (line : List ℕ) (a b : Edit) → IsEditLine line a → IsEditLine line b → a ≡ b
one_edit line (Add a) (Add b) p q = ap Add (same_file line _ a b p q)
one_edit line (Add a) (Replace b) p q =
    let first : ◌≡◌ {A = ℕ} 97 114 = ap (λ text. get_or text 0 0) (sym p.same ∙ q.same) in absurd (omega (arith, first))
one_edit line (Add a) (Remove key) p q =
    let first : ◌≡◌ {A = ℕ} 97 114 = ap (λ text. get_or text 0 0) (sym p.same ∙ q) in absurd (omega (arith, first))
one_edit line (Replace a) (Add b) p q =
    let first : ◌≡◌ {A = ℕ} 114 97 = ap (λ text. get_or text 0 0) (sym p.same ∙ q.same) in absurd (omega (arith, first))
one_edit line (Replace a) (Replace b) p q = ap Replace (same_file line _ a b p q)
one_edit line (Replace a) (Remove key) p q =
    let third : ◌≡◌ {A = ℕ} 112 109 = ap (λ text. get_or text 2 0) (sym p.same ∙ q) in absurd (omega (arith, third))
one_edit line (Remove key) (Add b) p q =
    let first : ◌≡◌ {A = ℕ} 114 97 = ap (λ text. get_or text 0 0) (sym p ∙ q.same) in absurd (omega (arith, first))
one_edit line (Remove key) (Replace b) p q =
    let third : ◌≡◌ {A = ℕ} 109 112 = ap (λ text. get_or text 2 0) (sym p ∙ q.same) in absurd (omega (arith, third))
one_edit line (Remove a) (Remove b) p q = ap Remove (key_apart a b (append_cancel_left (codes "remove ")
    (row_text a) (row_text b) (sym p ∙ q)))

-- ---- one line of bytes, and one list of lines

one_line : (text : List ℕ) (a b : Line) → IsLine text a → IsLine text b → a ≡ b
one_line text Passed Passed p q = refl
one_line text Passed (Change edit) p q = absurd (not_passed text (first_of_edit text edit q) p)
one_line text Passed NoCommand p q = absurd (q.0 p)
one_line text (Change edit) Passed p q = absurd (not_passed text (first_of_edit text edit p) q)
one_line text (Change edit) (Change other) p q = ap Change (one_edit text edit other p q)
one_line text (Change edit) NoCommand p q = absurd (q.1 edit p)
one_line text NoCommand Passed p q = absurd (p.0 q)
one_line text NoCommand (Change edit) p q = absurd (p.1 edit q)
one_line text NoCommand NoCommand p q = refl

all_one : (texts : List (List ℕ)) (xs ys : List Line) → AllZip IsLine texts xs → AllZip IsLine texts ys → xs ≡ ys
all_one [] [] [] p q = refl
all_one [] [] (y ∷ ys) p q = absurd q
all_one [] (x ∷ xs) ys p q = absurd p
all_one (text ∷ texts) [] ys p q = absurd p
all_one (text ∷ texts) (x ∷ xs) [] p q = absurd q
all_one (text ∷ texts) (x ∷ xs) (y ∷ ys) p q = λ i. one_line text x y p.0 q.0 i ∷ all_one texts xs ys p.1 q.1 i

pub one_list : (bytes : List ℕ) (xs ys : List Line) → AreLines bytes xs → AreLines bytes ys → xs ≡ ys
one_list bytes xs ys p q = all_one (lines_of bytes) xs ys p q
