-- The bytes of a script have lines.
use Rattle.std.proofs.Common.{◌≡◌, ℕ, zero, suc, ◌<◌, ◌⊎◌, inl, inr, Bool, true, false, List, [], ◌∷◌, ◌++◌, length, codes, ap, sym, refl, ◌∙◌, arith, get_or, subst}
use Rattle.std.specs.List.{AllZip}
use Rattle.std.specs.Str.{IsUtf8, is_utf8}
use Rattle.std.proofs.lemmas.Bool.{cases_order}
use Rattle.std.proofs.lemmas.List.{append_cancel_left}
use Rattle.std.proofs.lemmas.Str.{IsUtf8-from_is_utf8, is_utf8-from_IsUtf8}
use Rattle.terrain_base.specs.declared.cell_key.CellKey.{CellKey}
use Rattle.terrain_base.specs.declared.level.CellLevel.{CellLevel}
use Rattle.terrain_base.specs.declared.level.CellLevel.TheVariants.{Zero, One, Two}
use Rattle.terrain_base.specs.Level.{level_number}
use Rattle.terrain_base.specs.Name.{row_text}
use Rattle.terrain_base.specs.SquareText.{digit_of, lat_text, lon_text}
use Rattle.top_words.specs.Script.{Line, Passed, Change, NoCommand, IsPassed, IsFileLine, IsEditLine, IsLine, AreLines, lines_of}
use Rattle.top_words.specs.Words.{Edit, Add, Replace, Remove}

-- ---- what can be decided

-- some one has the property, or none has
abbrev pub SomeOrNone : (A : Type 0) → (A → Type 0) → Type 0
SomeOrNone A P = ((x : A) × P x) ⊎ ((x : A) → P x → ⊥)

abbrev pub YesOrNo : Type 0 → Type 0
YesOrNo P = P ⊎ (P → ⊥)

pub same_or_not : (xs ys : List ℕ) → YesOrNo (xs ≡ ys)
same_or_not [] [] = inl refl
same_or_not [] (y ∷ ys) = inr (λ e. let lengths = ap length e in omega (arith, lengths))
same_or_not (x ∷ xs) [] = inr (λ e. let lengths = ap length e in omega (arith, lengths))
same_or_not (x ∷ xs) (y ∷ ys) = by_parts (cases_order x y) (same_or_not xs ys)
  where
    by_parts : (x ≡ y) ⊎ ((x < y) ⊎ (y < x)) → YesOrNo (xs ≡ ys) → YesOrNo (x ∷ xs ≡ y ∷ ys)
    by_parts (inl same) (inl all) = inl (λ i. same i ∷ all i)
    by_parts (inl same) (inr differ) = inr (λ e. differ (cc))
    by_parts (inr (inl less)) rest = inr (λ e. let same : x ≡ y = ap (λ zs. get_or zs 0 0) e in omega
        (arith, less, same))
    by_parts (inr (inr more)) rest = inr (λ e. let same : x ≡ y = ap (λ zs. get_or zs 0 0) e in omega
        (arith, more, same))

-- among the numbers below a bound
pub below : (P : ℕ → Type 0) → ((n : ℕ) → YesOrNo (P n)) → (bound : ℕ)
    → ((n : ℕ) × (n < bound) × P n) ⊎ ((n : ℕ) → n < bound → P n → ⊥)
below P test zero = inr (λ n less is. omega (arith, less))
below P test (suc bound) = by_last (below P test bound) (test bound)
  where
    by_last : ((n : ℕ) × (n < bound) × P n) ⊎ ((n : ℕ) → n < bound → P n → ⊥) → YesOrNo (P bound)
        → ((n : ℕ) × (n < suc bound) × P n) ⊎ ((n : ℕ) → n < suc bound → P n → ⊥)
    by_last (inl found) last = let less = found.1 in inl (found.0, omega (arith, less), found.2)
    by_last (inr none) (inl is) = inl (bound, omega arith, is)
    by_last (inr none) (inr never) = inr (λ n less is. at n less is (cases_order n bound))
      where
        at : (n : ℕ) → n < suc bound → P n → (n ≡ bound) ⊎ ((n < bound) ⊎ (bound < n)) → ⊥
        at n less is (inl same) = never (subst P same is)
        at n less is (inr (inl before)) = none n before is
        at n less is (inr (inr after)) = omega (arith, less, after)

-- ---- a file behind a word

behind : (word text : List ℕ) → SomeOrNone (List ℕ) (λ file. text ≡ word ++ file)
behind [] text = inl (text, refl)
behind (w ∷ word) [] = inr (λ file e. let lengths = ap length e in omega (arith, lengths))
behind (w ∷ word) (t ∷ text) = by_parts (cases_order t w) (behind word text)
  where
    by_parts : (t ≡ w) ⊎ ((t < w) ⊎ (w < t)) → SomeOrNone (List ℕ) (λ file. text ≡ word ++ file)
        → SomeOrNone (List ℕ) (λ file. t ∷ text ≡ w ∷ (word ++ file))
    by_parts (inl same) (inl rest) = let all = rest.1 in inl (rest.0, λ i. same i ∷ all i)
    by_parts (inl same) (inr none) = inr (λ file e. none file (cc))
    by_parts (inr (inl less)) rest =
        inr (λ file e. let same : t ≡ w = ap (λ zs. get_or zs 0 0) e in omega (arith, less, same))
    by_parts (inr (inr more)) rest =
        inr (λ file e. let same : t ≡ w = ap (λ zs. get_or zs 0 0) e in omega (arith, more, same))

utf8_or_not : (bytes : List ℕ) → YesOrNo (IsUtf8 bytes)
utf8_or_not bytes = by_test (is_utf8 bytes) refl
  where
    by_test : (b : Bool) → is_utf8 bytes ≡ b → YesOrNo (IsUtf8 bytes)
    by_test true e = inl (IsUtf8-from_is_utf8 bytes e)
    by_test false e = inr (λ is. let yes = is_utf8-from_IsUtf8 bytes is in absurd (cc))

file_line : (line word : List ℕ) → SomeOrNone (List ℕ) (λ file. IsFileLine line word file)
file_line line word = by_rest (behind word line)
  where
    by_text : (first : ℕ) (file : List ℕ) → line ≡ word ++ (first ∷ file) → YesOrNo (IsUtf8 (first ∷ file))
        → SomeOrNone (List ℕ) (λ file. IsFileLine line word file)
    by_text first file same (inl text) = inl (first ∷ file, record { same = same; some = omega arith; text = text })
    by_text first file same (inr none) = inr (λ other is.
        none (subst IsUtf8 (append_cancel_left word other (first ∷ file) (sym is.same ∙ same)) is.text))

    by_file : (file : List ℕ) → line ≡ word ++ file → SomeOrNone (List ℕ) (λ file. IsFileLine line word file)
    by_file [] same = inr (λ other is.
        let none = ap length (append_cancel_left word other [] (sym is.same ∙ same)) in
        let some = is.some in omega (arith, none, some))
    by_file (first ∷ file) same = by_text first file same (utf8_or_not (first ∷ file))

    by_rest : SomeOrNone (List ℕ) (λ file. line ≡ word ++ file)
        → SomeOrNone (List ℕ) (λ file. IsFileLine line word file)
    by_rest (inl rest) = by_file rest.0 rest.1
    by_rest (inr none) = inr (λ file is. none file is.same)

-- ---- a key behind a word

abbrev text_at : ℕ → ℕ → CellLevel → List ℕ
text_at lat lon level = (lat_text lat ++ lon_text lon) ++ (32 ∷ digit_of (level_number level) ∷ [])

level_at : (text : List ℕ) (lat lon : ℕ) → YesOrNo ((level : CellLevel) × (text ≡ text_at lat lon level))
level_at text lat lon =
    by_each (same_or_not text (text_at lat lon Zero)) (same_or_not text (text_at lat lon One))
    (same_or_not text (text_at lat lon Two))
  where
    by_each : YesOrNo (text ≡ text_at lat lon Zero) → YesOrNo (text ≡ text_at lat lon One)
        → YesOrNo (text ≡ text_at lat lon Two) → YesOrNo ((level : CellLevel) × (text ≡ text_at lat lon level))
    by_each (inl is) q r = inl (Zero, is)
    by_each (inr p) (inl is) r = inl (One, is)
    by_each (inr p) (inr q) (inl is) = inl (Two, is)
    by_each (inr p) (inr q) (inr r) = inr (λ found. none found.0 found.1)
      where
        none : (level : CellLevel) → text ≡ text_at lat lon level → ⊥
        none Zero is = p is
        none One is = q is
        none Two is = r is

abbrev InRow : List ℕ → ℕ → Type 0
InRow text lat = (lon : ℕ) × (lon < 360) × ((level : CellLevel) × (text ≡ text_at lat lon level))

in_row : (text : List ℕ) (lat : ℕ) → YesOrNo (InRow text lat)
in_row text lat = turned (below (λ lon. (level : CellLevel) × (text ≡ text_at lat lon level)) (level_at text lat) 360)
  where
    turned : InRow text lat ⊎ ((lon : ℕ) → lon < 360 → ((level : CellLevel) × (text ≡ text_at lat lon level)) → ⊥)
        → YesOrNo (InRow text lat)
    turned (inl found) = inl found
    turned (inr none) = inr (λ found. none found.0 found.1 found.2)

key_line : (text : List ℕ) → SomeOrNone CellKey (λ key. text ≡ row_text key)
key_line text = turned (below (InRow text) (in_row text) 180)
  where
    turned : ((lat : ℕ) × (lat < 180) × InRow text lat) ⊎ ((lat : ℕ) → lat < 180 → InRow text lat → ⊥)
        → SomeOrNone CellKey (λ key. text ≡ row_text key)
    turned (inl found) = inl (
      record {
        square = record {
          lat = found.0;
          lon = found.2.0;
          lat_in_range = found.1;
          lon_in_range = found.2.1;
        };
        level = found.2.2.0;
      },
      found.2.2.1,
    )
    turned (inr none) = inr (λ key is.
        none key.square.lat key.square.lat_in_range (key.square.lon, key.square.lon_in_range, (key.level, is)))

remove_line : (line : List ℕ) → SomeOrNone CellKey (λ key. line ≡ codes "remove " ++ row_text key)
remove_line line = by_rest (behind (codes "remove ") line)
  where
    by_key : (rest : List ℕ) → line ≡ codes "remove " ++ rest → SomeOrNone CellKey (λ key. rest ≡ row_text key)
        → SomeOrNone CellKey (λ key. line ≡ codes "remove " ++ row_text key)
    by_key rest same (inl found) = inl (found.0, same ∙ ap (λ text. codes "remove " ++ text) found.1)
    by_key rest same (inr none) = inr (λ key is.
        none key (append_cancel_left (codes "remove ") rest (row_text key) (sym same ∙ is)))

    by_rest : SomeOrNone (List ℕ) (λ rest. line ≡ codes "remove " ++ rest)
        → SomeOrNone CellKey (λ key. line ≡ codes "remove " ++ row_text key)
    by_rest (inl rest) = by_key rest.0 rest.1 (key_line rest.0)
    by_rest (inr none) = inr (λ key is. none (row_text key) is)

-- ---- what a line is

edit_line : (line : List ℕ) → SomeOrNone Edit (λ edit. IsEditLine line edit)
edit_line line = by_each (file_line line (codes "add ")) (file_line line (codes "replace ")) (remove_line line)
  where
    by_each : SomeOrNone (List ℕ) (λ file. IsFileLine line (codes "add ") file)
        → SomeOrNone (List ℕ) (λ file. IsFileLine line (codes "replace ") file)
        → SomeOrNone CellKey (λ key. line ≡ codes "remove " ++ row_text key)
        → SomeOrNone Edit (λ edit. IsEditLine line edit)
    by_each (inl found) q r = inl (Add found.0, found.1)
    by_each (inr p) (inl found) r = inl (Replace found.0, found.1)
    by_each (inr p) (inr q) (inl found) = inl (Remove found.0, found.1)
    by_each (inr p) (inr q) (inr r) = inr none
      where
        none : (edit : Edit) → IsEditLine line edit → ⊥
        none (Add file) is = p file is
        none (Replace file) is = q file is
        none (Remove key) is = r key is

passed_or_not : (line : List ℕ) → YesOrNo (IsPassed line)
passed_or_not [] = inl tt
passed_or_not (first ∷ rest) = by_parts (cases_order first 35) (utf8_or_not (first ∷ rest))
  where
    by_parts : (first ≡ 35) ⊎ ((first < 35) ⊎ (35 < first)) → YesOrNo (IsUtf8 (first ∷ rest))
        → YesOrNo (IsPassed (first ∷ rest))
    by_parts (inl same) (inl text) = inl (same, text)
    by_parts (inl same) (inr none) = inr (λ is. none is.1)
    by_parts (inr (inl less)) text = inr (λ is. let same = is.0 in omega (arith, less, same))
    by_parts (inr (inr more)) text = inr (λ is. let same = is.0 in omega (arith, more, same))

has_line : (line : List ℕ) → (is : Line) × IsLine line is
has_line line = by_each (passed_or_not line) (edit_line line)
  where
    by_each : YesOrNo (IsPassed line) → SomeOrNone Edit (λ edit. IsEditLine line edit) → (is : Line) × IsLine line is
    by_each (inl passed) edit = (Passed, passed)
    by_each (inr never) (inl found) = (Change found.0, found.1)
    by_each (inr never) (inr none) = (NoCommand, (never, none))

all_lines : (texts : List (List ℕ)) → (lines : List Line) × AllZip IsLine texts lines
all_lines [] = ([], tt)
all_lines (text ∷ texts) =
    let first = has_line text in let rest = all_lines texts in (first.0 ∷ rest.0, (first.1, rest.1))

pub has_lines : (bytes : List ℕ) → (lines : List Line) × AreLines bytes lines
has_lines bytes = all_lines (lines_of bytes)
