-- How a script is cut into lines, and what stands behind a line's first word.
use Rattle.std.proofs.Common.{◌≡◌, ◌≢◌, ◌∙◌, ℕ, ◌+◌, suc, Bool, true, false, List, [], ◌∷◌, ◌++◌, length, take, drop, map, Option, Some, None, IfNone, ap, sym, refl, arith, append_assoc}
use Rattle.std.specs.Prelude.{MatchOption}
use Rattle.std.specs.Borrow.{Bor}
use Rattle.std.specs.Cmp.{unsigned_Decides}
use Rattle.std.specs.Cmp.Lexicographic.{pointwise}
use Rattle.std.specs.List.{AllZip, slice_split}
use Rattle.std.specs.Str.Lines.{strip_carriage_return}
use Rattle.std.proofs.Math.Dec.{eqb}
use Rattle.std.proofs.lemmas.Bool.Decides.{Decides-eqb}
use Rattle.std.proofs.lemmas.Slice.Eq.{strip_prefix_is}
use Rattle.top_words.specs.declared.script.Line as coded
use Rattle.top_words.specs.Meant.{line_meant}
use Rattle.top_words.specs.Script.{Line, IsLine, is_line_feed, HasNoFeed}

pub if_none : {A : Type 0} {P : Type 0} (o : Option A) → P → IfNone o P
if_none None p = p
if_none (Some x) p = tt

-- ---- what `strip_prefix` says

abbrev pub StripsPrefix : List ℕ → List ℕ → Option (Bor (List ℕ)) → Type 0
StripsPrefix s p r =
    MatchOption r (pointwise eqb (take (length p) s) p ≡ false) (λ x. (pointwise eqb (take (length p) s) p ≡ true) × (x.now ≡ drop (length p) s) × (length x.now + length p ≡ length s))

-- the line does not begin with the word
pub no_word : (line word : List ℕ) (r : Option (Bor (List ℕ))) → StripsPrefix line word r → r ≡ None → (rest : List ℕ) → line ≢ word ++ rest
no_word line word r is none rest e = (rw none at (strip_prefix_is Decides-eqb line word r is)) rest e

-- it does, and this follows it
pub behind_word : (line word : List ℕ) (r : Option (Bor (List ℕ))) (x : Bor (List ℕ)) → StripsPrefix line word r → r ≡ Some x → line ≡ word ++ x.now
behind_word line word r x is some = rw some at (strip_prefix_is Decides-eqb line word r is)

-- ---- the first part of a text

is_feed : (x : ℕ) → x ≢ 10 → is_line_feed x ≡ false
is_feed x other = by_test (is_line_feed x) refl
  where
    by_test : (b : Bool) → is_line_feed x ≡ b → b ≡ false
    by_test false e = refl
    by_test true e = absurd (other ((unsigned_Decides x 10).0 e))

pub first_part : (part rest : List ℕ) → HasNoFeed part → slice_split is_line_feed (part ++ 10 ∷ rest) ≡ part ∷ slice_split is_line_feed rest
first_part [] rest none = refl
first_part (x ∷ part) rest none =
    let other = is_feed x (none 0 (omega arith)) in
    let later = first_part part rest (λ k below. none (suc k) (omega (arith, below))) in
    rw (other, later) refl

pub only_part : (text : List ℕ) → HasNoFeed text → slice_split is_line_feed text ≡ text ∷ []
only_part [] none = refl
only_part (x ∷ text) none =
    let other = is_feed x (none 0 (omega arith)) in
    let later = only_part text (λ k below. none (suc k) (omega (arith, below))) in
    rw (other, later) refl

-- ---- the lines so far

-- so many parts of the text are taken, each with the line that it is, and the rest is cut further
pub record LinesSoFar (text rest : List ℕ) (lines : List Line) : Type 0 where
  pub taken : List (List ℕ)
  pub cut : slice_split is_line_feed text ≡ taken ++ slice_split is_line_feed rest
  pub are : AllZip IsLine (map strip_carriage_return taken) lines

pub none_yet : (text : List ℕ) → LinesSoFar text text []
none_yet text = record { taken = []; cut = refl; are = tt }

zip_more : (texts : List (List ℕ)) (lines : List Line) (text : List ℕ) (line : Line) → AllZip IsLine (map strip_carriage_return texts) lines
    → IsLine (strip_carriage_return text) line → AllZip IsLine (map strip_carriage_return (texts ++ text ∷ [])) (lines ++ line ∷ [])
zip_more [] [] text line are is = (is, tt)
zip_more [] (l ∷ lines) text line are is = absurd are
zip_more (t ∷ texts) [] text line are is = absurd are
zip_more (t ∷ texts) (l ∷ lines) text line are is = (are.0, zip_more texts lines text line are.1 is)

-- one line more, with a line feed behind it
pub one_more : (text rest part after : List ℕ) (lines : List Line) (line : Line) → LinesSoFar text rest lines → rest ≡ part ++ 10 ∷ after → HasNoFeed part
    → IsLine (strip_carriage_return part) line → LinesSoFar text after (lines ++ line ∷ [])
one_more text rest part after lines line so_far same none is = record {
  taken = so_far.taken ++ part ∷ [];
  cut =
      so_far.cut ∙ ap (λ parts. so_far.taken ++ parts) (ap (slice_split is_line_feed) same ∙ first_part part after none)
      ∙ sym (append_assoc so_far.taken (part ∷ []) (slice_split is_line_feed after));
  are = zip_more so_far.taken lines part line so_far.are is;
}

-- the last line
pub all_lines : (text rest : List ℕ) (lines : List Line) (line : Line) → LinesSoFar text rest lines → HasNoFeed rest → IsLine (strip_carriage_return rest) line
    → AllZip IsLine (map strip_carriage_return (slice_split is_line_feed text)) (lines ++ line ∷ [])
all_lines text rest lines line so_far none is =
    rw (so_far.cut ∙ ap (λ parts. so_far.taken ++ parts) (only_part rest none)) (zip_more so_far.taken lines rest line so_far.are is)

last_meant : (lines : List coded.Line) (line : coded.Line) → map line_meant (lines ++ line ∷ []) ≡ map line_meant lines ++ line_meant line ∷ []
last_meant [] line = refl
last_meant (first ∷ lines) line = ap (λ meant. line_meant first ∷ meant) (last_meant lines line)

pub meant_more : (lines : List coded.Line) (line : coded.Line) (after : List coded.Line) → after ≡ lines ++ line ∷ []
    → map line_meant after ≡ map line_meant lines ++ line_meant line ∷ []
meant_more lines line after same = ap (map line_meant) same ∙ last_meant lines line
