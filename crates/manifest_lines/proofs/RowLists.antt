-- Where the rows are bad.
use Rattle.std.specs.Prelude.{◌≡◌, ◌≢◌, ℕ, ◌+◌, ◌<◌, ◌≤◌, List, [], ◌∷◌, ◌++◌, length, map, take, drop, refl}
use Rattle.std.proofs.Common.{arith, ap, sym, subst, ◌∙◌, append_assoc, append-nil}
use Rattle.std.proofs.lemmas.List.{length-map, map-append, take-append-drop, length-take-le}
use Rattle.manifest_lines.specs.Line.{ended}
use Rattle.manifest_lines.specs.declared.version.Version.{Version}
use Rattle.manifest_lines.specs.Grammar.{Grammar, IsGrammar}
use Rattle.manifest_lines.specs.Manifest.{AreRowsOf}
use Rattle.manifest_lines.specs.Rows.{HasRows, IsBadRow}
use Rattle.manifest_lines.proofs.Lines.{lines-rows, same_front, same_rows}
use Rattle.manifest_lines.proofs.Fronts.{rows-take, behind_head}

-- the last of so many rows
record Split {R : Type 0} (rows : List R) (n : ℕ) : Type 0 where
  front : List R
  last : R
  parts : rows ≡ front ++ last ∷ []
  number : length front ≡ n

split_last : {R : Type 0} (rows : List R) (n : ℕ) → length rows ≡ n + 1 → Split rows n
split_last [] n e = absurd (omega arith)
split_last (r ∷ []) n e = record { front = []; last = r; parts = refl; number = omega arith }
split_last (r ∷ s ∷ rest) n e =
    let more = split_last (s ∷ rest) (length rest) (omega arith) in
    record { front = r ∷ more.front; last = more.last; parts = ap (λ xs. r ∷ xs) more.parts; number = omega (arith, more.number) }

ended_rows : {R : Type 0} (g : Grammar R) (front back : List R) (rest : List ℕ) → ended (map g.text (front ++ back)) ++ rest ≡ ended (map g.text front) ++ (ended (map g.text back) ++ rest)
ended_rows g front back rest = ap (λ ls. ended ls ++ rest) (map-append g.text front back) ∙ behind_head (map g.text front) (map g.text back) rest

has_before : {R : Type 0} (g : Grammar R) (v : Version) (count m n : ℕ) (bytes : List ℕ) → n ≤ m → HasRows g v count m bytes → HasRows g v count n bytes
has_before g v count m n bytes less h = record {
  rows = take n h.rows;
  rest = ended (map g.text (drop n h.rows)) ++ h.rest;
  announced = omega (arith, h.announced);
  number = length-take-le n h.rows (omega (arith, h.number));
  ascend = rows-take g v n h.rows h.ascend;
  same = h.same ∙ ap (λ rs. ended (map g.text rs) ++ h.rest) (sym (take-append-drop n h.rows)) ∙ ended_rows g (take n h.rows) (drop n h.rows) h.rest;
}

same_seen : {R : Type 0} (g : Grammar R) → IsGrammar g → (a b : List R) (r s : List ℕ) → length a ≡ length b → ended (map g.text a) ++ r ≡ ended (map g.text b) ++ s → (a ≡ b) × (r ≡ s)
same_seen g ok a b r s n e =
    let both = same_front (map g.text a) (map g.text b) r s (lines-rows g ok a) (lines-rows g ok b) (length-map a g.text ∙ n ∙ sym (length-map b g.text)) e in
    (same_rows g ok a b both.0, both.1)

pub bad_next : {R : Type 0} (g : Grammar R) → IsGrammar g → (v : Version) (count line : ℕ) (bytes rest : List ℕ) (rows : List R) → AreRowsOf g v rows → length rows + 6 ≡ line → length rows < count → bytes ≡ ended (map g.text rows) ++ rest
    → ((next : R) (after : List ℕ) → AreRowsOf g v (rows ++ next ∷ []) → rest ≢ g.text next ++ 10 ∷ after) → IsBadRow g v count line bytes
bad_next g ok v count line bytes rest rows ascend number more same none =
    let here : ¬ (HasRows g v count (length rows + 1) bytes) = λ h.
    let s = split_last h.rows (length rows) h.number in
    let whole = h.same ∙ ap (λ rs. ended (map g.text rs) ++ h.rest) s.parts ∙ ended_rows g s.front (s.last ∷ []) h.rest in
    let both = same_seen g ok rows s.front rest _ (sym s.number) (sym same ∙ whole) in
    none s.last h.rest (subst (AreRowsOf g v) (s.parts ∙ ap (λ f. f ++ s.last ∷ []) (sym both.0)) h.ascend) (both.1 ∙ append_assoc (g.text s.last) (10 ∷ []) h.rest)
    in
    record {
      good = length rows;
      numbered = omega arith;
      before = record { rows = rows; rest = rest; announced = omega arith; number = refl; ascend = ascend; same = same };
      here = here;
      wrong = λ all n are. here (has_before g v count count (length rows + 1) bytes (omega arith) (record { rows = all; rest = []; announced = omega arith; number = n; ascend = are.ascend; same = are.same ∙ sym (append-nil _) }));
    }

pub bad_end : {R : Type 0} (g : Grammar R) → IsGrammar g → (v : Version) (count : ℕ) (bytes rest : List ℕ) (rows : List R) → AreRowsOf g v rows → length rows ≡ count → bytes ≡ ended (map g.text rows) ++ rest → rest ≢ []
    → IsBadRow g v count (6 + count) bytes
bad_end g ok v count bytes rest rows ascend number same some = record {
  good = count;
  numbered = refl;
  before = record { rows = rows; rest = rest; announced = omega arith; number = number; ascend = ascend; same = same };
  here = λ h. absurd (omega (arith, h.announced));
  wrong = λ all n are. some (same_seen g ok rows all rest [] (number ∙ sym n) (sym same ∙ are.same ∙ sym (append-nil _))).1;
}

pub seen_more : {R : Type 0} (g : Grammar R) (bytes rest after : List ℕ) (rows : List R) (next : R) → bytes ≡ ended (map g.text rows) ++ rest → rest ≡ g.text next ++ 10 ∷ after
    → bytes ≡ ended (map g.text (rows ++ next ∷ [])) ++ after
seen_more g bytes rest after rows next same e =
    same ∙ ap (λ xs. ended (map g.text rows) ++ xs) (e ∙ sym (append_assoc (g.text next) (10 ∷ []) after)) ∙ sym (ended_rows g rows (next ∷ []) after)
