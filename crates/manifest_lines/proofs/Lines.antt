-- No line has a line feed, so a text has its lines in one way.
use Rattle.std.specs.Prelude.{◌≡◌, ℕ, ℤ, pos, negsuc, ◌^◌, ◌<◌, ◌≤◌, ◌-ℤ◌, ◌≤ℤ◌, List, [], ◌∷◌, ◌++◌, length, map, codes, decimal, refl}
use Rattle.std.specs.Fmt.{signed_decimal}
use Rattle.std.specs.List.{AllByRecursion}
use Rattle.std.proofs.Common.{arith, rules, ap, sym, ◌∙◌, append_assoc, length-append}
use Rattle.std.specs.Int.Signed.{mag}
use Rattle.std.proofs.lemmas.Fmt.{decimal_by_steps}
use Rattle.std.proofs.lemmas.Int.{ints}
use Rattle.terrain_base.specs.declared.params.Params.{Params}
use Rattle.terrain_base.proofs.NameTexts.{cut}
use Rattle.manifest_lines.specs.declared.state.State.{State}
use Rattle.manifest_lines.specs.declared.state.State.TheVariants.{Closed, Put, Drop, Rebuild}
use Rattle.manifest_lines.specs.Manifest.{state_word, state_line, head_lines}
use Rattle.manifest_lines.specs.Line.{IsLine, ended}
use Rattle.manifest_lines.specs.declared.version.Version.{Version}
use Rattle.manifest_lines.specs.declared.version.Version.TheVariants.{One, Two, Three}
use Rattle.manifest_lines.specs.Grammar.{Grammar, IsGrammar}
use Rattle.manifest_lines.specs.Version.{version_line}

-- ---- the lines have no line feed

pub line-append : (xs ys : List ℕ) → IsLine xs → IsLine ys → IsLine (xs ++ ys)
line-append [] ys p q = q
line-append (x ∷ xs) ys p q = (p.0, line-append xs ys p.1 q)

pub line-decimal : (n : ℕ) → n < 2 ^ 64 → IsLine (decimal n)
line-decimal n fits =
    decimal_by_steps (λ n ds. IsLine ds) (λ n small. (omega arith, tt)) (λ n ds big p. line-append ds _ p (omega arith, tt)) n fits

pub line-signed : (z : ℤ) → mag z < 2 ^ 63 → IsLine (signed_decimal z)
line-signed (pos n) small = line-decimal n (omega arith)
line-signed (negsuc n) small = (omega arith, line-decimal _ (omega arith))

pub line-fill_word : IsLine (codes "fill ")
line-fill_word = search rules

pub line-cap_word : IsLine (codes "cap ")
line-cap_word = search rules

pub line-cells_word : IsLine (codes "cells ")
line-cells_word = search rules

pub line-version : (v : Version) → IsLine (version_line v)
line-version One = search rules
line-version Two = search rules
line-version Three = search rules

line-put_word : IsLine (codes "put ")
line-put_word = search rules

line-drop_word : IsLine (codes "drop ")
line-drop_word = search rules

line-state_word : IsLine (codes "state ")
line-state_word = search rules

line-word : {R : Type 0} (g : Grammar R) → IsGrammar g → (s : State R) → IsLine (state_word g s)
line-word g ok Closed = search rules
line-word g ok (Put key) = line-append (codes "put ") (g.text key) line-put_word (ok.line key)
line-word g ok (Drop key) = line-append (codes "drop ") (g.text key) line-drop_word (ok.line key)
line-word g ok Rebuild = search rules

pub line-state : {R : Type 0} (g : Grammar R) → IsGrammar g → (s : State R) → IsLine (state_line g s)
line-state g ok s = line-append (codes "state ") (state_word g s) line-state_word (line-word g ok s)

abbrev pub AreLines : List (List ℕ) → Type 0
AreLines lines = AllByRecursion IsLine lines

pub small_height : (z : ℤ) → (pos 0 -ℤ pos 16000) ≤ℤ z → z ≤ℤ pos 16000 → mag z < 2 ^ 63
small_height (pos n) above below = omega (arith, ints, above, below)
small_height (negsuc n) above below = omega (arith, ints, above, below)

pub small_fill : (p : Params) → mag p.fill < 2 ^ 63
small_fill p = small_height p.fill p.fill_above p.fill_below

pub lines-head : {R : Type 0} (g : Grammar R) → IsGrammar g → (v : Version) (p : Params) (s : State R) (count : ℕ) → count ≤ 4096 → AreLines (head_lines g v p s count)
lines-head g ok v p s count few = (
  line-version v,
  (
    line-append (codes "cap ") (decimal p.cap) line-cap_word (line-decimal p.cap (omega (arith, p.cap_in_range))),
    (
      line-append (codes "fill ") (signed_decimal p.fill) line-fill_word (line-signed p.fill (small_fill p)),
      (line-state g ok s, (line-append (codes "cells ") (decimal count) line-cells_word (line-decimal count (omega arith)), tt)),
    ),
  ),
)

pub lines-rows : {R : Type 0} (g : Grammar R) → IsGrammar g → (rows : List R) → AreLines (map g.text rows)
lines-rows g ok [] = tt
lines-rows g ok (s ∷ rows) = (ok.line s, lines-rows g ok rows)

-- ---- the lines of a text

pub ended-append : (ls ms : List (List ℕ)) → ended (ls ++ ms) ≡ ended ls ++ ended ms
ended-append [] ms = refl
ended-append (l ∷ ls) ms = ap (λ r. l ++ 10 ∷ r) (ended-append ls ms) ∙ sym (append_assoc l (10 ∷ ended ls) (ended ms))

-- a text begins with so many lines in one way
pub same_front : (ls ms : List (List ℕ)) (r s : List ℕ) → AreLines ls → AreLines ms → length ls ≡ length ms
    → ended ls ++ r ≡ ended ms ++ s → (ls ≡ ms) × (r ≡ s)
same_front [] [] r s p q n e = (refl, e)
same_front [] (m ∷ ms) r s p q n e = absurd (omega arith)
same_front (l ∷ ls) [] r s p q n e = absurd (omega arith)
same_front (l ∷ ls) (m ∷ ms) r s p q n e =
    let first = cut 10 l m (ended ls ++ r) (ended ms ++ s) p.0 q.0 (sym (append_assoc l (10 ∷ ended ls) r) ∙ e ∙ append_assoc m (10 ∷ ended ms) s) in
    let more = same_front ls ms r s p.1 q.1 (omega arith) first.1 in
    (ap (λ x. x ∷ ls) first.0 ∙ ap (λ xs. m ∷ xs) more.0, more.1)

pub same_rows : {R : Type 0} (g : Grammar R) → IsGrammar g → (a b : List R) → map g.text a ≡ map g.text b → a ≡ b
same_rows g ok [] [] e = refl
same_rows g ok [] (y ∷ b) e = absurd (cc)
same_rows g ok (x ∷ a) [] e = absurd (cc)
same_rows g ok (x ∷ a) (y ∷ b) e =
    let first : g.text x ≡ g.text y = cc in
    let more : map g.text a ≡ map g.text b = cc in
    ap (λ z. z ∷ a) (ok.apart x y first) ∙ ap (λ zs. y ∷ zs) (same_rows g ok a b more)

pub same_lines : (ls ms : List (List ℕ)) → AreLines ls → AreLines ms → ended ls ≡ ended ms → ls ≡ ms
same_lines [] [] p q e = refl
same_lines [] (m ∷ ms) p q e = absurd (omega (arith, ap length e, length-append m (10 ∷ ended ms)))
same_lines (l ∷ ls) [] p q e = absurd (omega (arith, ap length e, length-append l (10 ∷ ended ls)))
same_lines (l ∷ ls) (m ∷ ms) p q e =
    let first = cut 10 l m (ended ls) (ended ms) p.0 q.0 e in
    ap (λ x. x ∷ ls) first.0 ∙ ap (λ xs. m ∷ xs) (same_lines ls ms p.1 q.1 first.1)
