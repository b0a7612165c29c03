-- What the readers find.
use Rattle.std.proofs.Common.{w16}
use Rattle.std.specs.Prelude.{◌≡◌, ◌≢◌, ℕ, ℤ, pos, zero, suc, ◌+◌, ◌^◌, ◌<◌, ◌≤◌, ◌-ℤ◌, ◌≤ℤ◌, negsuc, List, [], ◌∷◌, ◌++◌, Option, Some, None, Result, Ok, Err, MatchResult, MatchOption, IfNone, IfErr, IsErrAnd, IsSomeAnd, codes, Bool, true, false, length, map, take, drop, decimal, refl}
use Rattle.std.specs.Fmt.{signed_decimal}
use Rattle.std.specs.Borrow.{Bor}
use Rattle.std.specs.Prelude.{FitsSigned}
use Rattle.std.specs.Int.Signed.{mag}
use Rattle.std.specs.Result.{result_ok}
use Rattle.std.specs.Str.{IsAscii, IsUtf8}
use Rattle.std.specs.Str.Parse.{ParsesUnsigned, ParsesSigned}
use Rattle.std.proofs.Common.{arith, inl, inr, ap, sym, subst, ◌∙◌, get_or, length-append, append_assoc}
use Rattle.std.proofs.Math.ListN.{get_or-append}
use Rattle.std.proofs.Math.Seq.{get_or-append_seam, take-append_seam, drop-append-add}
use Rattle.std.proofs.lemmas.Bool.{cases_order}
use Rattle.std.proofs.lemmas.Fmt.{IsAscii-decimal, IsAscii-signed, parse-decimal, parse-signed_decimal}
use Rattle.std.proofs.lemmas.Int.{ints}
use Rattle.std.proofs.lemmas.List.{length-map, map_more, take_all}
use Rattle.std.proofs.lemmas.Str.{IsUtf8-from_ascii}
use Rattle.common_laws.proofs.First.{least_failing_once}
use Rattle.terrain_base.specs.Height.{IsHeight}
use Rattle.terrain_base.specs.declared.params.Params.{Params}
use Rattle.manifest_lines.specs.declared.state.State.{State}
use Rattle.manifest_lines.specs.declared.version.Version.{Version}
use Rattle.manifest_lines.specs.Grammar.{Grammar, IsGrammar}
use Rattle.manifest_lines.specs.Line.{IsLine, ended}
use Rattle.manifest_lines.specs.Refused.{IsBadLine}
use Rattle.manifest_lines.specs.Manifest.{Contents, HasLines, IsManifest, IsStateOf, Fits, state_line, head_lines, lines_of, manifest_text}
use Rattle.manifest_lines.specs.declared.refusal.ManifestRefusal.{ManifestRefusal}
use Rattle.manifest_lines.specs.declared.refusal.ManifestRefusal.TheVariants.{NotADatabase, NoMemory}
use Rattle.manifest_lines.specs.Reading.{IsRefusedBy}
use Rattle.manifest_lines.specs.Rows.{AreRows, IsBadRow}
use Rattle.std.specs.Cmp.Lexicographic.{pointwise}
use Rattle.std.proofs.Math.Dec.{eqb}
use Rattle.std.proofs.lemmas.Slice.Eq.{strip_prefix_is}
use Rattle.std.proofs.lemmas.Bool.Decides.{Decides-eqb}
use Rattle.manifest_lines.proofs.Lines.{line-append, line-decimal, line-signed, line-fill_word, lines-rows, ended-append, same_front, same_rows, small_height}
use Rattle.manifest_lines.proofs.Fronts.{HasHead, head_of, text_is, bad_row}

pub same_rows_of : {R : Type 0} (g : Grammar R) → IsGrammar g → (v : Version) (rest : List ℕ) (a b : List R) → AreRows g v rest a → AreRows g v rest b → length a ≡ length b → a ≡ b
same_rows_of g ok v rest a b p q n =
    same_rows g ok a b (same_front (map g.text a) (map g.text b) [] [] (lines-rows g ok a) (lines-rows g ok b) (length-map a g.text ∙ n ∙ sym (length-map b g.text)) (ap (λ xs. xs ++ []) (sym p.same ∙ q.same))).0

pub same_contents : {R : Type 0} (a b : Contents R) → a.params ≡ b.params → a.state ≡ b.state → a.rows ≡ b.rows → a ≡ b
same_contents a b p s r = λ i. record { params = p i; state = s i; rows = r i }

pub one_text : {R : Type 0} (g : Grammar R) → IsGrammar g → (v : Version) (a b : Contents R) → HasLines g v a → HasLines g v b → manifest_text g v a ≡ manifest_text g v b → a ≡ b
one_text g ok v a b p q e =
    let t = text_is g ok v b a.params a.state (length a.rows) (ended (map g.text a.rows)) (manifest_text g v a) (head_of g v a p) q e in
    same_contents a b t.params t.state (same_rows_of g ok v _ a.rows b.rows (record { ascend = p.rows; same = refl }) t.rows t.count)

-- ---- the line for which bytes are refused

pub refused_is_none : {R : Type 0} (g : Grammar R) → IsGrammar g → (v : Version) (bytes : List ℕ) (line : ℕ) → IsBadLine g v line bytes → (m : Contents R) → IsManifest g v m → bytes ≢ manifest_text g v m
refused_is_none g ok v bytes line (inl bad) m good e = bad.wrong m good.lines e
refused_is_none {R} g ok v bytes line (inr bad) m good e =
    bad.unfit (subst (λ (c : Contents R). Fits c.state c.rows) (one_text g ok v m bad.contents good.lines bad.lines (sym e ∙ bad.text)) good.fits)

pub one_bad : {R : Type 0} (g : Grammar R) → IsGrammar g → (v : Version) (bytes : List ℕ) (a b : ℕ) → IsBadLine g v a bytes → IsBadLine g v b bytes → a ≡ b
one_bad g ok v bytes a b (inl p) (inl q) = least_failing_once a b p.least q.least
one_bad g ok v bytes a b (inl p) (inr q) = absurd (p.wrong q.contents q.lines q.text)
one_bad g ok v bytes a b (inr p) (inl q) = absurd (q.wrong p.contents p.lines p.text)
one_bad g ok v bytes a b (inr p) (inr q) = p.fourth ∙ sym q.fourth

-- ---- the first line feed

record IsFeed (bytes : List ℕ) (end : ℕ) : Type 0 where
  within : end < length bytes
  here : get_or bytes end 0 ≡ 10
  first : (k : ℕ) → k < end → get_or bytes k 0 ≢ 10

other_byte : (line : List ℕ) (k : ℕ) → IsLine line → k < length line → get_or line k 0 ≢ 10
other_byte [] k p h = absurd (omega arith)
other_byte (x ∷ line) zero p h = p.0
other_byte (x ∷ line) (suc k) p h = other_byte line k p.1 (omega arith)

byte_of : (bytes line rest : List ℕ) (k : ℕ) → bytes ≡ line ++ 10 ∷ rest → k < length line → get_or bytes k 0 ≡ get_or line k 0
byte_of bytes line rest k e h = ap (λ xs. get_or xs k 0) e ∙ get_or-append line (10 ∷ rest) 0 k h

feed_of : (bytes line rest : List ℕ) → bytes ≡ line ++ 10 ∷ rest → get_or bytes (length line) 0 ≡ 10
feed_of bytes line rest e = ap (λ xs. get_or xs (length line) 0) e ∙ get_or-append_seam line 10 rest 0

pub feed_is : (bytes line rest : List ℕ) (end : ℕ) → IsLine line → bytes ≡ line ++ 10 ∷ rest → end < length bytes → get_or bytes end 0 ≡ 10
    → ((k : ℕ) → k < end → get_or bytes k 0 ≢ 10) → end ≡ length line
feed_is bytes line rest end p e within here first =
    elim (cases_order end (length line)) [
      | inl same ↦ same
      | inr s ↦ elim s [
        | inl less ↦ absurd (other_byte line end p less (sym (byte_of bytes line rest end e less) ∙ here))
        | inr more ↦ absurd (first (length line) more (feed_of bytes line rest e))
      ]
    ]

pub no_feed : (bytes line rest : List ℕ) → bytes ≡ line ++ 10 ∷ rest → ((k : ℕ) → k < length bytes → get_or bytes k 0 ≢ 10) → ⊥
no_feed bytes line rest e none = none (length line) (omega (arith, ap length e, length-append line (10 ∷ rest))) (feed_of bytes line rest e)

pub parts_at : (bytes line rest : List ℕ) (end : ℕ) → bytes ≡ line ++ 10 ∷ rest → end ≡ length line → (take end bytes ≡ line) × (drop (end + 1) bytes ≡ rest)
parts_at bytes line rest end e is = (
  ap (λ n. take n bytes) is ∙ ap (take (length line)) e ∙ take-append_seam line (10 ∷ rest),
  ap (λ n. drop (n + 1) bytes) is ∙ ap (drop (length line + 1)) e ∙ drop-append-add line (10 ∷ rest) 1,
)

-- ---- numbers

-- the text of a number is a `str`
pub text_found : {E : Type 0} (Q : E → Type 0) (bytes : List ℕ) (r : Result (Bor (List ℕ)) E) (o : Option (Bor (List ℕ)))
    → MatchResult r (λ text. (text.now ≡ bytes) × IsUtf8 bytes) (λ e. (¬ (IsUtf8 bytes)) × Q e) → o ≡ result_ok r → IsAscii bytes → IsSomeAnd o (λ text. text.now ≡ bytes)
text_found Q bytes (Ok text) o is by plain = rw by is.0
text_found Q bytes (Err f) o is by plain = absurd (is.0 (IsUtf8-from_ascii bytes plain))

pub ascii_number : (bytes : List ℕ) (n : ℕ) → n < 2 ^ 16 → bytes ≡ decimal n → IsAscii bytes
ascii_number bytes n small e = subst IsAscii (sym e) (IsAscii-decimal n (omega arith))

pub ascii_height : (bytes : List ℕ) (z : ℤ) → IsHeight z → bytes ≡ signed_decimal z → IsAscii bytes
ascii_height bytes z is e = subst IsAscii (sym e) (IsAscii-signed z (small_height z is.above is.below))

pub number_found : {E : Type 0} (n : ℕ) (text : List ℕ) (r : Result ℕ E) (o : Option ℕ) → n < 2 ^ 16 → text ≡ decimal n → ParsesUnsigned 16 10 text r → o ≡ result_ok r → o ≡ Some n
number_found n text r o small e parses is = is ∙ ap result_ok (parse-decimal 16 n text r small (omega arith) e parses)

height_fits : (z : ℤ) → IsHeight z → FitsSigned w16 z
height_fits z is = record { sfits = fits_at z is.above is.below }
  where
    fits_at : (z : ℤ) → (pos 0 -ℤ pos 16000) ≤ℤ z → z ≤ℤ pos 16000 → mag z < 2 ^ 15
    fits_at (pos n) above below = omega (arith, ints, above, below)
    fits_at (negsuc n) above below = omega (arith, ints, above, below)

pub height_found : {E : Type 0} (z : ℤ) (text : List ℕ) (r : Result ℤ E) (o : Option ℤ) → IsHeight z → text ≡ signed_decimal z → ParsesSigned w16 10 text r → o ≡ result_ok r → o ≡ Some z
height_found z text r o is e parses by =
    by ∙ ap result_ok (parse-signed_decimal w16 z text r (height_fits z is) (small_height z is.above is.below) e parses)

-- ---- a line of a word and a number

-- what `strip_prefix` says
abbrev pub StripsPrefix : List ℕ → List ℕ → Option (Bor (List ℕ)) → Type 0
StripsPrefix s p r =
    MatchOption r (pointwise eqb (take (length p) s) p ≡ false) (λ x. (pointwise eqb (take (length p) s) p ≡ true) × (x.now ≡ drop (length p) s) × (length x.now + length p ≡ length s))

pub if_none : {A : Type 0} {P : Type 0} (o : Option A) → P → IfNone o P
if_none None p = p
if_none (Some x) p = tt

-- what is said of a refusal is said of an answer that hands it on
pub if_err : {T E : Type 0} (result : Result T E) (refusal : E) (P : E → Type 0) → IsErrAnd result (λ e. e ≡ refusal) → P refusal → IfErr result P
if_err (Ok x) refusal P is p = absurd is
if_err (Err e) refusal P is p = subst P (sym is) p

pub line-number : (word : List ℕ) (n : ℕ) → IsLine word → n < 2 ^ 16 → IsLine (word ++ decimal n)
line-number word n is small = line-append word (decimal n) is (line-decimal n (omega arith))

pub line-height : (z : ℤ) → IsHeight z → IsLine (codes "fill " ++ signed_decimal z)
line-height z is = line-append (codes "fill ") (signed_decimal z) line-fill_word (line-signed z (small_height z is.above is.below))

-- the word does not begin the line
pub no_word : (line word : List ℕ) (r : Option (Bor (List ℕ))) → StripsPrefix line word r → r ≡ None → (rest : List ℕ) → line ≢ word ++ rest
no_word line word r is none rest e = (rw none at (strip_prefix_is Decides-eqb line word r is)) rest e

-- it does, and this follows it
pub behind_word : (line word : List ℕ) (r : Option (Bor (List ℕ))) (x : Bor (List ℕ)) → StripsPrefix line word r → r ≡ Some x → line ≡ word ++ x.now
behind_word line word r x is some = rw some at (strip_prefix_is Decides-eqb line word r is)

abbrev pub NoNumber : ℕ → List ℕ → List ℕ → Type 0
NoNumber most word bytes = (n : ℕ) (rest : List ℕ) → n ≤ most → bytes ≢ (word ++ decimal n) ++ 10 ∷ rest

abbrev pub NoFill : List ℕ → Type 0
NoFill bytes = (fill : ℤ) (rest : List ℕ) → IsHeight fill → bytes ≢ (codes "fill " ++ signed_decimal fill) ++ 10 ∷ rest

abbrev pub NoState : {R : Type 0} → Grammar R → Version → List ℕ → Type 0
NoState {R} g v bytes = (state : State R) (rest : List ℕ) → IsStateOf g v state → bytes ≢ state_line g state ++ 10 ∷ rest

pub true-not_false : (b : Bool) → b ≡ true → b ≡ false → ⊥
true-not_false b p q = absurd (cc)

-- ---- the manifest that was read

pub text_of_parts : {R : Type 0} (g : Grammar R) (v : Version) (p : Params) (s : State R) (count : ℕ) (rows : List R) (rest bytes : List ℕ)
    → bytes ≡ ended (head_lines g v p s count) ++ rest → AreRows g v rest rows → length rows ≡ count → bytes ≡ manifest_text g v (record { params = p; state = s; rows = rows })
unfolding manifest_text
text_of_parts g v p s count rows rest bytes e f number =
    e ∙ ap (λ xs. ended (head_lines g v p s count) ++ xs) f.same ∙ sym (ended-append (head_lines g v p s count) (map g.text rows))
    ∙ ap (λ n. ended (lines_of g v p s n rows)) (sym number)

pub good_parts : {R : Type 0} (g : Grammar R) (v : Version) (p : Params) (s : State R) (count : ℕ) (rows : List R) (rest : List ℕ)
    → IsStateOf g v s → AreRows g v rest rows → length rows ≡ count → count ≤ 4096 → HasLines g v (record { params = p; state = s; rows = rows })
good_parts g v p s count rows rest named are number few = record {
  state = named;
  rows = are.ascend;
  few = omega arith;
}

-- where the rows are refused, so are the bytes
pub rows_refused : {R : Type 0} (g : Grammar R) → IsGrammar g → (v : Version) (p : Params) (s : State R) (count : ℕ) (rest bytes : List ℕ) → HasHead g v p s count rest bytes
    → (refusal : ManifestRefusal) → ((line : ℕ) → refusal ≡ NotADatabase line → IsBadRow g v count line rest) → IsRefusedBy g v bytes refusal
rows_refused g ok v p s count rest bytes head (NotADatabase line) bad = inl (bad_row g ok v p s count line rest bytes head (bad line refl))
rows_refused g ok v p s count rest bytes head NoMemory bad = tt

pub write_next : {R : Type 0} (g : Grammar R) (text head : List ℕ) (rows : List R) (i : ℕ) (d : R) → i < length rows → text ≡ head ++ ended (map g.text (take i rows))
    → (text ++ g.text (get_or rows i d)) ++ 10 ∷ [] ≡ head ++ ended (map g.text (take (i + 1) rows))
write_next g text head rows i d within same =
    ap (λ t. (t ++ g.text (get_or rows i d)) ++ 10 ∷ []) same
    ∙ append_assoc (head ++ ended (map g.text (take i rows))) (g.text (get_or rows i d)) (10 ∷ [])
    ∙ append_assoc head (ended (map g.text (take i rows))) (g.text (get_or rows i d) ++ 10 ∷ [])
    ∙ ap (λ xs. head ++ xs) (sym (ended-append (map g.text (take i rows)) (g.text (get_or rows i d) ∷ [])) ∙ ap ended (sym (map_more g.text rows i d within)))

pub write_end : {R : Type 0} (g : Grammar R) (v : Version) (m : Contents R) (head : List ℕ) (rows : List R) (i : ℕ) → length rows ≤ i → rows ≡ m.rows → head ≡ ended (head_lines g v m.params m.state (length m.rows))
    → head ++ ended (map g.text (take i rows)) ≡ manifest_text g v m
unfolding manifest_text
write_end g v m head rows i all same is =
    ap (λ rs. head ++ ended (map g.text rs)) (take_all i rows all ∙ same) ∙ ap (λ h. h ++ ended (map g.text m.rows)) is
    ∙ sym (ended-append (head_lines g v m.params m.state (length m.rows)) (map g.text m.rows))
