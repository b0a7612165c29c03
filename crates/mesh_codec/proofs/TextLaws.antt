-- The spelling of a header and a mesh decodes to them.
use Rattle.std.proofs.Common.{◌≡◌, ℕ, zero, suc, pos, negsuc, ◌+ℤ◌, ◌+◌, ◌-◌, ◌*◌, ◌/◌, ◌%◌, ◌^◌, ◌<◌, ◌≤◌, ◌==◌, Bool, true, false, cond, nat_le, nat_lt, List, [], ◌∷◌, ◌++◌, length, drop, get_or, slice_index, All, inl, inr, refl, sym, ap, ◌∙◌, arith, append_assoc}
use Rattle.std.specs.List.{flat_map}
use Rattle.std.proofs.lemmas.List.{drop-drop, drop_at, length-append}
use Rattle.std.proofs.lemmas.List.Elements.{All-head, All-tail}
use Rattle.std.proofs.lemmas.Bool.{cases_lt}
use Rattle.std.proofs.lemmas.Bool.Decides.{nat_tests}
use Rattle.byteorder.specs.Endian.{little_bytes}
use Rattle.byteorder.specs.Numbers.{length-bytes_low_first}
use Rattle.mesh_codec.specs.Number.{number_at}
use Rattle.mesh_codec.specs.Text.{zigzag, array_text, mark_after, AreWithinMark, indexes_text}
use Rattle.mesh_codec.specs.Difference.{difference, HasCodes}
use Rattle.mesh_codec.specs.HighWater.{entry_at, mark_at, HasIndexes, HasEntries}
use Rattle.mesh_codec.proofs.Numbers.{number_here}
use Rattle.mesh_codec.proofs.HighWaters.{mark_next, mark_none}

-- a part stands at an offset, and what follows it behind it
pub behind : (text : List ℕ) (at size : ℕ) (part rest : List ℕ) → drop at text ≡ part ++ rest → length part ≡ size → drop (at + size) text ≡ rest
behind text at size part rest e l = sym (drop-drop size at text) ∙ ap (drop size) e ∙ drop_at part rest size l

-- ---- arrays
down_is : (before code : ℕ) → code < before → pos code ≡ pos before +ℤ negsuc (before - code - 1)
down_is before code h =
    let test : nat_lt before (suc (before - code - 1)) ≡ false = grind (arith, nat_tests) in
    let back : before - suc (before - code - 1) ≡ code = omega arith in
    rw (test, back) refl

up_is : (before code : ℕ) → before ≤ code → pos code ≡ pos before +ℤ pos (code - before)
up_is before code h = let back : before + (code - before) ≡ code = omega arith in rw back refl

-- the difference of a word is that of the codes
zigzag_is : (before code : ℕ) → pos code ≡ pos before +ℤ difference (zigzag before code)
zigzag_is before code = elim (cases_lt code before) [
  | inl less ↦
      let down : nat_le before code ≡ false = grind (arith, nat_tests) in
      let odd : (2 * (before - code) - 1) % 2 ≡ 1 = omega arith in
      let half : (2 * (before - code) - 1) / 2 ≡ before - code - 1 = omega arith in
      rw (down, odd, half) (down_is before code less)
  | inr more ↦
      let up : nat_le before code ≡ true = grind (arith, nat_tests) in
      let even : 2 * (code - before) % 2 ≡ 0 = omega arith in
      let half : 2 * (code - before) / 2 ≡ code - before = omega arith in
      rw (up, even, half) (up_is before code more)
]

zigzag_small : (before code : ℕ) → before ≤ 32767 → code ≤ 32767 → zigzag before code < 65536
zigzag_small before code p q = grind (arith, nat_tests)

pub length-array_text : (codes : List ℕ) (before : ℕ) → length (array_text before codes) ≡ 2 * length codes
length-array_text [] before = refl
length-array_text (code ∷ codes) before = omega (arith, length-array_text codes code)

words_in : (codes : List ℕ) (before at : ℕ) (text rest : List ℕ) → before ≤ 32767 → All (λ code. code ≤ 32767) codes → drop at text ≡ array_text before codes ++ rest
    → (k : ℕ) → k < length codes → number_at 2 text (at + 2 * k) ≡ zigzag (get_or (before ∷ codes) k 0) (get_or codes k 0)
words_in [] before at text rest b all e k h = absurd (omega arith)
words_in (code ∷ codes) before at text rest b all e zero h =
    let small = All-head (λ code. code ≤ 32767) code codes all in
    let same : at + 2 * 0 ≡ at = omega arith in
    ap (number_at 2 text) same ∙ number_here 2 text at (zigzag before code) (array_text code codes ++ rest) e (zigzag_small before code b small)
words_in (code ∷ codes) before at text rest b all e (suc k) h =
    let small = All-head (λ code. code ≤ 32767) code codes all in
    let next : drop (at + 2) text ≡ array_text code codes ++ rest = behind text at 2 (little_bytes 2 (zigzag before code)) (array_text code codes ++ rest) e refl in
    let place : at + 2 * suc k ≡ at + 2 + 2 * k = omega arith in
    ap (number_at 2 text) place ∙ words_in codes code (at + 2) text rest small (All-tail (λ code. code ≤ 32767) code codes all) next k (omega arith)

pub has_codes : (codes : List ℕ) (at : ℕ) (text rest : List ℕ) → All (λ code. code ≤ 32767) codes → drop at text ≡ array_text 0 codes ++ rest → HasCodes text at codes
has_codes codes at text rest all e k h =
    zigzag_is (slice_index (0 ∷ codes) k) (slice_index codes k) ∙ ap (λ w. pos (slice_index (0 ∷ codes) k) +ℤ difference w) (sym (words_in codes 0 at text rest (omega arith) all e k h))

-- ---- indexes
pub length-indexes_text : (width : ℕ) (indexes : List ℕ) (mark : ℕ) → length (indexes_text width mark indexes) ≡ width * length indexes
length-indexes_text width [] mark = omega arith
length-indexes_text width (index ∷ indexes) mark =
    omega (arith, length-append (little_bytes width (mark - index)) (indexes_text width (mark_after mark index) indexes), length-bytes_low_first 0 width (mark - index), length-indexes_text width indexes (mark_after mark index))

-- the mark from the second place on
pub mark_front : (width : ℕ) (text : List ℕ) (at k : ℕ) → mark_at width text at (suc k) ≡ cond (entry_at width text at 0 == 0) 1 0 + mark_at width text (at + width) k
mark_front width text at zero =
    ap (mark_at width text at) one ∙ mark_next width text at 0 ∙ rw (mark_none width text at, mark_none width text (at + width)) (of_test (entry_at width text at 0 == 0))
  where
    one : suc zero ≡ 0 + 1
    one = omega arith

    of_test : (b : Bool) → cond b (0 + 1) 0 ≡ cond b 1 0 + 0
    of_test true = omega arith
    of_test false = omega arith
mark_front width text at (suc k) =
    ap (mark_at width text at) one ∙ mark_next width text at (suc k)
    ∙ ap (λ n. cond (n == 0) (mark_at width text at (suc k) + 1) (mark_at width text at (suc k))) (ap (number_at width text) shifted)
    ∙ ap (λ n. cond (entry_at width text (at + width) k == 0) (n + 1) n) (mark_front width text at k)
    ∙ of_test (entry_at width text (at + width) k == 0) (cond (entry_at width text at 0 == 0) 1 0) (mark_at width text (at + width) k)
    ∙ ap (λ n. cond (entry_at width text at 0 == 0) 1 0 + n) (sym (ap (mark_at width text (at + width)) later ∙ mark_next width text (at + width) k))
  where
    one : suc (suc k) ≡ suc k + 1
    one = omega arith

    later : suc k ≡ k + 1
    later = omega arith

    shifted : at + width * suc k ≡ at + width + width * k
    shifted = omega arith

    of_test : (b : Bool) (m n : ℕ) → cond b (m + n + 1) (m + n) ≡ m + cond b (n + 1) n
    of_test true m n = omega arith
    of_test false m n = refl

indexes_in : (width limit : ℕ) (indexes : List ℕ) (mark at : ℕ) (text rest : List ℕ) → mark ≤ limit → limit < 256 ^ width → ((k : ℕ) → k < length indexes → get_or indexes k 0 < limit) → AreWithinMark mark indexes
    → drop at text ≡ indexes_text width mark indexes ++ rest → (k : ℕ) → k < length indexes → get_or indexes k 0 + entry_at width text at k ≡ mark + mark_at width text at k
indexes_in width limit [] mark at text rest m f all within e k h = absurd (omega arith)
indexes_in width limit (index ∷ indexes) mark at text rest m f all within e zero h =
    let grouped : drop at text ≡ little_bytes width (mark - index) ++ (indexes_text width (mark_after mark index) indexes ++ rest) = e ∙ append_assoc (little_bytes width (mark - index)) (indexes_text width (mark_after mark index) indexes) rest in
    let here : number_at width text at ≡ mark - index = number_here width text at (mark - index) (indexes_text width (mark_after mark index) indexes ++ rest) grouped (omega arith) in
    let same : at + width * 0 ≡ at = omega arith in
    omega (arith, ap (number_at width text) same ∙ here, within.0, mark_none width text at)
indexes_in width limit (index ∷ indexes) mark at text rest m f all within e (suc k) h =
    let next = mark_after mark index in
    let grouped : drop at text ≡ little_bytes width (mark - index) ++ (indexes_text width next indexes ++ rest) = e ∙ append_assoc (little_bytes width (mark - index)) (indexes_text width next indexes) rest in
    let here : number_at width text at ≡ mark - index = number_here width text at (mark - index) (indexes_text width next indexes ++ rest) grouped (omega arith) in
    let same : at + width * 0 ≡ at = omega arith in
    let first : entry_at width text at 0 ≡ mark - index = ap (number_at width text) same ∙ here in
    let later : drop (at + width) text ≡ indexes_text width next indexes ++ rest = behind text at width (little_bytes width (mark - index)) (indexes_text width next indexes ++ rest) grouped (length-bytes_low_first 0 width (mark - index)) in
    let place : at + width * suc k ≡ at + width + width * k = omega arith in
    let below : index < limit = all 0 (omega arith) in
    let inside : next ≤ limit = next_small mark index limit m below in
    let tail = indexes_in width limit indexes next (at + width) text rest inside f (λ i l. all (suc i) (omega arith)) within.1 later k (omega arith) in
    let step : next ≡ mark + cond (entry_at width text at 0 == 0) 1 0 = next_is mark index (entry_at width text at 0) within.0 first in
    omega (arith, tail, ap (number_at width text) place, mark_front width text at k, step)
  where
    next_small : (mark index limit : ℕ) → mark ≤ limit → index < limit → mark_after mark index ≤ limit
    next_small mark index limit m b = grind (arith, nat_tests)

    next_is : (mark index code : ℕ) → index ≤ mark → code ≡ mark - index → mark_after mark index ≡ mark + cond (code == 0) 1 0
    next_is mark index code w e = grind (arith, nat_tests)

pub has_indexes : (width limit : ℕ) (indexes : List ℕ) (at : ℕ) (text rest : List ℕ) → limit < 256 ^ width → ((k : ℕ) → k < length indexes → get_or indexes k 0 < limit) → AreWithinMark 0 indexes
    → drop at text ≡ indexes_text width 0 indexes ++ rest → HasIndexes width text at indexes
has_indexes width limit indexes at text rest f all within e k h =
    indexes_in width limit indexes 0 at text rest (omega arith) f all within e k h ∙ zero_add (mark_at width text at k)
  where
    zero_add : (n : ℕ) → 0 + n ≡ n
    zero_add n = omega arith

-- ---- edges
pub length-entries_text : (width : ℕ) (list : List ℕ) → length (flat_map (little_bytes width) list) ≡ width * length list
length-entries_text width [] = omega arith
length-entries_text width (x ∷ xs) = omega (arith, length-append (little_bytes width x) (flat_map (little_bytes width) xs), length-bytes_low_first 0 width x, length-entries_text width xs)

pub has_entries : (width limit : ℕ) (list : List ℕ) (at : ℕ) (text rest : List ℕ) → limit ≤ 256 ^ width → All (λ x. x < limit) list → drop at text ≡ flat_map (little_bytes width) list ++ rest → HasEntries width text at list
has_entries width limit [] at text rest f all e k h = absurd (omega arith)
has_entries width limit (x ∷ xs) at text rest f all e zero h =
    let grouped = e ∙ append_assoc (little_bytes width x) (flat_map (little_bytes width) xs) rest in
    let same : at + width * 0 ≡ at = omega arith in
    let small = All-head (λ x. x < limit) x xs all in
    sym (ap (number_at width text) same ∙ number_here width text at x (flat_map (little_bytes width) xs ++ rest) grouped (omega arith))
has_entries width limit (x ∷ xs) at text rest f all e (suc k) h =
    let grouped = e ∙ append_assoc (little_bytes width x) (flat_map (little_bytes width) xs) rest in
    let later = behind text at width (little_bytes width x) (flat_map (little_bytes width) xs ++ rest) grouped (length-bytes_low_first 0 width x) in
    let place : at + width * suc k ≡ at + width + width * k = omega arith in
    has_entries width limit xs (at + width) text rest f (All-tail (λ x. x < limit) x xs all) later k (omega arith) ∙ sym (ap (number_at width text) place)
