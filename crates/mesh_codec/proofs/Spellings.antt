-- Bytes are the spelling of what stands in them, part by part.
use Rattle.std.proofs.Common.{◌≡◌, ℕ, zero, suc, ℤ, pos, negsuc, ◌+ℤ◌, ◌+◌, ◌-◌, ◌*◌, ◌/◌, ◌%◌, ◌^◌, ◌<◌, ◌≤◌, ◌==◌, Bool, true, false, cond, nat_le, nat_lt, List, [], ◌∷◌, ◌++◌, length, replicate, drop, get_or, slice_index, inl, inr, refl, sym, ap, ◌∙◌, arith, append_assoc}
use Rattle.std.specs.Int.{byte_at, bytes_low_first}
use Rattle.std.specs.List.{flat_map}
use Rattle.std.proofs.Math.Nat.{div-div-eq-div-mul, pow-succ'}
use Rattle.std.proofs.lemmas.List.{drop-drop, drop_more, length-drop, get_or-drop}
use Rattle.std.proofs.lemmas.Bool.{cases_lt}
use Rattle.std.proofs.lemmas.Bool.Decides.{nat_tests}
use Rattle.byteorder.specs.Endian.{little_bytes, little_from, little_number}
use Rattle.byteorder.specs.Numbers.{little_from-cons}
use Rattle.mesh_codec.specs.Number.{number_at, AreBytes}
use Rattle.mesh_codec.specs.Text.{point_text, zigzag, array_text, mark_after, indexes_text, edge_text}
use Rattle.mesh_codec.specs.Difference.{difference, HasCodes}
use Rattle.mesh_codec.specs.HighWater.{entry_at, mark_at, HasIndexes, HasEntries}
use Rattle.mesh_codec.specs.Layout.{list_end}
use Rattle.mesh_codec.specs.Tile.{point_at}
use Rattle.mesh_codec.proofs.HighWaters.{mark_none}
use Rattle.mesh_codec.proofs.TextLaws.{mark_front}

-- from one offset to another stands this text
abbrev pub Spells : List ℕ → ℕ → ℕ → List ℕ → Type 0
Spells bytes at end text = drop at bytes ≡ text ++ drop end bytes

-- one text behind another
pub both : (bytes : List ℕ) (at middle end : ℕ) (front back : List ℕ) → Spells bytes at middle front → Spells bytes middle end back → Spells bytes at end (front ++ back)
both bytes at middle end front back e f = e ∙ ap (λ l. front ++ l) f ∙ sym (append_assoc front back (drop end bytes))

-- ---- numbers
byte_above : (j a m : ℕ) → a < 256 → byte_at (suc j) (a + 256 * m) ≡ byte_at j m
byte_above zero a m h = let lower : (a + 256 * m) / 256 ≡ m = omega arith in ap (λ n. n % 256) lower
byte_above (suc j) a m h =
    let lower : (a + 256 * m) / 256 ≡ m = omega arith in
    let power = 256 ^ suc j in
    ap (λ p. (a + 256 * m) / p % 256) (pow-succ' 256 (suc j)) ∙ ap (λ n. n % 256) (sym (div-div-eq-div-mul (a + 256 * m) 256 power)) ∙ ap (λ n. n / power % 256) lower

bytes_above : (size j a m : ℕ) → a < 256 → bytes_low_first (suc j) size (a + 256 * m) ≡ bytes_low_first j size m
bytes_above zero j a m h = refl
bytes_above (suc size) j a m h = rw (byte_above j a m h, bytes_above size (suc j) a m h) refl

-- bytes are those of their number
number_text : (size : ℕ) (l : List ℕ) → size ≤ length l → ((i : ℕ) → get_or l i 0 < 256) → l ≡ little_bytes size (little_number size l) ++ drop size l
number_text zero l h b = refl
number_text (suc size) [] h b = absurd (omega arith)
number_text (suc size) (a ∷ l) h b =
    let m = little_from 0 size l in
    let first : byte_at 0 (a + 256 * m) ≡ a = let small : a < 256 = b 0 in omega arith in
    ap (λ t. a ∷ t) (number_text size l (omega arith) (λ i. b (suc i)))
    ∙ ap (λ t. a ∷ t ++ drop size l) (sym (bytes_above size 0 a m (b 0)))
    ∙ ap (λ x. x ∷ bytes_low_first 1 size (a + 256 * m) ++ drop size l) (sym first)
    ∙ ap (λ n. bytes_low_first 0 (suc size) (a + 256 * n) ++ drop size l) (sym (little_from-cons 0 size a l))

magnitude : ℤ → ℕ
magnitude (pos n) = n
magnitude (negsuc n) = n

-- no other word has the difference of these codes
zigzag_only : (before code word : ℕ) → pos code ≡ pos before +ℤ difference word → word ≡ zigzag before code
unfolding magnitude
zigzag_only before code word e = elim (cases_lt (word % 2) 1) [
  | inl even ↦
      let test : (word % 2 == 0) ≡ true = even_test (word % 2) even in
      let more : code ≡ before + word / 2 = ap magnitude (e ∙ ap (λ b. pos before +ℤ cond b (pos (word / 2)) (negsuc (word / 2))) test) in
      let up : nat_le before code ≡ true = grind (arith, nat_tests) in
      rw up (omega arith)
  | inr odd ↦
      let test : (word % 2 == 0) ≡ false = odd_test (word % 2) odd in
      let code_is = fallen code before (word / 2) (e ∙ ap (λ b. pos before +ℤ cond b (pos (word / 2)) (negsuc (word / 2))) test) in
      let down : nat_le before code ≡ false = code_below before code (word / 2) code_is in
      rw down (omega (arith, code_is))
]
  where
    even_test : (n : ℕ) → n < 1 → (n == 0) ≡ true
    even_test n h = grind (arith, nat_tests)

    odd_test : (n : ℕ) → 1 ≤ n → (n == 0) ≡ false
    odd_test n h = grind (arith, nat_tests)

    of_test : (b : Bool) (code m n : ℕ) → pos code ≡ cond b (negsuc m) (pos n) → (b ≡ false) × (code ≡ n)
    of_test true code m n e = cc
    of_test false code m n e = (refl, cc)

    fallen : (code before half : ℕ) → pos code ≡ pos before +ℤ negsuc half → code + suc half ≡ before
    fallen code before half e =
        let known = of_test (nat_lt before (suc half)) code (suc half - suc before) (before - suc half) e in
        grind (arith, nat_tests, known)

    code_below : (before code half : ℕ) → code + suc half ≡ before → nat_le before code ≡ false
    code_below before code half e = grind (arith, nat_tests)

module _ (bytes : List ℕ) (are : AreBytes bytes) where
  pub number_spelled : (size at : ℕ) → at + size ≤ length bytes → Spells bytes at (at + size) (little_bytes size (number_at size bytes at))
  unfolding number_at
  number_spelled size at fits =
      number_text size (drop at bytes) (omega (arith, fits, length-drop at bytes)) (λ i. rw get_or-drop (are (at + i)))
      ∙ ap (λ r. little_bytes size (little_number size (drop at bytes)) ++ r) (drop-drop size at bytes)

  -- a number that is known
  pub known_spelled : (size at n : ℕ) → at + size ≤ length bytes → number_at size bytes at ≡ n → Spells bytes at (at + size) (little_bytes size n)
  known_spelled size at n fits e = number_spelled size at fits ∙ ap (λ m. little_bytes size m ++ drop (at + size) bytes) e

  pub point_spelled : (at : ℕ) → at + 24 ≤ length bytes → Spells bytes at (at + 24) (point_text (point_at bytes at))
  point_spelled at fits =
      let sixteen : at + 8 + 8 ≡ at + 16 = omega arith in
      let all : at + 16 + 8 ≡ at + 24 = omega arith in
      let first = little_bytes 8 (number_at 8 bytes at) in
      let second = little_bytes 8 (number_at 8 bytes (at + 8)) in
      let third = little_bytes 8 (number_at 8 bytes (at + 16)) in
      number_spelled 8 at (omega (arith, fits))
      ∙ ap (λ l. first ++ l) (number_spelled 8 (at + 8) (omega (arith, fits)) ∙ ap (λ n. second ++ drop n bytes) sixteen
      ∙ ap (λ l. second ++ l) (number_spelled 8 (at + 16) (omega (arith, fits)) ∙ ap (λ n. third ++ drop n bytes) all))

  pub zeros_spelled : (count at : ℕ) → at + count ≤ length bytes → ((place : ℕ) → at ≤ place → place < at + count → slice_index bytes place ≡ 0) → Spells bytes at (at + count) (replicate count 0)
  zeros_spelled zero at fits zeros = let same : at ≡ at + 0 = omega arith in ap (λ n. drop n bytes) same
  zeros_spelled (suc count) at fits zeros =
      let later : at + 1 + count ≡ at + suc count = omega arith in
      drop_more bytes at 0 (omega (arith, fits))
      ∙ ap (λ x. x ∷ drop (at + 1) bytes) (zeros at (omega arith) (omega arith))
      ∙ ap (λ l. 0 ∷ l) (zeros_spelled count (at + 1) (omega (arith, fits)) (λ place from to. zeros place (omega (arith, from)) (omega (arith, to))))
      ∙ ap (λ n. 0 ∷ replicate count 0 ++ drop n bytes) later

  -- ---- arrays
  words_spelled : (codes : List ℕ) (before at : ℕ) → at + 2 * length codes ≤ length bytes
      → ((k : ℕ) → k < length codes → pos (get_or codes k 0) ≡ pos (get_or (before ∷ codes) k 0) +ℤ difference (number_at 2 bytes (at + 2 * k)))
      → Spells bytes at (at + 2 * length codes) (array_text before codes)
  words_spelled [] before at fits has = let same : at ≡ at + 0 = omega arith in ap (λ n. drop n bytes) same
  words_spelled (code ∷ codes) before at fits has =
      let same : at + 2 * 0 ≡ at = omega arith in
      let word = zigzag_only before code (number_at 2 bytes at) (has 0 (omega arith) ∙ ap (λ n. pos before +ℤ difference (number_at 2 bytes n)) same) in
      let later = words_spelled codes code (at + 2) (omega (arith, fits)) (λ k h.
      let place : at + 2 * suc k ≡ at + 2 + 2 * k = omega arith in
      has (suc k) (omega (arith, h)) ∙ ap (λ n. pos (get_or (code ∷ codes) k 0) +ℤ difference (number_at 2 bytes n)) place) in
      let end : at + 2 + 2 * length codes ≡ at + 2 * length (code ∷ codes) = omega arith in
      both bytes at (at + 2) (at + 2 * length (code ∷ codes)) (little_bytes 2 (zigzag before code)) (array_text code codes)
      (known_spelled 2 at (zigzag before code) (omega (arith, fits)) word)
      (later ∙ ap (λ n. array_text code codes ++ drop n bytes) end)

  pub array_spelled : (codes : List ℕ) (at : ℕ) → at + 2 * length codes ≤ length bytes → HasCodes bytes at codes → Spells bytes at (at + 2 * length codes) (array_text 0 codes)
  array_spelled codes at fits has = words_spelled codes 0 at fits has

  -- ---- indexes
  marks_spelled : (width : ℕ) (indexes : List ℕ) (mark at : ℕ) → at + width * length indexes ≤ length bytes
      → ((k : ℕ) → k < length indexes → get_or indexes k 0 + entry_at width bytes at k ≡ mark + mark_at width bytes at k)
      → Spells bytes at (at + width * length indexes) (indexes_text width mark indexes)
  marks_spelled width [] mark at fits has = let same : at ≡ at + width * 0 = omega arith in ap (λ n. drop n bytes) same
  marks_spelled width (index ∷ indexes) mark at fits has =
      let next = mark_after mark index in
      let same : at + width * 0 ≡ at = omega arith in
      let here : index + entry_at width bytes at 0 ≡ mark = has 0 (omega arith) ∙ ap (λ n. mark + n) (mark_none width bytes at) ∙ no_more mark in
      let code : number_at width bytes at ≡ mark - index = sym (ap (number_at width bytes) same) ∙ less index (entry_at width bytes at 0) mark here in
      let step : mark + cond (entry_at width bytes at 0 == 0) 1 0 ≡ next = next_is mark index (entry_at width bytes at 0) here in
      let whole : at + width + width * length indexes ≡ at + width * length (index ∷ indexes) = omega arith in
      let later = marks_spelled width indexes next (at + width) (omega (arith, fits, whole)) (λ k h.
      let place : at + width * suc k ≡ at + width + width * k = omega arith in
      let moved = ap (number_at width bytes) place in
      omega (arith, has (suc k) (omega (arith, h)), moved, mark_front width bytes at k, step)) in
      both bytes at (at + width) (at + width * length (index ∷ indexes)) (little_bytes width (mark - index)) (indexes_text width next indexes)
      (known_spelled width at (mark - index) (omega (arith, fits, whole)) code)
      (later ∙ ap (λ n. indexes_text width next indexes ++ drop n bytes) whole)
    where
      no_more : (n : ℕ) → n + 0 ≡ n
      no_more n = omega arith

      less : (index code mark : ℕ) → index + code ≡ mark → code ≡ mark - index
      less index code mark e = omega arith

      next_is : (mark index code : ℕ) → index + code ≡ mark → mark + cond (code == 0) 1 0 ≡ mark_after mark index
      next_is mark index code e = grind (arith, nat_tests)

  pub indexes_spelled : (width : ℕ) (indexes : List ℕ) (at : ℕ) → at + width * length indexes ≤ length bytes → HasIndexes width bytes at indexes → Spells bytes at (at + width * length indexes) (indexes_text width 0 indexes)
  indexes_spelled width indexes at fits has = marks_spelled width indexes 0 at fits (λ k h. has k h ∙ none_more (mark_at width bytes at k))
    where
      none_more : (n : ℕ) → n ≡ 0 + n
      none_more n = omega arith

  -- ---- edges
  entries_spelled : (width : ℕ) (list : List ℕ) (at : ℕ) → at + width * length list ≤ length bytes → HasEntries width bytes at list → Spells bytes at (at + width * length list) (flat_map (little_bytes width) list)
  entries_spelled width [] at fits has = let same : at ≡ at + width * 0 = omega arith in ap (λ n. drop n bytes) same
  entries_spelled width (x ∷ xs) at fits has =
      let same : at + width * 0 ≡ at = omega arith in
      let whole : at + width + width * length xs ≡ at + width * length (x ∷ xs) = omega arith in
      let later = entries_spelled width xs (at + width) (omega (arith, fits, whole)) (λ k h.
      let place : at + width * suc k ≡ at + width + width * k = omega arith in
      has (suc k) (omega (arith, h)) ∙ ap (number_at width bytes) place) in
      both bytes at (at + width) (at + width * length (x ∷ xs)) (little_bytes width x) (flat_map (little_bytes width) xs)
      (known_spelled width at x (omega (arith, fits, whole)) (sym (has 0 (omega arith) ∙ ap (number_at width bytes) same)))
      (later ∙ ap (λ n. flat_map (little_bytes width) xs ++ drop n bytes) whole)

  pub list_spelled : (width : ℕ) (list : List ℕ) (at : ℕ) → list_end width bytes at ≤ length bytes → number_at 4 bytes at ≡ length list → HasEntries width bytes (at + 4) list → Spells bytes at (list_end width bytes at) (edge_text width list)
  unfolding list_end
  list_spelled width list at fits count has =
      let end : at + 4 + width * number_at 4 bytes at ≡ at + 4 + width * length list = ap (λ n. at + 4 + width * n) count in
      both bytes at (at + 4) (at + 4 + width * number_at 4 bytes at) (little_bytes 4 (length list)) (flat_map (little_bytes width) list)
      (known_spelled 4 at (length list) (omega (arith, fits)) count)
      (entries_spelled width list (at + 4) (omega (arith, fits, end)) has ∙ ap (λ n. flat_map (little_bytes width) list ++ drop n bytes) (sym end))
