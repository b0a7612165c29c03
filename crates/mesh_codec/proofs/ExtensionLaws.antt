-- Extensions against their spelling.
use Rattle.std.proofs.Common.{◌≡◌, ℕ, zero, suc, ◌+◌, ◌-◌, ◌<◌, ◌≤◌, true, false, cond, nat_lt, List, [], ◌∷◌, ◌++◌, length, take, drop, get_or, slice_index, slice_range, None, All, inl, inr, refl, sym, ap, ◌∙◌, arith, append_assoc}
use Rattle.std.specs.List.{flat_map}
use Rattle.std.specs.Option.{option_or}
use Rattle.std.proofs.lemmas.List.{drop_more, drop_all, drop-drop, drop_at, take_at, length-drop, length-take, take-append-drop, length-append, get_or-drop}
use Rattle.std.proofs.lemmas.List.Elements.{All-cons, All-nil, All-head, All-tail}
use Rattle.std.proofs.lemmas.Bool.{cases_lt}
use Rattle.std.proofs.lemmas.Bool.Decides.{nat_tests}
use Rattle.common_laws.specs.First.{◌when◌, first_of}
use Rattle.common_laws.proofs.First.{neither}
use Rattle.byteorder.specs.Endian.{little_bytes}
use Rattle.mesh_codec.specs.declared.refusal.TileRefusal.{TileRefusal}
use Rattle.mesh_codec.specs.declared.refusal.TileRefusal.TheVariants.{ExtensionTruncated}
use Rattle.mesh_codec.specs.Number.{number_at, AreBytes}
use Rattle.mesh_codec.specs.Extension.{ExtensionData, IsExtension, extension_text, extension_end, extension_at, some_extensions, extensions_from}
use Rattle.mesh_codec.specs.Refusal.{some_extension_conditions, extension_conditions}
use Rattle.mesh_codec.proofs.Numbers.{number_small, number_here, four_here}
use Rattle.mesh_codec.proofs.ExtensionSteps.{end_beyond}

below : (m n : ℕ) → m < n → nat_lt m n ≡ true
below m n h = grind (arith, nat_tests)

not_below : (m n : ℕ) → n ≤ m → nat_lt m n ≡ false
not_below m n h = grind (arith, nat_tests)

fits_by : (r : TileRefusal) (size end : ℕ) → (r when nat_lt size end) ≡ None → end ≤ size
fits_by r size end e = grind (arith, nat_tests)

-- the bytes of an extension
bytes_length : (bytes : List ℕ) (at : ℕ) → extension_end bytes at ≤ length bytes → length (slice_range bytes (at + 5) (extension_end bytes at)) ≡ number_at 4 bytes (at + 1)
unfolding extension_end
bytes_length bytes at fits =
    let size : at + 5 + number_at 4 bytes (at + 1) - (at + 5) ≡ number_at 4 bytes (at + 1) = omega arith in
    rw (size, length-take, length-drop) (omega arith)

one_text : (bytes : List ℕ) (at : ℕ) → AreBytes bytes → at < length bytes → extension_end bytes at ≤ length bytes → drop at bytes ≡ extension_text (extension_at bytes at) ++ drop (extension_end bytes at) bytes
one_text bytes at are h fits =
    let beyond = end_beyond bytes at in
    let long : at + 1 + 4 ≤ length bytes = omega (arith, beyond, fits) in
    let end = extension_end bytes at in
    let body = slice_range bytes (at + 5) end in
    let five : at + 1 + 4 ≡ at + 5 = omega arith in
    let last : at + 5 + (end - (at + 5)) ≡ end = omega (arith, beyond) in
    let rest : drop (at + 5) bytes ≡ body ++ drop end bytes = sym (take-append-drop (end - (at + 5)) (drop (at + 5) bytes)) ∙ ap (λ r. body ++ r) (drop-drop (end - (at + 5)) (at + 5) bytes ∙ ap (λ n. drop n bytes) last) in
    drop_more bytes at 0 h
    ∙ ap (λ l. slice_index bytes at ∷ l) (four_here bytes (at + 1) are long ∙ ap (λ n. little_bytes 4 (number_at 4 bytes (at + 1)) ++ drop n bytes) five
    ∙ ap (λ l. little_bytes 4 (number_at 4 bytes (at + 1)) ++ l) rest
    ∙ sym (append_assoc (little_bytes 4 (number_at 4 bytes (at + 1))) body (drop end bytes))
    ∙ ap (λ n. (little_bytes 4 n ++ body) ++ drop end bytes) (sym (bytes_length bytes at fits)))

-- what gets no refusal is spelled by its extensions
text_from : (n : ℕ) (bytes : List ℕ) (at : ℕ) → AreBytes bytes → length bytes - at ≤ n → first_of (some_extension_conditions n bytes at) ≡ None → drop at bytes ≡ flat_map extension_text (some_extensions n bytes at)
text_from zero bytes at are l e = drop_all at bytes (omega arith)
text_from (suc n) bytes at are l e = elim (cases_lt at (length bytes)) [
  | inl early ↦
      let end = extension_end bytes at in
      let here = (ExtensionTruncated at when nat_lt (length bytes) end) in
      let opened = ap (λ b. first_of (cond b (here ∷ some_extension_conditions n bytes end) [])) (sym (below at (length bytes) early)) ∙ e in
      let both = neither here (first_of (some_extension_conditions n bytes end)) opened in
      let fits = fits_by (ExtensionTruncated at) (length bytes) end both.0 in
      let later = text_from n bytes end are (omega (arith, end_beyond bytes at)) both.1 in
      one_text bytes at are early fits ∙ ap (λ r. extension_text (extension_at bytes at) ++ r) later
      ∙ ap (λ b. flat_map extension_text (cond b (extension_at bytes at ∷ some_extensions n bytes end) [])) (sym (below at (length bytes) early))
  | inr late ↦ drop_all at bytes late ∙ ap (λ b. flat_map extension_text (cond b (extension_at bytes at ∷ some_extensions n bytes (extension_end bytes at)) [])) (sym (not_below at (length bytes) late))
]

pub extensions_text : (bytes : List ℕ) (at : ℕ) → AreBytes bytes → first_of (extension_conditions bytes at) ≡ None → drop at bytes ≡ flat_map extension_text (extensions_from bytes at)
unfolding extension_conditions extensions_from
extensions_text bytes at are e = text_from (length bytes) bytes at are (omega arith) e

-- each of them has a spelling
each_from : (n : ℕ) (bytes : List ℕ) (at : ℕ) → AreBytes bytes → first_of (some_extension_conditions n bytes at) ≡ None → All IsExtension (some_extensions n bytes at)
each_from zero bytes at are e = All-nil IsExtension
each_from (suc n) bytes at are e = elim (cases_lt at (length bytes)) [
  | inl early ↦
      let end = extension_end bytes at in
      let here = (ExtensionTruncated at when nat_lt (length bytes) end) in
      let opened = ap (λ b. first_of (cond b (here ∷ some_extension_conditions n bytes end) [])) (sym (below at (length bytes) early)) ∙ e in
      let both = neither here (first_of (some_extension_conditions n bytes end)) opened in
      let fits = fits_by (ExtensionTruncated at) (length bytes) end both.0 in
      rw (below at (length bytes) early) (All-cons IsExtension (extension_at bytes at) (some_extensions n bytes end)
      (record { id = are at; few = omega (arith, bytes_length bytes at fits, number_small 4 bytes (at + 1) are) }) (each_from n bytes end are both.1))
  | inr late ↦ rw (not_below at (length bytes) late) (All-nil IsExtension)
]

pub are_extensions : (bytes : List ℕ) (at : ℕ) → AreBytes bytes → first_of (extension_conditions bytes at) ≡ None → All IsExtension (extensions_from bytes at)
unfolding extension_conditions extensions_from
are_extensions bytes at are e = each_from (length bytes) bytes at are e

-- ---- what is spelled by extensions gets no refusal, and they are those
record Only (n : ℕ) (bytes : List ℕ) (at : ℕ) (extensions : List ExtensionData) : Type 0 where
  same : extensions ≡ some_extensions n bytes at
  none : first_of (some_extension_conditions n bytes at) ≡ None

length_of : (bytes : List ℕ) (at : ℕ) (l : List ℕ) → drop at bytes ≡ l → length l ≡ length bytes - at
length_of bytes at l e = omega (arith, ap length e, length-drop at bytes)

end_by : (bytes : List ℕ) (at size : ℕ) → number_at 4 bytes (at + 1) ≡ size → extension_end bytes at ≡ at + 5 + size
unfolding extension_end
end_by bytes at size e = ap (λ n. at + 5 + n) e

-- an extension is known by its parts
same_parts : (x : ExtensionData) (id : ℕ) (bytes : List ℕ) → id ≡ x.id → bytes ≡ x.bytes → x ≡ record { id = id; bytes = bytes }
same_parts x id bytes same_id same_bytes = rw (same_id, same_bytes) refl

only_from : (extensions : List ExtensionData) (n : ℕ) (bytes : List ℕ) (at : ℕ) → length bytes - at ≤ n → drop at bytes ≡ flat_map extension_text extensions → All IsExtension extensions → Only n bytes at extensions
only_from [] zero bytes at l e all = record { same = refl; none = refl }
only_from [] (suc n) bytes at l e all =
    let late = not_below at (length bytes) (omega (arith, length_of bytes at [] e)) in
    record { same = rw late refl; none = rw late refl }
only_from (x ∷ xs) zero bytes at l e all = absurd (omega (arith, length_of bytes at (flat_map extension_text (x ∷ xs)) e))
only_from (x ∷ xs) (suc n) bytes at l e all =
    let good = All-head IsExtension x xs all in
    let size = length x.bytes in
    let rest = flat_map extension_text xs in
    let total = length_of bytes at (flat_map extension_text (x ∷ xs)) e in
    let early : at < length bytes = omega (arith, total) in
    let grouped : (little_bytes 4 size ++ x.bytes) ++ rest ≡ little_bytes 4 size ++ (x.bytes ++ rest) = append_assoc (little_bytes 4 size) x.bytes rest in
    let parts : drop at bytes ≡ x.id ∷ (little_bytes 4 size ++ (x.bytes ++ rest)) = e ∙ ap (λ l. x.id ∷ l) grouped in
    let first : slice_index bytes at ≡ x.id = sym (ap (λ n. get_or bytes n 0) (add_zero at)) ∙ sym (get_or-drop at bytes 0 0) ∙ ap (λ l. get_or l 0 0) parts in
    let second : drop (at + 1) bytes ≡ little_bytes 4 size ++ (x.bytes ++ rest) = sym (drop-drop 1 at bytes) ∙ ap (drop 1) parts in
    let count : number_at 4 bytes (at + 1) ≡ size = number_here 4 bytes (at + 1) size (x.bytes ++ rest) second good.few in
    let five : at + 1 + 4 ≡ at + 5 = omega arith in
    let third : drop (at + 5) bytes ≡ x.bytes ++ rest = sym (ap (λ n. drop n bytes) five) ∙ sym (drop-drop 4 (at + 1) bytes) ∙ ap (drop 4) second in
    let end : extension_end bytes at ≡ at + 5 + size = end_by bytes at size count in
    let fourth : drop (extension_end bytes at) bytes ≡ rest = ap (λ n. drop n bytes) end ∙ sym (drop-drop size (at + 5) bytes) ∙ ap (drop size) third ∙ drop_at x.bytes rest size refl in
    let width : extension_end bytes at - (at + 5) ≡ size = omega (arith, end) in
    let body : slice_range bytes (at + 5) (extension_end bytes at) ≡ x.bytes = ap (λ n. take n (drop (at + 5) bytes)) width ∙ ap (take size) third ∙ take_at x.bytes rest size refl in
    let later = only_from xs n bytes (extension_end bytes at) (omega (arith, end)) fourth (All-tail IsExtension x xs all) in
    let whole : x ≡ extension_at bytes at = same_parts x (slice_index bytes at) (slice_range bytes (at + 5) (extension_end bytes at)) first body in
    let inside : extension_end bytes at ≤ length bytes = omega (arith, end, total, length-append x.bytes rest, length-append (little_bytes 4 size ++ x.bytes) rest, length-append (little_bytes 4 size) x.bytes) in
    record {
      same = ap (λ y. y ∷ xs) whole ∙ ap (λ l. extension_at bytes at ∷ l) later.same ∙ ap (λ b. cond b (extension_at bytes at ∷ some_extensions n bytes (extension_end bytes at)) []) (sym (below at (length bytes) early));
      none = ap (λ b. first_of (cond b ((ExtensionTruncated at when nat_lt (length bytes) (extension_end bytes at)) ∷ some_extension_conditions n bytes (extension_end bytes at)) [])) (below at (length bytes) early)
          ∙ ap (λ b. option_or (ExtensionTruncated at when b) (first_of (some_extension_conditions n bytes (extension_end bytes at)))) (not_below (length bytes) (extension_end bytes at) inside) ∙ later.none;
    }
  where
    add_zero : (n : ℕ) → n + 0 ≡ n
    add_zero n = omega arith

pub only_extensions : (bytes : List ℕ) (at : ℕ) (extensions : List ExtensionData) → drop at bytes ≡ flat_map extension_text extensions → All IsExtension extensions
    → (extensions ≡ extensions_from bytes at) × (first_of (extension_conditions bytes at) ≡ None)
unfolding extension_conditions extensions_from
only_extensions bytes at extensions e all = let only = only_from extensions (length bytes) bytes at (omega arith) e all in (only.same, only.none)
