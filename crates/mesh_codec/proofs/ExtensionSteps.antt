-- Extensions, one after the other.
use Rattle.std.proofs.Common.{◌≡◌, ℕ, zero, suc, ◌+◌, ◌-◌, ◌<◌, ◌≤◌, true, false, cond, nat_lt, List, [], ◌∷◌, length, Option, Some, None, is_some, inl, inr, refl, sym, ap, ◌∙◌, arith}
use Rattle.std.specs.Option.{option_or}
use Rattle.std.proofs.lemmas.Bool.{cases_lt}
use Rattle.std.proofs.lemmas.Bool.Decides.{nat_tests}
use Rattle.common_laws.specs.First.{◌when◌, first_of}
use Rattle.mesh_codec.specs.declared.refusal.TileRefusal.TheVariants.{ExtensionTruncated}
use Rattle.mesh_codec.specs.Extension.{extension_end, extension_at, some_extensions, extensions_from}
use Rattle.mesh_codec.specs.Refusal.{some_extension_conditions, extension_conditions}

pub end_beyond : (bytes : List ℕ) (at : ℕ) → at + 5 ≤ extension_end bytes at
unfolding extension_end
end_beyond bytes at = omega arith

below : (m n : ℕ) → m < n → nat_lt m n ≡ true
below m n h = grind (arith, nat_tests)

not_below : (m n : ℕ) → n ≤ m → nat_lt m n ≡ false
not_below m n h = grind (arith, nat_tests)

-- no more are looked for than are left
some_same : (m n : ℕ) (bytes : List ℕ) (at : ℕ) → length bytes - at ≤ m → length bytes - at ≤ n → some_extension_conditions m bytes at ≡ some_extension_conditions n bytes at
some_same zero zero bytes at p q = refl
some_same zero (suc n) bytes at p q = rw (not_below at (length bytes) (omega arith)) refl
some_same (suc m) zero bytes at p q = rw (not_below at (length bytes) (omega arith)) refl
some_same (suc m) (suc n) bytes at p q =
    ap (λ l. cond (nat_lt at (length bytes)) ((ExtensionTruncated at when nat_lt (length bytes) (extension_end bytes at)) ∷ l) [])
    (some_same m n bytes (extension_end bytes at) (omega (arith, end_beyond bytes at)) (omega (arith, end_beyond bytes at)))

conditions_step : (n : ℕ) (bytes : List ℕ) (at : ℕ) → length bytes ≤ n → at < length bytes
    → some_extension_conditions n bytes at ≡ (ExtensionTruncated at when nat_lt (length bytes) (extension_end bytes at)) ∷ some_extension_conditions n bytes (extension_end bytes at)
conditions_step zero bytes at e h = absurd (omega arith)
conditions_step (suc n) bytes at e h =
    let here = (ExtensionTruncated at when nat_lt (length bytes) (extension_end bytes at)) in
    ap (λ b. cond b (here ∷ some_extension_conditions n bytes (extension_end bytes at)) []) (below at (length bytes) h)
    ∙ ap (λ l. here ∷ l) (some_same n (suc n) bytes (extension_end bytes at) (omega (arith, end_beyond bytes at)) (omega (arith, end_beyond bytes at)))

pub conditions_next : (bytes : List ℕ) (at : ℕ) → at < length bytes → extension_end bytes at ≤ length bytes → first_of (extension_conditions bytes (extension_end bytes at)) ≡ first_of (extension_conditions bytes at)
unfolding extension_conditions
conditions_next bytes at h fits =
    sym (ap first_of (conditions_step (length bytes) bytes at (omega arith) h)
    ∙ ap (λ b. option_or (ExtensionTruncated at when b) (first_of (some_extension_conditions (length bytes) bytes (extension_end bytes at)))) (not_below (length bytes) (extension_end bytes at) fits))

pub conditions_found : (bytes : List ℕ) (at : ℕ) → at < length bytes → length bytes < extension_end bytes at → first_of (extension_conditions bytes at) ≡ Some (ExtensionTruncated at)
unfolding extension_conditions
conditions_found bytes at h beyond =
    ap first_of (conditions_step (length bytes) bytes at (omega arith) h)
    ∙ ap (λ b. option_or (ExtensionTruncated at when b) (first_of (some_extension_conditions (length bytes) bytes (extension_end bytes at)))) (below (length bytes) (extension_end bytes at) beyond)

none_left : (n : ℕ) (bytes : List ℕ) (at : ℕ) → length bytes ≤ at → some_extension_conditions n bytes at ≡ []
none_left zero bytes at h = refl
none_left (suc n) bytes at h = rw (not_below at (length bytes) h) refl

pub conditions_none : (bytes : List ℕ) (at : ℕ) → length bytes ≤ at → first_of (extension_conditions bytes at) ≡ None
unfolding extension_conditions
conditions_none bytes at h = ap first_of (none_left (length bytes) bytes at h)

pub end_is : (size last end : ℕ) → Some end ≡ cond (nat_lt size last) None (Some last) → (end ≡ last) × (last ≤ size)
end_is size last end e = grind (arith, nat_tests)

-- where no refusal stands, the extension at an offset fits
pub extension_fits : (bytes : List ℕ) (at : ℕ) → at < length bytes → first_of (extension_conditions bytes at) ≡ None → extension_end bytes at ≤ length bytes
extension_fits bytes at h none = elim (cases_lt (length bytes) (extension_end bytes at)) [
  | inl beyond ↦ let found = sym none ∙ conditions_found bytes at h beyond in cc
  | inr fits ↦ fits
]

pub end_some : (size last : ℕ) (end : Option ℕ) → end ≡ cond (nat_lt size last) None (Some last) → last ≤ size → is_some end ≡ true
end_some size last end e h = rw (e, not_below size last h) refl

some_extensions_same : (m n : ℕ) (bytes : List ℕ) (at : ℕ) → length bytes - at ≤ m → length bytes - at ≤ n → some_extensions m bytes at ≡ some_extensions n bytes at
some_extensions_same zero zero bytes at p q = refl
some_extensions_same zero (suc n) bytes at p q = rw (not_below at (length bytes) (omega arith)) refl
some_extensions_same (suc m) zero bytes at p q = rw (not_below at (length bytes) (omega arith)) refl
some_extensions_same (suc m) (suc n) bytes at p q =
    ap (λ l. cond (nat_lt at (length bytes)) (extension_at bytes at ∷ l) [])
    (some_extensions_same m n bytes (extension_end bytes at) (omega (arith, end_beyond bytes at)) (omega (arith, end_beyond bytes at)))

some_extensions_step : (n : ℕ) (bytes : List ℕ) (at : ℕ) → length bytes ≤ n → at < length bytes
    → some_extensions n bytes at ≡ extension_at bytes at ∷ some_extensions n bytes (extension_end bytes at)
some_extensions_step zero bytes at e h = absurd (omega arith)
some_extensions_step (suc n) bytes at e h =
    ap (λ b. cond b (extension_at bytes at ∷ some_extensions n bytes (extension_end bytes at)) []) (below at (length bytes) h)
    ∙ ap (λ l. extension_at bytes at ∷ l) (some_extensions_same n (suc n) bytes (extension_end bytes at) (omega (arith, end_beyond bytes at)) (omega (arith, end_beyond bytes at)))

-- one extension more
pub extensions_step : (bytes : List ℕ) (at : ℕ) → at < length bytes → extensions_from bytes at ≡ extension_at bytes at ∷ extensions_from bytes (extension_end bytes at)
unfolding extensions_from
extensions_step bytes at h = some_extensions_step (length bytes) bytes at (omega arith) h

no_extensions : (n : ℕ) (bytes : List ℕ) (at : ℕ) → length bytes ≤ at → some_extensions n bytes at ≡ []
no_extensions zero bytes at h = refl
no_extensions (suc n) bytes at h = rw (not_below at (length bytes) h) refl

pub extensions_none : (bytes : List ℕ) (at : ℕ) → length bytes ≤ at → extensions_from bytes at ≡ []
unfolding extensions_from
extensions_none bytes at h = no_extensions (length bytes) bytes at h
