-- Manifests of version 3 as manifests of any version.
use Rattle.std.specs.Prelude.{◌≡◌, ◌≢◌, ◌↔◌, ℕ, Bool, true, false, not, List, [], ◌∷◌, Some, IsTrue, Contains, refl}
use Rattle.std.specs.declared.cmp.Ordering.{Ordering}
use Rattle.std.specs.declared.cmp.Ordering.TheVariants.{Less, Equal, Greater}
use Rattle.std.specs.List.{AllByRecursion, list_any}
use Rattle.std.specs.Ordering.{eq_by_cmp, is_eq}
use Rattle.std.proofs.Common.{ap}
use Rattle.std.proofs.lemmas.Cmp.{eq_by_cmp_equiv}
use Rattle.std.proofs.lemmas.Map.Views.{list_any-from_Contains, Contains-from_any}
use Rattle.terrain_base.specs.declared.cell_key.CellKey.{CellKey}
use Rattle.terrain_base.specs.declared.params.Params.{Params}
use Rattle.terrain_base.specs.CellKey.{key_cmp, keys_total}
use Rattle.terrain_base.proofs.KeyOrder.{keys_exact}
use Rattle.manifest_lines.specs.declared.state.State.TheVariants.{Closed, Put, Drop, Rebuild}
use Rattle.manifest_lines.specs.declared.version.Version.TheVariants.{Three}
use Rattle.manifest_lines.specs.KeyRow.{key_grammar, key_sound}
use Rattle.manifest_lines.specs.Version.{version_in}
use Rattle.manifest_lines.specs.Manifest as lines
use Rattle.manifest_lines.specs.Reading as reading
use Rattle.manifest_lines.specs.declared.refusal.ManifestRefusal.{ManifestRefusal}
use Rattle.manifest_lines.specs.declared.refusal.ManifestRefusal.TheVariants.{NotADatabase, NoMemory}
use Rattle.manifest_lines.proofs.Versions.{text_version}
use Rattle.manifest_lines.proofs.Readers.{one_text, refused_is_none}
use Rattle.db_manifest.specs.Manifest.{ManifestState, IsManifest, IsBadLine, contents_of, fits_rows, manifest_text}
use Rattle.db_manifest.specs.Reading.{IsTextOf, IsRefusedBy}

-- ---- a key among the rows

equal_of : (o : Ordering) → is_eq o ≡ true → o ≡ Equal
equal_of Less e = absurd (cc)
equal_of Equal e = refl
equal_of Greater e = absurd (cc)

same_key : (a b : CellKey) → eq_by_cmp key_cmp a b ≡ true → a ≡ b
same_key a b e = keys_exact a b (equal_of (key_cmp a b) e)

found : (key : CellKey) (rows : List CellKey) → Contains rows key → list_any (eq_by_cmp key_cmp key) rows ≡ true
found key rows among = list_any-from_Contains (eq_by_cmp_equiv keys_total) key rows among

among_of : (key : CellKey) (rows : List CellKey) → list_any (eq_by_cmp key_cmp key) rows ≡ true → Contains rows key
among_of key rows e = Contains-from_any same_key key rows e

not_true : (b : Bool) → (b ≡ true → ⊥) → not b ≡ true
not_true true never = absurd (never refl)
not_true false _ = refl

not_both : (b : Bool) → not b ≡ true → b ≡ true → ⊥
not_both true e f = absurd (cc)
not_both false e f = absurd (cc)

pub fits_by : (state : ManifestState) (rows : List CellKey) → (fits_rows state rows ≡ true) ↔ lines.Fits state rows
fits_by Closed rows = (λ e. tt, λ f. refl)
fits_by (Put key) rows = (among_of key rows, found key rows)
fits_by (Drop key) rows =
    (λ e among. not_both _ e (found key rows among), λ none. not_true _ (λ e. none (among_of key rows e)))
fits_by Rebuild rows = (λ e. tt, λ f. refl)

-- ---- good manifests

all_suit : (rows : List CellKey) → AllByRecursion (λ r. IsTrue (key_grammar.suits Three r)) rows
all_suit [] = tt
all_suit (row ∷ rows) = (refl, all_suit rows)

state_suits : (state : ManifestState) → lines.IsStateOf key_grammar Three state
state_suits Closed = tt
state_suits (Put key) = refl
state_suits (Drop key) = refl
state_suits Rebuild = tt

-- of version 3, and of any
pub as_any : {params : Params} {state : ManifestState} {rows : List CellKey} → IsManifest params state rows → lines.IsManifest key_grammar Three (contents_of params state rows)
as_any {params} {state} {rows} good = record {
  lines = record { state = state_suits state; rows = (good.ascend, all_suit rows); few = good.few };
  fits = (fits_by state rows).0 good.fits;
}

pub as_third : {params : Params} {state : ManifestState} {rows : List CellKey} → lines.IsManifest key_grammar Three (contents_of params state rows) → IsManifest params state rows
as_third {params} {state} {rows} good = record {
  ascend = good.lines.rows.0;
  few = good.lines.few;
  fits = (fits_by state rows).1 good.fits;
}

-- ---- what the laws say

pub version_is : (params : Params) (state : ManifestState) (rows : List CellKey) → version_in (manifest_text params state rows) ≡ Some 3
unfolding manifest_text
version_is params state rows = text_version key_grammar Three (contents_of params state rows)

pub differ : (p q : Params) (s t : ManifestState) (a b : List CellKey) → IsManifest p s a → IsManifest q t b → manifest_text p s a ≡ manifest_text q t b
    → (p ≡ q) × ((s ≡ t) × (a ≡ b))
unfolding manifest_text
differ p q s t a b good other e =
    let same = one_text key_grammar key_sound Three (contents_of p s a) (contents_of q t b) (as_any good).lines (as_any other).lines e in
    (ap (λ m. m.params) same, (ap (λ m. m.state) same, ap (λ m. m.rows) same))

pub none_of : (bytes : List ℕ) (line : ℕ) → IsBadLine line bytes → (params : Params) (state : ManifestState) (rows : List CellKey) → IsManifest params state rows
    → bytes ≢ manifest_text params state rows
unfolding manifest_text
none_of bytes line bad params state rows good e = refused_is_none key_grammar key_sound Three bytes line bad (contents_of params state rows) (as_any good) e

-- ---- what the reader tells

pub text_third : (bytes : List ℕ) (params : Params) (state : ManifestState) (rows : List CellKey) → reading.IsTextOf key_grammar Three bytes (contents_of params state rows)
    → IsTextOf bytes params state rows
unfolding manifest_text
text_third bytes params state rows is = record {
  text = is.text;
  good = as_third is.good;
  only = λ p s keys good e.
      (let same = is.only (contents_of p s keys) (as_any good) e in
      (ap (λ m. m.params) same, (ap (λ m. m.state) same, ap (λ m. m.rows) same)));
}

pub refused_third : (bytes : List ℕ) (refusal : ManifestRefusal) → reading.IsRefusedBy key_grammar Three bytes refusal → IsRefusedBy bytes refusal
refused_third bytes (NotADatabase line) bad = bad
refused_third bytes NoMemory bad = tt
