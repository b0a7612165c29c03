-- The version that bytes begin with.
use Rattle.std.specs.Prelude.{◌≡◌, ◌++◌, ◌∷◌, [], ℕ, List, Some, Bool, true, false, length, drop, nat_eq, refl}
use Rattle.std.specs.List.{find, starts_with}
use Rattle.std.specs.Option.{option_map}
use Rattle.std.proofs.Common.{ap, sym, ◌∙◌, append_assoc}
use Rattle.std.proofs.lemmas.Slice.Eq.{starts_is}
use Rattle.std.proofs.lemmas.Bool.Decides.{Decides-eqb}
use Rattle.manifest_lines.specs.declared.version.Version.{Version}
use Rattle.manifest_lines.specs.declared.version.Version.TheVariants.{One, Two, Three}
use Rattle.manifest_lines.specs.Version.{all_versions, version_number, version_line, first_line, begins_as, version_in}
use Rattle.manifest_lines.specs.Grammar.{Grammar}
use Rattle.manifest_lines.specs.Manifest.{Contents, manifest_text}

begins_with : (bytes : List ℕ) (v : Version) → begins_as bytes v ≡ true → bytes ≡ first_line v ++ drop (length (first_line v)) bytes
begins_with bytes v e = (starts_is Decides-eqb bytes (first_line v) (begins_as bytes v) refl).0 e

-- a version's first line begins as no other version's does
version_at : (v : Version) (rest : List ℕ) → version_in (first_line v ++ rest) ≡ Some (version_number v)
unfolding version_in
version_at One rest = refl
version_at Two rest = refl
version_at Three rest = refl

-- one of three
abbrev pub chosen : Bool → Bool → Bool → Version → Bool
chosen one two three One = one
chosen one two three Two = two
chosen one two three Three = three

chosen_holds : (one two three : Bool) (v : Version) → option_map version_number (find (chosen one two three) all_versions) ≡ Some (version_number v)
    → chosen one two three v ≡ true
chosen_holds true two three One e = refl
chosen_holds true two three Two e = absurd (cc)
chosen_holds true two three Three e = absurd (cc)
chosen_holds false true three One e = absurd (cc)
chosen_holds false true three Two e = refl
chosen_holds false true three Three e = absurd (cc)
chosen_holds false false true One e = absurd (cc)
chosen_holds false false true Two e = absurd (cc)
chosen_holds false false true Three e = refl
chosen_holds false false false v e = absurd (cc)

-- what a test of the front says, where the line it tests is the version's
pub test_is : (bytes line : List ℕ) (v : Version) (is wanted : Bool) → is ≡ starts_with nat_eq bytes line → line ≡ first_line v → is ≡ wanted → begins_as bytes v ≡ wanted
test_is bytes line v is wanted told same e = ap (starts_with nat_eq bytes) (sym same) ∙ sym told ∙ e

version_begins : (bytes : List ℕ) (v : Version) → version_in bytes ≡ Some (version_number v) → begins_as bytes v ≡ true
unfolding version_in
version_begins bytes One e = chosen_holds (begins_as bytes One) (begins_as bytes Two) (begins_as bytes Three) One e
version_begins bytes Two e = chosen_holds (begins_as bytes One) (begins_as bytes Two) (begins_as bytes Three) Two e
version_begins bytes Three e = chosen_holds (begins_as bytes One) (begins_as bytes Two) (begins_as bytes Three) Three e

-- the version by what the three tests said
pub version_by : (bytes : List ℕ) (one two three : Bool) → begins_as bytes One ≡ one → begins_as bytes Two ≡ two → begins_as bytes Three ≡ three
    → version_in bytes ≡ option_map version_number (find (chosen one two three) all_versions)
unfolding version_in
version_by bytes one two three p q r = λ i. option_map version_number (find (chosen (p i) (q i) (r i)) all_versions)

pub version_of : (bytes : List ℕ) (v : Version) (rest : List ℕ) → bytes ≡ first_line v ++ rest → version_in bytes ≡ Some (version_number v)
version_of bytes v rest e = ap version_in e ∙ version_at v rest

pub first_line_of : (bytes : List ℕ) (v : Version) → version_in bytes ≡ Some (version_number v) → (rest : List ℕ) × (bytes ≡ first_line v ++ rest)
first_line_of bytes v e = (drop (length (first_line v)) bytes, begins_with bytes v (version_begins bytes v e))

pub text_version : {R : Type 0} (g : Grammar R) (v : Version) (m : Contents R) → version_in (manifest_text g v m) ≡ Some (version_number v)
unfolding manifest_text
text_version {R} g v m = version_of (manifest_text g v m) v _ (sym (append_assoc (version_line v) (10 ∷ []) _))
