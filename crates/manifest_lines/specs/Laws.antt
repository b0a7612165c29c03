-- What manifests and their texts are held to.
use Rattle.std.specs.Prelude.{◌≡◌, ◌≢◌, ◌↔◌, ◌++◌, ℕ, List, Some}
use Rattle.std.specs.List.{AllByRecursion}
use Rattle.manifest_lines.specs.declared.version.Version.{Version}
use Rattle.manifest_lines.specs.Version.{first_line, version_number, version_in}
use Rattle.manifest_lines.specs.Line.{IsLine, ended}
use Rattle.manifest_lines.specs.Grammar.{Grammar}
use Rattle.manifest_lines.specs.Manifest.{Contents, HasLines, IsManifest, manifest_text}
use Rattle.manifest_lines.specs.Refused.{IsBadLine}

-- lines that are ended by line feeds, and have none inside, are one text in one way
abbrev pub LinesDiffer : Type 0
LinesDiffer = (a b : List (List ℕ)) → AllByRecursion IsLine a → AllByRecursion IsLine b → ended a ≡ ended b → a ≡ b

-- bytes are of a version exactly where its first line, line feed and all, stands at their front
abbrev pub VersionIsFirstLine : Type 0
VersionIsFirstLine = (bytes : List ℕ) (v : Version) →
    (version_in bytes ≡ Some (version_number v)) ↔ ((rest : List ℕ) × (bytes ≡ first_line v ++ rest))

-- the text of a manifest is of the manifest's version
abbrev pub TextsTellVersions : {R : Type 0} → Grammar R → Type 0
TextsTellVersions {R} g = (v : Version) (m : Contents R) → version_in (manifest_text g v m) ≡ Some (version_number v)

-- manifests with one text are one manifest
abbrev pub ManifestsDiffer : {R : Type 0} → Grammar R → Type 0
ManifestsDiffer {R} g = (v : Version) (a b : Contents R) → HasLines g v a → HasLines g v b
    → manifest_text g v a ≡ manifest_text g v b → a ≡ b

-- there is but one line for which bytes are refused
abbrev pub OneBadLine : {R : Type 0} → Grammar R → Type 0
OneBadLine g = (v : Version) (bytes : List ℕ) (a b : ℕ) → IsBadLine g v a bytes → IsBadLine g v b bytes → a ≡ b

-- bytes that are refused are the text of no manifest
abbrev pub RefusedAreNone : {R : Type 0} → Grammar R → Type 0
RefusedAreNone {R} g = (v : Version) (bytes : List ℕ) (line : ℕ) → IsBadLine g v line bytes
    → (m : Contents R) → IsManifest g v m → bytes ≢ manifest_text g v m
