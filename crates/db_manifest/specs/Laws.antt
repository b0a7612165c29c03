-- What manifests of version 3 and their texts are held to.
use Rattle.std.specs.Prelude.{◌≡◌, ◌≢◌, ◌↔◌, ℕ, List, Some, true}
use Rattle.terrain_base.specs.declared.cell_key.CellKey.{CellKey}
use Rattle.terrain_base.specs.declared.params.Params.{Params}
use Rattle.manifest_lines.specs.Version.{version_in}
use Rattle.manifest_lines.specs.Manifest.{Fits}
use Rattle.db_manifest.specs.Manifest.{ManifestState, IsManifest, IsBadLine, fits_rows, manifest_text}

-- the text of a manifest is of version 3
abbrev pub VersionIsThree : Type 0
VersionIsThree = (params : Params) (state : ManifestState) (rows : List CellKey)
    → version_in (manifest_text params state rows) ≡ Some 3

-- rows are as what is under way has them exactly where a key that is put is one of them, and one that is dropped is not
abbrev pub FitsByMembers : Type 0
FitsByMembers = (state : ManifestState) (rows : List CellKey) → (fits_rows state rows ≡ true) ↔ Fits state rows

-- good manifests with one text are one manifest
abbrev pub ManifestsDiffer : Type 0
ManifestsDiffer = (p q : Params) (s t : ManifestState) (a b : List CellKey) → IsManifest p s a → IsManifest q t b
    → manifest_text p s a ≡ manifest_text q t b → (p ≡ q) × ((s ≡ t) × (a ≡ b))

-- there is but one line for which bytes are refused
abbrev pub OneBadLine : Type 0
OneBadLine = (bytes : List ℕ) (a b : ℕ) → IsBadLine a bytes → IsBadLine b bytes → a ≡ b

-- bytes that are refused are the text of no good manifest
abbrev pub RefusedAreNone : Type 0
RefusedAreNone = (bytes : List ℕ) (line : ℕ) → IsBadLine line bytes
    → (params : Params) (state : ManifestState) (rows : List CellKey) → IsManifest params state rows
    → bytes ≢ manifest_text params state rows
