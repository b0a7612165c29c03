-- What the reader tells of bytes.
use Rattle.std.specs.Prelude.{◌≡◌, ℕ, List}
use Rattle.manifest_lines.specs.declared.version.Version.{Version}
use Rattle.manifest_lines.specs.declared.refusal.ManifestRefusal.{ManifestRefusal}
use Rattle.manifest_lines.specs.declared.refusal.ManifestRefusal.TheVariants.{NotADatabase, NoMemory}
use Rattle.manifest_lines.specs.declared.read.Parts.{Parts}
use Rattle.manifest_lines.specs.Grammar.{Grammar}
use Rattle.manifest_lines.specs.Manifest.{Contents, IsManifest, manifest_text}
use Rattle.manifest_lines.specs.Refused.{IsBadLine}

-- what the parts say
abbrev pub contents_of : {R : Type 0} → Parts R → Contents R
contents_of parts = record { params = parts.params; state = parts.state; rows = parts.rows.items }

-- the bytes are the text of this good manifest, and of no other
pub record IsTextOf {R : Type 0} (g : Grammar R) (v : Version) (bytes : List ℕ) (m : Contents R) : Type 0 where
  pub text : bytes ≡ manifest_text g v m
  pub good : IsManifest g v m
  pub only : (other : Contents R) → IsManifest g v other → bytes ≡ manifest_text g v other → other ≡ m

-- the refusal carries the line for which the bytes are refused; want of memory tells nothing of them
abbrev pub IsRefusedBy : {R : Type 0} → Grammar R → Version → List ℕ → ManifestRefusal → Type 0
IsRefusedBy g v bytes (NotADatabase line) = IsBadLine g v line bytes
IsRefusedBy g v bytes NoMemory = Unit
