-- What the reader tells of bytes.
use Rattle.std.specs.Prelude.{◌≡◌, ℕ, List}
use Rattle.terrain_base.specs.declared.cell_key.CellKey.{CellKey}
use Rattle.terrain_base.specs.declared.params.Params.{Params}
use Rattle.manifest_lines.specs.declared.refusal.ManifestRefusal.{ManifestRefusal}
use Rattle.manifest_lines.specs.declared.refusal.ManifestRefusal.TheVariants.{NotADatabase, NoMemory}
use Rattle.db_manifest.specs.Manifest.{ManifestState, IsManifest, IsBadLine, manifest_text}

-- the bytes are the text of this good manifest, and of no other
pub record IsTextOf (bytes : List ℕ) (params : Params) (state : ManifestState) (rows : List CellKey) : Type 0 where
  pub text : bytes ≡ manifest_text params state rows
  pub good : IsManifest params state rows
  pub only : (p : Params) (s : ManifestState) (keys : List CellKey) → IsManifest p s keys
      → bytes ≡ manifest_text p s keys → (p ≡ params) × ((s ≡ state) × (keys ≡ rows))

-- the refusal carries the line for which the bytes are refused; want of memory tells nothing of them
abbrev pub IsRefusedBy : List ℕ → ManifestRefusal → Type 0
IsRefusedBy bytes (NotADatabase line) = IsBadLine line bytes
IsRefusedBy bytes NoMemory = Unit
