-- Extensions, up to the end of a tile (quantized-mesh-1.0, extensions): an id of one byte, a length of four
-- bytes, and that many bytes.
use Rattle.std.specs.Prelude.{ℕ, zero, suc, ◌+◌, ◌^◌, ◌<◌, nat_lt, List, [], ◌∷◌, ◌++◌, length, slice_index, slice_range, if◌then◌else◌}
use Rattle.byteorder.specs.Endian.{little_bytes}
use Rattle.mesh_codec.specs.Number.{number_at}

-- an extension as it is seen
pub record ExtensionData : Type 0 where
  pub id : ℕ
  pub bytes : List ℕ

-- what has a spelling
pub record IsExtension (extension : ExtensionData) : Type 0 where
  pub id : extension.id < 256
  pub few : length extension.bytes < 2 ^ 32

abbrev pub extension_text : ExtensionData → List ℕ
extension_text extension = extension.id ∷ little_bytes 4 (length extension.bytes) ++ extension.bytes

-- where the extension at an offset ends
unfoldable pub extension_end : List ℕ → ℕ → ℕ
extension_end bytes at = at + 5 + number_at 4 bytes (at + 1)

abbrev pub extension_at : List ℕ → ℕ → ExtensionData
extension_at bytes at = record {
  id = slice_index bytes at;
  bytes = slice_range bytes (at + 5) (extension_end bytes at);
}

-- the extensions from an offset on, at most so many
abbrev pub some_extensions : ℕ → List ℕ → ℕ → List ExtensionData
some_extensions zero bytes at = []
some_extensions (suc most) bytes at =
    if nat_lt at (length bytes) then extension_at bytes at ∷ some_extensions most bytes (extension_end bytes at) else []

-- the extensions from an offset on: there are no more of them than bytes
unfoldable pub extensions_from : List ℕ → ℕ → List ExtensionData
extensions_from bytes at = some_extensions (length bytes) bytes at
