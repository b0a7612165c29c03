-- A first refusal, and what a call that answers by it gives.
use Rattle.std.proofs.Common.{◌≡◌, ◌↔◌, ℕ, true, false, cond, List, Some, None, Result, Ok, Err, IsOk, OnOk, refl, sym, ap, ◌∙◌}
use Rattle.std.specs.Option.{option_map}
use Rattle.std.specs.Result.{result_err}
use Rattle.common_laws.specs.First.{first_of}
use Rattle.mesh_codec.specs.declared.header.Header.{Header}
use Rattle.mesh_codec.specs.declared.refusal.TileRefusal.{TileRefusal}
use Rattle.mesh_codec.specs.declared.refusal.TileRefusal.TheVariants.{Compressed}
use Rattle.mesh_codec.specs.Number.{AreBytes}
use Rattle.mesh_codec.specs.Mesh.{Mesh}
use Rattle.mesh_codec.specs.Extension.{ExtensionData}
use Rattle.mesh_codec.specs.Refusal.{conditions_of, is_gzip, tile_refusal_of}
use Rattle.mesh_codec.specs.Tile.{Decodes, IsSomeTile, header_in, mesh_in, extension_list}
use Rattle.mesh_codec.proofs.Sounds.{sound_tile}
use Rattle.mesh_codec.proofs.Decoding.{decodes_by}
use Rattle.mesh_codec.proofs.Uniqueness.{sound_by}

-- ---- bytes that begin as a gzip file does, and others
pub plain_by : (bytes : List ℕ) → is_gzip bytes ≡ false → tile_refusal_of bytes ≡ first_of (conditions_of bytes)
unfolding tile_refusal_of
plain_by bytes e = ap (λ b. cond b (option_map (λ (refusal : TileRefusal). Compressed) (first_of (conditions_of bytes))) (first_of (conditions_of bytes))) e

pub compressed_by : (bytes : List ℕ) (refusal : TileRefusal) → is_gzip bytes ≡ true → first_of (conditions_of bytes) ≡ Some refusal → tile_refusal_of bytes ≡ Some Compressed
unfolding tile_refusal_of
compressed_by bytes refusal e f =
    ap (λ b. cond b (option_map (λ (refusal : TileRefusal). Compressed) (first_of (conditions_of bytes))) (first_of (conditions_of bytes))) e ∙ ap (option_map (λ (refusal : TileRefusal). Compressed)) f

-- ---- a call that answers by the refusal
pub unrefused_by : (bytes : List ℕ) (header : Header) (mesh : Mesh) (extensions : List ExtensionData) → Decodes bytes header mesh extensions → tile_refusal_of bytes ≡ None
unrefused_by bytes header mesh extensions decodes = (sound_tile bytes (sound_by bytes header mesh extensions decodes)).accepted

pub some_tile : (bytes : List ℕ) → AreBytes bytes → tile_refusal_of bytes ≡ None → Decodes bytes (header_in bytes) (mesh_in bytes) (extension_list bytes)
some_tile bytes are e = decodes_by bytes are (record { accepted = e })

no_tile : (bytes : List ℕ) (refusal : TileRefusal) → tile_refusal_of bytes ≡ Some refusal → IsSomeTile bytes → ⊥
no_tile bytes refusal e (header, mesh, extensions, decodes) = let same = sym e ∙ unrefused_by bytes header mesh extensions decodes in cc

pub ok_iff : (bytes : List ℕ) (result : Result (List ℕ) TileRefusal) → AreBytes bytes → result_err result ≡ tile_refusal_of bytes → IsOk result ↔ IsSomeTile bytes
ok_iff bytes (Ok v) are e = (λ ok. (header_in bytes, mesh_in bytes, extension_list bytes, some_tile bytes are (sym e)), λ tile. refl)
ok_iff bytes (Err x) are e = (λ ok. cc, λ tile. absurd (no_tile bytes x (sym e) tile))

pub tile_on_ok : (bytes : List ℕ) (result : Result (List ℕ) TileRefusal) → AreBytes bytes → result_err result ≡ tile_refusal_of bytes → OnOk result (Decodes bytes (header_in bytes) (mesh_in bytes) (extension_list bytes))
tile_on_ok bytes (Ok v) are e = some_tile bytes are (sym e)
tile_on_ok bytes (Err x) are e = tt
