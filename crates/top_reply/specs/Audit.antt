-- The reply to `audit`.
use Rattle.std.specs.Prelude.{◌≡◌, ℕ, List, [], ◌∷◌, codes, Option, Some, None}
use Rattle.mesh_codec.specs.declared.refusal.TileRefusal.{TileRefusal}
use Rattle.mesh_codec.specs.Refusal.{tile_refusal_of}
use Rattle.mesh_codec.specs.Tile.{mesh_in}
use Rattle.mesh_check.specs.declared.verdict.Verdict.{Verdict}
use Rattle.mesh_check.specs.declared.verdict.Verdict.TheVariants as verdict
use Rattle.mesh_check.specs.CodeMesh.{IsVerdict}
use Rattle.report_text.specs.Finding.{finding_text_of}
use Rattle.report_text.specs.Tile.{audit_line_of}
use Rattle.report_text.specs.TileRefusal.{tile_refusal_text_of}
use Rattle.report_text.specs.Words.{joined}
use Rattle.top_reply.specs.declared.status.Status.TheVariants.{Found}
use Rattle.top_reply.specs.File.{IsReplyBy, found_in, tile_limit}
use Rattle.top_reply.specs.Reply.{Reply, refused_reply, text_reply}

-- the size of the tile in one line, and the verdict on its mesh in another
abbrev pub verdict_reply : List ℕ → Verdict → Reply
verdict_reply bytes verdict.Good = text_reply (joined (audit_line_of bytes ∷ codes "\ngood\n" ∷ []))
verdict_reply bytes (verdict.Found finding) = record {
  status = Found;
  text = joined (audit_line_of bytes ∷ codes "\nfound " ∷ finding_text_of finding ∷ codes "\n" ∷ []);
}

-- the mesh of the bytes is judged
pub record IsAudited (bytes : List ℕ) (reply : Reply) : Type 0 where
  pub verdict : Verdict
  pub is : IsVerdict (mesh_in bytes) verdict
  pub reply_is : reply ≡ verdict_reply bytes verdict

-- by the refusal of the bytes as a tile, if there is one
abbrev pub IsTileReplyBy : List ℕ → Option TileRefusal → Reply → Type 0
IsTileReplyBy bytes None reply = IsAudited bytes reply
IsTileReplyBy bytes (Some refusal) reply = reply ≡ refused_reply (tile_refusal_text_of refusal)

abbrev pub IsTileReply : List ℕ → Reply → Type 0
IsTileReply bytes reply = IsTileReplyBy bytes (tile_refusal_of bytes) reply

-- by what the library holds under the file's name
abbrev pub IsAuditReply : List ℕ → Option (List ℕ) → Reply → Type 0
IsAuditReply file held reply = IsReplyBy IsTileReply (found_in file tile_limit held) reply
