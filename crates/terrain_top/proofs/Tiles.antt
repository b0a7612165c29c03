-- A stored tile is shown.
use Rattle.std.proofs.Common.{◌≡◌, ℕ, ℤ, List, ◌++◌, codes, Option, None, ap, sym}
use Rattle.std.specs.Prelude.{length}
use Rattle.terrain_base.specs.declared.tile.TileId.{TileId}
use Rattle.mesh_codec.specs.Refusal.{tile_refusal_of}
use Rattle.db_report.specs.Tile.{tile_line_of}
use Rattle.terrain_top.specs.declared.answer.Answer.{Answer}
use Rattle.terrain_top.specs.declared.answer.Ending.TheVariants.{Done}
use Rattle.top_reply.specs.Query.{shown_reply}
use Rattle.terrain_top.specs.Says.{Says, status_at}

pub shown : (tile : TileId) (terrain note : List ℕ) (least greatest : Option ℤ) (answer : Answer) → None ≡ tile_refusal_of terrain → answer.ending ≡ Done
    → answer.text.items ≡ tile_line_of tile (length terrain) terrain least greatest ++ (codes "\n" ++ note) → Says (shown_reply tile terrain note least greatest) answer
shown tile terrain note least greatest answer good done text = rw (sym good) (record { status = ap status_at done; text = text })
