-- The bound of a tile by its level.
use Rattle.std.proofs.Common.{◌≡◌, ◌<◌, ◌≤◌, ℕ, List, ap, ◌∙◌, nat_lt, true, false, rules, refl}
use Rattle.terrain_base.specs.declared.tile.TileId.{TileId}
use Rattle.terrain_base.specs.declared.summary.Summary.{Summary}
use Rattle.cell_mosaic.specs.Cells.{Cells}
use Rattle.cell_mosaic.specs.Summaries.{summaries_of}
use Rattle.post_bound.specs.Bound.{post_bound_of}
use Rattle.post_bound.specs.Rule.{bound_of}
use Rattle.post_bound.specs.Span.{span_bound_of}
use Rattle.tile_mesh.specs.Mesh.{Mesh}

pub below : (summaries : List Summary) (told : Cells) (tile : TileId) (mesh : Mesh) (bound : ℕ) → tile.z < 8
    → bound ≡ span_bound_of summaries tile mesh → summaries ≡ summaries_of told → bound ≡ bound_of told tile mesh
unfolding bound_of
below summaries told tile mesh bound z is short =
    let e : nat_lt tile.z 8 ≡ true = search rules in
    rw e (is ∙ ap (λ s. span_bound_of s tile mesh) short)

pub above : (told : Cells) (tile : TileId) (mesh : Mesh) → 8 ≤ tile.z → bound_of told tile mesh ≡ post_bound_of told tile mesh
unfolding bound_of
above told tile mesh z =
    let e : nat_lt tile.z 8 ≡ false = search rules in
    rw e refl
