-- The texts of answers, each line with its line feed, and of causes why there are none.
use Rattle.std.specs.Prelude.{ℕ, List, [], ◌∷◌, ◌++◌, length, codes, decimal}
use Rattle.std.specs.List.{flat_map}
use Rattle.std.specs.Fmt.{signed_decimal}
use Rattle.terrain_base.specs.declared.tile.TileId.{TileId}
use Rattle.terrain_base.specs.Name.{tile_text}
use Rattle.mesh_query.specs.declared.ratio.Ratio.{Ratio}
use Rattle.mesh_query.specs.declared.refusal.QueryRefusal.{QueryRefusal}
use Rattle.mesh_query.specs.declared.refusal.QueryRefusal.TheVariants.{NotWhole, Unsound, NoMemory}
use Rattle.mesh_query.specs.declared.spot.Break.{Break}
use Rattle.sight_line.specs.declared.eye.SightAnswer.{SightAnswer}
use Rattle.sight_line.specs.declared.eye.SightAnswer.TheVariants.{Clear, Blocked}
use Rattle.report_text.specs.Finding.{finding_text_of}
use Rattle.report_text.specs.Words.{joined}

-- `A/B`, in decimal; of a negative fraction A has a minus sign
abbrev pub ratio_text_of : Ratio → List ℕ
ratio_text_of r = joined (signed_decimal r.over ∷ codes "/" ∷ signed_decimal r.under ∷ [])

-- `height A/B tile Z/X/Y`
abbrev pub height_text_of : TileId → Ratio → List ℕ
height_text_of tile height = joined
    (codes "height " ∷ ratio_text_of height ∷ codes " tile " ∷ tile_text tile ∷ codes "\n" ∷ [])

-- `A/B height C/D`: the fraction of the way, and the surface there in metres
abbrev pub break_line_of : Break → List ℕ
break_line_of bend = joined (ratio_text_of bend.at ∷ codes " height " ∷ ratio_text_of bend.metres ∷ codes "\n" ∷ [])

-- `profile Z/X/Y points N`, then a line for each of the N breaks
abbrev pub profile_head : TileId → ℕ → List ℕ
profile_head tile points = joined
    (codes "profile " ∷ tile_text tile ∷ codes " points " ∷ decimal points ∷ codes "\n" ∷ [])

abbrev pub profile_text_of : TileId → List Break → List ℕ
profile_text_of tile breaks = profile_head tile (length breaks) ++ flat_map break_line_of breaks

-- `clear`, or `blocked at A/B triangle K ground C/D line E/F`
abbrev pub sight_text_of : SightAnswer → List ℕ
sight_text_of Clear = codes "clear\n"
sight_text_of (Blocked at triangle height line) = joined
    (codes "blocked at " ∷ ratio_text_of at ∷ codes " triangle " ∷ decimal triangle ∷ codes " ground "
    ∷ ratio_text_of height
    ∷ codes " line " ∷ ratio_text_of line ∷ codes "\n" ∷ [])

-- `view Z/X/Y vertices V seen S`, then the number of each of the S seen vertices of V
abbrev pub view_head : TileId → ℕ → ℕ → List ℕ
view_head tile vertices seen = joined
    (codes "view " ∷ tile_text tile ∷ codes " vertices " ∷ decimal vertices ∷ codes " seen " ∷ decimal seen
    ∷ codes "\n" ∷ [])

abbrev pub view_text_of : TileId → ℕ → List ℕ → List ℕ
view_text_of tile vertices seen = view_head tile vertices (length seen) ++ flat_map (λ k. decimal k ++ codes "\n") seen

-- why a tile gives no heights, from the number of the refusal on; want of memory is no cause
abbrev pub cause_text_of : QueryRefusal → List ℕ
cause_text_of (NotWhole vertex) = joined (codes "Q1 not whole vertex " ∷ decimal vertex ∷ [])
cause_text_of (Unsound finding) = joined (codes "Q2 unsound " ∷ finding_text_of finding ∷ [])
cause_text_of NoMemory = []
