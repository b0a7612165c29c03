-- The texts of refused tiles, from their numbers on.
use Rattle.std.specs.Prelude.{ℕ, List, [], ◌∷◌, codes, decimal}
use Rattle.terrain_base.specs.declared.side.Side.{Side}
use Rattle.terrain_base.specs.declared.side.Side.TheVariants.{West, South, East, North}
use Rattle.mesh_codec.specs.declared.refusal.Array.{Array}
use Rattle.mesh_codec.specs.declared.refusal.Array.TheVariants.{U, V, Height}
use Rattle.mesh_codec.specs.declared.refusal.TileRefusal.{TileRefusal}
use Rattle.mesh_codec.specs.declared.refusal.TileRefusal.TheVariants.{Truncated, CoordinateOutOfRange, IndexOutOfRange, EdgeIndexTooLarge, ExtensionTruncated, Compressed}
use Rattle.report_text.specs.Words.{joined}

abbrev pub array_name : Array → List ℕ
array_name U = codes "u"
array_name V = codes "v"
array_name Height = codes "height"

abbrev pub edge_name : Side → List ℕ
edge_name West = codes "west"
edge_name South = codes "south"
edge_name East = codes "east"
edge_name North = codes "north"

abbrev pub tile_refusal_text_of : TileRefusal → List ℕ
tile_refusal_text_of (Truncated at need) =
    joined (codes "M1 truncated at " ∷ decimal at ∷ codes " need " ∷ decimal need ∷ [])
tile_refusal_text_of (CoordinateOutOfRange array k) =
    joined (codes "M2 coordinate " ∷ array_name array ∷ codes " place " ∷ decimal k ∷ [])
tile_refusal_text_of (IndexOutOfRange k) = joined (codes "M3 index place " ∷ decimal k ∷ [])
tile_refusal_text_of (EdgeIndexTooLarge edge k) =
    joined (codes "M4 edge " ∷ edge_name edge ∷ codes " place " ∷ decimal k ∷ [])
tile_refusal_text_of (ExtensionTruncated at) = joined (codes "M5 extension at " ∷ decimal at ∷ [])
tile_refusal_text_of Compressed = codes "M6 compressed"
