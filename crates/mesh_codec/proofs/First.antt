-- The refusal of bytes, by its parts.
use Rattle.std.proofs.Common.{◌≡◌, ℕ, ◌+◌, ◌-◌, ◌*◌, List, Option, Some, None, refl}
use Rattle.std.specs.Option.{option_or}
use Rattle.common_laws.specs.First.{first_of}
use Rattle.common_laws.proofs.First.{first_of_append}
use Rattle.mesh_codec.specs.declared.refusal.TileRefusal.{TileRefusal}
use Rattle.mesh_codec.specs.declared.refusal.Array.TheVariants.{U, V, Height}
use Rattle.terrain_base.specs.declared.side.Side.TheVariants.{West, South, East, North}
use Rattle.mesh_codec.specs.Text.{index_data_at}
use Rattle.mesh_codec.specs.Layout.{vertices_in, west_at, south_at, east_at, north_at, extensions_at}
use Rattle.mesh_codec.specs.Refusal.{part_condition, array_conditions, vertex_conditions, triangle_conditions, edge_conditions, extension_conditions, conditions_of}

or_none : (a : Option TileRefusal) → option_or a None ≡ a
or_none None = refl
or_none (Some e) = refl

-- the arrays' refusal by its parts
pub vertex_first : (bytes : List ℕ) (vertices : ℕ) → first_of (vertex_conditions bytes vertices)
    ≡ option_or (first_of (array_conditions bytes U 92 vertices)) (option_or (first_of (array_conditions bytes V (92 + 2 * vertices) vertices))
    (option_or (first_of (array_conditions bytes Height (92 + 4 * vertices) vertices)) (part_condition bytes (92 + 6 * vertices) (index_data_at vertices - (92 + 6 * vertices)))))
unfolding vertex_conditions
vertex_first bytes vertices = simp (first_of_append, or_none)

-- the whole's by its parts
pub all_first : (bytes : List ℕ) → first_of (conditions_of bytes)
    ≡ option_or (part_condition bytes 0 88) (option_or (part_condition bytes 88 4) (option_or (first_of (vertex_conditions bytes (vertices_in bytes)))
    (option_or (first_of (triangle_conditions bytes (vertices_in bytes) (index_data_at (vertices_in bytes))))
    (option_or (first_of (edge_conditions bytes (vertices_in bytes) West (west_at bytes)))
    (option_or (first_of (edge_conditions bytes (vertices_in bytes) South (south_at bytes)))
    (option_or (first_of (edge_conditions bytes (vertices_in bytes) East (east_at bytes)))
    (option_or (first_of (edge_conditions bytes (vertices_in bytes) North (north_at bytes)))
    (first_of (extension_conditions bytes (extensions_at bytes))))))))))
unfolding conditions_of
all_first bytes = simp first_of_append
