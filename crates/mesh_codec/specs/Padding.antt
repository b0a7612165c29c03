-- Padding between the vertex data and the index data, which aligns the index data to the width of an index
-- (quantized-mesh-1.0, index data).
use Rattle.std.specs.Prelude.{◌≡◌, ℕ, ◌+◌, ◌*◌, ◌<◌, ◌≤◌, List, slice_index}
use Rattle.mesh_codec.specs.Text.{index_data_at}
use Rattle.mesh_codec.specs.Layout.{vertices_in}

-- each byte behind the vertex data and before the index data is 0
abbrev pub HasZeroPadding : List ℕ → Type 0
HasZeroPadding bytes = (place : ℕ) → 92 + 6 * vertices_in bytes ≤ place → place < index_data_at (vertices_in bytes)
    → slice_index bytes place ≡ 0
