-- What holds of the bounds.
use Rattle.std.specs.Prelude.{◌≡◌, ℕ, ℤ, ◌≤◌, true, List, All}
use Rattle.std.specs.FinMap.{get}
use Rattle.terrain_base.specs.declared.cell_key.CellKey.{CellKey}
use Rattle.terrain_base.specs.declared.tile.TileId.{TileId}
use Rattle.terrain_base.specs.declared.summary.Summary.{Summary}
use Rattle.terrain_base.specs.Grid.{IsGrid}
use Rattle.tms_tree.specs.Touch.{touches_of}
use Rattle.cell_mosaic.specs.Cells.{Cells, AreSound}
use Rattle.cell_mosaic.specs.Summaries.{summaries_of}
use Rattle.mesh_plane.specs.declared.corner.Tri.{Tri}
use Rattle.mesh_plane.specs.Plane.{IsCounterClockwise}
use Rattle.tile_mesh.specs.Mesh.{Mesh, mesh_of_grid}
use Rattle.tile_mesh.specs.Plane.{triangles_in}
use Rattle.lattice_sweep.specs.Bound.{IsRaisedBound}
use Rattle.lattice_sweep.specs.Plane.{IsTerrainTri}
use Rattle.post_bound.specs.Bound.{KeepsBound, IsPostBound, post_bound_of}
use Rattle.post_bound.specs.Span.{IsSpanBound, span_bound_of}
use Rattle.post_bound.specs.Squares.{GapAmong, Everywhere}
use Rattle.post_bound.specs.Rule.{bound_of}

-- from level 6 on, a bound that was raised from 0 by all posts at all triangles that hold them is the bound
abbrev pub SweptLaw : Type 0
SweptLaw = (cells : Cells) (tile : TileId) (ts : List Tri) (bound : ℕ) → 6 ≤ tile.z → All IsCounterClockwise ts
    → IsRaisedBound (GapAmong Everywhere cells tile ts) 0 bound → IsPostBound cells tile ts bound

-- there is one bound
abbrev pub OneBoundLaw : Type 0
OneBoundLaw = (cells : Cells) (tile : TileId) (ts : List Tri) (a b : ℕ) → IsPostBound cells tile ts a
    → IsPostBound cells tile ts b → a ≡ b

-- at every level the number is the bound, of any triangles that are counter-clockwise on the tile
abbrev pub PostBoundLaw : Type 0
PostBoundLaw = (cells : Cells) (tile : TileId) (mesh : Mesh) → All IsTerrainTri (triangles_in mesh)
    → IsPostBound cells tile (triangles_in mesh) (post_bound_of cells tile mesh)

-- the number below level 8 is the greatest difference of a vertex, all of them heights, and an extreme
abbrev pub SpanBoundLaw : Type 0
SpanBoundLaw = (summaries : List Summary) (tile : TileId) (grid : List ℤ) (z : ℕ) → IsGrid grid
    → let mesh = mesh_of_grid grid z in IsSpanBound summaries tile mesh (span_bound_of summaries tile mesh)

-- and it is a bound at posts, at every level
abbrev pub SpanKeepsLaw : Type 0
SpanKeepsLaw = (cells : Cells) (tile : TileId) (grid : List ℤ) (z : ℕ) → AreSound cells → IsGrid grid
    → let mesh = mesh_of_grid grid z in KeepsBound cells tile (triangles_in mesh)
    (span_bound_of (summaries_of cells) tile mesh)

-- the mesh of each grid keeps the bound that the note prints
abbrev pub BoundKeepsLaw : Type 0
BoundKeepsLaw = (cells : Cells) (tile : TileId) (grid : List ℤ) → AreSound cells → IsGrid grid
    → let mesh = mesh_of_grid grid tile.z in KeepsBound cells tile (triangles_in mesh) (bound_of cells tile mesh)

-- both have the same cells that touch the tile
abbrev pub AgreeNear : TileId → Cells → Cells → Type 0
AgreeNear tile cells others = (key : CellKey) → touches_of tile key.square ≡ true → get cells key ≡ get others key

-- what does not touch the tile does not change the bound
abbrev pub BoundIsLocalLaw : Type 0
BoundIsLocalLaw = (cells others : Cells) (tile : TileId) (mesh : Mesh) → AgreeNear tile cells others
    → bound_of cells tile mesh ≡ bound_of others tile mesh
