-- The heights of vertices are those of their grid points.
use Rattle.std.proofs.Common.{◌≡◌, ℕ, refl, sym, subst, arith, All}
use Rattle.std.specs.Prelude.{ℤ, List, [], slice_index_or}
use Rattle.std.proofs.lemmas.List.Elements.{All-map}
use Rattle.quad_split.specs.Split.{is_split}
use Rattle.terrain_base.specs.Grid.{IsGrid, height_in, spot, tolerance_of}
use Rattle.terrain_base.specs.Height.{IsHeight}
use Rattle.tile_mesh.specs.declared.point.MeshPoint.{MeshPoint}
use Rattle.tile_mesh.specs.Mesh.{Mesh, vertex_at, kept_on, mesh_of_grid}
use Rattle.tile_mesh.specs.MeshNumbers.{IsVertexOnGrid, HeightRangeLaw}
use Rattle.tile_mesh.specs.Numbers.{first_uses, corners}
use Rattle.tile_mesh.specs.Rule.{triangles_of}
use Rattle.tile_mesh.proofs.MeshNumbers.{numbered_law}

abbrev HasHeight : List ℤ → MeshPoint → Type 0
HasHeight grid p = p.metres ≡ height_in grid p.i p.j

pub vertex_heights : (grid : List ℤ) (z : ℕ) → All (λ p. p.metres ≡ height_in grid p.i p.j) (mesh_of_grid grid z).points
unfolding mesh_of_grid
vertex_heights grid z =
    let tol = tolerance_of z in
    All-map (HasHeight grid) (vertex_at grid) (first_uses [] (corners (triangles_of (is_split grid tol) (kept_on grid tol)))) (λ k d l. refl)

-- ---- heights in range
at_spot : (grid : List ℤ) (p : MeshPoint) → IsGrid grid → IsVertexOnGrid p → p.metres ≡ height_in grid p.i p.j → IsHeight p.metres
at_spot grid p h g e =
    subst (λ (n : ℤ). IsHeight n) (sym e) (h.heights (spot p.i p.j) (omega (arith, g.column, g.row)))

pub grid_heights_in_range : (grid : List ℤ) (z : ℕ) → IsGrid grid → All (λ p. IsHeight p.metres) (mesh_of_grid grid z).points
grid_heights_in_range grid z h k d l =
    let p = slice_index_or (mesh_of_grid grid z).points k d in
    at_spot grid p h ((numbered_law grid z).on_grid k d l) (vertex_heights grid z k d l)

pub heights_in_range : HeightRangeLaw
heights_in_range z mesh is =
    subst (λ (m : Mesh). All (λ p. IsHeight p.metres) m.points) (sym is.mesh) (grid_heights_in_range is.grid z is.in_range)
