use Rattle.std.proofs.Common.{◌≡◌, ◌∙◌, ℕ, Bool, ap, sym, subst}
use Rattle.std.specs.Prelude.{IfOk}
use Rattle.terrain_base.specs.Grid.{tolerance_of}
use Rattle.quad_split.specs.Split.{is_split}
use Rattle.quad_split.specs.SplitMap.{bit_at}
use Rattle.tile_mesh.specs.Mesh.{Mesh, mesh_on, mesh_from, kept_on, mesh_of_grid}
use Rattle.mesh_plane.specs.Cover.{Covers}
use Rattle.terrain_base.specs.declared.side.Side.{Side}
use Rattle.tile_mesh.specs.Plane.{edge_vertices, kept_vertices, triangles_in}
use Rattle.tile_mesh.specs.Rule.{triangles_of}
use Rattle.tile_mesh.specs.Tolerance.{KeepsTolerance}
use Rattle.tile_mesh.proofs.Following.{mesh_keeps_tolerance}
use Rattle.tile_mesh.proofs.EdgeVertices.{edges_are_kept}
use Rattle.tile_mesh.proofs.Made.{is_mesh, same_split, if_ok, mesh_covers}
use Rattle.tile_mesh.proofs.build.mesh_of.Goals as goal

pub returns : goal.returns
unfolding mesh_of_grid
returns c =
    let grid = c.args.grid.now in let tol = c.tolerance-tol.result in
    let bits = c.split_map-splits.result in let b = c.in_ok-builder.builder in
    let same : mesh_on grid b.points.items b.triangles.items ≡ mesh_of_grid grid c.args.z =
    is_mesh grid (triangles_of (bit_at bits) (kept_on grid tol)) b.points.items b.triangles.items c.in_ok-builder.ensures
    ∙ ap (λ (p : ℕ → ℕ → ℕ → Bool). mesh_from grid (triangles_of p (kept_on grid tol)))
    (same_split grid tol bits c.split_map-splits.ensures)
    ∙ ap (λ (t : ℕ). mesh_from grid (triangles_of (is_split grid t) (kept_on grid t))) c.tolerance-tol.ensures.value in
    let is = λ (mesh : Mesh). mesh ≡ mesh_of_grid grid c.args.z in
    let exact : IfOk c.finish.result is =
    subst (λ (m : Mesh). IfOk c.finish.result (λ mesh. mesh ≡ m)) same c.finish.ensures in
    record {
      exact = exact;
      covers = if_ok c.finish.result is (λ mesh. Covers (triangles_in mesh))
          (λ mesh e. subst (λ (m : Mesh). Covers (triangles_in m)) (sym e) (mesh_covers grid c.args.z)) exact;
      edges = if_ok c.finish.result is
          (λ mesh. (side : Side) → edge_vertices mesh side ≡ kept_vertices grid (tolerance_of c.args.z) side)
          (λ mesh e side. ap (λ (m : Mesh). edge_vertices m side) e ∙ edges_are_kept grid c.args.z side) exact;
      tolerance = if_ok c.finish.result is (λ mesh. KeepsTolerance grid (tolerance_of c.args.z) mesh)
          (λ mesh e. subst (λ (m : Mesh). KeepsTolerance grid (tolerance_of c.args.z) m) (sym e)
          (mesh_keeps_tolerance grid c.args.z)) exact;
    }
