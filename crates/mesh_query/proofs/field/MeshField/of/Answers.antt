-- The corners and the audited mesh are a mesh in metres.
use Rattle.std.proofs.Common.{◌≡◌, ◌∙◌, subst, rules}
use Rattle.mesh_codec.specs.Mesh.{Mesh, IsMesh}
use Rattle.mesh_codec.specs.Tile.{header_in, vertex_list}
use Rattle.mesh_check.specs.declared.verdict.Verdict.{Verdict}
use Rattle.mesh_check.specs.declared.verdict.Verdict.TheVariants.{Found}
use Rattle.mesh_check.specs.CodeMesh.{IsVerdict}
use Rattle.mesh_plane.proofs.ListWords.{all_from}
use Rattle.mesh_query.specs.Metres.{IsWhole}
use Rattle.mesh_query.proofs.Vertices.{each_whole}
use Rattle.mesh_query.proofs.FieldIs.{numbers, metre_mesh, field_is}
use Rattle.mesh_query.proofs.field.MeshField.of.Goals as goal

pub tris_of-requires : goal.tris_of-requires
tris_of-requires c =
    let indexes = c.in_ok-indexes-in-Good.indexes.items in
    let corners = c.in_ok-corners.corners.items in
    let is : indexes ≡ c.in_ok-mesh.mesh.triangles =
    c.in_ok-indexes-in-Good.ensures.items_if_clones_equal (search rules) ∙ c.triangles.ensures.triangles in
    rw (c.deref.ensures.value, c.deref-in-Good.ensures.value)
    (numbers c.args.view.now c.in_ok-mesh.mesh corners indexes (record {
      mesh_is = c.in_ok-mesh.ensures;
      keeps = subst IsMesh c.mesh.view_is c.mesh.invariant;
      corners_are = c.in_ok-corners.ensures.ok;
      indexes_are = is;
    }))

pub invariant_of-result : goal.invariant_of-result
invariant_of-result c =
    let indexes = c.in_ok-indexes-in-Good.indexes.items in
    let corners = c.in_ok-corners.corners.items in
    let is : indexes ≡ c.in_ok-mesh.mesh.triangles =
    c.in_ok-indexes-in-Good.ensures.items_if_clones_equal (search rules) ∙ c.triangles.ensures.triangles in (
      metre_mesh c.args.view.now c.in_ok-mesh.mesh corners indexes (record {
        mesh_is = c.in_ok-mesh.ensures;
        keeps = subst IsMesh c.mesh.view_is c.mesh.invariant;
        corners_are = c.in_ok-corners.ensures.ok;
        indexes_are = is;
      }) (subst (λ (v : Verdict). IsVerdict c.in_ok-mesh.mesh v) c.in-Good.is c.in_ok-audit.ensures.exact),
      rw (c.deref.ensures.value, c.deref-in-Good.ensures.value) at c.in_ok-tris-in-Good.ensures,
    )

pub returns-in_ok-tris-in-Good-clause-ok : goal.returns-in_ok-tris-in-Good-clause-ok
returns-in_ok-tris-in-Good-clause-ok c =
    let indexes = c.in_ok-indexes-in-Good.indexes.items in
    let corners = c.in_ok-corners.corners.items in
    let is : indexes ≡ c.in_ok-mesh.mesh.triangles =
    c.in_ok-indexes-in-Good.ensures.items_if_clones_equal (search rules) ∙ c.triangles.ensures.triangles in
    field_is c.args.view.now c.in_ok-mesh.mesh corners indexes (record {
      mesh_is = c.in_ok-mesh.ensures;
      keeps = subst IsMesh c.mesh.view_is c.mesh.invariant;
      corners_are = c.in_ok-corners.ensures.ok;
      indexes_are = is;
    }) (subst (λ (v : Verdict). IsVerdict c.in_ok-mesh.mesh v) c.in-Good.is c.in_ok-audit.ensures.exact)

pub returns-in-Found-clause-err : goal.returns-in-Found-clause-err
returns-in-Found-clause-err c = (
  all_from (IsWhole (header_in c.args.view.now)) (vertex_list c.args.view.now)
      (each_whole (header_in c.args.view.now) (vertex_list c.args.view.now) c.in_ok-corners.corners.items
      c.in_ok-corners.ensures.ok),
  subst (λ (m : Mesh). IsVerdict m (Found c.in-Found.finding)) c.in_ok-mesh.ensures
      (subst (λ (v : Verdict). IsVerdict c.in_ok-mesh.mesh v) c.in-Found.is c.in_ok-audit.ensures.exact),
)
