use Rattle.std.proofs.Common.{◌^◌, ◌++◌, ◌∷◌, [], length, sym, ap, ◌∙◌, arith}
use Rattle.std.proofs.lemmas.List.Elements.{All-rest}
use Rattle.mesh_codec.specs.Mesh.{Mesh, IsTriangle}
use Rattle.mesh_codec.proofs.Lists.{next_whole, next_room}
use Rattle.mesh_codec.proofs.building.add_triangles.Goals as goal

pub loop-triangle-preserved : goal.loop-triangle-preserved
loop-triangle-preserved c =
    let l = c.loop-triangle in
    let x = c.in-Some.triangle in
    let step = c.in-Some.ensures.steps in
    let ok = c.in_ok-add_triangle.ensures.ok in
    let pushed = ap (λ (m : Mesh). m.triangles) ok in
    record {
      same = ok ∙ ap (λ (m : Mesh). record m { triangles = l.mesh.triangles ++ x ∷ [] }) l.invariant.same ∙ ap (λ list. record c.args.mesh.now { triangles = list }) (sym pushed);
      rest = ap (λ list. list ++ c.next.new.self) pushed ∙ next_whole l.mesh.triangles l.triangle-iterator c.next.new.self x step _ l.invariant.rest;
      in_range = All-rest (IsTriangle (length c.args.mesh.now.vertices)) x c.next.new.self l.triangle-iterator step l.invariant.in_range;
      room = omega (arith, ap length pushed, next_room l.mesh.triangles l.triangle-iterator c.next.new.self x step (2 ^ 32) l.invariant.room);
    }
