use Rattle.std.proofs.Common.{◌^◌, ◌++◌, ◌∷◌, [], length, sym, ap, ◌∙◌, arith}
use Rattle.std.proofs.lemmas.List.Elements.{All-rest}
use Rattle.mesh_codec.specs.Mesh.{Mesh, IsVertex}
use Rattle.mesh_codec.proofs.Lists.{next_whole, next_room}
use Rattle.mesh_codec.proofs.building.add_vertices.Goals as goal

pub loop-codes-preserved : goal.loop-codes-preserved
loop-codes-preserved c =
    let l = c.loop-codes in
    let x = c.in-Some.codes in
    let step = c.in-Some.ensures.steps in
    let ok = c.in_ok-add_vertex.ensures.ok in
    let pushed = ap (λ (m : Mesh). m.vertices) ok in
    record {
      same = ok ∙ ap (λ (m : Mesh). record m { vertices = l.mesh.vertices ++ x ∷ [] }) l.invariant.same ∙ ap (λ list. record c.args.mesh.now { vertices = list }) (sym pushed);
      rest = ap (λ list. list ++ c.next.new.self) pushed ∙ next_whole l.mesh.vertices l.codes-iterator c.next.new.self x step _ l.invariant.rest;
      in_range = All-rest IsVertex x c.next.new.self l.codes-iterator step l.invariant.in_range;
      room = omega (arith, ap length pushed, next_room l.mesh.vertices l.codes-iterator c.next.new.self x step (2 ^ 32) l.invariant.room);
    }
