use Rattle.std.proofs.Common.{◌^◌, ◌<◌, ◌++◌, ◌∷◌, [], length, sym, ap, ◌∙◌, arith}
use Rattle.std.proofs.lemmas.List.Elements.{All-rest}
use Rattle.mesh_codec.specs.Mesh.{Mesh, edge_of, with_list}
use Rattle.mesh_codec.proofs.Lists.{next_whole, next_room}
use Rattle.mesh_codec.proofs.Edges.{edge_of_list, with_list_again}
use Rattle.mesh_codec.proofs.building.add_list.Goals as goal

pub loop-vertex-preserved : goal.loop-vertex-preserved
loop-vertex-preserved c =
    let l = c.loop-vertex in
    let x = c.in-Some.vertex in
    let edge = c.args.edge in
    let old = edge_of l.mesh edge in
    let step = c.in-Some.ensures.steps in
    let ok = c.in_ok-add_edge.ensures.ok in
    let pushed = ap (λ (m : Mesh). edge_of m edge) ok ∙ edge_of_list l.mesh edge (old ++ x ∷ []) in
    record {
      same = ok ∙ ap (λ (m : Mesh). with_list m edge (old ++ x ∷ [])) l.invariant.same ∙ with_list_again c.args.mesh.now edge old (old ++ x ∷ []) ∙ ap (λ list. with_list c.args.mesh.now edge list) (sym pushed);
      rest = ap (λ list. list ++ c.next.new.self) pushed ∙ next_whole old l.vertex-iterator c.next.new.self x step _ l.invariant.rest;
      in_range = All-rest (λ vertex. vertex < length c.args.mesh.now.vertices) x c.next.new.self l.vertex-iterator step l.invariant.in_range;
      room = omega (arith, ap length pushed, next_room old l.vertex-iterator c.next.new.self x step (2 ^ 32) l.invariant.room);
    }
