use Rattle.std.proofs.Common.{◌∙◌, ap}
use Rattle.mesh_codec.specs.Mesh.{Mesh}
use Rattle.terrain_base.specs.declared.side.Side.TheVariants.{West, South, East, North}
use Rattle.tile_bytes.proofs.Edges.{in_range, room}
use Rattle.tile_bytes.proofs.coded_mesh.coded_mesh.Goals as goal

pub add_list-requires-clause-in_range : goal.add_list-requires-clause-in_range
add_list-requires-clause-in_range c =
    let vertices = ap (λ (m : Mesh). m.vertices) c.in_ok-coded.ensures in
    in_range c.args.frame.now c.args.mesh.now _ West _ vertices c.edge.ensures c.requires.numbered

pub add_list-requires-clause-room : goal.add_list-requires-clause-room
add_list-requires-clause-room c =
    let none = ap (λ (m : Mesh). m.west) c.in_ok-coded.ensures in
    room c.args.mesh.now West _ _ none c.edge.ensures c.requires.numbered

pub add_list-requires-2-clause-in_range : goal.add_list-requires-2-clause-in_range
add_list-requires-2-clause-in_range c =
    let vertices = ap (λ (m : Mesh). m.vertices) c.in_ok-add_list.ensures ∙ ap (λ (m : Mesh). m.vertices) c.in_ok-coded.ensures in
    in_range c.args.frame.now c.args.mesh.now _ South _ vertices c.edge-2.ensures c.requires.numbered

pub add_list-requires-2-clause-room : goal.add_list-requires-2-clause-room
add_list-requires-2-clause-room c =
    let none = ap (λ (m : Mesh). m.south) c.in_ok-add_list.ensures ∙ ap (λ (m : Mesh). m.south) c.in_ok-coded.ensures in
    room c.args.mesh.now South _ _ none c.edge-2.ensures c.requires.numbered

pub add_list-requires-3-clause-in_range : goal.add_list-requires-3-clause-in_range
add_list-requires-3-clause-in_range c =
    let vertices = ap (λ (m : Mesh). m.vertices) c.in_ok-add_list-2.ensures ∙ ap (λ (m : Mesh). m.vertices) c.in_ok-add_list.ensures ∙ ap (λ (m : Mesh). m.vertices) c.in_ok-coded.ensures in
    in_range c.args.frame.now c.args.mesh.now _ East _ vertices c.edge-3.ensures c.requires.numbered

pub add_list-requires-3-clause-room : goal.add_list-requires-3-clause-room
add_list-requires-3-clause-room c =
    let none = ap (λ (m : Mesh). m.east) c.in_ok-add_list-2.ensures ∙ ap (λ (m : Mesh). m.east) c.in_ok-add_list.ensures ∙ ap (λ (m : Mesh). m.east) c.in_ok-coded.ensures in
    room c.args.mesh.now East _ _ none c.edge-3.ensures c.requires.numbered

pub add_list-requires-4-clause-in_range : goal.add_list-requires-4-clause-in_range
add_list-requires-4-clause-in_range c =
    let vertices = ap (λ (m : Mesh). m.vertices) c.in_ok-add_list-3.ensures ∙ ap (λ (m : Mesh). m.vertices) c.in_ok-add_list-2.ensures ∙ ap (λ (m : Mesh). m.vertices) c.in_ok-add_list.ensures ∙ ap (λ (m : Mesh). m.vertices) c.in_ok-coded.ensures in
    in_range c.args.frame.now c.args.mesh.now _ North _ vertices c.edge-4.ensures c.requires.numbered

pub add_list-requires-4-clause-room : goal.add_list-requires-4-clause-room
add_list-requires-4-clause-room c =
    let none = ap (λ (m : Mesh). m.north) c.in_ok-add_list-3.ensures ∙ ap (λ (m : Mesh). m.north) c.in_ok-add_list-2.ensures ∙ ap (λ (m : Mesh). m.north) c.in_ok-add_list.ensures ∙ ap (λ (m : Mesh). m.north) c.in_ok-coded.ensures in
    room c.args.mesh.now North _ _ none c.edge-4.ensures c.requires.numbered
