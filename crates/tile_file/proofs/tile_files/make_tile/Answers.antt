use Rattle.std.proofs.Common.{ap, ◌∙◌}
use Rattle.tile_file.proofs.Made.{note_is, terrain_is}
use Rattle.tile_file.proofs.tile_files.make_tile.Goals as goal

pub returns-clause-made : goal.returns-clause-made
returns-clause-made g c told is short =
    let mesh = c.in_ok-mesh.ensures.value told is in
    let kept = c.in_ok-mesh.ensures.leaves.keeps in
    let later = ap (g.P.PostSource.cells c.mesh_over.new.source) kept.held ∙ kept.stays told is in
    let bound = c.in_ok-bound.ensures.value told later short in
    record {
      terrain = terrain_is c.args.params.now told c.args.tile c.in_ok-mesh.mesh _ mesh c.in_ok-file.ensures.bytes;
      note = note_is c.args.params.now told c.args.tile c.in_ok-mesh.mesh _ _ _ mesh bound c.in_ok-file.ensures.horizon c.in_ok-note.ensures;
    }
