use Rattle.std.proofs.Common.{refl, ap, ◌∙◌, ◌++◌, codes, append_assoc, subst, sym}
use Rattle.std.specs.Prelude.{length}
use Rattle.mesh_codec.specs.Tile.{header_in}
use Rattle.db_report.specs.Tile.{IsHeightWord, tile_line_of}
use Rattle.terrain_top.proofs.Tiles.{shown}
use Rattle.terrain_top.proofs.query.show_tile.Goals as goal

pub returns-in_ok-extend_from_slice-in-Ok-clause-says : goal.returns-in_ok-extend_from_slice-in-Ok-clause-says
returns-in_ok-extend_from_slice-in-Ok-clause-says c = λ least greatest low high.
    let whole = c.in-Ok.ensures.view in
    let line = c.in_ok-line-in-Ok.ensures least greatest (subst (λ bytes. IsHeightWord (header_in bytes).least least) (sym whole) low) (subst (λ bytes. IsHeightWord (header_in bytes).greatest greatest) (sym whole) high) in
    let line_is = line ∙ ap (λ bytes. tile_line_of c.args.tile (length c.args.terrain.now) bytes least greatest) whole in
    let front = ap (λ vec. vec.items) c.into_bytes-text.ensures.value ∙ c.in_ok-format-in-Ok.ensures.ok ∙ ap (λ text. text ++ codes "\n") line_is in
    let text = tile_line_of c.args.tile (length c.args.terrain.now) c.args.terrain.now least greatest in
    shown c.args.tile c.args.terrain.now c.args.note.now least greatest _ c.in-Ok.ensures.refusal refl
    (c.in_ok-extend_from_slice-in-Ok.ensures.items ∙ ap (λ front. front ++ c.args.note.now) front ∙ append_assoc text (codes "\n") c.args.note.now)
