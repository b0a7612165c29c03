use Rattle.std.proofs.Common.{◌≡◌, ◌∙◌, Some, ap, sym, codes}
use Rattle.terrain_base.specs.declared.name.Key.TheVariants.{Manifest, Cell, OldCell, Terrain}
use Rattle.terrain_base.specs.CellKey.{key_at}
use Rattle.terrain_base.specs.NameParts.{stem_of}
use Rattle.terrain_base.proofs.NameOrder.{same_parts, is_terrain}
use Rattle.terrain_base.proofs.NameTexts.{same_some, no_some}
use Rattle.terrain_base.proofs.read_name.guess_parts.Goals as goal
use Rattle.terrain_base.proofs.read_name.guess_parts.Goals.{in_default-dt-via-in-manifest-0+in_default-dt, in_default-dt-via-in-layer-0+in_default-dt, in_default-dt-via-in_default-dt}
use Rattle.terrain_base.proofs.read_name.guess_parts.Goals.{in_default-terrain-via-in-manifest-0+in_default-terrain, in_default-terrain-via-in-layer-0+in_default-terrain, in_default-terrain-via-in-stage-0+in_default-terrain, in_default-terrain-via-in_default-terrain}

pub returns-in-manifest-txt : goal.returns-in-manifest-txt
returns-in-manifest-txt c wanted p q =
    ap Some (c.manifest.ensures ∙ same_parts Manifest wanted (sym c.in-manifest-txt.is-manifest-0 ∙ p) (sym c.in-manifest-txt.is-txt-1 ∙ q))

pub returns-in_ok-square_of_stem-in_default-dt : goal.returns-in_ok-square_of_stem-in_default-dt
returns-in_ok-square_of_stem-in_default-dt c wanted p q =
    let ending : c.args.ending.now ≡ codes "dt" = elim c.in_default-dt.branch [
      | in_default-dt-via-in-manifest-0+in_default-dt w ↦ w.in_default-dt.is-dt-1
      | in_default-dt-via-in-layer-0+in_default-dt w ↦ w.in_default-dt.is-dt-1
      | in_default-dt-via-in_default-dt w ↦ w.in_default-dt.is-dt-1
    ] in
    let found = c.in_ok-square_of_stem-in_default-dt in
    ap Some (c.old_cell.ensures ∙ same_parts (OldCell found.field-0) wanted (sym found.ensures.some ∙ p) (sym ending ∙ q))

pub returns-in_ok-level-in_default : goal.returns-in_ok-level-in_default
returns-in_ok-level-in_default c wanted p q =
    let square = c.in_ok-square-in_default in
    let level = c.in_ok-level-in_default in
    ap Some (c.cell.ensures ∙ same_parts (Cell (key_at square.square level.level)) wanted (sym square.ensures.some ∙ p) (sym level.ensures.some ∙ q))

pub returns-in_err-guess_tile-in_default-terrain : goal.returns-in_err-guess_tile-in_default-terrain
returns-in_err-guess_tile-in_default-terrain c wanted p q =
    let ending : c.args.ending.now ≡ codes "terrain" = elim c.in_default-terrain.branch [
      | in_default-terrain-via-in-manifest-0+in_default-terrain w ↦ w.in_default-terrain.is-terrain-1
      | in_default-terrain-via-in-layer-0+in_default-terrain w ↦ w.in_default-terrain.is-terrain-1
      | in_default-terrain-via-in-stage-0+in_default-terrain w ↦ w.in_default-terrain.is-terrain-1
      | in_default-terrain-via-in_default-terrain w ↦ w.in_default-terrain.is-terrain-1
    ] in
    let tile = is_terrain wanted (sym q ∙ ending) in
    absurd (no_some _ _ c.in_err-guess_tile-in_default-terrain.was (c.guess_tile-in_default-terrain.ensures tile.0 (p ∙ ap stem_of tile.1)))

pub returns-in_ok-guess_tile-in_default-terrain : goal.returns-in_ok-guess_tile-in_default-terrain
returns-in_ok-guess_tile-in_default-terrain c wanted p q =
    let ending : c.args.ending.now ≡ codes "terrain" = elim c.in_default-terrain.branch [
      | in_default-terrain-via-in-manifest-0+in_default-terrain w ↦ w.in_default-terrain.is-terrain-1
      | in_default-terrain-via-in-layer-0+in_default-terrain w ↦ w.in_default-terrain.is-terrain-1
      | in_default-terrain-via-in-stage-0+in_default-terrain w ↦ w.in_default-terrain.is-terrain-1
      | in_default-terrain-via-in_default-terrain w ↦ w.in_default-terrain.is-terrain-1
    ] in
    let tile = is_terrain wanted (sym q ∙ ending) in
    let found = c.guess_tile-in_default-terrain.ensures tile.0 (p ∙ ap stem_of tile.1) in
    ap Some (c.terrain.ensures ∙ ap Terrain (same_some _ _ _ c.in_ok-guess_tile-in_default-terrain.was found) ∙ sym tile.1)
