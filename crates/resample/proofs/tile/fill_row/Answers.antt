use Rattle.std.proofs.Common.{◌≡◌, ◌+◌, ◌≤◌, ℕ, ℤ, List, ap, sym, ◌∙◌, length, set, length-set, arith, subst, FitsSigned, w16, to_z, of_z}
use Rattle.std.proofs.lemmas.Int.{to_z-of_z}
use Rattle.terrain_base.specs.declared.tile.TileId.{TileId}
use Rattle.terrain_base.specs.Grid.{spot}
use Rattle.tms_tree.specs.Place.{place_of}
use Rattle.cell_mosaic.specs.Cells.{Cells, finest_of}
use Rattle.cell_mosaic.proofs.Sums.{height_fits}
use Rattle.cell_mosaic.proofs.Keeping.{told_next, leaves_none, leaves_then, leaves_ok, leaves_err}
use Rattle.resample.specs.Height.{height_at}
use Rattle.resample.specs.Block.{Fills}
use Rattle.resample.proofs.Blocks.{column_here, row_here}
use Rattle.resample.proofs.Fills.{no_columns, more_columns, point_more}
use Rattle.resample.proofs.tile.fill_row.Goals.{in-Some, in-None+in_ok-metres-in-None}
use Rattle.resample.proofs.tile.fill_row.Goals as goal

pub loop-i-init : goal.loop-i-init
loop-i-init g c = (leaves_none (tt {0}), λ told is. no_columns (to_z w16 (of_z w16 c.args.fill)) told c.args.block.now.tile c.args.block.now.columns.first c.args.j (c.args.j + 1) c.args.out.now, λ some. absurd (omega (arith, some)))

pub height_at_hand-requires-clause-east : goal.height_at_hand-requires-clause-east
height_at_hand-requires-clause-east g c =
    column_here (g.P.PostSource.shapes c.args.src.now) c.args.block.now c.args.lines.now c.loop-i.i c.args.j c.tile_place-place.result c.requires.block c.requires.lines c.loop-i.auto.i c.loop-i-test.true c.tile_place-place.ensures.value

pub height_at_hand-requires-clause-north : goal.height_at_hand-requires-clause-north
height_at_hand-requires-clause-north g c =
    row_here (g.P.PostSource.shapes c.args.src.now) c.args.block.now c.args.lines.now c.loop-i.i c.args.j c.tile_place-place.result c.requires.block c.requires.lines c.requires.row.0 c.requires.row.1 c.tile_place-place.ensures.value

pub point-requires-clause-finest : goal.point-requires-clause-finest
point-requires-clause-finest g c = c.requires.block.finest_is ∙ ap (λ s. finest_of s c.args.block.now.square) (sym c.loop-i.invariant.0.keeps.shape)

pub point-requires-clause-east : goal.point-requires-clause-east
point-requires-clause-east g c =
    column_here (g.P.PostSource.shapes c.args.src.now) c.args.block.now c.args.lines.now c.loop-i.i c.args.j c.tile_place-place.result c.requires.block c.requires.lines c.loop-i.auto.i c.loop-i-test.true c.tile_place-place.ensures.value

pub point-requires-clause-north : goal.point-requires-clause-north
point-requires-clause-north g c =
    row_here (g.P.PostSource.shapes c.args.src.now) c.args.block.now c.args.lines.now c.loop-i.i c.args.j c.tile_place-place.result c.requires.block c.requires.lines c.requires.row.0 c.requires.row.1 c.tile_place-place.ensures.value

-- a point more has its height
placed : (fill : ℤ) (told : Cells) (tile : TileId) (first i j : ℕ) (before grid after : List ℤ) (metres : ℤ) → i ≤ 66 → j ≤ 66
    → length after ≡ 4489 → after ≡ set grid (spot i j) metres → Fills fill told tile first i j (j + 1) before grid
    → metres ≡ height_at fill told (place_of tile i j) → Fills fill told tile first (i + 1) j (j + 1) before after
placed fill told tile first i j before grid after metres in_row in_column full set_is filled is =
    subst (λ now. Fills fill told tile first (i + 1) j (j + 1) before now) (sym set_is)
    (more_columns fill told tile first i (i + 1) j (j + 1) before grid (set grid (spot i j) metres) filled
    (point_more fill told tile i j grid metres in_row in_column
    (sym (length-set grid (spot i j) metres) ∙ ap length (sym set_is) ∙ full) is))

pub loop-i-preserved : goal.loop-i-preserved
loop-i-preserved g c =
    let inv = c.loop-i.invariant in
    let i = c.loop-i.i in
    let j = c.args.j in
    let fill = to_z w16 (of_z w16 c.args.fill) in
    let tile = c.args.block.now.tile in
    let across = c.requires.block.across.last in
    let along = c.requires.block.along.last in
    let in_row : i ≤ 66 = omega (arith, c.loop-i-test.true, across) in
    let in_column : j ≤ 66 = omega (arith, c.requires.row.1, along) in
    elim c.match-height_at_hand.branch [
      | in-Some w ↦
          let metres = w.in-Some.metres in
          let fits : FitsSigned w16 metres = height_fits _ w.in-Some.ensures.height in
          let set_is : c.set.new.self ≡ set c.loop-i.out (spot i j) metres =
          c.set.ensures.value ∙ ap (set c.loop-i.out (spot i j)) (simp to_z-of_z at w.metres-is) in (
            rw (w.src-is, w.store-is) inv.0,
            λ told is. placed fill told tile c.args.block.now.columns.first i j c.args.out.now c.loop-i.out c.set.new.self metres
                in_row in_column c.set.ensures.full set_is (inv.1 told is)
                (w.in-Some.ensures.value fill (g.S.Store.holds c.loop-i.store) told (told_next inv.0 told is)
                ∙ ap (height_at fill told) c.tile_place-place.ensures.value),
            λ some. c.set.ensures.full,
          )
      | in-None+in_ok-metres-in-None w ↦
          let found = w.in_ok-metres-in-None.ensures in
          let metres = w.in_ok-metres-in-None.metres in
          let fits : FitsSigned w16 metres = height_fits _ found.height in
          let set_is : c.set.new.self ≡ set c.loop-i.out (spot i j) metres =
          c.set.ensures.value ∙ ap (set c.loop-i.out (spot i j)) (simp to_z-of_z at w.metres-is) in (
            rw (w.src-is, w.store-is) (leaves_ok (tt {0}) (leaves_then inv.0 found.leaves)),
            λ told is. placed fill told tile c.args.block.now.columns.first i j c.args.out.now c.loop-i.out c.set.new.self metres
                in_row in_column c.set.ensures.full set_is (inv.1 told is)
                (found.value told (told_next inv.0 told is) ∙ ap (height_at fill told) c.tile_place-place.ensures.value),
            λ some. c.set.ensures.full,
          )
    ]

pub returns-clause-value : goal.returns-clause-value
returns-clause-value g c told is =
    let r = c.ranges.fill in
    let some = c.requires.block.across.some in
    let end : c.loop-i.i ≡ c.args.block.now.columns.end = omega (arith, some) in
    subst (λ (i : ℕ). Fills c.args.fill told c.args.block.now.tile c.args.block.now.columns.first i c.args.j (c.args.j + 1) c.args.out.now c.loop-i.out) end
    (simp to_z-of_z at c.loop-i.invariant.1 told is)

pub returns-clause-full : goal.returns-clause-full
returns-clause-full g c =
    let some = c.requires.block.across.some in
    c.loop-i.invariant.2 (omega (arith, some))

pub returns-in_err-metres-in-None-clause-leaves : goal.returns-in_err-metres-in-None-clause-leaves
returns-in_err-metres-in-None-clause-leaves g c =
    leaves_then c.loop-i.invariant.0 (leaves_err c.from_residual.result c.from_residual.ensures.1 c.in_err-metres-in-None.ensures.leaves)
