use Rattle.std.proofs.Common.{◌≡◌, ℕ, arith, subst, w16, to_z, of_z}
use Rattle.std.proofs.lemmas.Int.{to_z-of_z}
use Rattle.cell_mosaic.proofs.Keeping.{told_next, leaves_none, leaves_then, leaves_ok}
use Rattle.resample.specs.Block.{Fills}
use Rattle.terrain_base.specs.declared.tile.TileId.{TileId}
use Rattle.resample.specs.Line.{AreGridLines, column_units, parts_of}
use Rattle.resample.proofs.Fills.{no_columns, more_columns, block_fills}
use Rattle.resample.proofs.tile.fill_band.Goals as goal

pub loop-i-init : goal.loop-i-init
loop-i-init g c = (
  leaves_none (tt {0}),
  λ told is. no_columns (to_z w16 (of_z w16 c.args.fill)) told c.args.tile 0 c.args.rows.first c.args.rows.end c.args.out.now,
  λ some. absurd (omega (arith, some)),
  c.requires.lines,
  omega arith,
)

pub returns-clause-value : goal.returns-clause-value
returns-clause-value g c told is =
    let r = c.ranges.fill in
    let end : c.loop-i.i ≡ 67 = omega (arith, c.loop-i.invariant.4, c.loop-i-test.false) in
    subst (λ (i : ℕ). Fills c.args.fill told c.args.tile 0 i c.args.rows.first c.args.rows.end c.args.out.now c.loop-i.out) end
    (simp to_z-of_z at c.loop-i.invariant.1 told is)

pub returns-clause-full : goal.returns-clause-full
returns-clause-full g c = c.loop-i.invariant.2 (omega (arith, c.loop-i-test.false))

pub block_at-block-requires-clause-columns : goal.block_at-block-requires-clause-columns
block_at-block-requires-clause-columns g c = c.run_at-run.ensures.run (column_units c.args.tile) (parts_of c.args.tile) c.loop-i.invariant.3.across

pub loop-i-smaller : goal.loop-i-smaller
loop-i-smaller g c =
    let run = c.run_at-run.ensures in
    let is = run.run (column_units c.args.tile) (parts_of c.args.tile) c.loop-i.invariant.3.across in
    let some = is.some in
    omega (arith, c.loop-i-test.true, run.first, some)

pub loop-i-preserved : goal.loop-i-preserved
loop-i-preserved g c =
    let inv = c.loop-i.invariant in
    let e = c.in_ok-fill_block.ensures in
    let b = c.block_at-block.ensures in
    let block = c.block_at-block.result in
    let run = c.run_at-run.result in
    let is = c.run_at-run.ensures.run (column_units c.args.tile) (parts_of c.args.tile) inv.3.across in
    let fill = to_z w16 (of_z w16 c.args.fill) in
    let tile = c.args.tile in
    let rows = c.args.rows in (
      leaves_ok (tt {0}) (leaves_then inv.0 e.leaves),
      λ told is.
          more_columns fill told tile 0 c.loop-i.i run.end rows.first rows.end c.args.out.now c.loop-i.out c.fill_block.new.out (inv.1 told is)
          (subst (λ (i : ℕ). Fills fill told tile i run.end rows.first rows.end c.loop-i.out c.fill_block.new.out) c.run_at-run.ensures.first
          (block_fills fill told tile run rows block c.loop-i.out c.fill_block.new.out b.tile b.columns b.rows (e.value told (told_next inv.0 told is)))),
      λ some. e.full,
      subst (λ (t : TileId). AreGridLines t c.fill_block.new.lines) b.tile e.lines,
      is.last,
    )
