use Rattle.std.proofs.Common.{◌≡◌, ◌+◌, ℕ, sym, arith, subst, w16, to_z, of_z}
use Rattle.std.proofs.lemmas.Int.{to_z-of_z}
use Rattle.cell_mosaic.proofs.Keeping.{told_next, leaves_none, leaves_then, leaves_ok, leaves_err}
use Rattle.resample.specs.Block.{IsBlock, Fills}
use Rattle.resample.proofs.Fills.{no_rows, more_rows}
use Rattle.resample.proofs.tile.fill_block.Goals as goal

pub loop-j-init : goal.loop-j-init
loop-j-init g c = (
  leaves_none (tt {0}),
  λ told is. no_rows (to_z w16 (of_z w16 c.args.fill)) told c.args.block.now.tile c.args.block.now.columns.first c.args.block.now.columns.end c.args.block.now.rows.first c.args.out.now,
  λ some. absurd (omega (arith, some)),
  c.turn_block.ensures,
)

pub fill_row-requires-clause-block : goal.fill_row-requires-clause-block
fill_row-requires-clause-block g c = subst (λ s. IsBlock s c.args.block.now) (sym c.loop-j.invariant.0.keeps.shape) c.requires.block

pub loop-j-preserved : goal.loop-j-preserved
loop-j-preserved g c =
    let inv = c.loop-j.invariant in
    let e = c.in_ok-fill_row.ensures in
    let block = c.args.block.now in
    let j = c.loop-j.j in (
      leaves_ok (tt {0}) (leaves_then inv.0 e.leaves),
      λ told is.
          more_rows (to_z w16 (of_z w16 c.args.fill)) told block.tile block.columns.first block.columns.end block.rows.first j (j + 1) c.args.out.now c.loop-j.out c.fill_row.new.out (inv.1 told is) (e.value told (told_next inv.0 told is)),
      λ some. e.full,
      inv.3,
    )

pub returns-clause-value : goal.returns-clause-value
returns-clause-value g c told is =
    let r = c.ranges.fill in
    let block = c.args.block.now in
    let some = c.requires.block.along.some in
    let end : c.loop-j.j ≡ block.rows.end = omega (arith, some) in
    subst (λ (j : ℕ). Fills c.args.fill told block.tile block.columns.first block.columns.end block.rows.first j c.args.out.now c.loop-j.out) end
    (simp to_z-of_z at c.loop-j.invariant.1 told is)

pub returns-clause-full : goal.returns-clause-full
returns-clause-full g c =
    let some = c.requires.block.along.some in
    c.loop-j.invariant.2 (omega (arith, some))

pub returns-in_err-fill_row-clause-leaves : goal.returns-in_err-fill_row-clause-leaves
returns-in_err-fill_row-clause-leaves g c =
    leaves_then c.loop-j.invariant.0 (leaves_err c.from_residual.result c.from_residual.ensures.1 c.in_err-fill_row.ensures.leaves)
