use Rattle.std.proofs.Common.{◌≡◌, ℕ, arith, subst, w16, to_z, of_z}
use Rattle.std.proofs.lemmas.Int.{to_z-of_z}
use Rattle.cell_mosaic.proofs.Keeping.{told_next, leaves_none, leaves_then, leaves_ok}
use Rattle.resample.specs.Block.{Fills}
use Rattle.resample.specs.Line.{row_units, parts_of}
use Rattle.resample.proofs.Fills.{no_rows, more_rows, all_filled}
use Rattle.resample.proofs.tile.tile_grid.Goals as goal

pub loop-j-init : goal.loop-j-init
loop-j-init g c = (
  leaves_none (tt {0}),
  λ told is. no_rows (to_z w16 (of_z w16 c.args.fill)) told c.args.tile 0 67 0 c.args.out.now,
  λ some. absurd (omega (arith, some)),
  record { across = c.column_lines.ensures; along = c.row_lines.ensures },
  omega arith,
)

pub returns-clause-value : goal.returns-clause-value
returns-clause-value g c told is =
    let r = c.ranges.fill in
    let end : c.loop-j.j ≡ 67 = omega (arith, c.loop-j.invariant.4, c.loop-j-test.false) in
    all_filled c.args.fill told c.args.tile c.args.out.now c.loop-j.out (c.loop-j.invariant.2 (omega (arith, end)))
    (subst (λ (j : ℕ). Fills c.args.fill told c.args.tile 0 67 0 j c.args.out.now c.loop-j.out) end
    (simp to_z-of_z at c.loop-j.invariant.1 told is))

pub fill_band-requires-clause-rows : goal.fill_band-requires-clause-rows
fill_band-requires-clause-rows g c = c.run_at-run.ensures.run (row_units c.args.tile) (parts_of c.args.tile) c.loop-j.invariant.3.along

pub loop-j-smaller : goal.loop-j-smaller
loop-j-smaller g c =
    let run = c.run_at-run.ensures in
    let is = run.run (row_units c.args.tile) (parts_of c.args.tile) c.loop-j.invariant.3.along in
    let some = is.some in
    omega (arith, c.loop-j-test.true, run.first, some)

pub loop-j-preserved : goal.loop-j-preserved
loop-j-preserved g c =
    let inv = c.loop-j.invariant in
    let e = c.in_ok-fill_band.ensures in
    let run = c.run_at-run.result in
    let is = c.run_at-run.ensures.run (row_units c.args.tile) (parts_of c.args.tile) inv.3.along in
    let fill = to_z w16 (of_z w16 c.args.fill) in
    let tile = c.args.tile in (
      leaves_ok (tt {0}) (leaves_then inv.0 e.leaves),
      λ told is.
          more_rows fill told tile 0 67 0 c.loop-j.j run.end c.args.out.now c.loop-j.out c.fill_band.new.out (inv.1 told is)
          (subst (λ (j : ℕ). Fills fill told tile 0 67 j run.end c.loop-j.out c.fill_band.new.out) c.run_at-run.ensures.first (e.value told (told_next inv.0 told is))),
      λ some. e.full,
      e.lines,
      is.last,
    )
