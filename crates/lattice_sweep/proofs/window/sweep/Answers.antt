-- Column by column.
use Rattle.std.proofs.Common.{subst, sym}
use Rattle.cell_mosaic.specs.Cells.{Shapes}
use Rattle.cell_mosaic.proofs.Keeping.{told_next, leaves_then, leaves_err}
use Rattle.lattice_sweep.specs.Axis.{Has}
use Rattle.lattice_sweep.specs.Sweep.{IsWindow}
use Rattle.lattice_sweep.proofs.Windows.{one_column, all_columns}
use Rattle.lattice_sweep.proofs.window.sweep.Goals as goal

pub column-requires-clause-window : goal.column-requires-clause-window
column-requires-clause-window g c =
    subst (λ (s : Shapes). IsWindow s c.args.window.now) (sym c.loop-col.invariant.0.keeps.shape) c.requires.window

pub loop-col-preserved : goal.loop-col-preserved
loop-col-preserved g c =
    let inv = c.loop-col.invariant in
    let e = c.in_ok-worst.ensures in
    let w = c.args.window.now in
    let has : Has w.east c.loop-col.col = record { from = c.loop-col.auto.col; to = c.loop-col-test.true } in (
      leaves_then inv.0 e.leaves,
      λ told is. one_column told w.key c.args.tri.now w.east w.north c.loop-col.col has (inv.1 told is) (e.value told (told_next inv.0 told is)),
      e.size,
    )

pub returns-in_err-worst-clause-leaves : goal.returns-in_err-worst-clause-leaves
returns-in_err-worst-clause-leaves g c =
    leaves_then c.loop-col.invariant.0 (leaves_err c.from_residual.result c.from_residual.ensures.1 c.in_err-worst.ensures.leaves)

pub returns-clause-value : goal.returns-clause-value
returns-clause-value g c told is =
    let w = c.args.window.now in
    all_columns told w.key c.args.tri.now w.east w.north c.loop-col.col c.loop-col-test.false (c.loop-col.invariant.1 told is)
