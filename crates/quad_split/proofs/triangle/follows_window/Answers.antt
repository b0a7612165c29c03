use Rattle.std.proofs.Common.{◌∙◌, sym, ◌+◌, ◌-◌}
use Rattle.quad_split.proofs.Rows.{rows_step}
use Rattle.quad_split.proofs.Windows.{in_window}
use Rattle.quad_split.proofs.triangle.follows_window.Goals as goal

pub loop-j-init : goal.loop-j-init
loop-j-init c = in_window c.args.grid.now c.args.tol c.args.window c.args.tri.now c.requires.window c.requires.tri

pub loop-j-preserved : goal.loop-j-preserved
loop-j-preserved c =
    let window = c.args.window in
    rows_step c.args.grid.now c.args.tol c.args.tri.now window.west c.loop-j.j (window.east + 1 - window.west)
    (window.north + 1) c.loop-j-test.true (sym c.if-not-follows_points.ensures)
    ∙ c.loop-j.invariant
