use Rattle.std.proofs.Common.{◌∙◌, sym, ◌+◌}
use Rattle.quad_split.proofs.Rows.{row_step}
use Rattle.quad_split.proofs.triangle.follows_points.Goals as goal

pub loop-k-preserved : goal.loop-k-preserved
loop-k-preserved c =
    row_step c.args.grid.now c.args.tol c.args.tri.now c.loop-k.k c.args.j
    (c.args.i + c.args.n) c.loop-k-test.true
    (sym c.if-not-follows_point.ensures)
    ∙ c.loop-k.invariant
