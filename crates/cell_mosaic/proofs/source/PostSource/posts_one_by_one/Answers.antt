use Rattle.cell_mosaic.proofs.Keeping.{leaves_then, leaves_err}
use Rattle.cell_mosaic.proofs.source.PostSource.posts_one_by_one.Goals as goal

pub returns-in_err-se-clause-leaves : goal.returns-in_err-se-clause-leaves
returns-in_err-se-clause-leaves g c =
    leaves_then c.in_ok-sw.ensures.leaves (leaves_err c.from_residual-in_err-se.result c.from_residual-in_err-se.ensures.1 c.in_err-se.ensures.leaves)

pub returns-in_err-nw-clause-leaves : goal.returns-in_err-nw-clause-leaves
returns-in_err-nw-clause-leaves g c =
    leaves_then (leaves_then c.in_ok-sw.ensures.leaves c.in_ok-se.ensures.leaves)
    (leaves_err c.from_residual-in_err-nw.result c.from_residual-in_err-nw.ensures.1 c.in_err-nw.ensures.leaves)

pub returns-in_err-ne-clause-leaves : goal.returns-in_err-ne-clause-leaves
returns-in_err-ne-clause-leaves g c =
    leaves_then (leaves_then (leaves_then c.in_ok-sw.ensures.leaves c.in_ok-se.ensures.leaves) c.in_ok-nw.ensures.leaves)
    (leaves_err c.from_residual-in_err-ne.result c.from_residual-in_err-ne.ensures.1 c.in_err-ne.ensures.leaves)
