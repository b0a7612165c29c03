use Rattle.std.proofs.Common.{◌+◌, ◌<◌, arith}
use Rattle.std.proofs.lemmas.Bool.Decides.{nat_tests}
use Rattle.cell_cache.proofs.Rows.{ascending}
use Rattle.cell_cache.proofs.tests.ascend.Goals as goal

pub returns : goal.returns
returns c _ = ascending c.args.summaries.now (λ k d inside.
    let done = c.loop-next-test.false in
    let within : k + 1 < c.loop-next.next = grind (arith, nat_tests) in
    c.loop-next.invariant k d within)
