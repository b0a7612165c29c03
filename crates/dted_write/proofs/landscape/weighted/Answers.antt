use Rattle.std.proofs.Common.{arith}
use Rattle.dted_write.proofs.Knots.{weighted_most}
use Rattle.dted_write.proofs.landscape.weighted.Goals as goal

pub overflow_add-result-2 : goal.overflow_add-result-2
overflow_add-result-2 c =
    let a = c.args in
    let most = (weighted_most a.sw a.se a.nw a.ne a.fx a.fy (omega arith) (omega arith) (omega arith) (omega arith) (omega arith) (omega arith)).most in
    omega (arith, most)

pub overflow_add-result-3 : goal.overflow_add-result-3
overflow_add-result-3 c =
    let a = c.args in
    let most = (weighted_most a.sw a.se a.nw a.ne a.fx a.fy (omega arith) (omega arith) (omega arith) (omega arith) (omega arith) (omega arith)).most in
    omega (arith, most)

pub returns-clause-most : goal.returns-clause-most
returns-clause-most c =
    let a = c.args in
    (weighted_most a.sw a.se a.nw a.ne a.fx a.fy (omega arith) (omega arith) (omega arith) (omega arith) (omega arith) (omega arith)).most
