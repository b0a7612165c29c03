use Rattle.std.proofs.Common.{arith, rules, length, true, false, ◌<◌}
use Rattle.std.proofs.lemmas.List.{get_or-set_same}
use Rattle.edge_decimate.proofs.Bits.{kept_marked}
use Rattle.edge_decimate.proofs.kept_line.kept.Goals as goal

pub invariant_of-result : goal.invariant_of-result
invariant_of-result c =
    let l : 66 < length c.mark.new.bits = search (rules, arith) in
    get_or-set_same c.mark.new.bits 66 true false l

pub returns : goal.returns
returns c = kept_marked c.args.line.now c.args.tol c.mark.new.bits c.mark.ensures
