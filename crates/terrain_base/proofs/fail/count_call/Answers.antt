use Rattle.std.proofs.Common.{ap, sym, ◌+◌, cond, is_some, add-one}
use Rattle.terrain_base.specs.Fail.{failed_of}
use Rattle.terrain_base.proofs.fail.count_call.Goals as goal

pub returns-clause-failed : goal.returns-clause-failed
returns-clause-failed c = rw add-one (ap (λ o. failed_of c.args.fails.now c.args.calls.now + cond (is_some o) 1 0) (sym c.entry_for.ensures))
