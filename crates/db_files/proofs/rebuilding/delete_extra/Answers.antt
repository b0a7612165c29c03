use Rattle.std.proofs.Common.{arith}
use Rattle.terrain_base.proofs.Runs.{both_done, goes_on, stops, at_err, some_as}
use Rattle.cell_cache.specs.Cached.{shapes_of_rows}
use Rattle.db_files.proofs.Alike.{alike_then}
use Rattle.db_files.proofs.Fillings.{more_of, split_of}
use Rattle.db_files.proofs.rebuilding.delete_extra.Goals as goal

pub returns-in_err-delete_if_extra-clause-ran : goal.returns-in_err-delete_if_extra-clause-ran
returns-in_err-delete_if_extra-clause-ran g c = λ s p r.
    at_err c.from_residual.result _ c.from_residual.ensures.1
    (some_as (split_of s c.args.names.now c.loop-name.name-index c.name-item.result c.loop-name-test.true c.name-item.is)
    (goes_on (c.loop-name.invariant.done s p r) (stops _ (c.in_err-delete_if_extra.ensures.ran s p r).err)))

pub loop-name-preserved : goal.loop-name-preserved
loop-name-preserved g c = record {
  done = λ s p r.
      rw (more_of s c.args.names.now c.loop-name.name-index c.name-item.result c.loop-name-test.true c.name-item.is)
      (both_done (c.loop-name.invariant.done s p r) (c.in_ok-delete_if_extra.ensures.ran s p r).ok);
  alike = alike_then (shapes_of_rows c.args.rows.now) _ _ _ c.loop-name.invariant.alike c.in_ok-delete_if_extra.ensures.alike;
  faults = omega arith;
}

pub returns-in_err-delete_if_extra-clause-alike : goal.returns-in_err-delete_if_extra-clause-alike
returns-in_err-delete_if_extra-clause-alike g c = alike_then (shapes_of_rows c.args.rows.now) _ _ _ c.loop-name.invariant.alike c.in_err-delete_if_extra.ensures.alike
