use Rattle.std.proofs.Common.{arith, sym}
use Rattle.availability.specs.Count.{level_count_of}
use Rattle.availability.proofs.Counts.{one_more_level, no_level}
use Rattle.availability.proofs.count.tile_count.Goals as goal

pub loop-z-init : goal.loop-z-init
loop-z-init c = record { value = sym (no_level (level_count_of c.args.cap c.args.summaries.now)); few = omega arith }

pub loop-z-preserved : goal.loop-z-preserved
loop-z-preserved c =
    let more = one_more_level (level_count_of c.args.cap c.args.summaries.now) c.loop-z.z in
    record {
      value = omega (arith, more, c.loop-z.invariant.value, c.in_ok-of_level.ensures.value);
      few = omega (arith, c.loop-z.invariant.few, c.in_ok-of_level.ensures.few);
    }
