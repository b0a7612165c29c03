-- The walk goes on while heights agree.
use Rattle.std.proofs.Common.{refl, sym, true, false, ◌≡◌}
use Rattle.std.specs.Prelude.{pos}
use Rattle.mesh_check.proofs.Steps.{step_here, step_not_here, step_end}
use Rattle.mesh_check.proofs.walk.first_step.Goals as goal

pub returns-then-not-is_same-clause-step : goal.returns-then-not-is_same-clause-step
returns-then-not-is_same-clause-step c =
    step_not_here c.args.slab.now c.args.members.now c.loop-place.place _ c.requires.slab c.requires.each
    c.requires.turned c.requires.joined c.loop-place.invariant c.loop-place-test.true
    c.upright-before.result c.upright-here.result c.upright-before.ensures c.upright-here.ensures
    (λ s. let f : true ≡ false = sym (c.if-not-is_same.ensures.1 s) in cc)

pub loop-place-preserved : goal.loop-place-preserved
loop-place-preserved c =
    step_here c.args.slab.now c.args.members.now c.loop-place.place _ c.requires.slab c.requires.each c.requires.turned
    c.requires.joined c.loop-place.invariant c.loop-place-test.true
    c.upright-before.result c.upright-here.result c.upright-before.ensures c.upright-here.ensures
    (c.if-not-is_same.ensures.0 refl)

pub returns-clause-none : goal.returns-clause-none
returns-clause-none c = λ _. step_end c.args.slab.now c.args.members.now c.loop-place.place (record {
  number = 0;
  tri = record {
    a = record { u = pos 0; v = pos 0; h = pos 0 };
    b = record { u = pos 0; v = pos 0; h = pos 0 };
    c =
        record { u = pos 0; v = pos 0; h = pos 0 };
  };
  left = record { low = record { u = pos 0; v = pos 0; h = pos 0 }; high = record { u = pos 0; v = pos 0; h = pos 0 } };
  right = record {
    low = record { u = pos 0; v = pos 0; h = pos 0 };
    high = record {
      u = pos 0;
      v = pos 0;
      h =
          pos 0;
    };
  };
}) c.loop-place.invariant c.loop-place-test.false
