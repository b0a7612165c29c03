-- What is seen after the slab.
use Rattle.std.proofs.Common.{sym}
use Rattle.mesh_check.proofs.Sweeps.{beside_some, seen_with_line, seen_on}
use Rattle.mesh_check.proofs.sweep.Course.look.Goals as goal

pub returns-then-is_some-2 : goal.returns-then-is_some-2
returns-then-is_some-2 c =
    seen_with_line c.args.self.now c.requires.course c.args.low c.args.high c.args.above.now c.requires.layer
    c.requires.joined c.args.seen c.requires.seen (sym c.if-is_some.ensures)
    c.step_in-step.result c.step_in-step.ensures.step c.step_in-step.ensures.none (sym c.if-is_some-2.ensures)

pub line_at-requires : goal.line_at-requires
line_at-requires c =
    record {
      beside = beside_some c.args.self.now c.requires.course c.args.low c.args.high c.args.above.now
          c.requires.layer c.requires.joined c.args.below.now c.requires.below;
    }

pub returns : goal.returns
returns c =
    seen_on c.args.self.now c.requires.course c.args.low c.args.high c.args.above.now c.requires.layer c.requires.joined
    c.args.seen c.requires.seen (sym c.if-is_some.ensures)
    c.step_in-step.result c.step_in-step.ensures.step c.step_in-step.ensures.none
    (sym c.if-is_some-2.ensures) c.args.below.now c.line_at.result c.requires.below c.line_at.ensures.agrees
    c.line_at.ensures.differs
