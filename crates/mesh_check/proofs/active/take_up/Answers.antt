-- The next span.
use Rattle.std.proofs.Common.{rules, ◌<◌, ◌+◌, arith, subst, sym, refl}
use Rattle.mesh_check.specs.Spans.{Span, AreTaken, IsRest}
use Rattle.mesh_check.proofs.ListFacts.{any_default}
use Rattle.mesh_check.proofs.Actives.{taken_start, taken_on}
use Rattle.mesh_check.proofs.active.take_up.Goals as goal

pub loop-next-init : goal.loop-next-init
loop-next-init c = taken_start c.args.spans.now c.args.active.now c.args.low c.requires

pub loop-next-preserved : goal.loop-next-preserved
loop-next-preserved c =
    let none : Span = record { low = 0; high = 0; number = 0 } in
    taken_on c.args.spans.now c.args.active.now c.loop-next.active (record {
      spans = c.push.new.self;
      next =
          c.loop-next.next + 1;
    }) c.args.low c.loop-next.next none c.loop-next.invariant c.loop-next-test.true
    (search rules) (search rules) refl

pub returns-clause-taken : goal.returns-clause-taken
returns-clause-taken c =
    subst (λ k. AreTaken c.args.spans.now c.args.active.now c.loop-next.active c.args.low k)
    (sym c.loop-next.invariant.next) c.loop-next.invariant

pub returns-clause-rest : goal.returns-clause-rest
returns-clause-rest c = λ d l. omega (arith, l, c.loop-next.invariant.next, c.loop-next-test.false)

pub returns-then-spans-next-clause-taken : goal.returns-then-spans-next-clause-taken
returns-then-spans-next-clause-taken c =
    subst (λ k. AreTaken c.args.spans.now c.args.active.now c.loop-next.active c.args.low k)
    (sym c.loop-next.invariant.next) c.loop-next.invariant

pub returns-then-spans-next-clause-rest : goal.returns-then-spans-next-clause-rest
returns-then-spans-next-clause-rest c =
    let none : Span = record { low = 0; high = 0; number = 0 } in
    subst (λ k. IsRest c.args.spans.now c.args.low k) (sym c.loop-next.invariant.next)
    (λ d l. subst (λ (s : Span). c.args.low < s.low) (any_default c.args.spans.now c.loop-next.next none d l)
    c.if-spans-next.true)
