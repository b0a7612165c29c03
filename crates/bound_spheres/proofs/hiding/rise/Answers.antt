use Rattle.std.proofs.Common.{sym, ◌∙◌, arith}
use Rattle.std.specs.List.{list_all}
use Rattle.bound_spheres.specs.Horizon.{hides_of}
use Rattle.bound_spheres.proofs.Rising.{before_next}
use Rattle.bound_spheres.proofs.hiding.rise.Goals as goal

pub loop-m-init : goal.loop-m-init
loop-m-init c = λ k h l. absurd (omega (arith, h, l))

pub returns-then-hides_all-clause-before : goal.returns-then-hides_all-clause-before
returns-then-hides_all-clause-before c = c.loop-m.invariant

pub loop-m-preserved : goal.loop-m-preserved
loop-m-preserved c = before_next (λ k. list_all (λ p. hides_of c.args.c.now p k) c.args.corners.now) c.args.from c.loop-m.m
    c.loop-m.invariant (sym c.hides_all.ensures ∙ c.if-hides_all.false)

pub returns-clause-before : goal.returns-clause-before
returns-clause-before c = λ k h l. c.loop-m.invariant k h (let past = c.loop-m-test.false in omega (arith, past, l))
