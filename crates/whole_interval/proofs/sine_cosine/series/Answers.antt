use Rattle.std.proofs.Common.{rules, ◌≡◌, ◌∙◌, ◌+◌, ap, arith, refl, FitsSigned}
use Rattle.std.proofs.lemmas.Int.{to_z-of_z}
use mir.Syntax.{w128}
use Rattle.whole_interval.specs.HalfTurn.{alternated_of, next_of, partial_of, term_of}
use Rattle.whole_interval.proofs.Sizes.{partial_at, partial_next, series_is, term_at, term_next}
use Rattle.whole_interval.proofs.sine_cosine.series.Goals as goal

pub loop-j-init : goal.loop-j-init
unfolding term_of partial_of
loop-j-init c = record { term = refl; eight = refl }

pub next-term-requires-clause-term : goal.next-term-requires-clause-term
next-term-requires-clause-term c =
    rw c.loop-j.invariant.term (term_at c.loop-j.j _ _ c.args.from (omega arith) c.requires.positive
    c.requires.first c.requires.square)

pub alternated-eight-requires-clause-sum : goal.alternated-eight-requires-clause-sum
alternated-eight-requires-clause-sum c =
    rw c.loop-j.invariant.eight (partial_at c.loop-j.j _ _ c.args.from (omega arith) c.requires.positive
    c.requires.first c.requires.square)

pub alternated-eight-requires-clause-term : goal.alternated-eight-requires-clause-term
alternated-eight-requires-clause-term c =
    let e = c.next-term.ensures ∙ ap (λ a. next_of a c.args.square.now c.args.from c.loop-j.j)
    c.loop-j.invariant.term ∙ term_next c.loop-j.j c.args.first.now c.args.square.now c.args.from in
    rw e (term_at (c.loop-j.j + 1) _ _ c.args.from (omega arith) c.requires.positive c.requires.first
    c.requires.square)

pub loop-j-preserved : goal.loop-j-preserved
loop-j-preserved c =
    let e = c.next-term.ensures ∙ ap (λ a. next_of a c.args.square.now c.args.from c.loop-j.j)
    c.loop-j.invariant.term ∙ term_next c.loop-j.j c.args.first.now c.args.square.now c.args.from in
    record {
      term = e;
      eight = c.alternated-eight.ensures
          ∙ ap (λ a. alternated_of a c.next-term.result c.loop-j.j) c.loop-j.invariant.eight
          ∙ ap (λ a. alternated_of (partial_of c.args.first.now c.args.square.now c.args.from c.loop-j.j) a
          c.loop-j.j) e
          ∙ partial_next c.loop-j.j c.args.first.now c.args.square.now c.args.from;
    }

pub next-requires-clause-term : goal.next-requires-clause-term
next-requires-clause-term c =
    rw c.loop-j.invariant.term (term_at c.loop-j.j _ _ c.args.from (omega arith) c.requires.positive
    c.requires.first c.requires.square)

pub alternated-nine-requires-clause-sum : goal.alternated-nine-requires-clause-sum
alternated-nine-requires-clause-sum c =
    rw c.loop-j.invariant.eight (partial_at c.loop-j.j _ _ c.args.from (omega arith) c.requires.positive
    c.requires.first c.requires.square)

pub alternated-nine-requires-clause-term : goal.alternated-nine-requires-clause-term
alternated-nine-requires-clause-term c =
    let j : c.loop-j.j ≡ 7 = omega arith in
    let e = c.next.ensures ∙ ap (λ a. next_of a c.args.square.now c.args.from 7)
    (rw j at c.loop-j.invariant.term) ∙ term_next 7 c.args.first.now c.args.square.now c.args.from in
    rw e (term_at 8 _ _ c.args.from (omega arith) c.requires.positive c.requires.first c.requires.square)

pub returns : goal.returns
returns c =
    let j : c.loop-j.j ≡ 7 = omega arith in
    let eight = rw j at c.loop-j.invariant.eight in
    let term = c.next.ensures ∙ ap (λ a. next_of a c.args.square.now c.args.from 7)
    (rw j at c.loop-j.invariant.term) ∙ term_next 7 c.args.first.now c.args.square.now c.args.from in
    let nine = c.alternated-nine.ensures
    ∙ ap (λ a. alternated_of a c.next.result 7) eight
    ∙ ap (λ a. alternated_of (partial_of c.args.first.now c.args.square.now c.args.from 7) a 7) term
    ∙ partial_next 7 c.args.first.now c.args.square.now c.args.from in
    let lo : FitsSigned w128 c.loop-j.eight.lo = search rules in
    let hi : FitsSigned w128 c.alternated-nine.result.hi = search rules in
    simp to_z-of_z (series_is c.args.first.now c.args.square.now c.args.from c.loop-j.eight
    c.alternated-nine.result eight nine)
