-- The first break at which the line is below the surface, or none.
use Rattle.std.proofs.Common.{List, subst, sym, get_or}
use Rattle.std.specs.Prelude.{pos}
use Rattle.std.specs.List.{AllByRecursion}
use Rattle.std.proofs.lemmas.List.{take_all}
use Rattle.mesh_plane.specs.Cover.{Covers}
use Rattle.mesh_query.specs.declared.spot.Break.{Break}
use Rattle.mesh_query.specs.Field.{triangles_of}
use Rattle.mesh_query.specs.Found.{at_place}
use Rattle.mesh_query.specs.Profile.{IsProfile}
use Rattle.mesh_query.specs.Way.{place}
use Rattle.sight_line.specs.declared.eye.SightAnswer.TheVariants.{Clear, Blocked}
use Rattle.sight_line.proofs.Blocks.{Dips, blocked, same_holder, no_dip, clear_answer}
use Rattle.sight_line.proofs.blocked.sight.Goals as goal

pub returns-then-is_under-clause-clear : goal.returns-then-is_under-clause-clear
returns-then-is_under-clause-clear c =
    let ts = triangles_of c.args.field.now in let p = place c.args.from.spot in let q = place c.args.to.spot in
    let a = c.args.from.metres in let b = c.args.to.metres in
    let cover : Covers ts = subst Covers c.tris-tris.ensures.tris c.tris-tris.ensures.covers in
    let bs = c.deref-bend-items.result.now in
    let profile : IsProfile ts p q bs =
    subst (λ (xs : List Break). IsProfile ts p q xs) (sym c.deref-bend-items.ensures.value) c.in_ok-list.ensures.profile in
    let line = c.line_between-line.result in let i = c.loop-bend.bend-index in
    let d : Break = record {
      at = record { over = pos 0; under = pos 0 };
      metres = record { over = pos 0; under = pos 0 };
    } in
    let bend = get_or bs i d in
    let asked = rw (c.line_between-line.ensures.start, c.line_between-line.ensures.end) at c.is_under.ensures in
    let height = rw (c.line_between-line.ensures.start, c.line_between-line.ensures.end) at c.height_of.ensures.value in
    let is = blocked ts p q a b cover bs profile i d c.loop-bend-test.true c.loop-bend.invariant
    (asked.0 c.if-is_under.true) c.holder_at.result c.height_of.result
    (same_holder ts c.tris-tris.result.now p q (at_place line.from) (at_place line.to) bend.at c.holder_at.result
    c.tris-tris.ensures.tris c.line_between-line.ensures.from c.line_between-line.ensures.to c.holder_at.ensures) height
    c.height_of.ensures.lowest in
    clear_answer ts p q a b (Blocked bend.at c.holder_at.result bend.metres c.height_of.result) is

pub returns-then-is_under-clause-answer : goal.returns-then-is_under-clause-answer
returns-then-is_under-clause-answer c =
    let ts = triangles_of c.args.field.now in let p = place c.args.from.spot in let q = place c.args.to.spot in
    let a = c.args.from.metres in let b = c.args.to.metres in
    let cover : Covers ts = subst Covers c.tris-tris.ensures.tris c.tris-tris.ensures.covers in
    let bs = c.deref-bend-items.result.now in
    let profile : IsProfile ts p q bs =
    subst (λ (xs : List Break). IsProfile ts p q xs) (sym c.deref-bend-items.ensures.value) c.in_ok-list.ensures.profile in
    let line = c.line_between-line.result in let i = c.loop-bend.bend-index in
    let d : Break = record {
      at = record { over = pos 0; under = pos 0 };
      metres = record { over = pos 0; under = pos 0 };
    } in
    let bend = get_or bs i d in
    let asked = rw (c.line_between-line.ensures.start, c.line_between-line.ensures.end) at c.is_under.ensures in
    let height = rw (c.line_between-line.ensures.start, c.line_between-line.ensures.end) at c.height_of.ensures.value in
    let is = blocked ts p q a b cover bs profile i d c.loop-bend-test.true c.loop-bend.invariant
    (asked.0 c.if-is_under.true) c.holder_at.result c.height_of.result
    (same_holder ts c.tris-tris.result.now p q (at_place line.from) (at_place line.to) bend.at c.holder_at.result
    c.tris-tris.ensures.tris c.line_between-line.ensures.from c.line_between-line.ensures.to c.holder_at.ensures) height
    c.height_of.ensures.lowest in
    is

pub returns-clause-clear : goal.returns-clause-clear
returns-clause-clear c =
    let ts = triangles_of c.args.field.now in let p = place c.args.from.spot in let q = place c.args.to.spot in
    let a = c.args.from.metres in let b = c.args.to.metres in
    let cover : Covers ts = subst Covers c.tris-tris.ensures.tris c.tris-tris.ensures.covers in
    let bs = c.deref-bend-items.result.now in
    let profile : IsProfile ts p q bs =
    subst (λ (xs : List Break). IsProfile ts p q xs) (sym c.deref-bend-items.ensures.value) c.in_ok-list.ensures.profile in
    let none = subst (λ (xs : List Break). AllByRecursion (λ x. ¬ Dips a b x) xs)
    (take_all c.loop-bend.bend-index bs c.loop-bend-test.false) c.loop-bend.invariant in
    clear_answer ts p q a b Clear (no_dip ts p q a b cover bs profile none)

pub returns-clause-answer : goal.returns-clause-answer
returns-clause-answer c =
    let ts = triangles_of c.args.field.now in let p = place c.args.from.spot in let q = place c.args.to.spot in
    let a = c.args.from.metres in let b = c.args.to.metres in
    let cover : Covers ts = subst Covers c.tris-tris.ensures.tris c.tris-tris.ensures.covers in
    let bs = c.deref-bend-items.result.now in
    let profile : IsProfile ts p q bs =
    subst (λ (xs : List Break). IsProfile ts p q xs) (sym c.deref-bend-items.ensures.value) c.in_ok-list.ensures.profile in
    let none = subst (λ (xs : List Break). AllByRecursion (λ x. ¬ Dips a b x) xs)
    (take_all c.loop-bend.bend-index bs c.loop-bend-test.false) c.loop-bend.invariant in
    no_dip ts p q a b cover bs profile none
