-- A vertex without whole metres: the header has no span, or the only one that it has does not do.
use Rattle.std.proofs.Common.{◌∙◌, sym, subst}
use Rattle.std.proofs.lemmas.Option.{none-some}
use Rattle.mesh_query.specs.declared.metres.Span.{Span}
use Rattle.mesh_query.specs.Metres.{IsMetres}
use Rattle.mesh_query.proofs.Vertices.{some_is}
use Rattle.mesh_query.proofs.metres.corner_of.Goals as goal

pub returns-in_err-span-clause-none : goal.returns-in_err-span-clause-none
returns-in_err-span-clause-none c =
    rw c.from_residual.ensures
    (λ w. none-some _ (sym c.in_err-span.was ∙ c.span_of.ensures.only w.1.least w.1.greatest w.1.heights))

pub returns-in_err-h-clause-none : goal.returns-in_err-h-clause-none
returns-in_err-h-clause-none c =
    rw c.from_residual-in_err-h.ensures
    (λ w. c.in_err-h.ensures.none w.0.h
    (subst (λ (s : Span). IsMetres s.least s.greatest c.args.codes.height w.0.h)
    (sym (some_is _ _ (sym c.in_ok-span.was ∙ c.span_of.ensures.only w.1.least w.1.greatest w.1.heights)))
    w.1.metres))
