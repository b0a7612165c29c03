use Rattle.std.proofs.Common.{◌≡◌, ◌<◌, ◌≤◌, ◌∙◌, length, Some, sym, ap, subst, rules}
use Rattle.std.specs.Prelude.{IsSomeAnd}
use Rattle.std.specs.Ordering.{is_eq}
use Rattle.terrain_base.proofs.Books.{one_on, at_end}
use Rattle.terrain_base.proofs.sure_library.SureLibraryLibrary.fetch.Goals as goal

pub loop-book-preserved : goal.loop-book-preserved
loop-book-preserved c =
    let here = one_on _ _ c.in-Some.book.now c.args.name.now _ _ c.is_eq.result _ c.loop-book.invariant c.in-Some.ensures.steps c.as_bytes.ensures.value c.as_slice.ensures.value (c.is_eq.ensures ∙ ap is_eq c.cmp.ensures) in
    rw c.if-is_eq.false at here

pub returns-clause-fetched : goal.returns-clause-fetched
returns-clause-fetched c = c.loop-book.invariant ∙ at_end _ c.args.name.now c.in-None.ensures.steps.0

pub returns-then-is_eq-clause-fetched : goal.returns-then-is_eq-clause-fetched
returns-then-is_eq-clause-fetched c =
    let here = one_on _ _ c.in-Some.book.now c.args.name.now _ _ c.is_eq.result _ c.loop-book.invariant c.in-Some.ensures.steps c.as_bytes.ensures.value c.as_slice.ensures.value (c.is_eq.ensures ∙ ap is_eq c.cmp.ensures) in
    let copied : c.in_ok-to_vec.field-0.items ≡ c.in-Some.book.now.bytes.items = search rules in
    let short : length c.in-Some.book.now.bytes.items ≤ c.args.limit = search rules in
    ((rw c.if-is_eq.true at here) ∙ ap Some (sym copied), subst (λ xs. length xs ≤ c.args.limit) (sym copied) short)

pub returns-then-len-limit-clause-fetched : goal.returns-then-len-limit-clause-fetched
returns-then-len-limit-clause-fetched c =
    let here = one_on _ _ c.in-Some.book.now c.args.name.now _ _ c.is_eq.result _ c.loop-book.invariant c.in-Some.ensures.steps c.as_bytes.ensures.value c.as_slice.ensures.value (c.is_eq.ensures ∙ ap is_eq c.cmp.ensures) in
    let long : c.args.limit < length c.in-Some.book.now.bytes.items = search rules in
    subst (λ o. IsSomeAnd o (λ bytes. c.args.limit < length bytes)) (sym (rw c.if-is_eq.true at here)) long
