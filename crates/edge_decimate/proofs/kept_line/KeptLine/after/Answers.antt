use Rattle.std.proofs.Common.{◌≡◌, ◌∙◌, ap, sym, arith, zero-add, add-one, suc, ℕ, List, subst}
use Rattle.std.specs.Prelude.{Contains}
use Rattle.edge_decimate.specs.KeptLine.{marked, first_from}
use Rattle.edge_decimate.proofs.Bits.{first_here, first_on, is_marked}
use Rattle.edge_decimate.proofs.kept_line.KeptLine.after.Goals as goal

pub returns-then-self-k-clause-value : goal.returns-then-self-k-clause-value
returns-then-self-k-clause-value c =
    let f : first_from c.loop-k.k (marked 0 c.self.inside.bits)
    ≡ c.loop-k.k = rw zero-add at (first_here 0 c.loop-k.k c.self.inside.bits c.if-self-k.true) in
    sym f ∙ ap (first_from c.loop-k.k) c.self.view_is ∙ c.loop-k.invariant

pub returns-then-self-k-clause-kept : goal.returns-then-self-k-clause-kept
returns-then-self-k-clause-kept c =
    subst (λ (ks : List ℕ). Contains ks c.loop-k.k) c.self.view_is
    ((is_marked c.loop-k.k c.self.inside.bits).0 c.if-self-k.true)

pub loop-k-preserved : goal.loop-k-preserved
loop-k-preserved c =
    let f = simp zero-add at (first_on 0 c.loop-k.k c.self.inside.bits c.if-self-k.false) in
    ap (λ (n : ℕ). first_from n c.args.self.now) (add-one c.loop-k.k)
    ∙ sym (ap (first_from (suc c.loop-k.k)) c.self.view_is) ∙ f
    ∙ ap (first_from c.loop-k.k) c.self.view_is ∙ c.loop-k.invariant

pub returns-clause-value : goal.returns-clause-value
returns-clause-value c =
    let e : c.loop-k.k ≡ 66 = omega arith in
    let f = first_here 0 66 c.self.inside.bits c.self.invariant in
    sym f ∙ ap (first_from 66) c.self.view_is ∙ ap (λ (n : ℕ). first_from n c.args.self.now) (sym e)
    ∙ c.loop-k.invariant

pub returns-clause-kept : goal.returns-clause-kept
returns-clause-kept c =
    subst (λ (ks : List ℕ). Contains ks 66) c.self.view_is
    ((is_marked 66 c.self.inside.bits).0 c.self.invariant)
