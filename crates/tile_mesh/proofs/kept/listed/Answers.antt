use Rattle.std.proofs.Common.{◌≡◌, ◌∙◌, ap, sym, arith, suc, ◌≤◌, ◌∷◌, ◌++◌, [], List, ℕ, subst, append_assoc, append-nil}
use Rattle.std.specs.List.{AllByRecursion}
use Rattle.edge_decimate.specs.KeptLine.{first_from}
use Rattle.tile_mesh.proofs.KeptLists.{from_on, begins, next_is, ends, within}
use Rattle.tile_mesh.proofs.kept.listed.Goals as goal

pub loop-index-init : goal.loop-index-init
loop-index-init c = (
  omega arith,
  ap (λ (xs : List ℕ). xs ++ from_on 1 c.args.kept.now)
      (c.in_ok-push.ensures.items ∙ ap (λ (xs : List ℕ). xs ++ 0 ∷ []) c.new-indexes.ensures.items)
      ∙ begins c.args.kept.now c.requires,
)

pub loop-index-preserved : goal.loop-index-preserved
loop-index-preserved c =
    let l = c.args.kept.now in let i = c.loop-index.index in let f = c.after-index.result in
    let e = c.after-index.ensures.value in
    let more : suc i ≤ first_from (suc i) l = omega (arith, c.after-index.ensures.later, e) in
    let next : from_on (suc i) l ≡ f ∷ from_on (suc f) l =
    next_is i l c.requires more ∙ ap (λ (x : ℕ). x ∷ from_on (suc x) l) (sym e) in (
      c.after-index.ensures.end,
      ap (λ (xs : List ℕ). xs ++ from_on (suc f) l) c.in_ok-push-2.ensures.items
          ∙ append_assoc c.loop-index.indexes.items (f ∷ []) (from_on (suc f) l)
          ∙ ap (λ (xs : List ℕ). c.loop-index.indexes.items ++ xs) (sym next)
          ∙ c.loop-index.invariant.1,
    )

pub returns : goal.returns
returns c =
    let l = c.args.kept.now in
    let last : c.loop-index.index ≡ 66 = omega (arith, c.loop-index.invariant.0, c.loop-index-test.false) in
    let all : c.loop-index.indexes.items ≡ l =
    sym (append-nil c.loop-index.indexes.items)
    ∙ ap (λ (xs : List ℕ). c.loop-index.indexes.items ++ xs)
    (sym (ap (λ (i : ℕ). from_on (suc i) l) last ∙ ends l c.requires))
    ∙ c.loop-index.invariant.1 in
    record {
      indexes = all;
      within = subst (λ (xs : List ℕ). AllByRecursion (λ x. x ≤ 66) xs) (sym all) (within l c.requires);
    }
