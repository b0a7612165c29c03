-- Sorted ranks, and their members.
use Rattle.std.proofs.Common.{◌≡◌, sym, subst, length, IsPermutation}
use Rattle.std.specs.Prelude.{All, AllPairs}
use Rattle.std.proofs.lemmas.Result.{IfOk-weaker}
use Rattle.std.specs.List.{AllZip}
use Rattle.mesh_check.specs.Members.{AreMembers, IsTileMember}
use Rattle.mesh_check.specs.Ordered.{IsMemberAt}
use Rattle.mesh_check.specs.Ranks.{IsNotAfter}
use Rattle.mesh_check.proofs.SlabMembers.{active_ranks, are_members, count, on_tile}
use Rattle.mesh_check.proofs.order.slab_members.Goals as goal

pub members_of-requires-clause-active : goal.members_of-requires-clause-active
members_of-requires-clause-active c =
    active_ranks c.args.slab.now c.args.triangles.now c.args.active.now c.in_ok-ranks.ranks.items c.deref.result.now
    c.requires.slab c.requires.active c.in_ok-ranks.ensures
    (subst (λ rs. IsPermutation c.in_ok-ranks.ranks.items rs) (sym c.deref.ensures.value) c.sort_ranks.ensures.moved)

pub returns-clause-members : goal.returns-clause-members
returns-clause-members c =
    IfOk-weaker c.members_of.result (λ ms. AllZip (λ r m. IsMemberAt c.args.slab.now c.args.triangles.now r.number m)
    c.deref.result.now ms.items)
    (λ ms. AreMembers c.args.slab.now c.args.triangles.now ms.items) (λ ms z.
    are_members c.args.slab.now c.args.triangles.now c.args.active.now c.in_ok-ranks.ranks.items c.deref.result.now
    c.requires.slab c.requires.active c.in_ok-ranks.ensures
    (subst (λ rs. IsPermutation c.in_ok-ranks.ranks.items rs) (sym c.deref.ensures.value) c.sort_ranks.ensures.moved)
    c.requires.once c.requires.all (subst (λ rs. AllPairs IsNotAfter rs)
    (sym c.deref.ensures.value) c.sort_ranks.ensures.order) ms.items z)
    c.members_of.ensures

pub returns-clause-on_tile : goal.returns-clause-on_tile
returns-clause-on_tile c =
    IfOk-weaker c.members_of.result (λ ms. AllZip (λ r m. IsMemberAt c.args.slab.now c.args.triangles.now r.number m)
    c.deref.result.now ms.items)
    (λ ms. All (IsTileMember c.args.slab.now) ms.items) (λ ms z.
    on_tile c.args.slab.now c.args.triangles.now c.args.active.now c.in_ok-ranks.ranks.items c.deref.result.now
    c.requires.slab c.requires.active c.in_ok-ranks.ensures
    (subst (λ rs. IsPermutation c.in_ok-ranks.ranks.items rs) (sym c.deref.ensures.value) c.sort_ranks.ensures.moved)
    c.requires.once c.requires.all (subst (λ rs. AllPairs IsNotAfter rs)
    (sym c.deref.ensures.value) c.sort_ranks.ensures.order) ms.items z)
    c.members_of.ensures

pub returns-clause-count : goal.returns-clause-count
returns-clause-count c =
    IfOk-weaker c.members_of.result (λ ms. AllZip (λ r m. IsMemberAt c.args.slab.now c.args.triangles.now r.number m)
    c.deref.result.now ms.items)
    (λ ms. length ms.items ≡ length c.args.active.now) (λ ms z.
    count c.args.slab.now c.args.triangles.now c.args.active.now c.in_ok-ranks.ranks.items c.deref.result.now
    c.requires.slab c.requires.active c.in_ok-ranks.ensures
    (subst (λ rs. IsPermutation c.in_ok-ranks.ranks.items rs) (sym c.deref.ensures.value) c.sort_ranks.ensures.moved)
    c.requires.once c.requires.all (subst (λ rs. AllPairs IsNotAfter rs)
    (sym c.deref.ensures.value) c.sort_ranks.ensures.order) ms.items z)
    c.members_of.ensures
