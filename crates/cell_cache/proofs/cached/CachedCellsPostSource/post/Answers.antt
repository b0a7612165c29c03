use Rattle.std.proofs.Common.{refl, ap, ◌∙◌, ℕ, List}
use Rattle.lru.specs.LruCache.{LruCache}
use Rattle.cell_mosaic.proofs.Keeping.{leaves_then}
use Rattle.cell_cache.specs.declared.slot.Slot.{Slot}
use Rattle.cell_cache.proofs.Leaving.{held_leaves}
use Rattle.cell_cache.proofs.Slots.{none_else}
use Rattle.cell_cache.proofs.Told.{reaches, held_told, given_before}
use Rattle.cell_cache.proofs.cached.CachedCellsPostSource.post.Goals as goal

pub last_post-requires : goal.last_post-requires
last_post-requires g c = record { reaches = reaches c.args.self.now.summaries.items c.args.self.now.cells.entries c.args.key c.args.col c.args.row c.args.self.now.held c.requires.held }

pub returns-in-Some-clause-value : goal.returns-in-Some-clause-value
returns-in-Some-clause-value g c told is =
    c.in-Some.ensures.value
    ∙ held_told c.args.self.now.summaries.items c.args.self.now.cells.entries (g.S.Store.holds c.args.store.now) c.args.key c.args.col c.args.row c.in-Some.ensures.bytes c.args.self.now.held c.requires.held.held
    c.in-Some.ensures.there told is

pub held_post-requires : goal.held_post-requires
held_post-requires g c = record { reaches = reaches c.args.self.now.summaries.items c.args.self.now.cells.entries c.args.key c.args.col c.args.row c.args.self.now.held c.requires.held }

pub invariant_of-self : goal.invariant_of-self
invariant_of-self g c = record {
  held = λ slot bytes there. c.args.self.now.held slot bytes (none_else _ c.args.self.now.cells c.held_post.new.cells c.held_post.ensures.cells slot bytes there);
  most = ap (λ (cells : LruCache Slot (List ℕ)). cells.cap) c.held_post.ensures.cells ∙ c.args.self.now.most;
  ascend = c.args.self.now.ascend;
}

pub returns-in-Some-held_post-clause-value : goal.returns-in-Some-held_post-clause-value
returns-in-Some-held_post-clause-value g c told is =
    let post = c.in-Some-held_post.ensures.post in
    post.value
    ∙ held_told c.args.self.now.summaries.items c.args.self.now.cells.entries (g.S.Store.holds c.args.store.now) c.args.key c.args.col c.args.row post.bytes c.args.self.now.held c.requires.held.held post.there told is

pub returns-in-Some-held_post-clause-leaves : goal.returns-in-Some-held_post-clause-leaves
returns-in-Some-held_post-clause-leaves g c = held_leaves refl refl (none_else _ c.args.self.now.cells c.held_post.new.cells c.held_post.ensures.cells)

pub returns-clause-value : goal.returns-clause-value
returns-clause-value g c =
    given_before c.args.self.now.summaries.items c.args.self.now.cells.entries c.held_post.new.cells.entries (g.S.Store.holds c.args.store.now) c.args.key c.args.col c.args.row c.fetched_post.result
    (none_else _ c.args.self.now.cells c.held_post.new.cells c.held_post.ensures.cells) c.fetched_post.ensures.value

pub returns-clause-leaves : goal.returns-clause-leaves
returns-clause-leaves g c = leaves_then (held_leaves {T = Unit {0}} {given = tt} refl refl (none_else _ c.args.self.now.cells c.held_post.new.cells c.held_post.ensures.cells)) c.fetched_post.ensures.leaves
