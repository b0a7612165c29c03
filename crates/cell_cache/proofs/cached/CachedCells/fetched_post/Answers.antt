use Rattle.std.proofs.Common.{inl, inr, refl, ◌∙◌}
use Rattle.cell_cache.proofs.Leaving.{leaves_of, fault_shown, cause_on, no_cause, memory_cause, marked}
use Rattle.cell_cache.proofs.Told.{has_place, post_told, fetched_held, fetched_fresh}
use Rattle.cell_cache.proofs.cached.CachedCells.fetched_post.Goals as goal

pub returns-in-Err-clause-leaves : goal.returns-in-Err-clause-leaves
returns-in-Err-clause-leaves g c = leaves_of refl (λ slot bytes there. inl there) c.in-Err.ensures.same c.in-Err.ensures.quiet (cause_on c.in-Err.ensures.cause)
    (fault_shown c.args.self.now.summaries.items c.args.self.now.cells.entries c.args.key (g.S.Store.holds c.args.store.now) c.in-Err.fault c.requires.held.held c.in-Err.ensures.trouble)
    (marked c.is_trouble.ensures)

pub post_of-post-requires-clause-col : goal.post_of-post-requires-clause-col
post_of-post-requires-clause-col g c =
    (has_place c.args.self.now.summaries.items c.args.key c.args.col c.args.row c.in-Ok.cell c.requires.held c.in-Ok.ensures.fetched.cell).0

pub post_of-post-requires-clause-row : goal.post_of-post-requires-clause-row
post_of-post-requires-clause-row g c =
    (has_place c.args.self.now.summaries.items c.args.key c.args.col c.args.row c.in-Ok.cell c.requires.held c.in-Ok.ensures.fetched.cell).1

pub invariant_of-self-2 : goal.invariant_of-self-2
invariant_of-self-2 g c = record {
  held = λ slot bytes there. elim (c.hold.ensures.others slot bytes there) [
    | inl before ↦ c.args.self.now.held slot bytes before
    | inr new ↦ fetched_held c.args.self.now.summaries.items c.args.key c.in-Ok.cell slot bytes c.requires.held.held c.in-Ok.ensures.fetched.cell new.0 new.1
  ];
  most = c.hold.ensures.most ∙ c.args.self.now.most;
  ascend = c.args.self.now.ascend;
}

pub returns-in-Ok-hold-clause-value : goal.returns-in-Ok-hold-clause-value
returns-in-Ok-hold-clause-value g c told is =
    c.post_of-post.ensures.value
    ∙ post_told c.args.self.now.summaries.items c.args.self.now.cells.entries (g.S.Store.holds c.args.store.now) c.args.key c.args.col c.args.row c.in-Ok.cell c.requires.held.held c.in-Ok.ensures.fetched.held told is

pub returns-in-Ok-hold-clause-leaves : goal.returns-in-Ok-hold-clause-leaves
returns-in-Ok-hold-clause-leaves g c = leaves_of refl (λ slot bytes there. elim (c.hold.ensures.others slot bytes there) [
  | inl before ↦ inl before
  | inr new ↦ inr (fetched_fresh (g.S.Store.holds c.args.store.now) c.args.key c.in-Ok.cell bytes c.in-Ok.ensures.fetched new.1)
]) c.in-Ok.ensures.same c.in-Ok.ensures.quiet (no_cause c.in-Ok.ensures.cause) tt (record { unspoilt = refl; troubled = tt })

pub returns-in-Err-hold-clause-leaves : goal.returns-in-Err-hold-clause-leaves
returns-in-Err-hold-clause-leaves g c = leaves_of refl (λ slot bytes there. elim (c.hold.ensures.others slot bytes there) [
  | inl before ↦ inl before
  | inr new ↦ inr (fetched_fresh (g.S.Store.holds c.args.store.now) c.args.key c.in-Ok.cell bytes c.in-Ok.ensures.fetched new.1)
]) c.in-Ok.ensures.same c.in-Ok.ensures.quiet (memory_cause c.in-Ok.ensures.cause) tt (record { unspoilt = tt; troubled = λ is. absurd is })
