use Rattle.std.proofs.Common.{Contains, sym, subst}
use Rattle.cell_cache.proofs.Slots.{same_numbers, found}
use Rattle.cell_cache.proofs.held.held_post.Goals as goal

pub post_of-requires-clause-col : goal.post_of-requires-clause-col
post_of-requires-clause-col c =
    let there = found _ c.slot_of.result c.args.cells.now.entries c.in-Some.cell.now (same_numbers c.slot_of.result) (sym c.in-Some.ensures.value) in
    (c.requires.reaches c.in-Some.cell.now (subst (λ slot. Contains c.args.cells.now.entries (slot, c.in-Some.cell.now)) c.slot_of.ensures there)).0

pub post_of-requires-clause-row : goal.post_of-requires-clause-row
post_of-requires-clause-row c =
    let there = found _ c.slot_of.result c.args.cells.now.entries c.in-Some.cell.now (same_numbers c.slot_of.result) (sym c.in-Some.ensures.value) in
    (c.requires.reaches c.in-Some.cell.now (subst (λ slot. Contains c.args.cells.now.entries (slot, c.in-Some.cell.now)) c.slot_of.ensures there)).1

pub returns-in-Some-clause-post : goal.returns-in-Some-clause-post
returns-in-Some-clause-post c =
    let there = found _ c.slot_of.result c.args.cells.now.entries c.in-Some.cell.now (same_numbers c.slot_of.result) (sym c.in-Some.ensures.value) in
    record {
      bytes = c.in-Some.cell.now;
      there = subst (λ slot. Contains c.args.cells.now.entries (slot, c.in-Some.cell.now)) c.slot_of.ensures there;
      value = c.post_of.ensures.value;
      height = c.post_of.ensures.height;
    }
