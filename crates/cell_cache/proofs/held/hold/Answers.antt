use Rattle.std.proofs.Common.{ℕ, List, Contains, subst}
use Rattle.lru.specs.LruCache.{LruCache}
use Rattle.cell_cache.specs.declared.slot.Slot.{Slot}
use Rattle.cell_cache.specs.Slot.{slot_at}
use Rattle.cell_cache.proofs.Slots.{same_slot, same_numbers, put}
use Rattle.cell_cache.proofs.held.hold.Goals as goal

pub returns-clause-others : goal.returns-clause-others
returns-clause-others c slot bytes there =
    put same_slot c.args.cells.now c.slot_of.result (slot_at c.args.key) c.args.cell (same_numbers c.slot_of.result) c.slot_of.ensures slot bytes
    (subst (λ (cells : LruCache Slot (List ℕ)). Contains cells.entries (slot, bytes)) c.in_ok-put.ensures.entries there)
