use Rattle.std.proofs.Common.{inl, ap, Some, rules}
use Rattle.terrain_base.proofs.SureFiles.{files-remove}
use Rattle.terrain_base.proofs.sure_store.SureStoreStore.delete.Goals as goal

pub returns-clause-does : goal.returns-clause-does
returns-clause-does c = record {
  ok = ap Some (files-remove c.args.self.now.files c.remove.new.self c.args.name.now c.remove.ensures.updates);
  err = search rules;
  logged = inl (ap Some c.in_ok-push.ensures.items);
}
