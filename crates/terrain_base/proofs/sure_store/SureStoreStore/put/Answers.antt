use Rattle.std.proofs.Common.{inl, ap, ◌∙◌, Some, rules}
use Rattle.std.specs.FinMap.{insert}
use Rattle.terrain_base.specs.SureStore.{files_of}
use Rattle.terrain_base.proofs.SureFiles.{files-insert}
use Rattle.terrain_base.proofs.sure_store.SureStoreStore.put.Goals as goal

pub returns-clause-does : goal.returns-clause-does
returns-clause-does c = record {
  ok = ap Some (files-insert c.args.self.now.files c.insert.new.self c.args.name.now c.in_ok-copy.copy c.in_ok-insert.ensures.updates
      ∙ ap (insert (files_of c.args.self.now.files.entries) c.args.name.now) (search rules));
  err = search rules;
  logged = inl (ap Some c.in_ok-push.ensures.items);
}
