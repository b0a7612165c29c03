use Rattle.std.proofs.Common.{◌≡◌, ◌∙◌, Some, sym, ap, rules}
use Rattle.terrain_base.specs.Step.{items_of}
use Rattle.terrain_base.proofs.SureFiles.{get_files}
use Rattle.terrain_base.proofs.sure_store.SureStoreStore.get.Goals as goal

pub returns-in-None-clause-found : goal.returns-in-None-clause-found
returns-in-None-clause-found c = ap items_of c.in-None.ensures.value ∙ sym (get_files c.args.self.now.files.entries c.args.name.now)

pub returns-in_ok-to_vec-in-Some-clause-found : goal.returns-in_ok-to_vec-in-Some-clause-found
returns-in_ok-to_vec-in-Some-clause-found c =
    let copied : c.in_ok-to_vec-in-Some.field-0.items ≡ c.in-Some.bytes.now.items = search rules in
    ap Some copied ∙ ap items_of c.in-Some.ensures.value ∙ sym (get_files c.args.self.now.files.entries c.args.name.now)
