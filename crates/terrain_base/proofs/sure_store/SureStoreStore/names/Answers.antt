use Rattle.std.proofs.Common.{◌≡◌, ◌∙◌, sym, rules}
use Rattle.std.specs.BTreeMap.{keys}
use Rattle.terrain_base.proofs.SureFiles.{keys_files}
use Rattle.terrain_base.proofs.sure_store.SureStoreStore.names.Goals as goal

pub returns-clause-names : goal.returns-clause-names
returns-clause-names c =
    let copied : c.in_ok-collect.field-0.items ≡ keys c.args.self.now.files = search rules in
    copied ∙ sym (keys_files c.args.self.now.files.entries c.keys.ensures.ordered)
