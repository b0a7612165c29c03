use Rattle.std.proofs.Common.{Some, sym, ap, ◌∙◌}
use Rattle.std.specs.FinMap.{get}
use Rattle.std.proofs.lemmas.Result.{IfErr-weaker}
use Rattle.terrain_base.specs.Step.{items_of}
use Rattle.db_old_reading.proofs.OldFound.{held_refused}
use Rattle.db_old_reading.proofs.manifest.read_manifest.Goals as goal
use Rattle.database.proofs.Reading.{found_is}

pub returns-in-Some-clause-refused : goal.returns-in-Some-clause-refused
returns-in-Some-clause-refused g c =
    IfErr-weaker c.manifest_in.result _ _ (λ answer refused files is.
    held_refused files c.deref.result.now answer
    (ap Some c.deref.ensures.value ∙ ap items_of (sym c.in-Some.is) ∙ found_is _ _ _ files is c.in_ok-bytes.ensures.found ∙ ap (get files) c.manifest.ensures)
    refused) c.manifest_in.ensures.refused
