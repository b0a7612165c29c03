use Rattle.std.specs.Prelude.{◌≡◌, map, take}
use Rattle.serde_json.specs.View.{view}
use Rattle.availability.specs.LayerData.{run_data}
use Rattle.availability.proofs.layer.level_value.Given as goal

abbrev pub invariant-loop-run : goal.invariant-loop-run
invariant-loop-run l = map view l.values.items ≡ map run_data (take l.run-index l.list)
