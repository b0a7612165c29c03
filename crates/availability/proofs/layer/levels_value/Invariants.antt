use Rattle.std.specs.Prelude.{◌≡◌, map}
use Rattle.std.specs.List.{range_with_len}
use Rattle.serde_json.specs.View.{view}
use Rattle.availability.specs.LayerData.{level_data}
use Rattle.availability.specs.Runs.{runs_of}
use Rattle.availability.proofs.layer.levels_value.Given as goal

abbrev pub invariant-loop-z : goal.invariant-loop-z
invariant-loop-z l = map view l.values.items ≡ map level_data (map (runs_of l.cap l.summaries) (range_with_len 0 l.z))
