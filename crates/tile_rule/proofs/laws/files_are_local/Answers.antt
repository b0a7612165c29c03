use Rattle.tile_rule.proofs.Tiles.{terrain_local, note_local}
use Rattle.tile_rule.proofs.laws.files_are_local.Goals as goal

pub returns-clause-terrain : goal.returns-clause-terrain
returns-clause-terrain c = terrain_local

pub returns-clause-note : goal.returns-clause-note
returns-clause-note c = note_local c.bound_is_local.ensures
