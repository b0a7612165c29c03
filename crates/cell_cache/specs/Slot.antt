-- What a cell is held under.
use Rattle.terrain_base.specs.declared.cell_key.CellKey.{CellKey}
use Rattle.terrain_base.specs.Level.{level_number}
use Rattle.cell_cache.specs.declared.slot.Slot.{Slot}

-- the slot of a key
abbrev pub slot_at : CellKey → Slot
slot_at key = record { lat = key.square.lat; lon = key.square.lon; level = level_number key.level }
