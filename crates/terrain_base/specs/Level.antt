-- The lattice of a cell's posts, by DTED level and zone of latitude (MIL-PRF-89020, 3.2 and table I).
use Rattle.std.specs.Prelude.{ℕ, ◌+◌, ◌-◌, ◌*◌, ◌/◌, nat_le, nat_lt, if◌then◌else◌}
use Rattle.terrain_base.specs.declared.square.Square.{Square}
use Rattle.terrain_base.specs.declared.level.CellLevel.{CellLevel}
use Rattle.terrain_base.specs.declared.level.CellLevel.TheVariants.{Zero, One, Two}

-- the number of a level
abbrev pub level_number : CellLevel → ℕ
level_number Zero = 0
level_number One = 1
level_number Two = 2

-- the spacing in latitude, in arc-seconds
abbrev pub lat_step_of : CellLevel → ℕ
lat_step_of Zero = 30
lat_step_of One = 3
lat_step_of Two = 1

-- whole degrees between the equator and the nearer side of the square at this latitude
abbrev pub degrees_from_equator : ℕ → ℕ
degrees_from_equator lat = if nat_le 90 lat then lat - 90 else (89 - lat)

-- zones I to V begin 0, 50, 70, 75 and 80 degrees from the equator
abbrev pub factor_at : ℕ → ℕ
factor_at degrees =
    if nat_lt degrees 50 then 1 else
    (if nat_lt degrees 70 then 2 else
    (if nat_lt degrees 75 then 3 else
    (if nat_lt degrees 80 then 4 else 6)))

abbrev pub zone_factor_of : ℕ → ℕ
zone_factor_of lat = factor_at (degrees_from_equator lat)

-- the spacing in longitude, in arc-seconds
abbrev pub lon_step_of : Square → CellLevel → ℕ
lon_step_of square level = lat_step_of level * zone_factor_of square.lat

-- posts on a meridian, and meridians, both borders of the square among them
abbrev pub rows_of : CellLevel → ℕ
rows_of level = 3600 / lat_step_of level + 1

abbrev pub columns_of : Square → CellLevel → ℕ
columns_of square level = 3600 / lon_step_of square level + 1

-- the deepest tile level at which a cell of this level has something to tell
abbrev pub depth_of : CellLevel → ℕ
depth_of Zero = 9
depth_of One = 12
depth_of Two = 14
