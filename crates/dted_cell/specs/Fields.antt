-- What a header's fields say, as numbers (MIL-PRF-89020, user header label).
use Rattle.std.specs.Prelude.{◌≡◌, ◌*◌, ◌≤◌, ℕ, List}
use Rattle.dted_cell.specs.Field.{number_at}
use Rattle.dted_cell.specs.Header.{east, north, degrees_from, is_whole}
use Rattle.dted_cell.specs.declared.fields.Angle.{Angle}
use Rattle.dted_cell.specs.declared.fields.Lattice.{Lattice}
use Rattle.dted_cell.specs.declared.fields.Fields.{Fields}
use Rattle.dted_cell.specs.declared.header.Header.{Header}
use Rattle.dted_cell.specs.Lead.{lead_of}
use Rattle.dted_cell.specs.Cell.{square_in, level_in, columns_in, rows_in}

-- the angle at an offset, in degrees from the end of the half that its second letter names
pub record SaysAngle (text : List ℕ) (at half letter : ℕ) (angle : Angle) : Type 0 where
  pub degrees_are : angle.degrees ≡ degrees_from text at half letter
  pub in_range : angle.degrees ≤ 2 * half
  pub whole : angle.is_whole ≡ is_whole text at

-- the intervals and the counts
pub record SaysLattice (text : List ℕ) (lattice : Lattice) : Type 0 where
  pub lon_interval_is : lattice.lon_interval ≡ number_at text 20 24
  pub lat_interval_is : lattice.lat_interval ≡ number_at text 24 28
  pub columns_are : lattice.columns ≡ number_at text 47 51
  pub rows_are : lattice.rows ≡ number_at text 51 55

-- all of them
pub record SaysFields (text : List ℕ) (fields : Fields) : Type 0 where
  pub lon : SaysAngle text 4 180 east fields.lon
  pub lat : SaysAngle text 12 90 north fields.lat
  pub lattice_says : SaysLattice text fields.lattice

-- a good header, and where its text begins
pub record SaysHeader (bytes : List ℕ) (header : Header) : Type 0 where
  pub lead_is : header.lead ≡ lead_of bytes
  pub square_is : header.square ≡ square_in bytes
  pub level_is : header.level ≡ level_in bytes
  pub columns_are : header.columns ≡ columns_in bytes
  pub rows_are : header.rows ≡ rows_in bytes
