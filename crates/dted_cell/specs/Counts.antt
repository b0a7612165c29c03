-- What is counted of a cell's posts.
use Rattle.std.specs.Prelude.{◌≡◌, ℕ, List, Option, Some, None}
use Rattle.std.specs.Int.{int_min, int_max}
use Rattle.terrain_base.specs.declared.post.Extremes.{Extremes}
use Rattle.dted_cell.specs.declared.counts.Counts.{Counts}
use Rattle.dted_cell.specs.Cell.{voids_in, extremes_in}

-- the extremes of two parts together
abbrev pub joined : Option Extremes → Option Extremes → Option Extremes
joined None more = more
joined (Some e) None = Some e
joined (Some e) (Some f) =
    Some (record { least = int_min e.least f.least; greatest = int_max e.greatest f.greatest })

-- the counts are those of a file's posts
pub record IsCounted (bytes : List ℕ) (counts : Counts) : Type 0 where
  pub voids_are : counts.voids ≡ voids_in bytes
  pub extremes_are : counts.extremes ≡ extremes_in bytes
