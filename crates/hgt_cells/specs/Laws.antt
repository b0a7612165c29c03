-- What the refusals and the cells of HGT files come to.
use Rattle.std.specs.Prelude.{◌≡◌, ◌<◌, ℕ, ℤ, List}
use Rattle.hgt_cells.specs.Sample.{IsSample}
use Rattle.hgt_cells.specs.File.{lines_in, sample_in}
use Rattle.hgt_cells.specs.Refusal.{IsBefore}

-- the sample of this line and place has this value, which is none of a sample, and each before it is one
pub record IsFirstBad (bytes : List ℕ) (line place : ℕ) (value : ℤ) : Type 0 where
  pub line_within : line < lines_in bytes
  pub place_within : place < lines_in bytes
  pub sample : sample_in bytes line place ≡ value
  pub bad : ¬ (IsSample value)
  pub before : (other there : ℕ) → other < lines_in bytes → there < lines_in bytes → IsBefore other there line place →
      IsSample (sample_in bytes other there)
