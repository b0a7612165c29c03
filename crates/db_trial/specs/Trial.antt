-- What a trial comes to: generated commands over a database in memory.
use Rattle.std.specs.Prelude.{◌≡◌, ℕ, pos, ◌+◌, List, Option, Some, None, length, map, sum, refl}
use Rattle.std.specs.FinMap.{entries, keys}
use Rattle.std.proofs.lemmas.Bool.{leb-true}
use Rattle.terrain_base.specs.declared.params.Params.{Params}
use Rattle.terrain_base.specs.Step.{Files}
use Rattle.availability.specs.Count.{tile_count_of}
use Rattle.cell_mosaic.specs.Summaries.{summaries_of}
use Rattle.database.specs.Commands.{existing}
use Rattle.database.specs.State.{State, AreFiles}
use Rattle.db_files.specs.Serving.{count_existing}
use Rattle.db_engine.specs.Holding.{no_cells}
use Rattle.db_report.specs.declared.trial.TrialReport.{TrialReport}
use Rattle.db_trial.specs.Generated.{generated_list}
use Rattle.db_trial.specs.Sequence.{accepted_in, adding, after_all, refused_in, tiles_made}

-- the length of a file, 0 where it is not held
abbrev pub length_of : Option (List ℕ) → ℕ
length_of None = 0
length_of (Some bytes) = length bytes

-- the sum of the lengths of all files
abbrev pub bytes_in : Files → ℕ
bytes_in files = sum (map (λ entry. length entry.1) (entries files))

pub record IsTotal (s : State) (total : ℕ) : Type 0 where
  pub files : Files
  pub are : AreFiles files s
  pub total_is : total ≡ bytes_in files

abbrev pub trial_params : Params
trial_params = record {
  cap = 9;
  fill = pos 0;
  cap_in_range = leb-true 9 14 refl;
  fill_above = record { le = tt };
  fill_below = record { le = tt };
}

abbrev pub trial_end : ℕ → ℕ → State
trial_end count number = after_all (generated_list count number) (no_cells trial_params)

-- of a database that the commands leave, and of one that is built from scratch over the same cells
pub record IsTrial (count number : ℕ) (report : TrialReport) : Type 0 where
  pub count_is : report.count ≡ count
  pub number_is : report.number ≡ number
  pub accepted : report.accepted ≡ accepted_in (generated_list count number) (no_cells trial_params)
  pub refused : report.refused ≡ refused_in (generated_list count number) (no_cells trial_params)
  pub cells : report.cells ≡ length (keys (trial_end count number).cells)
  pub tiles : report.tiles ≡ tile_count_of 9 (summaries_of (trial_end count number).cells)
  pub bytes : IsTotal (trial_end count number) report.bytes
  pub scratch : IsTotal (trial_end count number) report.scratch

-- ---- how many tiles are made at most

abbrev pub begun_tiles : ℕ
begun_tiles = let s = no_cells trial_params in count_existing s (existing s)

abbrev pub trial_tiles : ℕ → ℕ → ℕ
trial_tiles count number =
    (begun_tiles + tiles_made (generated_list count number) (no_cells trial_params))
    + (begun_tiles + tiles_made (adding (trial_end count number)) (no_cells trial_params))
