-- Which refusal a file gets: its length's, or else that of the first sample, by lines, that is neither a void nor a
-- height.
use Rattle.std.specs.Prelude.{
  ◌≡◌,
  ℕ,
  ◌*◌,
  ◌/◌,
  ◌%◌,
  ◌<◌,
  List,
  ◌∷◌,
  length,
  map,
  Bool,
  not,
  Option,
  ◌⊎◌,
}
use Rattle.std.specs.List.{range_with_len}
use Rattle.common_laws.specs.First.{◌when◌, first_of}
use Rattle.hgt_cells.specs.declared.refusal.HgtRefusal.{HgtRefusal}
use Rattle.hgt_cells.specs.declared.refusal.HgtRefusal.TheVariants.{BadLength, HeightOutOfRange}
use Rattle.hgt_cells.specs.Sample.{number_at, is_no_sample}
use Rattle.hgt_cells.specs.File.{has_lines, lines_in}

-- whether the k-th number of the file is no sample
abbrev pub is_bad : List ℕ → ℕ → Bool
is_bad bytes k = is_no_sample (number_at bytes (2 * k))

-- the refusal of the k-th number of the file
abbrev pub refused_at : List ℕ → ℕ → HgtRefusal
refused_at bytes k = HeightOutOfRange (k / lines_in bytes) (k % lines_in bytes) (number_at bytes (2 * k))

-- the k-th number of the file is no sample
abbrev pub number_condition : List ℕ → ℕ → Option HgtRefusal
number_condition bytes k = (refused_at bytes k when is_bad bytes k)

-- the numbers', line by line
unfoldable pub number_conditions : List ℕ → List (Option HgtRefusal)
number_conditions bytes = map (number_condition bytes) (range_with_len 0 (lines_in bytes * lines_in bytes))

-- all of them, in order
unfoldable pub conditions_of : List ℕ → List (Option HgtRefusal)
conditions_of bytes = (BadLength (length bytes) when not (has_lines bytes)) ∷ number_conditions bytes

-- the refusal of a file, and none where it is an HGT file
unfoldable pub hgt_refusal_of : List ℕ → Option HgtRefusal
hgt_refusal_of bytes = first_of (conditions_of bytes)

-- a line and a place come before others: on a line further north, or on the same and further west
abbrev pub IsBefore : ℕ → ℕ → ℕ → ℕ → Type 0
IsBefore line place other there = (line < other) ⊎ ((line ≡ other) × (place < there))
