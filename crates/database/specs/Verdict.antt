-- Whether a map of files is that of a state, name by name.
use Rattle.std.specs.Prelude.{◌≡◌, ℕ, ◌==◌, Bool, true, not, is_some, List, ◌∷◌, ◌++◌, map, Option, Some, None, if◌then◌else◌}
use Rattle.std.specs.Cmp.Lexicographic.{pointwise}
use Rattle.std.specs.List.{filter}
use Rattle.std.specs.declared.cmp.Ordering.TheVariants.{Less}
use Rattle.std.specs.FinMap.{get, keys}
use Rattle.terrain_base.specs.declared.name.Key.{Key}
use Rattle.terrain_base.specs.declared.name.Key.TheVariants.{Manifest, Layer, Cell}
use Rattle.database.specs.declared.verdict.Difference.{Difference}
use Rattle.database.specs.declared.verdict.Difference.TheVariants.{Differs, Missing, Extra}
use Rattle.database.specs.declared.verdict.Finding.{Finding}
use Rattle.terrain_base.specs.Name.{by_text}
use Rattle.terrain_base.specs.Step.{Files}
use Rattle.terrain_base.specs.Overwrite.{is_among}
use Rattle.database.specs.Commands.{tile_names, existing}
use Rattle.database.specs.State.{State, file_of, AreFiles}

-- between what is held and what is wanted
abbrev pub difference_of : Option (List ℕ) → Option (List ℕ) → Option Difference
difference_of None None = None
difference_of None (Some wanted) = Some Missing
difference_of (Some held) None = Some Extra
difference_of (Some held) (Some wanted) = if pointwise ◌==◌ held wanted then None else Some Differs

abbrev pub difference_at : State → Files → Key → Option Difference
difference_at s files name = difference_of (get files name) (file_of s name)

-- good: these are the state's files. Found: the name shows this difference, and no name before it, by the
-- order of their bytes, shows any.
abbrev pub IsVerdict : State → Files → Option Finding → Type 0
IsVerdict s files None = AreFiles files s
IsVerdict s files (Some found) =
    (difference_at s files found.name ≡ Some found.kind)
    × ((other : Key) → by_text other found.name ≡ Less → difference_at s files other ≡ None)

-- ---- among some names

-- the least of these names that shows a difference
abbrev pub IsLeast : (Key → Option Difference) → List Key → Option Finding → Type 0
IsLeast at names None = (other : Key) → is_among other names ≡ true → at other ≡ None
IsLeast at names (Some found) =
    (at found.name ≡ Some found.kind)
    × ((other : Key) → is_among other names ≡ true → by_text other found.name ≡ Less → at other ≡ None)

-- a state's files
abbrev pub wanted_names : State → List Key
wanted_names s = Manifest ∷ Layer ∷ (map Cell (keys s.cells) ++ tile_names (existing s))

-- held, and no file of the state
abbrev pub unwanted_names : State → Files → List Key
unwanted_names s files = filter (λ name. not (is_some (file_of s name))) (keys files)

-- what is kept when a name is looked at
abbrev pub lesser : Option Finding → Key → Option Difference → Bool → Option Finding
lesser best name None before = best
lesser None name (Some kind) before = Some (record { name = name; kind = kind })
lesser (Some found) name (Some kind) before = if before then Some (record { name = name; kind = kind }) else Some found
