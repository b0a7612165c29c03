-- The versions of the manifest, which its first line tells.
use Rattle.std.specs.Prelude.{ℕ, List, [], ◌∷◌, ◌++◌, Option, Bool, codes, nat_eq}
use Rattle.std.specs.List.{find, starts_with}
use Rattle.std.specs.Option.{option_map}
use Rattle.manifest_lines.specs.declared.version.Version.{Version}
use Rattle.manifest_lines.specs.declared.version.Version.TheVariants.{One, Two, Three}

abbrev pub all_versions : List Version
all_versions = One ∷ Two ∷ Three ∷ []

abbrev pub version_number : Version → ℕ
version_number One = 1
version_number Two = 2
version_number Three = 3

abbrev pub version_line : Version → List ℕ
version_line One = codes "terrain-db 1"
version_line Two = codes "terrain-db 2"
version_line Three = codes "terrain-db 3"

-- with its line feed
abbrev pub first_line : Version → List ℕ
first_line v = version_line v ++ 10 ∷ []

-- the bytes begin with the first line of the version
abbrev pub begins_as : List ℕ → Version → Bool
begins_as bytes v = starts_with nat_eq bytes (first_line v)

-- the number of the version whose first line the bytes begin with
unfoldable pub version_in : List ℕ → Option ℕ
version_in bytes = option_map version_number (find (begins_as bytes) all_versions)
