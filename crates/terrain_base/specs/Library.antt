-- What a library holds, and what a fetch gives of it.
use Rattle.std.specs.Prelude.{◌≡◌, ℕ, ◌<◌, ◌≤◌, List, length, Option, Some, None, IsSomeAnd}
use Rattle.std.specs.Ordering.{nat_cmp}
use Rattle.std.specs.Cmp.Lexicographic.{slice_cmp}
use Rattle.std.specs.FinMap.{FinMap}
use Rattle.terrain_base.specs.declared.library.Fetched.{Fetched}
use Rattle.terrain_base.specs.declared.library.Fetched.TheVariants.{Bytes, Absent, TooLong}

-- the bytes under each name, which is a text
abbrev pub LibraryFiles : Type 0
LibraryFiles = FinMap (slice_cmp nat_cmp) (List ℕ)

-- what is fetched where this is held under the name: all the bytes, unless they are more than the limit
abbrev pub Fetches : Fetched → Option (List ℕ) → ℕ → Type 0
Fetches (Bytes bytes) held limit = (held ≡ Some bytes.items) × (length bytes.items ≤ limit)
Fetches Absent held limit = held ≡ None
Fetches TooLong held limit = IsSomeAnd held (λ bytes. limit < length bytes)
