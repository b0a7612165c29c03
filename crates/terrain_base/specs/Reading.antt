-- What a reading gives of a file that is held or not.
use Rattle.std.specs.Prelude.{◌≡◌, ℕ, ◌<◌, ◌≤◌, List, length, slice_index, Option, IsSomeAnd, Some, None, Vec}
use Rattle.std.specs.declared.alloc.Global.{Global}
use Rattle.terrain_base.specs.Library.{Fetches}
use Rattle.terrain_base.specs.declared.library.Fetched.{Fetched}
use Rattle.terrain_base.specs.declared.reading.ReadBy.{ReadBy}
use Rattle.terrain_base.specs.declared.reading.ReadBy.TheVariants.{Found, Whole}

-- what a reading found in a file, which has nothing but bytes
pub record IsFoundIn {F : Type 0} (tells : List ℕ → F → Type 0) (found : F) (bytes : List ℕ) : Type 0 where
  pub each : (k : ℕ) → slice_index bytes k < 256
  pub told : tells bytes found

-- what is fetched where this is held under the name: what the reading found in at most so many bytes, or what a fetch
-- gives
abbrev pub FetchesBy : {F : Type 0} → (List ℕ → F → Type 0) → ReadBy F Fetched → Option (List ℕ) → ℕ → Type 0
FetchesBy tells (Found found) held limit =
    IsSomeAnd held (λ bytes. (length bytes ≤ limit) × IsFoundIn tells found bytes)
FetchesBy tells (Whole fetched) held limit = Fetches fetched held limit

-- what is got where this is held under the name: what the reading found in the bytes, or all of them
abbrev pub GetsBy : {F : Type 0} → (List ℕ → F → Type 0) → Option (ReadBy F (Vec ℕ Global)) → Option (List ℕ) → Type 0
GetsBy tells (Some (Found found)) held = IsSomeAnd held (IsFoundIn tells found)
GetsBy tells (Some (Whole bytes)) held = held ≡ Some bytes.items
GetsBy tells None held = held ≡ None
