-- Which calls of a library in memory fail, and which is the next.
use Rattle.std.specs.Prelude.{ℕ, List}
use Rattle.terrain_base.specs.declared.fail.Fail.{Fail}
use Rattle.terrain_base.specs.declared.mem_library.MemLibrary.{MemLibrary}

abbrev pub library_fails : MemLibrary → List Fail
library_fails library = library.fails.items

abbrev pub library_calls : MemLibrary → ℕ
library_calls library = library.calls
