-- Which calls of a store in memory fail, and which is the next.
use Rattle.std.specs.Prelude.{ℕ, List}
use Rattle.terrain_base.specs.declared.fail.Fail.{Fail}
use Rattle.terrain_base.specs.declared.mem_store.MemStore.{MemStore}

abbrev pub store_fails : MemStore → List Fail
store_fails store = store.fails.items

abbrev pub store_calls : MemStore → ℕ
store_calls store = store.calls
