-- Which calls of a sink in memory fail, and which is the next.
use Rattle.std.specs.Prelude.{ℕ, List}
use Rattle.terrain_base.specs.declared.fail.Fail.{Fail}
use Rattle.terrain_base.specs.declared.mem_sink.MemSink.{MemSink}

abbrev pub sink_fails : MemSink → List Fail
sink_fails sink = sink.fails.items

abbrev pub sink_calls : MemSink → ℕ
sink_calls sink = sink.calls
