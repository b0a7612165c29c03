use Rattle.std.proofs.Common.{◌≡◌, ◌≤◌, ◌+◌, true, Some, map, take}
use Rattle.terrain_base.specs.Library.{LibraryFiles}
use Rattle.top_words.specs.Meant.{line_meant}
use Rattle.database.specs.State.{State}
use Rattle.db_engine.specs.Holding.{HoldsState}
use Rattle.top_reply.specs.Course.{world}
use Rattle.top_reply.specs.Lines.{commands_of}
use Rattle.terrain_top.specs.LinesGo.{LinesDone}
use Rattle.terrain_top.proofs.script.do_lines.Given as goal

abbrev pub invariant-loop-i : goal.invariant-loop-i
invariant-loop-i g l =
    ((s : State) (library : LibraryFiles) → HoldsState (g.St.Store.holds l.fn.store) l.fn.opened s
    → g.Li.Library.holds l.fn.files ≡ Some library
    → LinesDone library (commands_of 1 (map line_meant (take l.i l.lines))) s
    (world (g.St.Store.holds l.fn.store) (g.St.Store.log l.fn.store) (g.Si.Sink.taken l.fn.out) l.fn.work)
    (world (g.St.Store.holds l.store) (g.St.Store.log l.store) (g.Si.Sink.taken l.out) l.work)
    l.opened (record { done = l.done; refused = l.refused }))
    × (g.Li.Library.holds l.files ≡ g.Li.Library.holds l.fn.files)
    × (l.opened.live ≡ true)
    × (g.Li.Library.faults l.fn.files ≤ g.Li.Library.faults l.files)
    × (g.St.Store.faults l.fn.store ≤ g.St.Store.faults l.store)
    × (g.Si.Sink.faults l.fn.out ≤ g.Si.Sink.faults l.out)
    × (l.fn.work ≤ l.work)
    × (l.done + l.refused ≤ l.i)
