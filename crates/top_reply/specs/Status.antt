-- The statuses of a run.
use Rattle.std.specs.Prelude.{ℕ, Option, Some, None}
use Rattle.top_reply.specs.declared.stop.Stop.{Stop}
use Rattle.top_reply.specs.declared.stop.Stop.TheVariants as stop
use Rattle.top_reply.specs.declared.status.Status.{Status}
use Rattle.top_reply.specs.declared.status.Status.TheVariants.{Done, Refused, Usage, InputFault, StoreFault, OutputFault, NoMemory, Found}

-- the program's exit status
abbrev pub code_of : Status → ℕ
code_of Done = 0
code_of Refused = 1
code_of Usage = 2
code_of InputFault = 3
code_of StoreFault = 4
code_of OutputFault = 5
code_of NoMemory = 6
code_of Found = 7

-- what stopped the run, if anything did
abbrev pub stop_of : Status → Option Stop
stop_of Done = None
stop_of Refused = None
stop_of Usage = None
stop_of InputFault = Some stop.Input
stop_of StoreFault = Some stop.Store
stop_of OutputFault = Some stop.Output
stop_of NoMemory = Some stop.NoMemory
stop_of Found = None

-- the statuses of a run that went to its end: no fault and no want of memory stopped it
abbrev pub IsAnswer : Status → Type 0
IsAnswer Done = Unit {0}
IsAnswer Refused = Unit {0}
IsAnswer Usage = Unit {0}
IsAnswer InputFault = ⊥
IsAnswer StoreFault = ⊥
IsAnswer OutputFault = ⊥
IsAnswer NoMemory = ⊥
IsAnswer Found = Unit {0}

-- the status of a run that was stopped
abbrev pub stop_status : Stop → Status
stop_status stop.Input = InputFault
stop_status stop.Store = StoreFault
stop_status stop.Output = OutputFault
stop_status stop.NoMemory = NoMemory
