-- Answers that are a stop or trouble with a cell: what is passed on, and what earlier files show of it.
use Rattle.std.proofs.Common.{◌≡◌, Option, Some, None, Result, Ok, Err, sym, ap, subst, ◌∙◌}
use Rattle.std.specs.Prelude.{IsErrAnd, IfSome}
use Rattle.std.specs.FinMap.{get}
use Rattle.std.specs.FinSet.{contains}
use Rattle.terrain_base.specs.declared.cell_key.CellKey.{CellKey}
use Rattle.terrain_base.specs.Step.{Files}
use Rattle.dted_cell.specs.declared.trouble.CellTrouble.{CellTrouble}
use Rattle.dted_cell.specs.Trouble.{ShowsAt}
use Rattle.cell_mosaic.specs.Cells.{Cells, Shapes}
use Rattle.cell_mosaic.specs.Source.{AlikeCells, FaultIsShown, IsTroubleWith, ShowsNamed}
use Rattle.cell_mosaic.specs.declared.fault.SourceFault.{SourceFault}
use Rattle.cell_mosaic.specs.declared.fault.SourceFault.TheVariants as source
use Rattle.database.specs.Answer.{of_source, IsStop, OnlyStops}
use Rattle.database.specs.declared.answer.EngineAnswer.{EngineAnswer}
use Rattle.database.specs.declared.answer.EngineAnswer.TheVariants as answer
use Rattle.db_files.specs.Trouble.{IsShownTrouble, IsStopOrTrouble, OnlyStopsOrTrouble}

stop_is : (keys : Shapes) (held : Option Files) (a : EngineAnswer) → IsStop a → IsStopOrTrouble keys held a
stop_is keys held (answer.CellPresent square level) stop = stop
stop_is keys held (answer.CellAbsent square level) stop = stop
stop_is keys held answer.DatabaseFull stop = stop
stop_is keys held (answer.NotEmpty name) stop = stop
stop_is keys held (answer.NotADatabase line) stop = stop
stop_is keys held (answer.Trouble trouble) stop = absurd stop
stop_is keys held (answer.NoTile tile) stop = stop
stop_is keys held (answer.TileLost name) stop = stop
stop_is keys held (answer.OldVersion version) stop = stop
stop_is keys held (answer.NotOld version) stop = stop
stop_is keys held answer.StoreFault stop = tt
stop_is keys held answer.NoMemory stop = tt

-- what answers stops alone answers no trouble
pub stops_only : {T : Type 0} (keys : Shapes) (held : Option Files) (result : Result T EngineAnswer) → OnlyStops result → OnlyStopsOrTrouble keys held result
stops_only keys held (Ok value) stops = tt
stops_only keys held (Err a) stops = stop_is keys held a stops

-- an answer passed on by a `?`
pub trouble_on : {T : Type 0} (keys : Shapes) (held : Option Files) (result : Result T EngineAnswer) (a : EngineAnswer) → IsErrAnd result (λ e. e ≡ a) → IsStopOrTrouble keys held a → OnlyStopsOrTrouble keys held result
trouble_on keys held (Ok value) a is trouble = absurd is
trouble_on keys held (Err e) a is trouble = subst (IsStopOrTrouble keys held) (sym is) trouble

pub stop_on : {T : Type 0} (keys : Shapes) (held : Option Files) (result : Result T EngineAnswer) (a : EngineAnswer) → IsErrAnd result (λ e. e ≡ a) → IsStop a → OnlyStopsOrTrouble keys held result
stop_on keys held result a is stop = trouble_on keys held result a is (stop_is keys held a stop)

-- a fault of a source
pub fault_is : (keys : Shapes) (held : Option Files) (told : Option Cells) (fault : SourceFault) → FaultIsShown keys held told fault → IsStopOrTrouble keys held (of_source fault)
fault_is keys held told source.Failed shown = tt
fault_is keys held told source.NoMemory shown = tt
fault_is keys held told (source.Cell trouble) shown = record { subject = shown.subject; shown = shown.shown }

-- ---- over earlier files, which hold the same under the names of the cells

shown_before : (keys : Shapes) (a b : Option Files) (trouble : CellTrouble) → AlikeCells keys a b → IsTroubleWith keys trouble → IfSome b (λ files. ShowsNamed files trouble) → IfSome a (λ files. ShowsNamed files trouble)
shown_before keys None b trouble alike subject shown = tt
shown_before keys (Some f) None trouble alike subject shown = absurd alike
shown_before keys (Some f) (Some g) trouble alike subject shown = λ key name.
    subst (λ held. ShowsAt key held trouble) (ap (get g) subject.name ∙ sym (alike subject.key subject.known) ∙ sym (ap (get f) subject.name)) (shown key name)

trouble_before : (keys keys' : Shapes) (a b : Option Files) (trouble : CellTrouble) → ((key : CellKey) → contains keys' key ≡ contains keys key) → AlikeCells keys a b → IsShownTrouble keys' b trouble → IsShownTrouble keys a trouble
trouble_before keys keys' a b trouble same alike is =
    let subject : IsTroubleWith keys trouble = record {
      key = is.subject.key;
      known = sym (same is.subject.key) ∙ is.subject.known;
      name = is.subject.name;
      opened = is.subject.opened;
    } in
    record { subject = subject; shown = shown_before keys a b trouble alike subject is.shown }

-- an answer of one kind, where each trouble is one of it
pub answer_by : (keys keys' : Shapes) (a b : Option Files) (e : EngineAnswer) → ((trouble : CellTrouble) → IsShownTrouble keys' b trouble → IsShownTrouble keys a trouble) → IsStopOrTrouble keys' b e → IsStopOrTrouble keys a e
answer_by keys keys' a b (answer.CellPresent square level) each is = is
answer_by keys keys' a b (answer.CellAbsent square level) each is = is
answer_by keys keys' a b answer.DatabaseFull each is = is
answer_by keys keys' a b (answer.NotEmpty name) each is = is
answer_by keys keys' a b (answer.NotADatabase line) each is = is
answer_by keys keys' a b (answer.Trouble trouble) each is = each trouble is
answer_by keys keys' a b (answer.NoTile tile) each is = is
answer_by keys keys' a b (answer.TileLost name) each is = is
answer_by keys keys' a b (answer.OldVersion version) each is = is
answer_by keys keys' a b (answer.NotOld version) each is = is
answer_by keys keys' a b answer.StoreFault each is = tt
answer_by keys keys' a b answer.NoMemory each is = tt

pub result_by : {T : Type 0} (keys keys' : Shapes) (a b : Option Files) (result : Result T EngineAnswer) → ((trouble : CellTrouble) → IsShownTrouble keys' b trouble → IsShownTrouble keys a trouble) → OnlyStopsOrTrouble keys' b result → OnlyStopsOrTrouble keys a result
result_by keys keys' a b (Ok value) each is = tt
result_by keys keys' a b (Err e) each is = answer_by keys keys' a b e each is

pub answer_before : (keys keys' : Shapes) (a b : Option Files) (e : EngineAnswer) → ((key : CellKey) → contains keys' key ≡ contains keys key) → AlikeCells keys a b → IsStopOrTrouble keys' b e → IsStopOrTrouble keys a e
answer_before keys keys' a b e same alike is = answer_by keys keys' a b e (λ trouble. trouble_before keys keys' a b trouble same alike) is

pub result_before : {T : Type 0} (keys : Shapes) (a b : Option Files) (result : Result T EngineAnswer) → AlikeCells keys a b → OnlyStopsOrTrouble keys b result → OnlyStopsOrTrouble keys a result
result_before keys a b result alike is = result_by keys keys a b result (λ trouble. trouble_before keys keys a b trouble (λ key i. contains keys key) alike) is
