-- What an answer that is passed on keeps.
use Rattle.std.proofs.Common.{◌≡◌, List, ◌++◌, Option, Some, Result, Ok, Err, sym, subst}
use Rattle.std.specs.Prelude.{IsErrAnd}
use Rattle.terrain_base.specs.declared.store.Change.{Change}
use Rattle.terrain_base.specs.Run.{AllDone, Ran}
use Rattle.terrain_base.specs.Step.{Files, Step}
use Rattle.terrain_base.proofs.Runs.{both_done, goes_on}
use Rattle.cell_mosaic.specs.Cells.{Cells, Shapes}
use Rattle.cell_mosaic.specs.Source.{FaultIsShown}
use Rattle.cell_mosaic.specs.declared.fault.SourceFault.{SourceFault}
use Rattle.cell_mosaic.specs.declared.fault.SourceFault.TheVariants as source
use Rattle.database.specs.Answer.{of_source, IsStop, OnlyStops}
use Rattle.database.specs.declared.answer.EngineAnswer.{EngineAnswer}

-- an answer passed on by a `?` is still a stop
pub same_stop : {T : Type 0} (result : Result T EngineAnswer) (answer : EngineAnswer) → IsErrAnd result (λ e. e ≡ answer) → IsStop answer → OnlyStops result
same_stop (Ok value) answer is stop = absurd is
same_stop (Err e) answer is stop = subst IsStop (sym is) stop

-- a fault of a source whose cells are told is a stop
pub told_stop : (shapes : Shapes) (files : Option Files) (told : Option Cells) (cells : Cells) (fault : SourceFault) → told ≡ Some cells → FaultIsShown shapes files told fault → IsStop (of_source fault)
told_stop shapes files told cells source.Failed is shown = tt
told_stop shapes files told cells source.NoMemory is shown = tt
told_stop shapes files told cells (source.Cell trouble) is shown = let untold = shown.untold in absurd (cc)

-- a run behind steps that are done
pub ran_behind : {T E : Type 0} {xs ys : List Step} {f : Option Files} {l : Option (List Change)} {m : Option Files} {n : Option (List Change)} {f' : Option Files} {l' : Option (List Change)} (result : Result T E)
    → AllDone xs f l m n → Ran ys m n f' l' result → Ran (xs ++ ys) f l f' l' result
ran_behind (Ok value) done ran = record { ok = both_done done ran.ok; err = tt }
ran_behind (Err e) done ran = record { ok = tt; err = goes_on done ran.err }

-- a run by another list of the same steps
pub ran_as : {T E : Type 0} {xs ys : List Step} {f : Option Files} {l : Option (List Change)} {f' : Option Files} {l' : Option (List Change)} (result : Result T E) → xs ≡ ys → Ran xs f l f' l' result → Ran ys f l f' l' result
ran_as {f = f} {l = l} {f' = f'} {l' = l'} result e ran = subst (λ steps. Ran steps f l f' l' result) e ran
