-- What a call that stops leaves of an opened database.
use Rattle.std.proofs.Common.{◌≡◌, Result, Ok, Err, false, ap}
use Rattle.std.specs.Prelude.{IsErrAnd}
use Rattle.db_engine.specs.Edited.{Turned}
use Rattle.db_engine.specs.Opened.{Contents, contents_of}
use Rattle.database.specs.Commands.{Edit}
use Rattle.database.specs.declared.answer.EngineAnswer.{EngineAnswer}

-- a stop leaves an opened database that is not live
pub turned_off : {T : Type 0} (c : Edit) (o o' : Contents) (result : Result T EngineAnswer) (Q : EngineAnswer → Type 0) → IsErrAnd result Q → o' ≡ contents_of o.params o.rows false → Turned c o o' result
turned_off c o o' (Ok value) Q is off = absurd is
turned_off c o o' (Err e) Q is off = record { ok = tt; err = ap (λ now. now.live) off }
