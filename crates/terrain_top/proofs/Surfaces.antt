-- A question about the surface of a stored tile is answered, and in a text that is not empty.
use Rattle.std.proofs.Common.{◌≡◌, ℕ, ◌<◌, Bool, true, false, List, length, Option, Some, None, Result, Ok, Err, IfOk, inl, inr, refl, sym, subst, ap, arith}
use Rattle.std.specs.Prelude.{is_some}
use Rattle.std.specs.FinMap.{get}
use Rattle.terrain_base.specs.declared.name.Key.{Key}
use Rattle.terrain_base.specs.declared.name.Key.TheVariants.{Terrain, Note}
use Rattle.terrain_base.specs.declared.tile.TileId.{TileId}
use Rattle.terrain_base.specs.Step.{Files}
use Rattle.mesh_codec.specs.declared.refusal.TileRefusal.{TileRefusal}
use Rattle.mesh_codec.specs.Refusal.{tile_refusal_of}
use Rattle.sight_line.specs.declared.eye.SightAnswer.{SightAnswer}
use Rattle.sight_line.specs.declared.eye.SightAnswer.TheVariants.{Clear, Blocked}
use Rattle.tile_query.specs.declared.question.Question.{Question}
use Rattle.tile_query.specs.declared.question.Question.TheVariants.{Height, Profile, Sight, View}
use Rattle.tile_query.specs.Answer.{AnswerText, Told, Refused, IsAnswerBy, IsAnswerTo, IsTold as IsTextTold}
use Rattle.tile_query.specs.Text.{sight_text_of}
use Rattle.mesh_query.specs.Field.{MetreMesh}
use Rattle.top_reply.specs.declared.stop.Stop.{Stop}
use Rattle.top_reply.specs.Query.{IsReplyTo, IsSurfaceAsked, IsSurfaceBy, IsSurfaceReply, answer_reply}
use Rattle.availability.specs.Existence.{exists_of}
use Rattle.database.specs.declared.answer.EngineAnswer.{EngineAnswer}
use Rattle.database.specs.declared.answer.EngineAnswer.TheVariants as answer
use Rattle.database.specs.State.{State, tile_exists}
use Rattle.db_engine.specs.Holding.{HoldsState}
use Rattle.db_engine.specs.Opened.{Contents}
use Rattle.db_engine.specs.Stored.{IsLost, IsNotStored}
use Rattle.top_words.specs.declared.command.Query.TheVariants.{Surface}
use Rattle.top_reply.proofs.OneCourse.{one_surface_asked}
use Rattle.top_reply.specs.Reply.{Reply, cause_of, refused_reply, text_reply}
use Rattle.terrain_top.specs.declared.answer.Answer.{Answer}
use Rattle.terrain_top.specs.declared.answer.Ending.TheVariants.{Done}
use Rattle.terrain_top.specs.Says.{IsTold, Says, SaysSome, status_at}
use Rattle.terrain_top.specs.Told.{HasReply}
use Rattle.terrain_top.proofs.EditsGo.{some_cause}

-- ---- the text

some_sight : (sight : SightAnswer) → 0 < length (sight_text_of sight)
some_sight Clear = omega arith
some_sight (Blocked at triangle height line) = omega arith

as_text : (text other : List ℕ) → text ≡ other → 0 < length other → 0 < length text
as_text text other same some = subst (λ t. 0 < length t) (sym same) some

some_told : (tile : TileId) (field : MetreMesh) (question : Question) (text : List ℕ) → IsTextTold tile field question text
    → 0 < length text
some_told tile field (Height east north) text is = as_text text _ is.text_is (omega arith)
some_told tile field (Profile from to) text is = as_text text _ is.text_is (omega arith)
some_told tile field (Sight from to) text is = as_text text _ is.text_is (some_sight is.answer)
some_told tile field (View eye) text is = as_text text _ is.text_is (omega arith)

some_answer_by : (refusal : Option TileRefusal) (tile : TileId) (bytes : List ℕ) (question : Question)
    (told : AnswerText) → IsAnswerBy refusal tile bytes question told → 0 < length (answer_reply told).text
some_answer_by None tile bytes question (Told text) is = some_told tile is.field question text is.told
some_answer_by None tile bytes question (Refused cause) is = some_cause cause
some_answer_by (Some refusal) tile bytes question (Told text) is = absurd (cc is)
some_answer_by (Some refusal) tile bytes question (Refused cause) is = some_cause cause

some_surface : (tile : TileId) (question : Question) (terrain : List ℕ) (reply : Reply)
    → IsSurfaceReply tile question terrain reply → 0 < length reply.text
some_surface tile question terrain reply is =
    subst (λ r. 0 < length r.text) (sym is.reply_is)
    (some_answer_by (tile_refusal_of terrain) tile terrain question is.answer is.is)

-- by what is held
some_held : (tile : TileId) (question : Question) (terrain note : Option (List ℕ)) (reply : Reply)
    → IsSurfaceBy tile question terrain note reply → 0 < length reply.text
some_held tile question None _ reply is =
    subst (λ r. 0 < length r.text) (sym is) (some_cause (cause_of (answer.TileLost (Terrain tile))))
some_held tile question (Some terrain) None reply is =
    subst (λ r. 0 < length r.text) (sym is) (some_cause (cause_of (answer.TileLost (Note tile))))
some_held tile question (Some terrain) (Some note) reply is = some_surface tile question terrain reply is

pub some_asked : (exists : Bool) (tile : TileId) (question : Question) (files : Files) (reply : Reply)
    → IsSurfaceAsked exists tile question files reply → 0 < length reply.text
some_asked false tile question files reply is =
    subst (λ r. 0 < length r.text) (sym is) (some_cause (cause_of (answer.NoTile tile)))
some_asked true tile question files reply is =
    some_held tile question (get files (Terrain tile)) (get files (Note tile)) reply is

-- ---- what is answered is a reply

pub told_surface : (tile : TileId) (question : Question) (terrain text : List ℕ) (a : Answer)
    → IsAnswerTo tile terrain question (Told text) → a.ending ≡ Done
    → a.text.items ≡ text → SaysSome (IsSurfaceReply tile question terrain) a
told_surface tile question terrain text a is done same = record {
  reply = text_reply text;
  is = record { answer = Told text; is = is; reply_is = refl };
  says = record { status = ap status_at done; text = same };
}

pub refused_surface : (tile : TileId) (question : Question) (terrain cause : List ℕ) (result : Result Answer Stop)
    → IsAnswerTo tile terrain question (Refused cause)
    → IfOk result (Says (refused_reply cause)) → IfOk result (SaysSome (IsSurfaceReply tile question terrain))
refused_surface tile question terrain cause (Ok a) is says = record {
  reply = refused_reply cause;
  is = record { answer = Refused cause; is = is; reply_is = refl };
  says = says;
}
refused_surface tile question terrain cause (Err e) is says = tt

-- ---- and a stored tile has one

-- both files are held
stored_by : (tile : TileId) (question : Question) (files : Files) (terrain note : List ℕ) (a : Answer)
    → get files (Terrain tile) ≡ Some terrain → get files (Note tile) ≡ Some note
    → SaysSome (IsSurfaceReply tile question terrain) a → SaysSome (IsSurfaceAsked true tile question files) a
stored_by tile question files terrain note a first second some = record {
  reply = some.reply;
  is = subst (λ held. IsSurfaceBy tile question held (get files (Note tile)) some.reply) (sym first)
      (subst (λ held. IsSurfaceBy tile question (Some terrain) held some.reply) (sym second) some.is);
  says = some.says;
}

pub stored_surface : (exists : Bool) (tile : TileId) (question : Question) (files : Files) (terrain note : List ℕ)
    (result : Result Answer Stop) → exists ≡ true → get files (Terrain tile) ≡ Some terrain
    → get files (Note tile) ≡ Some note → IfOk result (SaysSome (IsSurfaceReply tile question terrain))
    → IfOk result (SaysSome (IsSurfaceAsked exists tile question files))
stored_surface exists tile question files terrain note (Ok a) there first second some =
    subst (λ e. SaysSome (IsSurfaceAsked e tile question files) a) (sym there)
    (stored_by tile question files terrain note a first second some)
stored_surface exists tile question files terrain note (Err e) there first second some = tt

-- a file of it is not
note_lost : (tile : TileId) (question : Question) (name : Key) (terrain note : Option (List ℕ)) → name ≡ Note tile
    → is_some terrain ≡ true → note ≡ None
    → IsSurfaceBy tile question terrain note (refused_reply (cause_of (answer.TileLost name)))
note_lost tile question name None held is some none = absurd (cc some)
note_lost tile question name (Some terrain) held is some none =
    subst (λ o. IsSurfaceBy tile question (Some terrain) o (refused_reply (cause_of (answer.TileLost name)))) (sym none)
    (ap (λ n. refused_reply (cause_of (answer.TileLost n))) is)

lost_by : (tile : TileId) (question : Question) (files : Files) (name : Key) (a : Answer) → IsLost (Some files) tile name
    → Says (refused_reply (cause_of (answer.TileLost name))) a → SaysSome (IsSurfaceAsked true tile question files) a
lost_by tile question files name a (inl lost) says = record {
  reply = refused_reply (cause_of (answer.TileLost name));
  is = subst (λ held. IsSurfaceBy tile question held (get files (Note tile)) (refused_reply (cause_of (answer.TileLost name))))
      (sym lost.1)
      (ap (λ n. refused_reply (cause_of (answer.TileLost n))) lost.0);
  says = says;
}
lost_by tile question files name a (inr lost) says = record {
  reply = refused_reply (cause_of (answer.TileLost name));
  is = note_lost tile question name (get files (Terrain tile)) (get files (Note tile)) lost.0 lost.1.0 lost.1.1;
  says = says;
}

none_by : (tile : TileId) (question : Question) (files : Files) (a : Answer)
    → Says (refused_reply (cause_of (answer.NoTile tile))) a → SaysSome (IsSurfaceAsked false tile question files) a
none_by tile question files a says = record { reply = refused_reply (cause_of (answer.NoTile tile)); is = refl; says = says }

not_stored : (tile : TileId) (question : Question) (files : Files) (exists : Bool) (refusal : EngineAnswer) (a : Answer)
    → IsNotStored (Some files) exists tile refusal → IsTold refusal a
    → SaysSome (IsSurfaceAsked exists tile question files) a
not_stored tile question files exists (answer.CellPresent square level) a is told = absurd is
not_stored tile question files exists (answer.CellAbsent square level) a is told = absurd is
not_stored tile question files exists answer.DatabaseFull a is told = absurd is
not_stored tile question files exists (answer.NotEmpty other) a is told = absurd is
not_stored tile question files exists (answer.NotADatabase line) a is told = absurd is
not_stored tile question files exists (answer.Trouble trouble) a is told = absurd is
not_stored tile question files exists (answer.NoTile other) a is told =
    subst (λ e. SaysSome (IsSurfaceAsked e tile question files) a) (sym is.0)
    (none_by tile question files a (subst (λ t. Says (refused_reply (cause_of (answer.NoTile t))) a) is.1 told))
not_stored tile question files exists (answer.TileLost name) a is told =
    subst (λ e. SaysSome (IsSurfaceAsked e tile question files) a) (sym is.0) (lost_by tile question files name a is.1 told)
not_stored tile question files exists (answer.OldVersion version) a is told = absurd is
not_stored tile question files exists (answer.NotOld version) a is told = absurd is
not_stored tile question files exists answer.StoreFault a is told = absurd told
not_stored tile question files exists answer.NoMemory a is told = absurd told

pub unstored_surface : (tile : TileId) (question : Question) (files : Files) (exists : Bool) (refusal : EngineAnswer)
    (result : Result Answer Stop) → IsNotStored (Some files) exists tile refusal → IfOk result (IsTold refusal)
    → IfOk result (SaysSome (IsSurfaceAsked exists tile question files))
unstored_surface tile question files exists refusal (Ok a) is told =
    not_stored tile question files exists refusal a is told
unstored_surface tile question files exists refusal (Err e) is told = tt

-- ---- over a database that is opened

module _ (tile : TileId) (question : Question) (s : State) (files : Files) (held : Option Files) (o : Contents)
    (h : HoldsState held o s) where
  there_is : exists_of o.params.cap o.rows tile ≡ tile_exists s tile
  there_is = λ i. exists_of (h.params_is i).cap (h.rows_is i) tile

  pub surface_says : (reply : Reply) (result : Result Answer Stop) → IsReplyTo (Surface tile question) s files reply
      → IfOk result (SaysSome (IsSurfaceAsked (exists_of o.params.cap o.rows tile) tile question files))
      → IfOk result (Says reply)
  surface_says reply (Ok a) is some =
      let here = subst (λ e. IsSurfaceAsked e tile question files some.reply) there_is some.is in
      subst (λ r. Says r a) (one_surface_asked (tile_exists s tile) tile question files some.reply reply here is) some.says
  surface_says reply (Err e) is some = tt

  pub surface_has : (result : Result Answer Stop)
      → IfOk result (SaysSome (IsSurfaceAsked (exists_of o.params.cap o.rows tile) tile question files))
      → IfOk result (λ a. HasReply (Surface tile question) s files)
  surface_has (Ok a) some = (some.reply, subst (λ e. IsSurfaceAsked e tile question files some.reply) there_is some.is)
  surface_has (Err e) some = tt
