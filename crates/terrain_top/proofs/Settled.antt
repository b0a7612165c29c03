-- How a command goes behind settling.
use Rattle.std.proofs.Common.{◌≡◌, ℕ, ◌+◌, ◌≤◌, List, [], ◌∷◌, Option, Some, Result, Ok, Err, IfErr, IfOk, refl, sym, ap, subst, ◌∙◌, arith}
use Rattle.terrain_base.specs.declared.store.Change.{Change}
use Rattle.terrain_base.specs.Library.{LibraryFiles}
use Rattle.terrain_base.specs.Overwrite.{all_changed}
use Rattle.terrain_base.specs.Run.{AllDone, SomeDone, files_after}
use Rattle.terrain_base.specs.Step.{Files}
use Rattle.terrain_base.proofs.Overwrites.{files_of_told}
use Rattle.terrain_base.proofs.Runs.{not_yet}
use Rattle.db_manifest.specs.Manifest.{ManifestState}
use Rattle.top_words.specs.Words.{DatabaseCommand}
use Rattle.database.specs.declared.answer.EngineAnswer.{EngineAnswer}
use Rattle.database.specs.declared.answer.EngineAnswer.TheVariants as answer
use Rattle.database.specs.Answer.{IsStop}
use Rattle.database.specs.Commands.{settling}
use Rattle.database.specs.Opening as opens
use Rattle.database.specs.Opening.{OpensAs}
use Rattle.database.specs.State.{State, ReadsAs}
use Rattle.database.proofs.Openings.{one_opening}
use Rattle.db_engine.specs.Holding.{HoldsState}
use Rattle.db_engine.specs.Opened.{Contents}
use Rattle.db_engine.specs.Settling.{IsIdle, IsLeft, IsOpened, IsRefusal, count_settling}
use Rattle.top_reply.specs.declared.stop.Stop.{Stop}
use Rattle.top_reply.specs.Course.{Course, World, StopsIn, quiet_turn, said, text_turn}
use Rattle.top_reply.specs.Database.{IsDatabaseCourse, IsOpenedCourse, IsSettledCourse, after_settling}
use Rattle.top_reply.specs.Reply.{cause_of, refused_reply}
use Rattle.top_reply.proofs.Courses.{one_turn, told_none}
use Rattle.terrain_top.specs.declared.answer.Answer.{Answer}
use Rattle.terrain_top.specs.Comes.{Comes}
use Rattle.terrain_top.specs.Effects.{StopsBy}
use Rattle.terrain_top.specs.Says.{IsTold, Says}
use Rattle.terrain_top.specs.Told.{HasOfDatabase, HasOpened}
use Rattle.terrain_top.proofs.Coming.{comes_as, comes_behind, in_turn, said_comes}
use Rattle.terrain_top.proofs.EditsGo.{at_stop, some_cause, stop_untold}

-- ---- the database is settled

module _ (command : DatabaseCommand) (library : LibraryFiles) (files : Files) (w m w' : World) (is : w.held ≡ Some files)
    (o : Contents) (result : Result Answer Stop) (opened : IsOpened files m.held o)
    (ran : (s : State) (mark : ManifestState) → ReadsAs files s mark
    → AllDone (settling mark files s) w.held w.log m.held m.log)
    (few : (s : State) (mark : ManifestState) → ReadsAs files s mark → m.work ≤ w.work + count_settling mark s)
    (taken : m.taken ≡ w.taken)
    (comes : (s : State) (held : Files) (course : Course) → HoldsState m.held o s → m.held ≡ Some held
    → IsOpenedCourse command library s held course → Comes course m w' result) where
  held_is : m.held ≡ Some (all_changed (settling opened.mark files opened.state) files)
  held_is = let steps = settling opened.mark files opened.state in
      (ran opened.state opened.mark opened.reads).held ∙ ap (files_after steps) is ∙ files_of_told steps files

  behind : (course : Course) → IsSettledCourse command library (settling opened.mark files opened.state)
      (count_settling opened.mark opened.state) opened.state files course → Comes course w w' result
  behind course c =
      let steps = settling opened.mark files opened.state in
      let tiles = count_settling opened.mark opened.state in
      comes_as (after_settling steps tiles c.rest) course w w' result (sym c.course_is)
      (comes_behind (quiet_turn steps tiles ∷ []) c.rest w m w' result
      (one_turn (ran opened.state opened.mark opened.reads) (few opened.state opened.mark opened.reads)
      (taken ∙ told_none w.taken))
      (comes opened.state (all_changed steps files) c.rest opened.holds held_is c.rest_is))

  pub settled : (opening : opens.Opening) (course : Course) → OpensAs files opening
      → IsDatabaseCourse command library files opening course → Comes course w w' result
  settled opening course opening_is course_is = behind course
      (subst (λ x. IsDatabaseCourse command library files x course)
      (one_opening files opening (opens.Opens opened.state opened.mark) opening_is opened.reads) course_is)

  pub settled_told : ((s : State) (held : Files) → HoldsState m.held o s → m.held ≡ Some held
      → IfOk result (λ a. HasOpened command library s held)) → IfOk result (λ a. HasOfDatabase command library files)
  settled_told told = has_of result (told opened.state (all_changed (settling opened.mark files opened.state) files) opened.holds held_is)
    where
      has_of : (r : Result Answer Stop)
          → IfOk r (λ a. HasOpened command library opened.state (all_changed (settling opened.mark files opened.state) files))
          → IfOk r (λ a. HasOfDatabase command library files)
      has_of (Ok a) has = let steps = settling opened.mark files opened.state in
          let tiles = count_settling opened.mark opened.state in record {
            opening = opens.Opens opened.state opened.mark;
            opens = opened.reads;
            course = after_settling steps tiles has.0;
            is = record { rest = has.0; rest_is = has.1; course_is = refl };
          }
      has_of (Err e) has = tt

-- ---- it is not

-- the answer that tells how files open
abbrev told_by : opens.Opening → EngineAnswer
told_by (opens.Opens s mark) = answer.StoreFault
told_by (opens.OldVersion version) = answer.OldVersion version
told_by (opens.NotADatabase line) = answer.NotADatabase line
told_by (opens.InTrouble trouble) = answer.Trouble trouble

as_told : (a : Answer) (files : Files) (opening other : opens.Opening) → OpensAs files opening → OpensAs files other
    → Says (refused_reply (cause_of (told_by other))) a → Says (refused_reply (cause_of (told_by opening))) a
as_told a files opening other is told says =
    subst (λ x. Says (refused_reply (cause_of (told_by x))) a) (sym (one_opening files opening other is told)) says

-- what is told is how they open
tells_opening : (refusal : EngineAnswer) (a : Answer) (files : Files) (opening : opens.Opening) (held : Option Files)
    (log log' : Option (List Change)) (work work' : ℕ) → IsRefusal refusal files held log log' work work'
    → OpensAs files opening → IsTold refusal a → Says (refused_reply (cause_of (told_by opening))) a
tells_opening (answer.CellPresent square level) a files opening held log log' work work' r is t = absurd r
tells_opening (answer.CellAbsent square level) a files opening held log log' work work' r is t = absurd r
tells_opening answer.DatabaseFull a files opening held log log' work work' r is t = absurd r
tells_opening (answer.NotEmpty name) a files opening held log log' work work' r is t = absurd r
tells_opening (answer.NotADatabase line) a files opening held log log' work work' r is t =
    as_told a files opening (opens.NotADatabase line) is r.0 t
tells_opening (answer.Trouble trouble) a files opening held log log' work work' r is t =
    as_told a files opening (opens.InTrouble trouble) is r.0 t
tells_opening (answer.NoTile tile) a files opening held log log' work work' r is t = absurd r
tells_opening (answer.TileLost name) a files opening held log log' work work' r is t = absurd r
tells_opening (answer.OldVersion version) a files opening held log log' work work' r is t =
    as_told a files opening (opens.OldVersion version) is r.0 t
tells_opening (answer.NotOld version) a files opening held log log' work work' r is t = absurd r
tells_opening answer.StoreFault a files opening held log log' work work' r is t = absurd t
tells_opening answer.NoMemory a files opening held log log' work work' r is t = absurd t

-- and then they open
has_opening : (refusal : EngineAnswer) (a : Answer) (command : DatabaseCommand) (library : LibraryFiles) (files : Files)
    (held : Option Files) (log log' : Option (List Change)) (work work' : ℕ)
    → IsRefusal refusal files held log log' work work' → IsTold refusal a → HasOfDatabase command library files
has_opening (answer.CellPresent square level) a command library files held log log' work work' r t = absurd r
has_opening (answer.CellAbsent square level) a command library files held log log' work work' r t = absurd r
has_opening answer.DatabaseFull a command library files held log log' work work' r t = absurd r
has_opening (answer.NotEmpty name) a command library files held log log' work work' r t = absurd r
has_opening (answer.NotADatabase line) a command library files held log log' work work' r t =
    record { opening = opens.NotADatabase line; opens = r.0; course = said (refused_reply (cause_of (answer.NotADatabase line))); is = refl }
has_opening (answer.Trouble trouble) a command library files held log log' work work' r t =
    record { opening = opens.InTrouble trouble; opens = r.0; course = said (refused_reply (cause_of (answer.Trouble trouble))); is = refl }
has_opening (answer.NoTile tile) a command library files held log log' work work' r t = absurd r
has_opening (answer.TileLost name) a command library files held log log' work work' r t = absurd r
has_opening (answer.OldVersion version) a command library files held log log' work work' r t =
    record { opening = opens.OldVersion version; opens = r.0; course = said (refused_reply (cause_of (answer.OldVersion version))); is = refl }
has_opening (answer.NotOld version) a command library files held log log' work work' r t = absurd r
has_opening answer.StoreFault a command library files held log log' work work' r t = absurd t
has_opening answer.NoMemory a command library files held log log' work work' r t = absurd t

module _ (command : DatabaseCommand) (library : LibraryFiles) (files : Files) (w w' : World) (is : w.held ≡ Some files)
    (refusal : EngineAnswer) (result : Result Answer Stop)
    (refused : IsRefusal refusal files w'.held w.log w'.log w.work w'.work)
    (taken : w'.taken ≡ w.taken) (told : IfOk result (IsTold refusal)) (by : IfErr result (StopsBy refusal)) where
  pub not_settled_told : IfOk result (λ a. HasOfDatabase command library files)
  not_settled_told = at result told
    where
      at : (r : Result Answer Stop) → IfOk r (IsTold refusal) → IfOk r (λ a. HasOfDatabase command library files)
      at (Ok a) t = has_opening refusal a command library files w'.held w.log w'.log w.work w'.work refused t
      at (Err e) t = tt

  idle_stop : (opening : opens.Opening) → IsIdle files w'.held w.log w'.log w.work w'.work → (r : Result Answer Stop)
      → IfErr r (StopsBy refusal)
      → IfErr r (λ e. StopsIn e (text_turn (refused_reply (cause_of (told_by opening))).text ∷ []) w w')
  idle_stop opening idle (Ok a) b = tt
  idle_stop opening idle (Err e) b =
      in_turn (text_turn (refused_reply (cause_of (told_by opening))).text) [] w w' e
      (at_stop [] e refusal (not_yet (idle.same_held ∙ sym is) idle.same_log) b) taken

  idle_says : (opening : opens.Opening) → OpensAs files opening → (r : Result Answer Stop) → IfOk r (IsTold refusal)
      → IfOk r (Says (refused_reply (cause_of (told_by opening))))
  idle_says opening opening_is (Ok a) t =
      tells_opening refusal a files opening w'.held w.log w'.log w.work w'.work refused opening_is t
  idle_says opening opening_is (Err e) t = tt

  idle_comes : (opening : opens.Opening) (course : Course) → OpensAs files opening
      → IsIdle files w'.held w.log w'.log w.work w'.work → course ≡ said (refused_reply (cause_of (told_by opening)))
      → Comes course w w' result
  idle_comes opening course opening_is idle course_is =
      let few = idle.same_work in
      comes_as (said (refused_reply (cause_of (told_by opening)))) course w w' result (sym course_is)
      (said_comes (refused_reply (cause_of (told_by opening))) w w' result (idle_says opening opening_is result told)
      (some_cause (cause_of (told_by opening))) (idle.same_held ∙ sym is) idle.same_log taken (omega (arith, few))
      (idle_stop opening idle result by))

  settling_stops : (s : State) (mark : ManifestState) (course : Course)
      → IsSettledCourse command library (settling mark files s) (count_settling mark s) s files course → IsStop refusal
      → SomeDone (settling mark files s) w.held w.log w'.held w'.log → (r : Result Answer Stop) → IfOk r (IsTold refusal)
      → IfErr r (StopsBy refusal) → Comes course w w' r
  settling_stops s mark course c st some (Ok a) t b = absurd (stop_untold refusal a st t)
  settling_stops s mark course c st some (Err e) t b =
      let steps = settling mark files s in
      let tiles = count_settling mark s in
      subst (λ x. StopsIn e x.turns w w') (sym c.course_is)
      (in_turn (quiet_turn steps tiles) c.rest.turns w w' e (at_stop steps e refusal some b) taken)

  pub not_settled : (opening : opens.Opening) (course : Course) → OpensAs files opening
      → IsDatabaseCourse command library files opening course
      → IsLeft opening files w'.held w.log w'.log w.work w'.work
      → ((s : State) (mark : ManifestState) → ReadsAs files s mark → IsStop refusal)
      → ((s : State) (mark : ManifestState) → ReadsAs files s mark
      → SomeDone (settling mark files s) w.held w.log w'.held w'.log) → Comes course w w' result
  not_settled (opens.Opens s mark) course opening_is course_is left stop ran =
      settling_stops s mark course course_is (stop s mark opening_is) (ran s mark opening_is) result told by
  not_settled (opens.OldVersion version) course opening_is course_is left stop ran =
      idle_comes (opens.OldVersion version) course opening_is left course_is
  not_settled (opens.NotADatabase line) course opening_is course_is left stop ran =
      idle_comes (opens.NotADatabase line) course opening_is left course_is
  not_settled (opens.InTrouble trouble) course opening_is course_is left stop ran =
      idle_comes (opens.InTrouble trouble) course opening_is left course_is
