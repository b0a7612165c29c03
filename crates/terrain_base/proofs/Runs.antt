-- How a run of changes goes on, and how it stops.
use Rattle.std.proofs.Common.{◌≡◌, ℕ, ◌+◌, ◌≤◌, List, [], ◌∷◌, ◌++◌, length, take, Option, Result, Ok, Err, refl, sym, ap, ◌∙◌, ⊎_elim, arith, length-append, subst}
use Rattle.std.specs.Prelude.{IsErrAnd}
use Rattle.std.proofs.Math.Seq.{take-append-add, take-length}
use Rattle.std.proofs.lemmas.List.{take-append-le}
use Rattle.terrain_base.specs.declared.fault.DeviceFault.{DeviceFault}
use Rattle.terrain_base.specs.declared.store.Change.{Change}
use Rattle.terrain_base.specs.Step.{Files, Step, Write, held_after, logged_after, Does}
use Rattle.terrain_base.specs.declared.name.Key.{Key}
use Rattle.terrain_base.specs.Run.{files_after, log_after, AllDone, SomeDone, Ran}

pub files-append : (xs ys : List Step) (files : Option Files) → files_after (xs ++ ys) files ≡ files_after ys
    (files_after xs files)
files-append [] ys files = refl
files-append (x ∷ xs) ys files = files-append xs ys (held_after x files)

pub log-append : (xs ys : List Step) (log : Option (List Change)) → log_after (xs ++ ys) log ≡ log_after ys
    (log_after xs log)
log-append [] ys log = refl
log-append (x ∷ xs) ys log = log-append xs ys (logged_after x log)

-- ---- of all steps

pub none_done : {files : Option Files} {log : Option (List Change)} → AllDone [] files log files log
none_done = record { held = refl; logged = refl }

pub one_done : {T : Type 0} {step : Step} {files : Option Files} {log : Option (List Change)}
    {files' : Option Files} {log' : Option (List Change)} {value : T}
    → Does step files log files' log' (Ok value) → AllDone (step ∷ []) files log files' log'
one_done does = record { held = does.ok; logged = ⊎_elim (λ e. e) (λ e. absurd (cc (e.0))) does.logged }

pub both_done : {xs ys : List Step} {files : Option Files} {log : Option (List Change)} {mid : Option Files}
    {mid_log : Option (List Change)} {files' : Option Files} {log' : Option (List Change)}
    → AllDone xs files log mid mid_log → AllDone ys mid mid_log files' log' → AllDone (xs ++ ys) files log files' log'
both_done {xs = xs} {ys = ys} {files = files} {log = log} a b = record {
  held = b.held ∙ ap (files_after ys) a.held ∙ sym (files-append xs ys files);
  logged = b.logged ∙ ap (log_after ys) a.logged ∙ sym (log-append xs ys log);
}

-- ---- of some steps

-- the first step fails
pub first_fails : {T : Type 0} {step : Step} {rest : List Step} {files : Option Files}
    {log : Option (List Change)} {files' : Option Files} {log' : Option (List Change)} {fault : DeviceFault}
    → Does {T = T} step files log files' log' (Err fault) → SomeDone (step ∷ rest) files log files' log'
first_fails {step = step} {rest = rest} does =
    let fits : 1 ≤ length (step ∷ rest) = omega arith in
    ⊎_elim
    (λ e. ⊎_elim
    (λ k. record { done = 0; noted = 1; done_of = omega arith; noted_of = fits; done_near = omega arith; noted_near = omega arith; held = e; logged = k })
    (λ k. record { done = 0; noted = 0; done_of = omega arith; noted_of = omega arith; done_near = omega arith; noted_near = omega arith; held = e; logged = k.1 })
    does.logged)
    (λ e. ⊎_elim
    (λ k. record { done = 1; noted = 1; done_of = fits; noted_of = fits; done_near = omega arith; noted_near = omega arith; held = e; logged = k })
    (λ k. record { done = 1; noted = 0; done_of = fits; noted_of = omega arith; done_near = omega arith; noted_near = omega arith; held = e; logged = k.1 })
    does.logged)
    does.err

-- a run that stops, before more steps
pub stops : {xs : List Step} (ys : List Step) {files : Option Files} {log : Option (List Change)}
    {files' : Option Files} {log' : Option (List Change)} → SomeDone xs files log files' log' → SomeDone
    (xs ++ ys) files log files' log'
stops {xs = xs} ys {files = files} {log = log} s =
    let done_of = s.done_of in
    let noted_of = s.noted_of in
    record {
      done = s.done;
      noted = s.noted;
      done_of = omega (arith, length-append xs ys);
      noted_of = omega (arith, length-append xs ys);
      done_near = s.done_near;
      noted_near = s.noted_near;
      held = s.held ∙ ap (λ steps. files_after steps files) (sym (take-append-le s.done xs ys done_of));
      logged = s.logged ∙ ap (λ steps. log_after steps log) (sym (take-append-le s.noted xs ys noted_of));
    }

-- a run that stops, after steps that are done
pub goes_on : {xs ys : List Step} {files : Option Files} {log : Option (List Change)} {mid : Option Files}
    {mid_log : Option (List Change)} {files' : Option Files} {log' : Option (List Change)}
    → AllDone xs files log mid mid_log → SomeDone ys mid mid_log files' log' → SomeDone (xs ++ ys) files log files' log'
goes_on {xs = xs} {ys = ys} {files = files} {log = log} a s = record {
  done = length xs + s.done;
  noted = length xs + s.noted;
  done_of = omega (arith, length-append xs ys, s.done_of);
  noted_of = omega (arith, length-append xs ys, s.noted_of);
  done_near = omega (arith, s.done_near);
  noted_near = omega (arith, s.noted_near);
  held = s.held ∙ ap (files_after (take s.done ys)) a.held ∙ sym (files-append xs (take s.done ys) files)
      ∙ ap (λ steps. files_after steps files) (sym (take-append-add xs ys s.done));
  logged = s.logged ∙ ap (log_after (take s.noted ys)) a.logged ∙ sym (log-append xs (take s.noted ys) log)
      ∙ ap (λ steps. log_after steps log) (sym (take-append-add xs ys s.noted));
}

-- nothing is done yet
pub not_yet : {steps : List Step} {files : Option Files} {log : Option (List Change)}
    {files' : Option Files} {log' : Option (List Change)} → files' ≡ files → log' ≡ log → SomeDone steps files log files' log'
not_yet held logged = record { done = 0; noted = 0; done_of = omega arith; noted_of = omega arith; done_near = omega arith; noted_near = omega arith; held = held; logged = logged }

-- a call that changes nothing
pub quiet : {files : Option Files} {log : Option (List Change)} {files' : Option Files}
    {log' : Option (List Change)} → files' ≡ files → log' ≡ log → AllDone [] files log files' log'
quiet held logged = record { held = held; logged = logged }

pub all_some : {steps : List Step} {files : Option Files} {log : Option (List Change)}
    {files' : Option Files} {log' : Option (List Change)} → AllDone steps files log files' log' → SomeDone steps files log files' log'
all_some {steps = steps} {files = files} {log = log} a =
    let all : take (length steps) steps ≡ steps = take-length steps in
    record {
      done = length steps;
      noted = length steps;
      done_of = omega arith;
      noted_of = omega arith;
      done_near = omega arith;
      noted_near = omega arith;
      held = a.held ∙ ap (λ xs. files_after xs files) (sym all);
      logged = a.logged ∙ ap (λ xs. log_after xs log) (sym all);
    }

-- ---- by other words

pub as_step : {T : Type 0} {step step' : Step} {files : Option Files} {log : Option (List Change)}
    {files' : Option Files} {log' : Option (List Change)} {result : Result T DeviceFault}
    → step ≡ step' → Does step files log files' log' result → Does step' files log files' log' result
as_step {files = files} {log = log} {files' = files'} {log' = log'} {result = result} e does = subst (λ step. Does step files log files' log' result) e does

pub write_is : {name name' : Key} {bytes bytes' : List ℕ} → name ≡ name' → bytes ≡ bytes' → Write name bytes ≡ Write name' bytes'
write_is p q = λ i. Write (p i) (q i)

pub all_as : {xs ys : List Step} {files : Option Files} {log : Option (List Change)} {files' : Option Files}
    {log' : Option (List Change)} → xs ≡ ys → AllDone xs files log files' log' → AllDone ys files log files' log'
all_as {files = files} {log = log} {files' = files'} {log' = log'} e a = subst (λ steps. AllDone steps files log files' log') e a

pub some_as : {xs ys : List Step} {files : Option Files} {log : Option (List Change)}
    {files' : Option Files} {log' : Option (List Change)} → xs ≡ ys → SomeDone xs files log files' log'
    → SomeDone ys files log files' log'
some_as {files = files} {log = log} {files' = files'} {log' = log'} e s = subst (λ steps. SomeDone steps files log files' log') e s

-- ---- of a call

-- a run that ended somehow
pub ran_some : {T E : Type 0} {steps : List Step} {files : Option Files} {log : Option (List Change)}
    {files' : Option Files} {log' : Option (List Change)} (result : Result T E) → Ran steps files log files' log' result
    → SomeDone steps files log files' log'
ran_some (Ok value) r = all_some r.ok
ran_some (Err e) r = r.err

-- a run behind a call that changes nothing
pub ran_on : {T E : Type 0} {steps : List Step} {files : Option Files} {log : Option (List Change)}
    {mid : Option Files} {mid_log : Option (List Change)} {files' : Option Files}
    {log' : Option (List Change)} (result : Result T E)
    → mid ≡ files → mid_log ≡ log → Ran steps mid mid_log files' log' result → Ran steps files log files' log' result
ran_on {steps = steps} {files' = files'} {log' = log'} result held logged r = rw (← held) (rw (← logged) r)

pub at_ok : {T E : Type 0} {steps : List Step} {files : Option Files} {log : Option (List Change)}
    {files' : Option Files} {log' : Option (List Change)} {value : T}
    → AllDone steps files log files' log' → Ran {E = E} steps files log files' log' (Ok value)
at_ok a = record { ok = a; err = tt }

-- the exit of a `?`
pub at_err : {T E : Type 0} {steps : List Step} {files : Option Files} {log : Option (List Change)}
    {files' : Option Files} {log' : Option (List Change)} (result : Result T E) (Q : E → Type 0)
    → IsErrAnd result Q → SomeDone steps files log files' log' → Ran steps files log files' log' result
at_err (Ok value) Q is s = absurd is
at_err (Err e) Q is s = record { ok = tt; err = s }
