-- What a run that stopped leaves: the shape of crash safety.
use Rattle.std.proofs.Common.{◌≡◌, ℕ, zero, suc, ◌≤◌, Bool, true, false, ◌||◌, List, [], ◌∷◌, ◌++◌, length, map, take, cond, Option, Some, IfSome, refl, sym, ap, ◌∙◌, subst, append_assoc}
use Rattle.std.specs.FinMap.{get}
use Rattle.std.proofs.lemmas.List.{take-map, append-nil}
use Rattle.std.specs.Ordering.{eq_by_cmp}
use Rattle.terrain_base.specs.Name.{by_text}
use Rattle.terrain_base.specs.declared.name.Key.{Key}
use Rattle.terrain_base.specs.declared.store.Change.{Change}
use Rattle.terrain_base.specs.Step.{Files, Step, change_of}
use Rattle.terrain_base.specs.Run.{log_after, SomeDone}
use Rattle.terrain_base.specs.Overwrite.{step_to, steps_to, all_changed, is_among}
use Rattle.terrain_base.proofs.Overwrites.{files_of_told, get-overwritten}

-- the log grows by the changes, in order
pub log_of_told : (steps : List Step) (log : List Change) → log_after steps (Some log) ≡ Some
    (log ++ map change_of steps)
log_of_told [] log = ap Some (sym (append-nil log))
log_of_told (step ∷ steps) log = log_of_told steps (log ++ change_of step ∷ []) ∙ ap Some (append_assoc log (change_of step ∷ []) (map change_of steps))

-- what holds of the files after each front of the steps holds of what a stop leaves
pub any_stop : (P : Files → Type 0) (steps : List Step) (files : Files) {log log' : Option (List Change)}
    {files' : Option Files}
    → SomeDone steps (Some files) log files' log'
    → ((n : ℕ) → n ≤ length steps → P (all_changed (take n steps) files)) → IfSome files' P
any_stop P steps files s each = subst (λ o. IfSome o P) (sym (s.held ∙ files_of_told (take s.done steps) files)) (each s.done s.done_of)

neither : (a b c : Bool) → (a || b) ≡ false → (b ≡ false → c ≡ false) → (a || c) ≡ false
neither true b c e h = e
neither false b c e h = h e

pub missed : (q : Key) (n : ℕ) (names : List Key) → is_among q names ≡ false → is_among q (take n names) ≡ false
missed q zero names e = refl
missed q (suc n) [] e = refl
missed q (suc n) (name ∷ names) e = neither (eq_by_cmp by_text q name) (is_among q names) (is_among q (take n names)) e (missed q n names)

-- a stop while files are overwritten leaves each name that is not among them as it was
pub outside_stays : (want : Key → Option (List ℕ)) (names : List Key) (files : Files) (q : Key)
    {log log' : Option (List Change)} {files' : Option Files}
    → SomeDone (steps_to want names) (Some files) log files' log' → is_among q names ≡ false → IfSome files'
    (λ after. get after q ≡ get files q)
outside_stays want names files q s out = any_stop (λ after. get after q ≡ get files q) (steps_to want names) files s (λ n le.
    ap (λ steps. get (all_changed steps files) q) (take-map (λ name. step_to (want name) name) n names)
    ∙ get-overwritten want (take n names) files q
    ∙ ap (λ b. cond b (want q) (get files q)) (missed q n names out))
