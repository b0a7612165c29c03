-- What is held after files are overwritten.
use Rattle.std.proofs.Common.{◌≡◌, ℕ, Bool, true, false, ◌||◌, List, [], ◌∷◌, cond, Option, Some, None, refl, sym, ap, ◌∙◌}
use Rattle.std.proofs.lemmas.Map.Views.{tells_apart}
use Rattle.std.specs.Ordering.{eq_by_cmp}
use Rattle.std.specs.FinMap.{get, get-insert, get-remove}
use Rattle.terrain_base.specs.Name.{by_text}
use Rattle.terrain_base.proofs.NameOrder.{by_text_total, by_text_exact}
use Rattle.terrain_base.specs.declared.name.Key.{Key}
use Rattle.terrain_base.specs.Step.{Files, Step, changed}
use Rattle.terrain_base.specs.Run.{files_after}
use Rattle.terrain_base.specs.Overwrite.{step_to, steps_to, all_changed, is_among}

pub files_of_told : (steps : List Step) (files : Files) → files_after steps (Some files) ≡ Some
    (all_changed steps files)
files_of_told [] files = refl
files_of_told (step ∷ steps) files = files_of_told steps (changed step files)

pub get-step_to : (wanted : Option (List ℕ)) (name : Key) (files : Files) (q : Key) → get
    (changed (step_to wanted name) files) q ≡ cond (eq_by_cmp by_text q name) wanted (get files q)
get-step_to None name files q = get-remove by_text_total files name q
get-step_to (Some bytes) name files q = get-insert by_text_total files name bytes q

-- a name that is overwritten twice has what is wanted
twice : (a b : Bool) (q : Key) (x y z : Option (List ℕ)) → (a ≡ true → x ≡ y) → cond b x (cond a y z) ≡ cond
    (a || b) x z
twice true true q x y z same = refl
twice true false q x y z same = sym (same refl)
twice false true q x y z same = refl
twice false false q x y z same = refl

pub get-overwritten : (want : Key → Option (List ℕ)) (names : List Key) (files : Files) (q : Key) → get
    (all_changed (steps_to want names) files) q ≡ cond (is_among q names) (want q) (get files q)
get-overwritten want [] files q = refl
get-overwritten want (name ∷ names) files q =
    get-overwritten want names (changed (step_to (want name) name) files) q
    ∙ ap (cond (is_among q names) (want q)) (get-step_to (want name) name files q)
    ∙ twice (eq_by_cmp by_text q name) (is_among q names) q (want q) (want name) (get files q) (λ e. ap want (tells_apart by_text_exact q name e))
