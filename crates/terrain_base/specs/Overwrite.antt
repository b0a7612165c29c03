-- Files overwritten, under some names, by what a map from names has there.
use Rattle.std.specs.Prelude.{ℕ, Bool, List, [], ◌∷◌, map, Option, Some, None}
use Rattle.std.specs.List.{list_any}
use Rattle.std.specs.Ordering.{eq_by_cmp}
use Rattle.terrain_base.specs.Name.{by_text}
use Rattle.terrain_base.specs.declared.name.Key.{Key}
use Rattle.terrain_base.specs.Step.{Files, Step, Write, Erase, changed}

-- the change that makes what is held under a name be what is wanted there
abbrev pub step_to : Option (List ℕ) → Key → Step
step_to None name = Erase name
step_to (Some bytes) name = Write name bytes

-- the same for each of the names, in order
abbrev pub steps_to : (Key → Option (List ℕ)) → List Key → List Step
steps_to want names = map (λ name. step_to (want name) name) names

-- the files after the steps
abbrev pub all_changed : List Step → Files → Files
all_changed [] files = files
all_changed (step ∷ steps) files = all_changed steps (changed step files)

abbrev pub is_among : Key → List Key → Bool
is_among name names = list_any (eq_by_cmp by_text name) names
