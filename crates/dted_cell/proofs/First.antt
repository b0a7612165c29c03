-- The fields' refusal by its parts.
use Rattle.std.proofs.Common.{◌≡◌, ℕ, List, ◌++◌, ap, ◌∙◌}
use Rattle.std.specs.Option.{option_or}
use Rattle.common_laws.specs.First.{first_of}
use Rattle.common_laws.proofs.First.{first_of_append}
use Rattle.dted_cell.specs.Header.{east, west, north, south}
use Rattle.dted_cell.specs.Refusal.{angle_conditions, lattice_conditions, field_conditions}

pub fields_first : (text : List ℕ) → first_of (field_conditions text)
    ≡ option_or
    (option_or (first_of (angle_conditions text 4 180 east west)) (first_of (angle_conditions text 12 90 north south)))
    (first_of (lattice_conditions text))
unfolding field_conditions
fields_first text =
    let lon = angle_conditions text 4 180 east west in
    let lat = angle_conditions text 12 90 north south in
    first_of_append (lon ++ lat) (lattice_conditions text)
    ∙ ap (λ o. option_or o (first_of (lattice_conditions text))) (first_of_append lon lat)
