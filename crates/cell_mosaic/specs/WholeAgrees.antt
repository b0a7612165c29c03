-- What is kept in memory are cells of its shapes: the proof of that law of a source. It stands here since the proof of
-- an impl's law may cite only what stands in specs/.
use Rattle.std.specs.Prelude.{◌≡◌, ℕ, Bool, true, false, ◌||◌, List, [], ◌∷◌, Option, Some, is_some, cond, refl}
use Rattle.std.proofs.Common.{sym, ap, ◌∙◌, subst}
use Rattle.std.specs.Ordering.{eq_by_cmp}
use Rattle.std.specs.FinMap.{get, get-empty, get-insert}
use Rattle.std.specs.FinSet.{contains, contains-empty, contains-insert}
use Rattle.terrain_base.specs.declared.cell_key.CellKey.{CellKey}
use Rattle.terrain_base.specs.CellKey.{key_cmp, keys_total}
use Rattle.cell_mosaic.specs.Cells.{Cells, AreCells}
use Rattle.cell_mosaic.specs.Whole.{cells_of, shapes_of, AreOfKeys}

some_or : (here : Bool) (bytes : List ℕ) (rest : Option (List ℕ))
    → is_some (cond here (Some bytes) rest) ≡ (here || is_some rest)
some_or true bytes rest = refl
some_or false bytes rest = refl

pub keys_of : (entries : List (CellKey × List ℕ)) (key : CellKey)
    → is_some (get (cells_of entries) key) ≡ contains (shapes_of entries) key
keys_of [] key = ap is_some (get-empty key_cmp key) ∙ sym (contains-empty key_cmp key)
keys_of (entry ∷ entries) key =
    let here = eq_by_cmp key_cmp key entry.0 in
    ap is_some (get-insert keys_total (cells_of entries) entry.0 entry.1 key)
    ∙ some_or here entry.1 (get (cells_of entries) key)
    ∙ ap (λ b. here || b) (keys_of entries key)
    ∙ sym (contains-insert keys_total (shapes_of entries) entry.0 key)

pub whole_agrees : (entries : List (CellKey × List ℕ)) (told : Cells) → AreOfKeys entries
    → ◌≡◌ {A = Option Cells} (Some (cells_of entries)) (Some told) → AreCells told (shapes_of entries)
whole_agrees entries told good is =
    let same : cells_of entries ≡ told = cc in
    subst (λ cells. AreCells cells (shapes_of entries)) same (record { keys = keys_of entries; each = good })
