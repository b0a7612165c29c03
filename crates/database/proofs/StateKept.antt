-- What a state and its commands keep.
use Rattle.std.proofs.Common.{◌≡◌, ℕ, ◌-◌, ◌≤◌, Bool, true, false, is_some, cond, List, length, Some, refl, sym, subst, ◌∙◌, arith}
use Rattle.std.specs.FinMap.{get, keys, insert, remove, get-insert, get-remove, len, len-entries, len-remove}
use Rattle.std.proofs.lemmas.List.{length-map}
use Rattle.std.specs.Ordering.{eq_by_cmp}
use Rattle.common_laws.proofs.Options.{some_beside_none}
use Rattle.terrain_base.specs.declared.cell_key.CellKey.{CellKey}
use Rattle.terrain_base.specs.CellKey.{key_cmp}
use Rattle.cell_mosaic.specs.Cells.{IsSoundCell}
use Rattle.database.specs.State.{State, IsState}
use Rattle.database.specs.Commands.{PutCell, DropCell, after}
use Rattle.database.proofs.Given.{keys_total}
use Rattle.database.proofs.Tests.{key_same}

put_each : (s : State) (k j : CellKey) (bytes found : List ℕ) (b : Bool) → (b ≡ true → j ≡ k) → IsSoundCell k bytes → IsState s
    → cond b (Some bytes) (get s.cells j) ≡ Some found → IsSoundCell j found
put_each s k j bytes found true here cell is at = let same : bytes ≡ found = cc in subst (λ bs. IsSoundCell j bs) same (subst (λ i. IsSoundCell i bytes) (sym (here refl)) cell)
put_each s k j bytes found false here cell is at = is.sound j found at

-- a put cell of its key leaves a state, as long as there is room
pub put_is_state : (s : State) (k : CellKey) (bytes : List ℕ) → length (keys (insert s.cells k bytes)) ≤ 4096 → IsSoundCell k bytes → IsState s → IsState (after (PutCell k bytes) s)
put_is_state s k bytes few cell is = record {
  few = few;
  sound = λ j found at. put_each s k j bytes found (eq_by_cmp key_cmp j k) (key_same j k) cell is (sym (get-insert keys_total s.cells k bytes j) ∙ at);
}

dropped_length : (b : Bool) (n : ℕ) → n ≤ 4096 → cond b (n - 1) n ≤ 4096
dropped_length true n le = omega (arith, le)
dropped_length false n le = le

-- without a cell it is a state still
pub drop_is_state : (s : State) (k : CellKey) → IsState s → IsState (after (DropCell k) s)
drop_is_state s k is = record {
  few =
      let long : length (keys (remove s.cells k)) ≡ len (remove s.cells k) = length-map _ _ ∙ sym (len-entries (remove s.cells k)) in
      let before : length (keys s.cells) ≡ len s.cells = length-map _ _ ∙ sym (len-entries s.cells) in
      let few = is.few in
      let shorter = dropped_length (is_some (get s.cells k)) (len s.cells) (omega (arith, before, few)) in
      omega (arith, long, shorter, len-remove keys_total s.cells k);
  sound = λ j found at. is.sound j found (some_beside_none (eq_by_cmp key_cmp j k) (get s.cells j) found (sym (get-remove keys_total s.cells k j) ∙ at));
}
