-- The key and the cell that a number tells.
use Rattle.std.proofs.Common.{◌≡◌, ℕ, ◌+◌, ◌<◌, ◌/◌, ◌%◌, ◌==◌, ◌≢◌, List, Result, Ok, Err, IfOk, IfErr, IsOk, sym, ap, ◌∙◌, arith}
use Rattle.std.specs.Prelude.{if◌then◌else◌}
use Rattle.std.proofs.lemmas.Bool.{eq-eqb, ne_eqb}
use Rattle.std.proofs.Math.Nat.{mod-eq_of_lt}
use Rattle.terrain_base.specs.declared.cell_key.CellKey.{CellKey}
use Rattle.terrain_base.specs.declared.level.CellLevel.{CellLevel}
use Rattle.terrain_base.specs.declared.level.CellLevel.TheVariants.{Zero}
use Rattle.terrain_base.specs.declared.square.Square.{Square}
use Rattle.terrain_base.specs.declared.post.Post.{Post}
use Rattle.terrain_base.specs.CellKey.{key_at}
use Rattle.dted_cell.specs.Cell.{IsCell}
use Rattle.dted_cell.specs.Trouble.{IsCellAt}
use Rattle.dted_cell.proofs.Squares.{square_of_is}
use Rattle.dted_cell.proofs.WholeCells.{by_cell}
use Rattle.cell_mosaic.specs.Whole.{key_in}
use Rattle.database.specs.Commands.{Add, Replace, Remove}
use Rattle.database.specs.declared.answer.EngineAnswer.{EngineAnswer}
use Rattle.database.specs.declared.answer.EngineAnswer.TheVariants.{NoMemory}
use Rattle.db_trial.specs.Generated.{generated, generated_cell, generated_key}

pub key_told : (key : CellKey) (drawn : ℕ) → key.level ≡ Zero → key.square.lat ≡ 89 + drawn % 9 / 3 → key.square.lon ≡ 179 + drawn % 9 % 3
    → key ≡ generated_key drawn
key_told key drawn level lat lon =
    let north : 89 + drawn % 9 / 3 < 180 = omega arith in
    let east : 179 + drawn % 9 % 3 < 360 = omega arith in
    let square = square_of_is key.square (179 + drawn % 9 % 3) (89 + drawn % 9 / 3) north (lon ∙ sym (mod-eq_of_lt east)) lat in
    λ i. record { square = square i; level = level i }

-- the key of a cell that is one of this square and level
pub key_of_cell : (bytes : List ℕ) (square : Square) (level : CellLevel) (posts : List (List Post)) → IsCell bytes square level posts → key_in bytes ≡ key_at square level
key_of_cell bytes square level posts cell =
    let found = by_cell bytes square level posts cell in
    sym (λ i. key_at (found.square_is i) (found.level_is i))

pub key_at_is : (key : CellKey) (bytes : List ℕ) → IsCellAt key bytes → key_in bytes ≡ key
key_at_is key bytes cell = λ i. key_at (cell.square i) (cell.level i)

pub checked_key : {E : Type 0} (drawn : ℕ) (result : Result (List ℕ) E) (bytes : List ℕ) (key : CellKey) (posts : List (List Post)) → IfOk result (λ cell. cell ≡ bytes)
    → IsCell bytes key.square key.level posts → key ≡ generated_key drawn → IfOk result (λ cell. key_in cell ≡ generated_key drawn)
checked_key drawn (Ok cell) bytes key posts same is key_is = ap key_in same ∙ key_of_cell bytes key.square key.level posts is ∙ key_is
checked_key drawn (Err e) bytes key posts same is key_is = tt

pub never_err : {T : Type 0} (result : Result T EngineAnswer) → IsOk result → IfErr result (λ answer. answer ≡ NoMemory)
never_err (Ok value) is = tt
never_err (Err e) is = absurd (cc)

-- ---- the command that a number tells

pub removes : (drawn : ℕ) (key : CellKey) → drawn / 9 % 4 ≡ 3 → key ≡ generated_key drawn → Remove key ≡ generated drawn
removes drawn key kind is =
    ap Remove is ∙ sym (ap (λ b. if b then Remove (generated_key drawn)
    else (if drawn / 9 % 4 == 2 then Replace (generated_key drawn) (generated_cell drawn)
    else Add (generated_key drawn) (generated_cell drawn))) (eq-eqb (drawn / 9 % 4) 3 kind))

pub replaces : (drawn : ℕ) (cell : List ℕ) → drawn / 9 % 4 ≡ 2 → key_in cell ≡ generated_key drawn → cell ≡ generated_cell drawn
    → Replace (key_in cell) cell ≡ generated drawn
replaces drawn cell kind key is =
    let other : drawn / 9 % 4 ≢ 3 = λ e. absurd (omega arith) in
    let third = ne_eqb (drawn / 9 % 4) 3 other in
    let second = eq-eqb (drawn / 9 % 4) 2 kind in
    (λ i. Replace (key i) (is i))
    ∙ sym (λ i. if third i then Remove (generated_key drawn)
    else (if second i then Replace (generated_key drawn) (generated_cell drawn)
    else Add (generated_key drawn) (generated_cell drawn)))

pub adds_one : (drawn : ℕ) (cell : List ℕ) → drawn / 9 % 4 ≢ 3 → drawn / 9 % 4 ≢ 2 → key_in cell ≡ generated_key drawn → cell ≡ generated_cell drawn
    → Add (key_in cell) cell ≡ generated drawn
adds_one drawn cell not_third not_second key is =
    let third = ne_eqb (drawn / 9 % 4) 3 not_third in
    let second = ne_eqb (drawn / 9 % 4) 2 not_second in
    (λ i. Add (key i) (is i))
    ∙ sym (λ i. if third i then Remove (generated_key drawn)
    else (if second i then Replace (generated_key drawn) (generated_cell drawn)
    else Add (generated_key drawn) (generated_cell drawn)))
