-- The last part of a name.
use Rattle.std.proofs.Common.{
  ◌≡◌,
  ◌≢◌,
  ℕ,
  zero,
  suc,
  ◌+◌,
  ◌<◌,
  ◌≤◌,
  ◌==◌,
  true,
  false,
  List,
  length,
  get_or,
  take,
  refl,
  sym,
  subst,
  arith,
  inl,
  inr,
  take-append-drop,
  ◌⊎◌,
}
use Rattle.std.proofs.lemmas.Bool.{cases_eq}
use Rattle.std.proofs.lemmas.Bool.Decides.{nat_tests}
use Rattle.std.proofs.lemmas.List.{get_or-drop, length-take-le, length-drop}
use Rattle.hgt_cells.specs.Name.{slash, part_start, last_part, IsLastPart}

-- the part begins behind the last '/' among the first bytes, and is plain up to their end
record Starts (name : List ℕ) (count start : ℕ) : Type 0 where
  within : start ≤ count
  behind : (k : ℕ) → k + 1 ≡ start → get_or name k 0 ≡ slash
  plain : (k : ℕ) → start ≤ k → k < count → get_or name k 0 ≢ slash

starts_on : (name : List ℕ) (count : ℕ) → Starts name count (part_start name count)
    → ((get_or name count 0 ≡ slash) ⊎ (get_or name count 0 ≡ slash → ⊥))
    → Starts name (suc count) (part_start name (suc count))
starts_on name count earlier (inl here) =
    let found : (get_or name count 0 == slash) ≡ true = grind (arith, nat_tests, here) in
    rw found (record {
      within = omega arith;
      behind = λ k e. let same : k ≡ count = omega arith in
          rw same here;
      plain = λ k above below. absurd (omega arith);
    })
starts_on name count earlier (inr other) =
    let none : (get_or name count 0 == slash) ≡ false = grind (arith, nat_tests, other) in
    rw none (record {
      within = omega (arith, earlier.within);
      behind = earlier.behind;
      plain = λ k above below. plain_on k above (cases_eq k count) (omega arith);
    })
  where
    plain_on : (k : ℕ) → part_start name count ≤ k → ((k ≡ count) ⊎ (k ≡ count → ⊥)) → k ≤ count
        → get_or name k 0 ≢ slash
    plain_on k above (inl same) most = rw same other
    plain_on k above (inr apart) most = earlier.plain k above (omega (arith, apart))

starts : (name : List ℕ) (count : ℕ) → Starts name count (part_start name count)
starts name zero = record
    { within = omega arith; behind = λ k e. absurd (omega arith); plain = λ k above below. absurd (omega arith) }
starts name (suc count) = starts_on name count (starts name count) (cases_eq (get_or name count 0) slash)

pub last_part_is : (name : List ℕ) → IsLastPart name (last_part name)
unfolding last_part
last_part_is name =
    let start = part_start name (length name) in
    let found = starts name (length name) in
    let long : length (take start name) ≡ start = length-take-le start name found.within in
    record {
      folder = take start name;
      split = sym (take-append-drop start name);
      behind = λ k inside last. found.behind k (omega (arith, long));
      plain = λ k inside. subst (λ b. b ≢ slash) (sym (get_or-drop start name k 0))
          (found.plain (start + k) (omega arith) (omega (arith, length-drop start name)));
    }

-- behind the last '/' among the first bytes
pub start_behind : (name : List ℕ) (at count : ℕ) → at < count → get_or name at 0 ≡ slash
    → ((k : ℕ) → at + 1 ≤ k → k < count → get_or name k 0 ≢ slash) → part_start name count ≡ at + 1
start_behind name at zero h here after = absurd (omega arith)
start_behind name at (suc count) h here after =
    cases (cases_eq at count)
    (λ apart. start_behind name at count (omega (arith, apart)) here (λ k above below. after k above (omega arith)))
  where
    cases : ((at ≡ count) ⊎ (at ≡ count → ⊥)) → ((at ≡ count → ⊥) → part_start name count ≡ at + 1)
        → part_start name (suc count) ≡ at + 1
    cases (inl same) earlier =
        let found : (get_or name count 0 == slash) ≡ true = grind (arith, nat_tests, same, here) in
        rw found (omega (arith, same))
    cases (inr apart) earlier =
        let none : (get_or name count 0 == slash) ≡ false = grind
        (arith, nat_tests, after count (omega (arith, apart)) (omega arith)) in
        rw none (earlier apart)

pub start_of_all : (name : List ℕ) (count : ℕ) → ((k : ℕ) → k < count → get_or name k 0 ≢ slash)
    → part_start name count ≡ 0
start_of_all name zero none = refl
start_of_all name (suc count) none =
    let other : (get_or name count 0 == slash) ≡ false = grind (arith, nat_tests, none count (omega arith)) in
    rw other (start_of_all name count (λ k h. none k (omega arith)))
