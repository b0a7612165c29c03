-- The joined runs have the places of the sorted ones, and lie apart.
use Rattle.std.specs.Prelude.{◌≡◌, ℕ, ◌+◌, ◌-◌, ◌<◌, ◌≤◌, ◌==◌, nat_le, nat_lt, max, Bool, true, false, ◌&&◌, ◌||◌, ⊤, List, [], ◌∷◌, ◌++◌, length, drop, suc, if◌then◌else◌}
use Rattle.std.specs.List.{All, AllPairs, AllByRecursion}
use Rattle.std.specs.List.Sorted.{IsSortedBy}
use Rattle.std.specs.Ordering.{nat_cmp, ordering_then, is_lt}
use Rattle.std.proofs.Common.{arith, inl, inr, refl, sym, ap, subst, ◌∙◌, add-one}
use Rattle.std.proofs.lemmas.Bool.{and_parts, and_cases, leb-true, leb-false, eqb-true, eqb-false, eq-eqb, lt-ltb, le-ltb, cond_both, cases_Bool, cases_order, cases_lt, both_ways}
use Rattle.std.proofs.lemmas.Bool.Decides.{nat_tests}
use Rattle.std.proofs.lemmas.List.{append_assoc, drop_all}
use Rattle.std.proofs.lemmas.List.Elements.{All-from_recursion, recursion_from_All}
use Rattle.std.proofs.lemmas.List.Kept.{AllPairs-cons}
use Rattle.common_laws.proofs.Lists.{all_weaker}
use Rattle.availability.specs.declared.row_run.RowRun.{RowRun}
use Rattle.availability.specs.Runs.{has_at, is_in_runs, IsNonempty, IsApart}
use Rattle.availability.specs.Merge.{IsBehind, joins_of, grown_of, Takes, AreJoined}
use Rattle.availability.proofs.Ascending.{Ascend, nonempty_of, apart_of}

abbrev pub Rise : List RowRun → Type 0
Rise [] = ⊤
Rise (run ∷ later) = AllByRecursion (IsBehind run) later × Rise later

-- ---- joined from the front

abbrev pub merged_from : RowRun → List RowRun → List RowRun
merged_from run [] = run ∷ []
merged_from run (next ∷ later) = if joins_of run next then merged_from (grown_of run next) later else run ∷ merged_from next later

abbrev pub merged_of : List RowRun → List RowRun
merged_of [] = []
merged_of (run ∷ later) = merged_from run later

-- what is done, and what later runs make of the taken one, are the whole
pub take_one : (run next grown : RowRun) (old new later : List RowRun) → Takes run next grown old new → new ++ merged_from grown later ≡ old ++ merged_from run (next ∷ later)
take_one run next grown old new later h =
    elim (cases_Bool (joins_of run next)) [
      | inl e ↦ rw (h.run_is, h.done_are, e) refl
      | inr e ↦ rw (h.run_is, h.done_are, e) (append_assoc old (run ∷ []) (merged_from next later))
    ]

-- none is left to take
pub all_taken : (first run : RowRun) (rest sorted done whole : List RowRun) (i : ℕ) → sorted ≡ first ∷ rest → done ++ merged_from run (drop i rest) ≡ merged_from first rest
    → length rest ≤ i → whole ≡ done ++ run ∷ [] → whole ≡ merged_of sorted
all_taken first run rest sorted done whole i is taken none e =
    e ∙ sym (ap (λ left. done ++ merged_from run left) (drop_all i rest none)) ∙ taken ∙ ap merged_of (sym is)

-- ---- what joining says

record Joins (run next : RowRun) : Type 0 where
  row_is : run.row ≡ next.row
  near : next.start ≤ run.end + 1

joins_parts : (run next : RowRun) → joins_of run next ≡ true → Joins run next
joins_parts run next h =
    let both = and_parts (run.row == next.row) (nat_le (next.start - run.end) 1) h in
    let near = leb-true (next.start - run.end) 1 both.1 in
    record { row_is = eqb-true _ _ both.0; near = omega arith }

apart_unless : (run next : RowRun) → joins_of run next ≡ false → IsBehind run next → IsApart run next
apart_unless run next h (inl g) = inl g
apart_unless run next h (inr g) =
    elim (and_cases (run.row == next.row) (nat_le (next.start - run.end) 1) h) [
      | inl e ↦ absurd (eqb-false run.row next.row e g.0)
      | inr e ↦ let far = leb-false (next.start - run.end) 1 e in inr (g.0, omega arith)
    ]

behind_on : (a b c : RowRun) → IsApart a b → IsBehind b c → IsApart a c
behind_on a b c (inl h) (inl g) = inl (omega arith)
behind_on a b c (inl h) (inr g) = inl (omega arith)
behind_on a b c (inr h) (inl g) = inl (omega arith)
behind_on a b c (inr h) (inr g) = inr (omega arith, omega arith)

-- ---- the places

between_both : (s e t f c : ℕ) → s ≤ t → t ≤ e + 1 → (nat_le s c && nat_le c (max e f)) ≡ ((nat_le s c && nat_le c e) || (nat_le t c && nat_le c f))
between_both s e t f c h g = grind (arith, nat_tests)

split : (r a b x : Bool) → ((r && (a || b)) || x) ≡ ((r && a) || ((r && b) || x))
split true true b x = refl
split true false b x = refl
split false a b x = refl

grown_has : (run next : RowRun) (row column : ℕ) (x : Bool) → Joins run next → IsBehind run next
    → (has_at row column (grown_of run next) || x) ≡ (has_at row column run || (has_at row column next || x))
grown_has run next row column x h (inl g) = absurd (omega (arith, h.row_is))
grown_has run next row column x h (inr g) =
    ap (λ b. ((run.row == row) && b) || x) (between_both run.start run.end next.start next.end column g.1 h.near)
    ∙ split (run.row == row) (nat_le run.start column && nat_le column run.end) (nat_le next.start column && nat_le column next.end) x
    ∙ ap (λ n. ((run.row == row) && (nat_le run.start column && nat_le column run.end)) || (((n == row) && (nat_le next.start column && nat_le column next.end)) || x)) h.row_is

pub merged_places : (run : RowRun) (later : List RowRun) (row column : ℕ) → Rise (run ∷ later) → is_in_runs (merged_from run later) row column ≡ is_in_runs (run ∷ later) row column
merged_places run [] row column h = refl
merged_places run (next ∷ later) row column h =
    cond_both (joins_of run next) (merged_from (grown_of run next) later) (run ∷ merged_from next later)
    (λ list. is_in_runs list row column ≡ is_in_runs (run ∷ next ∷ later) row column)
    (λ e. merged_places (grown_of run next) later row column (h.0.1, h.1.1) ∙ grown_has run next row column (is_in_runs later row column) (joins_parts run next e) h.0.0)
    (λ e. ap (λ b. has_at row column run || b) (merged_places next later row column h.1))

-- ---- they lie apart

apart_kept : (a run : RowRun) (later : List RowRun) → IsApart a run → AllByRecursion (IsApart a) later → AllByRecursion (IsApart a) (merged_from run later)
apart_kept a run [] h g = (h, tt)
apart_kept a run (next ∷ later) h g =
    cond_both (joins_of run next) (merged_from (grown_of run next) later) (run ∷ merged_from next later) (AllByRecursion (IsApart a))
    (λ e. apart_kept a (grown_of run next) later h g.1)
    (λ e. (h, apart_kept a next later g.0 g.1))

grown_nonempty : (run next : RowRun) → IsNonempty run → IsNonempty (grown_of run next)
grown_nonempty run next h = omega arith

pub merged_ascend : (run : RowRun) (later : List RowRun) → Rise (run ∷ later) → AllByRecursion IsNonempty (run ∷ later) → Ascend (merged_from run later)
merged_ascend run [] h n = (n.0, tt, tt)
merged_ascend run (next ∷ later) h n =
    cond_both (joins_of run next) (merged_from (grown_of run next) later) (run ∷ merged_from next later) Ascend
    (λ e. merged_ascend (grown_of run next) later (h.0.1, h.1.1) (grown_nonempty run next n.0, n.1.1))
    (λ e.
    let far : IsApart run next = apart_unless run next e h.0.0 in
    (n.0, apart_kept run next later far (all_weaker (IsBehind next) (IsApart run) (λ x b. behind_on run next x far b) later h.1.0), merged_ascend next later h.1 n.1))

-- ---- sorted

-- the order of runs: by row, then the first column, then the last
abbrev pub run_less : RowRun → RowRun → Bool
run_less a b = is_lt (ordering_then (nat_cmp a.row b.row) (ordering_then (nat_cmp a.start b.start) (nat_cmp a.end b.end)))

row_less : (a b : RowRun) → a.row < b.row → run_less a b ≡ true
row_less a b h = let e : nat_lt a.row b.row ≡ true = lt-ltb _ _ h in rw e

start_less : (a b : RowRun) → a.row ≡ b.row → a.start < b.start → run_less a b ≡ true
start_less a b h g =
    let less : nat_lt a.row b.row ≡ false = le-ltb _ _ (omega arith) in
    let same : (a.row == b.row) ≡ true = eq-eqb _ _ h in
    let start : nat_lt a.start b.start ≡ true = lt-ltb _ _ g in
    rw (less, same, start)

behind_unless : (a b : RowRun) → run_less b a ≡ false → IsBehind a b
behind_unless a b h =
    elim (cases_order a.row b.row) [
      | inl e ↦ elim (cases_lt b.start a.start) [
        | inl g ↦ absurd (both_ways (run_less b a) h (start_less b a (sym e) g))
        | inr g ↦ inr (e, g)
      ]
      | inr s ↦ elim s [
        | inl g ↦ inl g
        | inr g ↦ absurd (both_ways (run_less b a) h (row_less b a g))
      ]
    ]

behind_both : (a b c : RowRun) → IsBehind a b → IsBehind b c → IsBehind a c
behind_both a b c (inl h) (inl g) = inl (omega arith)
behind_both a b c (inl h) (inr g) = inl (omega arith)
behind_both a b c (inr h) (inl g) = inl (omega arith)
behind_both a b c (inr h) (inr g) = inr (omega arith, omega arith)

behind_all : (a b : RowRun) (later : List RowRun) → IsBehind a b → AllByRecursion (IsBehind b) later → AllByRecursion (IsBehind a) later
behind_all a b later h = all_weaker (IsBehind b) (IsBehind a) (λ x g. behind_both a b x h g) later

pub rise_from : (runs : List RowRun) → IsSortedBy run_less runs → Rise runs
rise_from [] h = tt
rise_from (run ∷ []) h = (tt, tt)
rise_from (run ∷ next ∷ later) h =
    let first : IsBehind run next = behind_unless run next (h 0 run (omega arith) (omega arith)) in
    let rest = rise_from (next ∷ later) (λ k d low high. rw add-one (rw add-one at (h (suc k) d (omega arith) (omega arith)))) in
    ((first, behind_all run next later first rest.0), rest)

pub pairs_from : (runs : List RowRun) → Rise runs → AllPairs IsBehind runs
pairs_from [] h = λ i j d lt within. absurd (omega arith)
pairs_from (run ∷ later) h = AllPairs-cons IsBehind run later (All-from_recursion (IsBehind run) later h.0) (pairs_from later h.1)

rise_of : (runs : List RowRun) → AllPairs IsBehind runs → Rise runs
rise_of [] h = tt
rise_of (run ∷ later) h = (
  recursion_from_All (IsBehind run) later (λ k d within. h 0 (suc k) d (omega arith) (omega arith)),
  rise_of later (λ i j d lt within. h (suc i) (suc j) d (omega arith) (omega arith)),
)

-- ---- the whole

joined_from : (sorted : List RowRun) → Rise sorted → AllByRecursion IsNonempty sorted → Ascend (merged_of sorted) × ((row column : ℕ) → is_in_runs (merged_of sorted) row column ≡ is_in_runs sorted row column)
joined_from [] h n = (tt, λ row column. refl)
joined_from (run ∷ later) h n = (merged_ascend run later h n, λ row column. merged_places run later row column h)

pub are_joined : (sorted runs : List RowRun) → All IsNonempty sorted → AllPairs IsBehind sorted → runs ≡ merged_of sorted → AreJoined sorted runs
are_joined sorted runs n h e =
    let both = joined_from sorted (rise_of sorted h) (recursion_from_All IsNonempty sorted n) in
    subst (AreJoined sorted) (sym e) (record { nonempty = nonempty_of (merged_of sorted) both.0; apart = apart_of (merged_of sorted) both.0; places = both.1 })
