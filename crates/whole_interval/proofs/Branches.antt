-- What the branches of the code compute.
use Rattle.std.proofs.Common.{◌≡◌, ℕ, ◌-◌, ◌*◌, ◌%◌, ◌<◌, ◌≤◌, refl, arith, Bool, true, false}
use Rattle.std.proofs.Common.{sym}
use Rattle.std.proofs.lemmas.Bool.Decides.{nat_tests}
use Rattle.std.specs.Prelude.{if◌then◌else◌, ◌==◌, nat_le}
use Rattle.std.proofs.lemmas.Bool.{lt-leb}
use Rattle.whole_interval.specs.declared.interval.Interval.{Interval}
use Rattle.whole_interval.specs.declared.sine_cosine.SineCosine.{SineCosine}
use Rattle.whole_interval.specs.Interval.{add_of, sub_of, negated_of}
use Rattle.whole_interval.specs.HalfTurn.{alternated_of, octant_sine_of, octant_cosine_of, quarter_sine_of}
use Rattle.whole_interval.specs.HalfTurn.{quarter_cosine_of, turned_of}

if_true : {A : Type 0} (b : Bool) (x y : A) → b ≡ true → (if b then x else y) ≡ x
if_true true x y e = refl
if_true false x y e = cc

if_false : {A : Type 0} (b : Bool) (x y : A) → b ≡ false → (if b then x else y) ≡ y
if_false true x y e = cc
if_false false x y e = refl

same : (m n : ℕ) → m ≡ n → (m == n) ≡ true
same m n e = grind (arith, nat_tests)

apart : (m n : ℕ) → ¬ (m ≡ n) → (m == n) ≡ false
apart m n e = grind (arith, nat_tests)

at_most : (m n : ℕ) → m ≤ n → nat_le m n ≡ true
at_most m n e = grind (arith, nat_tests)

pub alternated_even : (sum term : Interval) (j : ℕ) → j % 2 ≡ 0 → sub_of sum term ≡ alternated_of sum term j
unfolding alternated_of
alternated_even sum term j e = sym (if_true (j % 2 == 0) _ _ (same (j % 2) 0 e))

pub alternated_odd : (sum term : Interval) (j : ℕ) → ¬ (j % 2 ≡ 0)
    → add_of sum term ≡ alternated_of sum term j
unfolding alternated_of
alternated_odd sum term j e = sym (if_false (j % 2 == 0) _ _ (apart (j % 2) 0 e))

pub quarter_sine_near : (r d : ℕ) → 2 * r ≤ d → octant_sine_of r d ≡ quarter_sine_of r d
unfolding quarter_sine_of
quarter_sine_near r d h = sym (if_true (nat_le (2 * r) d) _ _ (at_most (2 * r) d h))

pub quarter_sine_far : (r d : ℕ) → d < 2 * r → octant_cosine_of (d - r) d ≡ quarter_sine_of r d
unfolding quarter_sine_of
quarter_sine_far r d h = sym (if_false (nat_le (2 * r) d) _ _ (lt-leb (2 * r) d h))

pub quarter_cosine_near : (r d : ℕ) → 2 * r ≤ d → octant_cosine_of r d ≡ quarter_cosine_of r d
unfolding quarter_cosine_of
quarter_cosine_near r d h = sym (if_true (nat_le (2 * r) d) _ _ (at_most (2 * r) d h))

pub quarter_cosine_far : (r d : ℕ) → d < 2 * r → octant_sine_of (d - r) d ≡ quarter_cosine_of r d
unfolding quarter_cosine_of
quarter_cosine_far r d h = sym (if_false (nat_le (2 * r) d) _ _ (lt-leb (2 * r) d h))

pub turned_none : (k : ℕ) (s c : Interval) → k ≡ 0
    → ◌≡◌ {A = SineCosine} (record { sine = s; cosine = c }) (turned_of k s c)
unfolding turned_of
turned_none k s c e = rw e refl

pub turned_once : (k : ℕ) (s c t : Interval) → k ≡ 1 → t ≡ negated_of s
    → ◌≡◌ {A = SineCosine} (record { sine = c; cosine = t }) (turned_of k s c)
unfolding turned_of
turned_once k s c t e f = rw (e, f) refl

pub turned_twice : (k : ℕ) (s c t u : Interval) → k ≡ 2 → t ≡ negated_of s → u ≡ negated_of c
    → ◌≡◌ {A = SineCosine} (record { sine = t; cosine = u }) (turned_of k s c)
unfolding turned_of
turned_twice k s c t u e f g = rw (e, f, g) refl

pub turned_thrice : (k : ℕ) (s c t : Interval) → ¬ (k ≡ 0) → ¬ (k ≡ 1) → ¬ (k ≡ 2) → t ≡ negated_of c
    → ◌≡◌ {A = SineCosine} (record { sine = t; cosine = s }) (turned_of k s c)
unfolding turned_of
turned_thrice k s c t e f g h = rw (apart k 0 e, apart k 1 f, apart k 2 g, h) refl
