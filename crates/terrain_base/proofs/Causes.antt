-- A count of faults that rose in one of several calls rose in all of them together.
use Rattle.std.specs.Prelude.{ℕ, ◌≤◌}
use Rattle.std.proofs.Common.{arith, inl, inr, ⊎_elim, sym, ◌∙◌}
use Rattle.std.proofs.Math.Nat.{eq-or-lt_of_le}
use Rattle.terrain_base.specs.Cause.{Rose}

-- it rose in the later ones
pub rose_from : {a b c : ℕ} → a ≤ b → Rose b c → Rose a c
rose_from kept rose = ⊎_elim (λ less. inl (omega arith)) (λ last. inr last) rose

-- it rose in the earlier ones
pub rose_to : {a b c : ℕ} → a ≤ b → b ≤ c → Rose a b → Rose a c
rose_to later kept rose =
    ⊎_elim (λ less. inl (omega arith))
    (λ last. ⊎_elim (λ same. inr (sym same ∙ last)) (λ less. inl (omega arith)) (eq-or-lt_of_le kept))
    rose
