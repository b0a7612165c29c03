-- Slabs between levels, from below.
use Rattle.std.proofs.Common.{◌≡◌, ap, ◌∙◌, arith, List, inl, inr, ⊎_elim}
use Rattle.std.specs.Prelude.{◌⊎◌, ℤ, ◌≤ℤ◌, ◌<ℤ◌, Contains}
use Rattle.std.proofs.lemmas.Int.{ints}
use Rattle.mesh_check.specs.Slab.{Slab}
use Rattle.mesh_check.specs.Members.{IsSlab}
use Rattle.mesh_check.proofs.ListFacts.{contains_all}

abbrev made : ℤ → ℤ → Slab
made low high = record { low = low; high = high }

module _ (levels : List ℤ) where
  -- one slab ends at a level
  pub one_slab : (slab other : Slab) → IsSlab levels slab → IsSlab levels other → slab.high ≡ other.high → slab ≡ other
  one_slab slab other i j e =
      let a : slab.low ≤ℤ other.low =
      ⊎_elim (λ h. h) (λ h. absurd (omega (arith, ints, h, i.order, e)))
      (contains_all (λ v. (v ≤ℤ other.low) ⊎ (other.high ≤ℤ v)) levels slab.low j.none_between i.low) in
      let b : other.low ≤ℤ slab.low =
      ⊎_elim (λ h. h) (λ h. absurd (omega (arith, ints, h, j.order, e)))
      (contains_all (λ v. (v ≤ℤ slab.low) ⊎ (slab.high ≤ℤ v)) levels other.low i.none_between j.low) in
      let f : slab.low ≡ other.low = omega (arith, ints, a, b) in
      ap (λ z. made z slab.high) f ∙ ap (λ z. made other.low z) e

  -- a slab that does not end above another one ends below it, or is that one
  pub up_to : (slab other : Slab) → IsSlab levels slab → IsSlab levels other → slab.high ≤ℤ other.high →
      (slab.high ≤ℤ other.low) ⊎ (slab ≡ other)
  up_to slab other i j l =
      ⊎_elim (λ h. inl h) (λ h. inr (one_slab slab other i j (omega (arith, ints, h, l))))
      (contains_all (λ v. (v ≤ℤ other.low) ⊎ (other.high ≤ℤ v)) levels slab.high j.none_between i.high)

  -- a slab that begins below a level ends there at most
  pub ends_by : (slab : Slab) (v : ℤ) → IsSlab levels slab → Contains levels v → slab.low <ℤ v → slab.high ≤ℤ v
  ends_by slab v i c l =
      ⊎_elim (λ h. absurd (omega (arith, ints, h, l))) (λ h. h)
      (contains_all (λ u. (u ≤ℤ slab.low) ⊎ (slab.high ≤ℤ u)) levels v i.none_between c)
