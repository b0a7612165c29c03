-- Each height of the tile lies in a slab.
use Rattle.std.proofs.Common.{arith, List, [], ◌∷◌, inl, inr, ⊎_elim}
use Rattle.std.specs.Prelude.{◌⊎◌, ℤ, ◌≤ℤ◌, ◌<ℤ◌}
use Rattle.std.specs.List.{AllByRecursion}
use Rattle.std.proofs.lemmas.Int.{ints, by_lt_z}
use Rattle.mesh_check.specs.Slab.{Slab}

-- a slab between two levels, that is not below the height, and not above it
pub record Narrowed (P Low High : ℤ → Type 0) (levels : List ℤ) (low high : ℤ) : Type 0 where
  pub slab : Slab
  pub p_low : P slab.low
  pub p_high : P slab.high
  pub order : slab.low <ℤ slab.high
  pub is_low : Low slab.low
  pub is_high : High slab.high
  pub from : low ≤ℤ slab.low
  pub to : slab.high ≤ℤ high
  pub between : AllByRecursion (λ v. (v ≤ℤ slab.low) ⊎ (slab.high ≤ℤ v)) levels

-- each level is Low or High
pub narrowed : (P Low High : ℤ → Type 0) → ((v : ℤ) → Low v ⊎ High v) → (levels : List ℤ) → AllByRecursion P levels
    → (low high : ℤ) → P low → P high → low <ℤ high → Low low → High high → Narrowed P Low High levels low high
narrowed P Low High side [] ps low high p q l a b =
    record {
      slab = record { low = low; high = high };
      p_low = p;
      p_high = q;
      order = l;
      is_low = a;
      is_high = b;
      from =
          omega (arith, ints);
      to = omega (arith, ints);
      between = tt;
    }
narrowed P Low High side (v ∷ vs) ps low high p q l a b =
    by_lt_z low v
    (λ above. by_lt_z v high
    (λ below. ⊎_elim
    (λ is_low. up (narrowed P Low High side vs ps.1 v high ps.0 q below is_low b) above)
    (λ is_high. down (narrowed P Low High side vs ps.1 low v p ps.0 above a is_high) below) (side v))
    (λ out. let r = narrowed P Low High side vs ps.1 low high p q l a b in
    put r (inr (omega (arith, ints, out, r.to)))))
    (λ out. let r = narrowed P Low High side vs ps.1 low high p q l a b in
    put r (inl (omega (arith, ints, out, r.from))))
  where
    put : (r : Narrowed P Low High vs low high) → (v ≤ℤ r.slab.low) ⊎ (r.slab.high ≤ℤ v) → Narrowed P Low High
        (v ∷ vs) low high
    put r s = record {
      slab = r.slab;
      p_low = r.p_low;
      p_high = r.p_high;
      order = r.order;
      is_low = r.is_low;
      is_high =
          r.is_high;
      from = r.from;
      to = r.to;
      between = (s, r.between);
    }

    up : Narrowed P Low High vs v high → low <ℤ v → Narrowed P Low High (v ∷ vs) low high
    up r k = record {
      slab = r.slab;
      p_low = r.p_low;
      p_high = r.p_high;
      order = r.order;
      is_low = r.is_low;
      is_high =
          r.is_high;
      from = omega (arith, ints, k, r.from);
      to = r.to;
      between = (inl r.from, r.between);
    }

    down : Narrowed P Low High vs low v → v <ℤ high → Narrowed P Low High (v ∷ vs) low high
    down r k = record {
      slab = r.slab;
      p_low = r.p_low;
      p_high = r.p_high;
      order = r.order;
      is_low = r.is_low;
      is_high =
          r.is_high;
      from = r.from;
      to = omega (arith, ints, k, r.to);
      between = (inr r.to, r.between);
    }
