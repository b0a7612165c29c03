-- Cutting an axis.
use Rattle.std.proofs.Common.{◌≡◌, ℕ, ◌≤◌, ◌<◌, min, max, arith, refl}
use Rattle.std.specs.Prelude.{◌↔◌, ℤ, pos, ◌+ℤ◌, ◌≤ℤ◌}
use Rattle.std.proofs.lemmas.Int.{ints, by_lt_z}
use Rattle.lattice_sweep.specs.declared.axis.Axis.{Axis}
use Rattle.lattice_sweep.specs.Axis.{point_of, IsCut}

pub cut_is : (a : Axis) (low high : ℤ) (b c d e f : ℕ) → ((i : ℕ) → (low ≤ℤ point_of a i) ↔ (b ≤ i))
    → ((i : ℕ) → ((high +ℤ pos 1) ≤ℤ point_of a i) ↔ (c ≤ i))
    → d ≡ max b a.from → e ≡ min d 65535 → f ≡ min c a.to → a.to ≤ 65535
    → IsCut a low high (record { first = a.first; step = a.step; from = e; to = f })
cut_is a low high b c d e f lo hi h k l m = record {
  points = λ i. refl;
  numbers = λ i.
      let p = lo i in let q = hi i in (
        λ n. (record { from = omega (arith, n); to = omega (arith, n) }, (p.1 (omega (arith, n)), not_past i (omega (arith, n)))),
        λ n. record { from = omega (arith, n.0, p.0 n.1.0); to = below i n.1.1 n.0.to },
      );
}
  where
    not_past : (i : ℕ) → i < c → point_of a i ≤ℤ high
    not_past i n = by_lt_z high (point_of a i) (λ o. absurd (omega (arith, (hi i).0 (omega (arith, ints, o))))) (λ o. o)

    below : (i : ℕ) → point_of a i ≤ℤ high → i < a.to → i < f
    below i n o = by_lt_z (pos i) (pos c) (λ x. omega (arith, ints, x)) (λ x. absurd (omega (arith, ints, n, (hi i).1 (omega (arith, ints, x)))))
