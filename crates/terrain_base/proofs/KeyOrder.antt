-- The order of keys tells them apart.
use Rattle.std.specs.Prelude.{◌≡◌, ℕ, refl}
use Rattle.std.proofs.Common.{ap}
use Rattle.std.specs.Ordering.{nat_cmp, ordering_then}
use Rattle.std.proofs.lemmas.Map.Lookups.{exact_pairs, exact_unsigned}
use Rattle.std.specs.FinMap.{IsAntisymmetric}
use Rattle.terrain_base.specs.declared.level.CellLevel.{CellLevel}
use Rattle.terrain_base.specs.declared.level.CellLevel.TheVariants.{Zero, One, Two}
use Rattle.terrain_base.specs.declared.cell_key.CellKey.{CellKey}
use Rattle.terrain_base.specs.CellKey.{rank_of, key_cmp}
use Rattle.terrain_base.proofs.SquareTexts.{same_square}

rank_exact : (a b : CellLevel) → rank_of a ≡ rank_of b → a ≡ b
rank_exact Zero Zero e = refl
rank_exact One One e = refl
rank_exact Two Two e = refl
rank_exact Zero One e = absurd (cc)
rank_exact Zero Two e = absurd (cc)
rank_exact One Zero e = absurd (cc)
rank_exact One Two e = absurd (cc)
rank_exact Two Zero e = absurd (cc)
rank_exact Two One e = absurd (cc)

-- keys of one square and one level are the same
pub same_key : (a b : CellKey) → a.square ≡ b.square → a.level ≡ b.level → a ≡ b
same_key a b p q = λ i. record { square = p i; level = q i }

-- so are keys of the same degrees and the same place among levels
pub same_parts : (a b : CellKey) → a.square.lat ≡ b.square.lat → a.square.lon ≡ b.square.lon → rank_of a.level ≡ rank_of b.level → a ≡ b
same_parts a b p q r = same_key a b (same_square a.square b.square p q) (rank_exact a.level b.level r)

pub keys_exact : IsAntisymmetric key_cmp
keys_exact a b e =
    let p = exact_pairs (λ (x y : ℕ × ℕ). ordering_then (nat_cmp x.0 y.0) (nat_cmp x.1 y.1)) nat_cmp (exact_pairs nat_cmp nat_cmp exact_unsigned exact_unsigned) exact_unsigned
    ((a.square.lat, a.square.lon), rank_of a.level) ((b.square.lat, b.square.lon), rank_of b.level) e in
    same_key a b (same_square a.square b.square (ap (λ p. p.0.0) p) (ap (λ p. p.0.1) p)) (rank_exact a.level b.level (ap (λ p. p.1) p))
