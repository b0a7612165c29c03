-- Old rows are told apart by their order.
use Rattle.std.proofs.Common.{◌≡◌, ℕ, Bool, true, sym, ap, subst}
use Rattle.std.specs.Prelude.{IsTrue}
use Rattle.std.specs.Ordering.{eq_by_cmp, nat_cmp, ordering_then}
use Rattle.std.specs.FinMap.{IsAntisymmetric}
use Rattle.std.proofs.lemmas.Cmp.{eq_by_cmp_equiv}
use Rattle.std.proofs.lemmas.Map.Lookups.{exact_pairs, exact_unsigned}
use Rattle.std.proofs.lemmas.Map.Views.{tells_apart}
use Rattle.common_laws.proofs.Booleans.{same_from_both}
use Rattle.old_manifest.specs.declared.row.OldRow.{OldRow}
use Rattle.old_manifest.specs.OldRows.{old_total}
use Rattle.old_manifest.specs.Rows.{old_cmp, old_rank_of}
use Rattle.old_manifest.proofs.OldKeys.{same_old}

old_exact : IsAntisymmetric old_cmp
old_exact a b e =
    let parts = exact_pairs (λ (x y : ℕ × ℕ). ordering_then (nat_cmp x.0 y.0) (nat_cmp x.1 y.1)) nat_cmp (exact_pairs nat_cmp nat_cmp exact_unsigned exact_unsigned) exact_unsigned
    ((a.square.lat, a.square.lon), old_rank_of a.level) ((b.square.lat, b.square.lon), old_rank_of b.level) e in
    same_old a b (ap (λ p. p.0.0) parts) (ap (λ p. p.0.1) parts) (ap (λ p. p.1) parts)

row_self : (a : OldRow) → eq_by_cmp old_cmp a a ≡ true
row_self a = (eq_by_cmp_equiv old_total).refl a

-- a test of rows is the order's
pub row_test : (a b : OldRow) (is : Bool) → (IsTrue is → a ≡ b) → (a ≡ b → IsTrue is) → is ≡ eq_by_cmp old_cmp a b
row_test a b is then back = same_from_both is (eq_by_cmp old_cmp a b)
    (λ e. subst (λ row. eq_by_cmp old_cmp row b ≡ true) (sym (then e)) (row_self b))
    (λ e. back (tells_apart old_exact a b e))
