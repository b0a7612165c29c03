-- Records without a refusal are good, and the other way round.
use Rattle.std.proofs.Common.{◌≡◌, ℕ, ◌%◌, ◌≤◌, ◌⊎◌, false, not, ◌&&◌, ◌==◌, nat_lt, List, None, refl, arith}
use Rattle.std.proofs.lemmas.Bool.Decides.{nat_tests}
use Rattle.common_laws.specs.First.{first_of}
use Rattle.common_laws.proofs.First.{neither, not_when, none_of_map, none_by_map}
use Rattle.dted_cell.specs.Field.{word_at}
use Rattle.dted_cell.specs.Record.{elevation_at, IsRecord}
use Rattle.dted_cell.specs.Refusal.{height_condition, record_conditions}

pub same_by : (a b : ℕ) → not (a == b) ≡ false → a ≡ b
same_by a b e = grind (arith, nat_tests)

pub by_same : (a b : ℕ) → a ≡ b → not (a == b) ≡ false
by_same a b e = grind (arith, nat_tests)

elevation_by : (w : ℕ) → (not (w == 65535) && nat_lt 16000 (w % 32768)) ≡ false → (w ≡ 65535) ⊎ (w % 32768 ≤ 16000)
elevation_by w e = grind (arith, nat_tests)

by_elevation : (w : ℕ) → (w ≡ 65535) ⊎ (w % 32768 ≤ 16000) → (not (w == 65535) && nat_lt 16000 (w % 32768)) ≡ false
by_elevation w e = grind (arith, nat_tests)

pub record_by : (text : List ℕ) (rows col : ℕ) → first_of (record_conditions text rows col) ≡ None → IsRecord text rows col
record_by text rows col e =
    let sentinel = neither _ _ e in
    let column = neither _ _ sentinel.1 in
    let checksum = neither _ _ column.1 in
    record {
      sentinel = same_by _ 170 (not_when _ _ sentinel.0);
      column = same_by _ col (not_when _ _ column.0);
      checksum = same_by _ _ (not_when _ _ checksum.0);
      heights = λ row h. elevation_by (word_at text (elevation_at rows col row)) (not_when _ _ (none_of_map (height_condition text rows col) rows row checksum.1 h));
    }

pub by_record : (text : List ℕ) (rows col : ℕ) → IsRecord text rows col → first_of (record_conditions text rows col) ≡ None
by_record text rows col good =
    rw (by_same _ 170 good.sentinel, by_same _ col good.column, by_same _ _ good.checksum)
    (none_by_map (height_condition text rows col) rows (λ row u. rw (by_elevation (word_at text (elevation_at rows col row)) (good.heights row u)) refl))
