-- Running values.
use Rattle.std.proofs.Common.{◌≡◌, ℕ, ℤ, pos, negsuc, ◌+◌, ◌-◌, ◌*◌, ◌<◌, ◌+ℤ◌, List, map, fold, Some, None, refl, sym, ap, ◌∙◌, arith}
use Rattle.std.specs.List.{range_with_len}
use Rattle.std.proofs.lemmas.List.FromFn.{map-range_with_len_more}
use Rattle.std.proofs.lemmas.List.Sums.{fold_push}
use Rattle.std.proofs.lemmas.Bool.Decides.{nat_tests}
use Rattle.common_laws.specs.First.{first_of}
use Rattle.common_laws.proofs.First.{map_next, map_found}
use Rattle.mesh_codec.specs.declared.refusal.Array.{Array}
use Rattle.mesh_codec.specs.declared.refusal.TileRefusal.TheVariants.{CoordinateOutOfRange}
use Rattle.mesh_codec.specs.Number.{number_at}
use Rattle.mesh_codec.specs.Refusal.{code_condition}
use Rattle.mesh_codec.specs.Difference.{difference, difference_at, sum_before, running_value, to_code}

-- one difference more
pub sum_next : (bytes : List ℕ) (at k : ℕ) → sum_before bytes at (k + 1) ≡ running_value bytes at k
unfolding sum_before running_value
sum_next bytes at k =
    ap (fold (λ sum difference. sum +ℤ difference) (pos 0)) (map-range_with_len_more (difference_at bytes at) 0 k k (omega arith))
    ∙ fold_push (λ sum difference. sum +ℤ difference) (pos 0) (map (difference_at bytes at) (range_with_len 0 k)) (difference_at bytes at k)

pub code_is : (z : ℤ) (n : ℕ) → to_code z ≡ Some n → z ≡ pos n
code_is (pos m) n e = grind (arith, nat_tests)
code_is (negsuc m) n e = cc

pub running_is : (bytes : List ℕ) (at k code : ℕ) → sum_before bytes at k ≡ pos code → running_value bytes at k ≡ pos code +ℤ difference_at bytes at k
unfolding running_value
running_is bytes at k code e = ap (λ z. z +ℤ difference_at bytes at k) e

pub sum_none : (bytes : List ℕ) (at : ℕ) → sum_before bytes at 0 ≡ pos 0
unfolding sum_before
sum_none bytes at = refl

module _ (bytes : List ℕ) (array : Array) (at k count code word : ℕ) (h : k < count) (sum : sum_before bytes at k ≡ pos code) (read : word ≡ number_at 2 bytes (at + 2 * k)) where
  value_is : running_value bytes at k ≡ pos code +ℤ difference word
  value_is = running_is bytes at k code sum ∙ ap (λ w. pos code +ℤ difference w) (sym read)

  pub codes_found : to_code (pos code +ℤ difference word) ≡ None → first_of (map (code_condition bytes array at) (range_with_len k (count - k))) ≡ Some (CoordinateOutOfRange array k)
  codes_found none = map_found (code_condition bytes array at) k count (CoordinateOutOfRange array k) h (rw (value_is, none) refl)

  pub codes_next : (next : ℕ) → to_code (pos code +ℤ difference word) ≡ Some next → first_of (map (code_condition bytes array at) (range_with_len (k + 1) (count - (k + 1)))) ≡ first_of (map (code_condition bytes array at) (range_with_len k (count - k)))
  codes_next next some = map_next (code_condition bytes array at) k count h (rw (value_is, some) refl)

  pub sum_is : (next : ℕ) → to_code (pos code +ℤ difference word) ≡ Some next → sum_before bytes at (k + 1) ≡ pos next
  sum_is next some = sum_next bytes at k ∙ value_is ∙ code_is (pos code +ℤ difference word) next some
