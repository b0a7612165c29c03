-- How long the lead may be.
use Rattle.std.proofs.Common.{◌≡◌, ℕ, zero, suc, ◌+◌, ◌*◌, ◌<◌, ◌≤◌, Bool, true, ◌&&◌, nat_le, List, length, get_or, refl, sym, ◌∙◌, ap, arith}
use Rattle.std.proofs.lemmas.Bool.Decides.{nat_tests}
use Rattle.std.proofs.lemmas.List.FromFn.{get_or-range_with_len}
use Rattle.std.proofs.lemmas.List.Sums.{prefix_len_passes, prefix_len_stops, prefix_len-le-length}
use Rattle.std.specs.List.{prefix_len, range_with_len}
use Rattle.dted_cell.specs.Lead.{is_label, AreLabels, lead_of}

label_fits : (n m : ℕ) (b : Bool) → (nat_le n m && b) ≡ true → n ≤ m
label_fits n m b e = grind (arith, nat_tests)

labels_fit : (bytes : List ℕ) (n : ℕ) → prefix_len (is_label bytes) (range_with_len 0 4) ≡ n → 80 * n ≤ length bytes
labels_fit bytes zero e = omega arith
labels_fit bytes (suc m) e =
    let few : prefix_len (is_label bytes) (range_with_len 0 4) ≤ 4 = prefix_len-le-length (is_label bytes) (range_with_len 0 4) in
    let last = prefix_len_passes (is_label bytes) (range_with_len 0 4) m 0 (omega arith) in
    let at : get_or (range_with_len 0 4) m 0 ≡ m = get_or-range_with_len 0 4 m 0 (omega arith) ∙ omega arith in
    let passes : is_label bytes m ≡ true = sym (ap (is_label bytes) at) ∙ last in
    omega (arith, label_fits (80 * m + 80) (length bytes) _ passes)

pub lead_within : (bytes : List ℕ) → lead_of bytes ≤ length bytes
unfolding lead_of
lead_within bytes = labels_fit bytes _ refl

-- the blocks are all the labels at the start, at most four
pub labels_are : (bytes : List ℕ) → AreLabels bytes (prefix_len (is_label bytes) (range_with_len 0 4))
labels_are bytes =
    let blocks = range_with_len 0 4 in
    let few : prefix_len (is_label bytes) blocks ≤ 4 = prefix_len-le-length (is_label bytes) blocks in
    let at : (k : ℕ) → k < 4 → get_or blocks k 0 ≡ k = λ k h. get_or-range_with_len 0 4 k 0 h ∙ omega arith in
    record {
      most = few;
      each = λ k h. sym (ap (is_label bytes) (at k (omega arith))) ∙ prefix_len_passes (is_label bytes) blocks k 0 h;
      no_more = λ h. sym (ap (is_label bytes) (at _ h)) ∙ prefix_len_stops (is_label bytes) blocks 0 h;
    }

pub lead_is : (bytes : List ℕ) → lead_of bytes ≡ 80 * prefix_len (is_label bytes) (range_with_len 0 4)
unfolding lead_of
lead_is bytes = refl
