-- A data record: 8 bytes, the elevations, and the checksum of both.
use Rattle.std.proofs.Common.{◌≡◌, ℕ, ◌+◌, ◌-◌, List, take, drop, slice_range, sum, sym, ap, ap₂, ◌∙◌, arith, take-add, drop-drop}
use Rattle.std.proofs.lemmas.List.Sums.{sum_by-append}

-- the sum of the 8 bytes and of those behind them
pub sums_meet : (text : List ℕ) (start m : ℕ) → sum (slice_range text start (start + 8)) + sum (slice_range text (start + 8) (start + 8 + m)) ≡ sum (slice_range text start (start + 8 + m))
sums_meet text start m =
    let rest = drop start text in
    let whole_size : start + 8 + m - start ≡ 8 + m = omega arith in
    let front_size : start + 8 - start ≡ 8 = omega arith in
    let back_size : start + 8 + m - (start + 8) ≡ m = omega arith in
    let whole : slice_range text start (start + 8 + m) ≡ take (8 + m) rest = ap (λ k. take k rest) whole_size in
    let front : slice_range text start (start + 8) ≡ take 8 rest = ap (λ k. take k rest) front_size in
    let back : slice_range text (start + 8) (start + 8 + m) ≡ take m (drop 8 rest) =
    ap (λ k. take k (drop (start + 8) text)) back_size ∙ ap (take m) (sym (drop-drop 8 start text)) in
    ap₂ (λ a b. sum a + sum b) front back ∙ sym (sum_by-append (λ x. x) (take 8 rest) (take m (drop 8 rest))) ∙ sym (ap sum (whole ∙ take-add 8 m rest))
