-- The texts of refusals, from their numbers on.
use Rattle.std.specs.Prelude.{ℕ, ℤ, List, ◌++◌, codes, decimal}
use Rattle.std.specs.Fmt.{signed_decimal}
use Rattle.hgt_cells.specs.declared.refusal.HgtRefusal.{HgtRefusal}
use Rattle.hgt_cells.specs.declared.refusal.HgtRefusal.TheVariants.{BadLength, HeightOutOfRange}

abbrev pub sample_text_of : ℕ → ℕ → ℤ → List ℕ
sample_text_of line place value =
    codes "H2 height line " ++ (decimal line ++
    (codes " place " ++ (decimal place ++ (codes " value " ++ signed_decimal value))))

-- `H1 bad length N` and `H2 height line N place N value N`
abbrev pub hgt_refusal_text_of : HgtRefusal → List ℕ
hgt_refusal_text_of (BadLength have) = codes "H1 bad length " ++ decimal have
hgt_refusal_text_of (HeightOutOfRange line place value) = sample_text_of line place value
