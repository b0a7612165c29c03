-- Which files are refused, and where.
use Rattle.std.proofs.Common.{
  ◌≡◌,
  ℕ,
  ℤ,
  ◌+◌,
  ◌*◌,
  ◌/◌,
  ◌%◌,
  ◌<◌,
  Bool,
  pos,
  true,
  false,
  List,
  length,
  Option,
  Some,
  None,
  refl,
  sym,
  ap,
  ◌∙◌,
  subst,
  arith,
  inl,
  inr,
}
use Rattle.std.specs.Prelude.{not, ◌↔◌}
use Rattle.std.specs.Option.{option_or}
use Rattle.std.proofs.lemmas.Nat.{mul-add-lt}
use Rattle.std.proofs.lemmas.Bool.{true≢false}
use Rattle.std.proofs.lemmas.Option.{none-some}
use Rattle.std.proofs.Math.Nat.{div-add-mod, div-lt_iff_lt-mul, mod-lt}
use Rattle.common_laws.specs.First.{◌when◌, first_of}
use Rattle.common_laws.proofs.First.{neither, none_of_two, not_when, when_not, none_of_map, none_by_map, stands_at}
use Rattle.hgt_cells.specs.declared.refusal.HgtRefusal.{HgtRefusal}
use Rattle.hgt_cells.specs.declared.refusal.HgtRefusal.TheVariants.{BadLength, HeightOutOfRange}
use Rattle.hgt_cells.specs.Sample.{number_at, IsSample}
use Rattle.hgt_cells.specs.File.{has_lines, lines_in, sample_in, IsHgt}
use Rattle.hgt_cells.specs.Refusal.{
  is_bad,
  refused_at,
  number_condition,
  number_conditions,
  conditions_of,
  hgt_refusal_of,
  IsBefore,
}
use Rattle.hgt_cells.specs.Laws.{IsFirstBad}
use Rattle.hgt_cells.proofs.Files.{sample_good, good_passes, bad_is_none}

-- the sample of a line and a place is one of the file's numbers
sample_is : (bytes : List ℕ) (line place : ℕ)
    → sample_in bytes line place ≡ number_at bytes (2 * (lines_in bytes * line + place))
unfolding sample_in
sample_is bytes line place = refl

some_lines : (bytes : List ℕ) → 0 < lines_in bytes
some_lines bytes = omega arith

line_within : (bytes : List ℕ) (k : ℕ) → k < lines_in bytes * lines_in bytes → k / lines_in bytes < lines_in bytes
line_within bytes k below =
    let lines = lines_in bytes in
    let test : (k / lines < lines) ↔ (k < lines * lines) = div-lt_iff_lt-mul (some_lines bytes) in
    test.1 below

number_is : (bytes : List ℕ) (k : ℕ)
    → sample_in bytes (k / lines_in bytes) (k % lines_in bytes) ≡ number_at bytes (2 * k)
number_is bytes k =
    sample_is bytes (k / lines_in bytes) (k % lines_in bytes)
    ∙ ap (λ i. number_at bytes (2 * i)) (div-add-mod k (lines_in bytes))

-- ---- no refusal
not_false : (b : Bool) → not b ≡ false → b ≡ true
not_false true e = refl
not_false false e = cc

no_length : (bytes : List ℕ) → (BadLength (length bytes) when not (has_lines bytes)) ≡ None → has_lines bytes ≡ true
no_length bytes none =
    not_false (has_lines bytes) (not_when (BadLength (length bytes)) (not (has_lines bytes)) none)

all_good : (bytes : List ℕ) → first_of (number_conditions bytes) ≡ None → (line place : ℕ) → line < lines_in bytes
    → place < lines_in bytes → IsSample (sample_in bytes line place)
unfolding number_conditions
all_good bytes none line place l p =
    let lines = lines_in bytes in
    let k = lines * line + place in
    let inside = mul-add-lt line lines place lines l p in
    let passed = none_of_map (number_condition bytes) (lines * lines) k none (omega (arith, inside)) in
    subst IsSample (sym (sample_is bytes line place))
    (sample_good (number_at bytes (2 * k)) (not_when (refused_at bytes k) (is_bad bytes k) passed))

none_bad : (bytes : List ℕ)
    → ((line place : ℕ) → line < lines_in bytes → place < lines_in bytes → IsSample (sample_in bytes line place))
    → first_of (number_conditions bytes) ≡ None
unfolding number_conditions
none_bad bytes good =
    let lines = lines_in bytes in
    none_by_map (number_condition bytes) (lines * lines) (λ k inside.
    let line = line_within bytes k inside in
    let sample = subst IsSample (number_is bytes k) (good (k / lines) (k % lines) line (mod-lt k (some_lines bytes))) in
    when_not (refused_at bytes k) (is_bad bytes k) (good_passes (number_at bytes (2 * k)) sample))

pub accepted : (bytes : List ℕ) → hgt_refusal_of bytes ≡ None → IsHgt bytes
unfolding hgt_refusal_of conditions_of
accepted bytes none =
    let by_length = (BadLength (length bytes) when not (has_lines bytes)) in
    let both = neither by_length (first_of (number_conditions bytes)) none in
    record { size = no_length bytes both.0; samples = all_good bytes both.1 }

pub none_refused : (bytes : List ℕ) → IsHgt bytes → hgt_refusal_of bytes ≡ None
unfolding hgt_refusal_of conditions_of
none_refused bytes good =
    none_of_two (BadLength (length bytes) when not (has_lines bytes)) (first_of (number_conditions bytes))
    (when_not (BadLength (length bytes)) (not (has_lines bytes)) (rw good.size refl)) (none_bad bytes good.samples)

-- ---- the first refusal
abbrev line_of : Option HgtRefusal → ℕ
line_of None = 0
line_of (Some (BadLength have)) = 0
line_of (Some (HeightOutOfRange line place value)) = line

abbrev place_of : Option HgtRefusal → ℕ
place_of None = 0
place_of (Some (BadLength have)) = 0
place_of (Some (HeightOutOfRange line place value)) = place

abbrev value_of : Option HgtRefusal → ℤ
value_of None = pos 0
value_of (Some (BadLength have)) = pos 0
value_of (Some (HeightOutOfRange line place value)) = value

abbrev of_length : Option HgtRefusal → Bool
of_length None = false
of_length (Some (BadLength have)) = true
of_length (Some (HeightOutOfRange line place value)) = false

-- a number that is no sample, behind none
first_at : (bytes : List ℕ) (k : ℕ) → k < lines_in bytes * lines_in bytes → is_bad bytes k ≡ true
    → ((j : ℕ) → j < k → number_condition bytes j ≡ None)
    → IsFirstBad bytes (k / lines_in bytes) (k % lines_in bytes) (number_at bytes (2 * k))
first_at bytes k inside bad earlier =
    let lines = lines_in bytes in
    let whole = div-add-mod k lines in
    let good : (j : ℕ) → j < k → IsSample (number_at bytes (2 * j)) =
    λ j below.
    let passed = not_when (refused_at bytes j) (is_bad bytes j) (earlier j below) in
    sample_good (number_at bytes (2 * j)) passed in
    record {
      line_within = line_within bytes k inside;
      place_within = mod-lt k (some_lines bytes);
      sample = number_is bytes k;
      bad = bad_is_none (number_at bytes (2 * k)) bad;
      before = λ other there o t before. subst IsSample (sym (sample_is bytes other there))
          (good (lines * other + there) (earlier_index lines other there k whole o t before));
    }
  where
    earlier_index : (lines other there k : ℕ) → lines * (k / lines) + k % lines ≡ k → other < lines → there < lines
        → IsBefore other there (k / lines) (k % lines) → lines * other + there < k
    earlier_index lines other there k whole o t (inl north) = omega
        (arith, whole, mul-add-lt other lines there (k / lines) north t)
    earlier_index lines other there k whole o t (inr west) =
        let same : lines * other ≡ lines * (k / lines) = ap (λ line. lines * line) west.0 in
        omega (arith, whole, same, west.1)

-- what stands of one that may
stands_where : (refusal other : HgtRefusal) (holds : Bool) → (refusal when holds) ≡ Some other
    → (holds ≡ true) × (Some refusal ≡ Some other)
stands_where refusal other true e = (refl, e)
stands_where refusal other false e = absurd (none-some other e)

-- a sample is refused, and no length
by_numbers : (bytes : List ℕ) (line place : ℕ) (value : ℤ)
    → hgt_refusal_of bytes ≡ Some (HeightOutOfRange line place value)
    → first_of (number_conditions bytes) ≡ Some (HeightOutOfRange line place value)
unfolding hgt_refusal_of conditions_of
by_numbers bytes line place value refused = of_test (not (has_lines bytes)) (first_of (number_conditions bytes)) refused
  where
    of_test : (b : Bool) (first : Option HgtRefusal)
        → option_or (BadLength (length bytes) when b) first ≡ Some (HeightOutOfRange line place value)
        → first ≡ Some (HeightOutOfRange line place value)
    of_test true first e = absurd (true≢false (ap of_length e))
    of_test false first e = e

pub first_refused : (bytes : List ℕ) (line place : ℕ) (value : ℤ)
    → hgt_refusal_of bytes ≡ Some (HeightOutOfRange line place value) → IsFirstBad bytes line place value
unfolding number_conditions
first_refused bytes line place value refused =
    let lines = lines_in bytes in
    let refusal = HeightOutOfRange line place value in
    let at = stands_at (number_condition bytes) (lines * lines) refusal (by_numbers bytes line place value refused) in
    let k = at.number in
    let here = stands_where (refused_at bytes k) refusal (is_bad bytes k) at.stands in
    let found = first_at bytes k at.within here.0 at.before in
    let same_line : k / lines ≡ line = ap line_of here.1 in
    let same_place : k % lines ≡ place = ap place_of here.1 in
    let same_value : number_at bytes (2 * k) ≡ value = ap value_of here.1 in
    let at_line = subst (λ l. IsFirstBad bytes l (k % lines) (number_at bytes (2 * k))) same_line found in
    let at_place = subst (λ p. IsFirstBad bytes line p (number_at bytes (2 * k))) same_place at_line in
    subst (IsFirstBad bytes line place) same_value at_place
