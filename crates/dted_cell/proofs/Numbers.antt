-- A number field, by its parts.
use Rattle.std.proofs.Common.{◌≡◌, ℕ, zero, suc, ◌<◌, Bool, true, false, not, cond, ◌==◌, nat_lt, List, [], ◌∷◌, ◌++◌, length, replicate, Option, Some, None, is_some, unwrap_or, refl, sym, ap, ◌∙◌, arith}
use Rattle.std.proofs.Math.Numerals.{one-add}
use Rattle.std.proofs.lemmas.Bool.{and_parts, and_from, eqb-true, ltb-true, lt-ltb}
use Rattle.std.proofs.lemmas.Bool.Decides.{nat_tests}
use Rattle.std.proofs.lemmas.List.Sums.{AllPass-from_list_all, list_all-from_AllPass}
use Rattle.std.specs.List.{list_all, prefix_len}
use Rattle.std.specs.Char.{is_ascii_digit}
use Rattle.dted_cell.specs.Field.{is_blank, after_blanks, are_digits, decimal_value, number_of, IsNumberField}

-- a field is its leading blanks and what follows them
one_more : (b : ℕ) (bs : List ℕ) (blank : Bool) → (b == 32) ≡ blank → bs ≡ replicate (prefix_len is_blank bs) 32 ++ after_blanks bs → b ∷ bs ≡ replicate (prefix_len is_blank (b ∷ bs)) 32 ++ after_blanks (b ∷ bs)
one_more b bs true e rest =
    let is : b ≡ 32 = eqb-true b 32 e in
    rw (e, one-add) (ap (λ c. c ∷ bs) is ∙ ap (λ l. 32 ∷ l) rest)
one_more b bs false e rest = rw e refl

blanks_and_rest : (field : List ℕ) → field ≡ replicate (prefix_len is_blank field) 32 ++ after_blanks field
blanks_and_rest [] = refl
blanks_and_rest (b ∷ bs) = one_more b bs (b == 32) refl (blanks_and_rest bs)

-- digits behind blanks
digit_no_blank : (d : ℕ) → is_ascii_digit d ≡ true → (d == 32) ≡ false
digit_no_blank d e = grind (arith, nat_tests)

no_blank : (digits : List ℕ) → 0 < length digits → list_all is_ascii_digit digits ≡ true → prefix_len is_blank digits ≡ 0
no_blank [] h e = absurd (omega arith)
no_blank (d ∷ ds) h e = let other : (d == 32) ≡ false = digit_no_blank d (and_parts (is_ascii_digit d) (list_all is_ascii_digit ds) e).0 in rw other refl

behind_blanks : (blanks : ℕ) (digits : List ℕ) → prefix_len is_blank digits ≡ 0 → after_blanks (replicate blanks 32 ++ digits) ≡ digits
behind_blanks zero digits e = rw e refl
behind_blanks (suc n) digits e = rw one-add (behind_blanks n digits e)

some_if : (b : Bool) (x n : ℕ) → cond b (Some x) None ≡ Some n → (b ≡ true) × (n ≡ x)
some_if true x n e = (refl, cc)
some_if false x n e = cc

pub number_parts : (field : List ℕ) (n : ℕ) → number_of field ≡ Some n → IsNumberField field n
unfolding number_of
number_parts field n e =
    let found = some_if (are_digits (after_blanks field)) (decimal_value (after_blanks field)) n e in
    let digits = and_parts (nat_lt 0 (length (after_blanks field))) (list_all is_ascii_digit (after_blanks field)) found.0 in
    (prefix_len is_blank field, after_blanks field, blanks_and_rest field, ltb-true 0 _ digits.0, AllPass-from_list_all is_ascii_digit (after_blanks field) digits.1, found.1)

pub number_whole : (field : List ℕ) (n : ℕ) → IsNumberField field n → number_of field ≡ Some n
unfolding number_of
number_whole field n (blanks, digits, parts, some, all, is) =
    let digits_all = list_all-from_AllPass is_ascii_digit digits all in
    let behind : after_blanks field ≡ digits = ap after_blanks parts ∙ behind_blanks blanks digits (no_blank digits some digits_all) in
    rw (behind, and_from _ _ (lt-ltb 0 (length digits) some) digits_all) (ap Some (sym is))

-- a field that has a number
pub number_is : (o : Option ℕ) → not (is_some o) ≡ false → o ≡ Some (unwrap_or o 0)
number_is None e = cc
number_is (Some n) e = refl
