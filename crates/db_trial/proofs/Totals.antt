-- The sum of the lengths of the files that a map holds, name by name.
use Rattle.std.proofs.Common.{◌≡◌, ℕ, ◌+◌, ◌<◌, List, [], ◌∷◌, ◌++◌, length, map, take, get_or, Option, Some, None, refl, sym, ap, subst, ◌∙◌, arith, T}
use Rattle.std.specs.List.{sum_by}
use Rattle.std.specs.FinMap.{get, keys, entries, entries_sorted, get-entries, find, is_sorted}
use Rattle.std.proofs.lemmas.List.Sums.{sum_by-cons, sum_by_more, sum-map}
use Rattle.terrain_base.specs.declared.name.Key.{Key}
use Rattle.terrain_base.specs.Name.{by_text}
use Rattle.terrain_base.specs.Step.{Files}
use Rattle.database.proofs.Given.{by_text_total}
use Rattle.db_trial.specs.Trial.{bytes_in, length_of}
use Rattle.db_trial.proofs.Additions.{find_in, moved, take_whole}

abbrev pub lengths : Files → List Key → ℕ
lengths files names = sum_by (λ name. length_of (get files name)) names

lengths_are : (files : Files) (front es : List (Key × List ℕ)) → entries files ≡ front ++ es
    → lengths files (map (λ e. e.0) es) ≡ sum_by (λ (e : Key × List ℕ). length e.1) es
lengths_are files front [] is = refl
lengths_are files front (e ∷ es) is =
    let sorted = subst (λ list. T (is_sorted by_text list)) is (entries_sorted files) in
    let at : get files e.0 ≡ Some e.1 =
    get-entries files e.0 ∙ ap (find by_text e.0) is ∙ find_in by_text_total front es e sorted in
    let rest = lengths_are files (front ++ e ∷ []) es (is ∙ sym (moved front e es)) in
    sum_by-cons (λ name. length_of (get files name)) e.0 (map (λ (e : Key × List ℕ). e.0) es)
    ∙ (λ i. length_of (at i) + rest i)
    ∙ sym (sum_by-cons (λ (e : Key × List ℕ). length e.1) e es)

-- all names together have the sum of the lengths of all files
pub all_lengths : (files : Files) (names : List Key) → names ≡ keys files → lengths files names ≡ bytes_in files
all_lengths files names is =
    ap (lengths files) is ∙ lengths_are files [] (entries files) refl
    ∙ sym (sum-map (λ (e : Key × List ℕ). length e.1) (entries files))

pub to_the_end : (files : Files) (names : List Key) (i total : ℕ) → total ≡ lengths files (take i names) → i ≡ length names → names ≡ keys files
    → total ≡ bytes_in files
to_the_end files names i total so_far end is =
    so_far ∙ ap (lengths files) (ap (λ n. take n names) end ∙ take_whole names) ∙ all_lengths files names is

pub one_more : (files : Files) (names : List Key) (i : ℕ) (name : Key) → i < length names → name ≡ get_or names i name
    → lengths files (take (i + 1) names) ≡ lengths files (take i names) + length_of (get files name)
one_more files names i name less is =
    sum_by_more (λ name. length_of (get files name)) names i name less
    ∙ ap (λ n. lengths files (take i names) + length_of (get files n)) (sym is)

-- a file that is found, or none
pub none_found : (total : ℕ) (found : Option (List ℕ)) → None ≡ found → total ≡ total + length_of found
none_found total found is = subst (λ o. total ≡ total + length_of o) is (omega arith)

pub some_found : (total sum : ℕ) (bytes : List ℕ) (found : Option (List ℕ)) → Some bytes ≡ found → sum ≡ total + length bytes → sum ≡ total + length_of found
some_found total sum bytes found is more = more ∙ ap (λ o. total + length_of o) is
