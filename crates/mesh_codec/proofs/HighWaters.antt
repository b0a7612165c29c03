-- The high water mark, step by step.
use Rattle.std.proofs.Common.{◌≡◌, ◌≢◌, ℕ, zero, suc, ◌+◌, ◌*◌, ◌<◌, ◌≤◌, ◌==◌, ◌-◌, Bool, true, false, cond, Some, None, List, [], ◌∷◌, ◌++◌, map, count_by, refl, sym, ap, ◌∙◌, arith}
use Rattle.std.proofs.lemmas.Bool.Decides.{nat_tests}
use Rattle.std.proofs.Math.Nat.{mul-le-mul_left}
use Rattle.std.specs.List.{range_with_len}
use Rattle.std.proofs.lemmas.List.Sums.{sum_by_push}
use Rattle.common_laws.specs.First.{first_of}
use Rattle.common_laws.proofs.First.{map_next, map_found}
use Rattle.mesh_codec.specs.declared.refusal.TileRefusal.TheVariants.{IndexOutOfRange}
use Rattle.mesh_codec.specs.Text.{index_width}
use Rattle.mesh_codec.specs.HighWater.{entry_at, mark_at, is_no_vertex}
use Rattle.mesh_codec.specs.Refusal.{index_condition}

range_more : (a n : ℕ) → range_with_len a (suc n) ≡ range_with_len a n ++ (a + n) ∷ []
range_more a zero = let same : a + 0 ≡ a = omega arith in rw same refl
range_more a (suc n) = let same : a + 1 + n ≡ a + suc n = omega arith in rw (range_more (a + 1) n, same) refl

count_push : (p : ℕ → Bool) (xs : List ℕ) (x : ℕ) → count_by p (xs ++ x ∷ []) ≡ count_by p xs + cond (p x) 1 0
count_push p xs x = sum_by_push (λ y. cond (p y) 1 0) xs x

-- one more where the code is 0
pub mark_next : (width : ℕ) (bytes : List ℕ) (at k : ℕ) → mark_at width bytes at (k + 1) ≡ cond (entry_at width bytes at k == 0) (mark_at width bytes at k + 1) (mark_at width bytes at k)
unfolding mark_at
mark_next width bytes at k =
    let p = λ (place : ℕ). entry_at width bytes at place == 0 in
    let one : k + 1 ≡ suc k = omega arith in
    ap (λ n. count_by p (range_with_len 0 n)) one ∙ ap (count_by p) (range_more 0 k ∙ zeroth) ∙ count_push p (range_with_len 0 k) k ∙ chosen (p k) (count_by p (range_with_len 0 k))
  where
    zeroth : range_with_len 0 k ++ (0 + k) ∷ [] ≡ range_with_len 0 k ++ k ∷ []
    zeroth = let same : 0 + k ≡ k = omega arith in rw same refl

    chosen : (b : Bool) (n : ℕ) → n + cond b 1 0 ≡ cond b (n + 1) n
    chosen true n = refl
    chosen false n = omega arith

-- an entry lies within its list
pub entry_within : (width at k count size : ℕ) → at + width * count ≤ size → k < count → at + width * k + width ≤ size
entry_within width at k count size fits h =
    let more : k + 1 ≤ count = omega arith in
    omega (arith, mul-le-mul_left width more)

pub mark_none : (width : ℕ) (bytes : List ℕ) (at : ℕ) → mark_at width bytes at 0 ≡ 0
unfolding mark_at
mark_none width bytes at = refl

module _ (bytes : List ℕ) (vertices at k count mark code : ℕ) (h : k < count) (is : mark_at (index_width vertices) bytes at k ≡ mark) (read : code ≡ entry_at (index_width vertices) bytes at k) where
  same_test : is_no_vertex vertices (mark_at (index_width vertices) bytes at k) (entry_at (index_width vertices) bytes at k) ≡ is_no_vertex vertices mark code
  same_test = rw (is, ← read) refl

  chosen_none : (b : Bool) (n : ℕ) → None ≡ cond b None (Some n) → b ≡ true
  chosen_none true n e = refl
  chosen_none false n e = cc

  chosen_some : (b : Bool) (m n : ℕ) → Some m ≡ cond b None (Some n) → (b ≡ false) × (m ≡ n)
  chosen_some true m n e = cc
  chosen_some false m n e = (refl, cc)

  pub indexes_found : None ≡ cond (is_no_vertex vertices mark code) None (Some (cond (code == 0) (mark + 1) mark))
      → first_of (map (index_condition bytes vertices at) (range_with_len k (count - k))) ≡ Some (IndexOutOfRange k)
  indexes_found e = map_found (index_condition bytes vertices at) k count (IndexOutOfRange k) h
      (ap (λ b. cond b (Some (IndexOutOfRange k)) None) (same_test ∙ chosen_none (is_no_vertex vertices mark code) (cond (code == 0) (mark + 1) mark) e))

  pub indexes_next : (next : ℕ) → Some next ≡ cond (is_no_vertex vertices mark code) None (Some (cond (code == 0) (mark + 1) mark))
      → first_of (map (index_condition bytes vertices at) (range_with_len (k + 1) (count - (k + 1)))) ≡ first_of (map (index_condition bytes vertices at) (range_with_len k (count - k)))
  indexes_next next e = map_next (index_condition bytes vertices at) k count h
      (ap (λ b. cond b (Some (IndexOutOfRange k)) None) (same_test ∙ (chosen_some (is_no_vertex vertices mark code) next (cond (code == 0) (mark + 1) mark) e).0))

  pub mark_is : (next : ℕ) → Some next ≡ cond (is_no_vertex vertices mark code) None (Some (cond (code == 0) (mark + 1) mark)) → mark_at (index_width vertices) bytes at (k + 1) ≡ next
  mark_is next e = mark_next (index_width vertices) bytes at k ∙ rw (is, ← read) (sym (chosen_some (is_no_vertex vertices mark code) next (cond (code == 0) (mark + 1) mark) e).1)

pub then_is : (code m n : ℕ) → code ≡ 0 → m ≡ cond (code == 0) m n
then_is code m n e = grind (arith, nat_tests)

pub else_is : (code m n : ℕ) → code ≢ 0 → n ≡ cond (code == 0) m n
else_is code m n e = grind (arith, nat_tests)
