-- The first refusal that stands, in lists that are put together or made by index.
use Rattle.std.proofs.Common.{◌≡◌, ℕ, zero, suc, ◌+◌, ◌-◌, ◌<◌, ◌≤◌, Bool, true, false, List, [], ◌∷◌, ◌++◌, map, All, IsNone, Option, Some, None, is_some, refl, sym, ap, ◌∙◌, inl, inr, arith}
use Rattle.std.specs.List.{flat_map, range_with_len}
use Rattle.std.specs.Option.{option_or}
use Rattle.std.proofs.lemmas.Bool.{cases_eq, cases_order}
use Rattle.std.proofs.lemmas.List.Elements.{All-cons}
use Rattle.common_laws.specs.First.{◌when◌, first_of, IsFirst, IsLeastFailing}
use Rattle.common_laws.proofs.Lists.{range_next}

-- at most one number is the least that fails
pub least_failing_once : {holds : ℕ → Type 0} (a b : ℕ) → IsLeastFailing holds a → IsLeastFailing holds b → a ≡ b
least_failing_once a b p q =
    elim (cases_order a b) [
      | inl same ↦ same
      | inr s ↦ elim s [
        | inl less ↦ absurd (p.here (q.before a less))
        | inr more ↦ absurd (q.here (p.before b more))
      ]
    ]

module _ {R : Type 0} where
  or_assoc : (a b c : Option R) → option_or a (option_or b c) ≡ option_or (option_or a b) c
  or_assoc None b c = refl
  or_assoc (Some e) b c = refl

  -- of two lists it is the first's, or else the second's
  pub first_of_append : (xs ys : List (Option R)) → first_of (xs ++ ys) ≡ option_or (first_of xs) (first_of ys)
  first_of_append [] ys = refl
  first_of_append (x ∷ xs) ys = rw (first_of_append xs ys) (or_assoc x (first_of xs) (first_of ys))

  -- ---- where none stands
  pub neither : (a b : Option R) → option_or a b ≡ None → (a ≡ None) × (b ≡ None)
  neither None b e = (refl, e)
  neither (Some x) b e = cc

  pub none_of_two : (a b : Option R) → a ≡ None → b ≡ None → option_or a b ≡ None
  none_of_two a b p q = rw (p, q) refl

  -- a condition that does not hold
  pub not_when : (refusal : R) (holds : Bool) → (refusal when holds) ≡ None → holds ≡ false
  not_when refusal true e = cc
  not_when refusal false e = refl

  pub when_not : (refusal : R) (holds : Bool) → holds ≡ false → (refusal when holds) ≡ None
  when_not refusal holds e = rw e refl

  -- ---- the first that stands is the first of the list
  pub first_found : (cs : List (Option R)) (e : R) → first_of cs ≡ Some e → IsFirst cs e
  first_found [] e h = cc
  first_found (None ∷ cs) e h =
      let later = first_found cs e h in
      (None ∷ later.0, later.1, ap (λ l. None ∷ l) later.2, none_before None later.0 refl later.3)
    where
      none_before : (c : Option R) (cs : List (Option R)) → is_some c ≡ false → All IsNone cs → All IsNone (c ∷ cs)
      none_before c cs e all = All-cons IsNone c cs e all
  first_found (Some x ∷ cs) e h = ([], cs, ap (λ c. c ∷ cs) h, λ k d l. absurd (omega arith))

  none_is : (c : Option R) → is_some c ≡ false → c ≡ None
  none_is None e = refl
  none_is (Some x) e = cc

  past : (before rest : List (Option R)) → All IsNone before → first_of (before ++ rest) ≡ first_of rest
  past [] rest all = refl
  past (c ∷ cs) rest all =
      let head = none_is c (all 0 None (omega arith)) in
      rw head (past cs rest (λ k d l. all (suc k) d (omega arith)))

  pub first_only : (cs : List (Option R)) (e : R) → IsFirst cs e → first_of cs ≡ Some e
  first_only cs e (before, after, parts, all) = ap first_of parts ∙ past before (Some e ∷ after) all

  -- ---- one refusal for each of the first n numbers; a loop over them goes from k on
  module _ (f : ℕ → Option R) where
    pub map_next : (k n : ℕ) → k < n → f k ≡ None
        → first_of (map f (range_with_len (k + 1) (n - (k + 1)))) ≡ first_of (map f (range_with_len k (n - k)))
    map_next k n h e = rw (range_next k n h, e) refl

    pub map_found : (k n : ℕ) (x : R) → k < n → f k ≡ Some x → first_of (map f (range_with_len k (n - k))) ≡ Some x
    map_found k n x h e = rw (range_next k n h, e) refl

    none_from : (k n i : ℕ) → first_of (map f (range_with_len k n)) ≡ None → k ≤ i → i < k + n → f i ≡ None
    none_from k zero i e l h = absurd (omega arith)
    none_from k (suc n) i e l h =
        let both = neither (f k) (first_of (map f (range_with_len (k + 1) n))) e in
        elim (cases_eq i k) [
          | inl same ↦ ap f same ∙ both.0
          | inr apart ↦ none_from (k + 1) n i both.1 (omega arith) (omega arith)
        ]

    from_none : (k n : ℕ) → ((i : ℕ) → k ≤ i → i < k + n → f i ≡ None) → first_of (map f (range_with_len k n)) ≡ None
    from_none k zero h = refl
    from_none k (suc n) h =
        rw (h k (omega arith) (omega arith)) (from_none (k + 1) n (λ i l u. h i (omega arith) (omega arith)))

    pub none_of_map : (n i : ℕ) → first_of (map f (range_with_len 0 n)) ≡ None → i < n → f i ≡ None
    none_of_map n i e h = none_from 0 n i e (omega arith) (omega arith)

    pub none_by_map : (n : ℕ) → ((i : ℕ) → i < n → f i ≡ None) → first_of (map f (range_with_len 0 n)) ≡ None
    none_by_map n h = from_none 0 n (λ i l u. h i (omega arith))

    -- the refusal stands at one of so many numbers, and none stands at those before
    record StandsFrom (from count : ℕ) (refusal : R) : Type 0 where
      number : ℕ
      above : from ≤ number
      below : number < from + count
      stands : f number ≡ Some refusal
      before : (k : ℕ) → from ≤ k → k < number → f k ≡ None

    stands_from : (from count : ℕ) (refusal : R) → first_of (map f (range_with_len from count)) ≡ Some refusal
        → StandsFrom from count refusal
    stands_from from zero refusal e = cc
    stands_from from (suc count) refusal e = at_first (f from) refl e (λ rest. stands_from (from + 1) count refusal rest)
      where
        later : f from ≡ None → StandsFrom (from + 1) count refusal → StandsFrom from (suc count) refusal
        later none more = record {
          number = more.number;
          above = omega (arith, more.above);
          below = omega (arith, more.below);
          stands = more.stands;
          before = λ k l u. elim (cases_eq k from) [
            | inl same ↦ ap f same ∙ none
            | inr apart ↦ more.before k (omega arith) u
          ];
        }

        at_first : (o : Option R) → f from ≡ o
            → option_or o (first_of (map f (range_with_len (from + 1) count))) ≡ Some refusal
            → (first_of (map f (range_with_len (from + 1) count)) ≡ Some refusal → StandsFrom (from + 1) count refusal)
            → StandsFrom from (suc count) refusal
        at_first None here e rest = later here (rest e)
        at_first (Some x) here e rest = record {
          number = from;
          above = omega arith;
          below = omega arith;
          stands = here ∙ e;
          before = λ k l u. absurd (omega arith);
        }

    -- the first of them stands at the least number at which one stands
    pub record StandsAt (count : ℕ) (refusal : R) : Type 0 where
      pub number : ℕ
      pub within : number < count
      pub stands : f number ≡ Some refusal
      pub before : (k : ℕ) → k < number → f k ≡ None

    pub stands_at : (count : ℕ) (refusal : R) → first_of (map f (range_with_len 0 count)) ≡ Some refusal
        → StandsAt count refusal
    stands_at count refusal e =
        let from = stands_from 0 count refusal e in
        record {
          number = from.number;
          within = omega (arith, from.below);
          stands = from.stands;
          before = λ k u. from.before k (omega arith) u;
        }

  -- ---- a list of refusals for each of the first n numbers
  module _ (f : ℕ → List (Option R)) where
    pub flat_next : (k n : ℕ) → k < n → first_of (f k) ≡ None
        → first_of (flat_map f (range_with_len (k + 1) (n - (k + 1)))) ≡ first_of (flat_map f (range_with_len k (n - k)))
    flat_next k n h e = rw (range_next k n h)
        (sym (first_of_append (f k) (flat_map f (range_with_len (k + 1) (n - (k + 1)))) ∙ rw e refl))

    pub flat_found : (k n : ℕ) (x : R) → k < n → first_of (f k) ≡ Some x
        → first_of (flat_map f (range_with_len k (n - k))) ≡ Some x
    flat_found k n x h e = rw (range_next k n h)
        (first_of_append (f k) (flat_map f (range_with_len (k + 1) (n - (k + 1)))) ∙ rw e refl)

    flat_none_from : (k n i : ℕ) → first_of (flat_map f (range_with_len k n)) ≡ None → k ≤ i → i < k + n
        → first_of (f i) ≡ None
    flat_none_from k zero i e l h = absurd (omega arith)
    flat_none_from k (suc n) i e l h =
        let parts = first_of_append (f k) (flat_map f (range_with_len (k + 1) n)) in
        let both = neither (first_of (f k)) (first_of (flat_map f (range_with_len (k + 1) n))) (sym parts ∙ e) in
        elim (cases_eq i k) [
          | inl same ↦ ap (λ j. first_of (f j)) same ∙ both.0
          | inr apart ↦ flat_none_from (k + 1) n i both.1 (omega arith) (omega arith)
        ]

    flat_from_none : (k n : ℕ) → ((i : ℕ) → k ≤ i → i < k + n → first_of (f i) ≡ None)
        → first_of (flat_map f (range_with_len k n)) ≡ None
    flat_from_none k zero h = refl
    flat_from_none k (suc n) h =
        first_of_append (f k) (flat_map f (range_with_len (k + 1) n))
        ∙ rw (h k (omega arith) (omega arith)) (flat_from_none (k + 1) n (λ i l u. h i (omega arith) (omega arith)))

    pub none_of_flat : (n i : ℕ) → first_of (flat_map f (range_with_len 0 n)) ≡ None → i < n → first_of (f i) ≡ None
    none_of_flat n i e h = flat_none_from 0 n i e (omega arith) (omega arith)

    pub none_by_flat : (n : ℕ) → ((i : ℕ) → i < n → first_of (f i) ≡ None)
        → first_of (flat_map f (range_with_len 0 n)) ≡ None
    none_by_flat n h = flat_from_none 0 n (λ i l u. h i (omega arith))
