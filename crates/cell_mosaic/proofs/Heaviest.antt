-- The heaviest post, found from the front.
use Rattle.std.proofs.Common.{◌≡◌, ◌≢◌, ◌⊎◌, ℕ, zero, suc, ◌+◌, ◌<◌, ◌≤◌, ◌==◌, max, nat_lt, Bool, true, false, not, ◌&&◌, cond, List, [], ◌∷◌, map, length, drop, get_or, Some, None, inl, inr, refl, sym, ap, ◌∙◌, subst, arith}
use Rattle.std.specs.List.{filter, find, fold}
use Rattle.std.proofs.lemmas.Bool.{lt-ltb, le-ltb, eqb-true, eq-eqb, cases_lt}
use Rattle.std.proofs.lemmas.List.{at_drop_more}
use Rattle.terrain_base.specs.declared.post.Post.{Post}
use Rattle.terrain_base.specs.declared.post.Post.TheVariants.{Void, Metres}
use Rattle.cell_mosaic.specs.declared.weighted.Weighted.{Weighted}
use Rattle.dted_cell.specs.Elevation.{IsPost}
use Rattle.cell_mosaic.specs.Blend.{has_no_height, counted, known, greatest_weight, post_of_first, heaviest}

-- what counts and is not void
abbrev pub kept : List Weighted → List Weighted
kept posts = known (counted posts)

abbrev pub nothing : Weighted
nothing = record { post = Void; weight = 0 }

-- the better of the best so far and the next
abbrev pub better : Weighted → Weighted → Weighted
better best one = cond (not (has_no_height one) && nat_lt best.weight one.weight) one best

abbrev pub pick : Weighted → List Weighted → Weighted
pick best [] = best
pick best (one ∷ posts) = pick (better best one) posts

most : List Weighted → ℕ
most posts = greatest_weight (kept posts)

-- ---- the greatest

fold_max : (a : ℕ) (ws : List ℕ) → fold max a ws ≡ max a (fold max 0 ws)
fold_max a [] = omega arith
fold_max a (w ∷ ws) =
    let here = fold_max (max a w) ws in
    let there = fold_max (max 0 w) ws in
    here ∙ omega (arith, there)

pub greatest_next : (one : Weighted) (posts : List Weighted) → greatest_weight (one ∷ posts) ≡ max one.weight (greatest_weight posts)
greatest_next one posts = fold_max (max 0 one.weight) (map (λ (o : Weighted). o.weight) posts) ∙ omega arith

-- ---- which one is picked

record IsPick (best : Weighted) (posts : List Weighted) (picked : Weighted) : Type 0 where
  stays : most posts ≤ best.weight → picked ≡ best
  goes : best.weight < most posts → find (λ (o : Weighted). o.weight == most posts) (kept posts) ≡ Some picked

-- one that does not count, or is void, changes nothing
record IsDropped (best one : Weighted) (posts : List Weighted) : Type 0 where
  same : kept (one ∷ posts) ≡ kept posts
  best_is : better best one ≡ best

record IsKept (one : Weighted) (posts : List Weighted) : Type 0 where
  more : kept (one ∷ posts) ≡ one ∷ kept posts
  above : 0 < one.weight
  known_is : has_no_height one ≡ false

abbrev weighing : Post → ℕ → Weighted
weighing post weight = record { post = post; weight = weight }

dropped_or_kept : (best : Weighted) (post : Post) (weight : ℕ) (posts : List Weighted) → IsDropped best (weighing post weight) posts ⊎ IsKept (weighing post weight) posts
dropped_or_kept best Void weight posts = inl (record {
  same = elim (nat_lt 0 weight) as (λ b. known (cond b (weighing Void weight ∷ counted posts) (counted posts)) ≡ kept posts) [ true ↦ refl | false ↦ refl ];
  best_is = refl;
})
dropped_or_kept best (Metres metres) zero posts = inl (record { same = refl; best_is = rw (le-ltb best.weight 0 (omega arith)) refl })
dropped_or_kept best (Metres metres) (suc weight) posts = inr (record { more = rw (lt-ltb 0 (suc weight) (omega arith)) refl; above = omega arith; known_is = refl })

dropped : (best one : Weighted) (posts : List Weighted) → IsDropped best one posts → IsPick best posts (pick best posts) → IsPick best (one ∷ posts) (pick best (one ∷ posts))
unfolding most
dropped best one posts d p =
    let same = ap (λ b. pick b posts) d.best_is in
    record {
      stays = λ h. same ∙ p.stays (subst (λ ks. greatest_weight ks ≤ best.weight) d.same h);
      goes = λ h.
          ap (λ ks. find (λ (o : Weighted). o.weight == greatest_weight ks) ks) d.same
          ∙ p.goes (subst (λ ks. best.weight < greatest_weight ks) d.same h)
          ∙ ap Some (sym same);
    }

-- a look-up past the first
pub past : (m : ℕ) (one : Weighted) (posts : List Weighted) → one.weight ≢ m → find (λ (o : Weighted). o.weight == m) (one ∷ posts) ≡ find (λ (o : Weighted). o.weight == m) posts
past m one posts h = elim (one.weight == m) as (λ b. one.weight == m ≡ b → cond b (Some one) (find (λ (o : Weighted). o.weight == m) posts) ≡ find (λ (o : Weighted). o.weight == m) posts) [
  | true ↦ λ e. absurd (h (eqb-true _ _ e))
  | false ↦ λ e. refl
] refl

pub found : (m : ℕ) (one : Weighted) (posts : List Weighted) → one.weight ≡ m → find (λ (o : Weighted). o.weight == m) (one ∷ posts) ≡ Some one
found m one posts h = rw (eq-eqb _ _ h) refl

-- the better one, where it is not void
better_is : (best one : Weighted) → has_no_height one ≡ false → best.weight < one.weight → better best one ≡ one
better_is best one e h = rw (e, lt-ltb _ _ h) refl

worse_is : (best one : Weighted) → one.weight ≤ best.weight → better best one ≡ best
worse_is best one h = elim (has_no_height one) as (λ b. cond (not b && nat_lt best.weight one.weight) one best ≡ best) [
  | true ↦ refl
  | false ↦ rw (le-ltb _ _ h) refl
]

-- the same for a list whose first counts
record IsPickOf (best one : Weighted) (posts : List Weighted) (picked : Weighted) : Type 0 where
  stays : max one.weight (most posts) ≤ best.weight → picked ≡ best
  goes : best.weight < max one.weight (most posts) → find (λ (o : Weighted). o.weight == max one.weight (most posts)) (one ∷ kept posts) ≡ Some picked

at_top : (m n : ℕ) (one : Weighted) (posts : List Weighted) (picked : Weighted) → m ≡ n → find (λ (o : Weighted). o.weight == n) (one ∷ kept posts) ≡ Some picked → find (λ (o : Weighted). o.weight == m) (one ∷ kept posts) ≡ Some picked
at_top m n one posts picked e h = subst (λ k. find (λ (o : Weighted). o.weight == k) (one ∷ kept posts) ≡ Some picked) (sym e) h

taken : (best one : Weighted) (posts : List Weighted) (picked : Weighted) → best.weight < one.weight → IsPick one posts picked → IsPickOf best one posts picked
taken best one posts picked h p = record {
  stays = λ few. absurd (omega arith);
  goes = λ more. elim (cases_lt one.weight (most posts)) [
    | inl less ↦
        at_top (max one.weight (most posts)) (most posts) one posts picked (omega arith) (past (most posts) one (kept posts) (λ e. omega arith) ∙ p.goes less)
    | inr least ↦
        at_top (max one.weight (most posts)) one.weight one posts picked (omega arith) (found one.weight one (kept posts) refl ∙ ap Some (sym (p.stays least)))
  ];
}

left : (best one : Weighted) (posts : List Weighted) (picked : Weighted) → one.weight ≤ best.weight → IsPick best posts picked → IsPickOf best one posts picked
left best one posts picked h p = record {
  stays = λ few. p.stays (omega arith);
  goes = λ more.
      at_top (max one.weight (most posts)) (most posts) one posts picked (omega arith) (past (most posts) one (kept posts) (λ e. omega arith) ∙ p.goes (omega arith));
}

kept_on : (best one : Weighted) (posts : List Weighted) → IsKept one posts → IsPickOf best one posts (pick best (one ∷ posts)) → IsPick best (one ∷ posts) (pick best (one ∷ posts))
unfolding most
kept_on best one posts k p =
    let top : greatest_weight (kept (one ∷ posts)) ≡ max one.weight (most posts) = ap greatest_weight k.more ∙ greatest_next one (kept posts) in
    record {
      stays = λ h. p.stays (omega (arith, top));
      goes = λ h. rw top (ap (find (λ (o : Weighted). o.weight == max one.weight (most posts))) k.more ∙ p.goes (omega (arith, top)));
    }

picked : (best : Weighted) (posts : List Weighted) → IsPick best posts (pick best posts)
unfolding most
picked best [] = record { stays = λ h. refl; goes = λ h. absurd (omega arith) }
picked best (one ∷ posts) = elim (dropped_or_kept best one.post one.weight posts) [
  | inl d ↦ dropped best one posts d (picked best posts)
  | inr k ↦ kept_on best one posts k (elim (cases_lt best.weight one.weight) [
    | inl h ↦
        let same = better_is best one k.known_is h in
        rw same (taken best one posts (pick one posts) h (picked one posts))
    | inr h ↦
        let same = worse_is best one h in
        rw same (left best one posts (pick best posts) h (picked best posts))
  ])
]

-- none that counts has the weight 0
none_at_zero : (posts : List Weighted) → find (λ (o : Weighted). o.weight == 0) (kept posts) ≡ None
none_at_zero [] = refl
none_at_zero (one ∷ posts) = elim (dropped_or_kept nothing one.post one.weight posts) [
  | inl d ↦ ap (find (λ (o : Weighted). o.weight == 0)) d.same ∙ none_at_zero posts
  | inr k ↦ ap (find (λ (o : Weighted). o.weight == 0)) k.more ∙ past 0 one (kept posts) (λ e. let a = k.above in omega arith) ∙ none_at_zero posts
]

pub heaviest_picked : (posts : List Weighted) → (pick nothing posts).post ≡ heaviest (known (counted posts))
unfolding most
heaviest_picked posts =
    let p = picked nothing posts in
    elim (cases_lt 0 (most posts)) [
      | inl more ↦ ap post_of_first (sym (p.goes more))
      | inr none ↦
          let zeroth : most posts ≡ 0 = omega arith in
          ap (λ (o : Weighted). o.post) (p.stays none) ∙ sym (rw zeroth (ap post_of_first (none_at_zero posts)))
    ]

-- a step from the front
pub pick_step : (best : Weighted) (posts : List Weighted) (i : ℕ) (one : Weighted) → i < length posts → one ≡ get_or posts i one → pick best (drop i posts) ≡ pick (better best one) (drop (i + 1) posts)
pick_step best posts i one h is =
    at_drop_more (pick best) posts i one h
    ∙ ap (λ x. pick best (x ∷ drop (i + 1) posts)) (sym is)

-- ---- a height, or void

abbrev pub ArePosts : List Weighted → Type 0
ArePosts [] = Unit {0}
ArePosts (one ∷ posts) = IsPost one.post × ArePosts posts

filtered : (test : Weighted → Bool) (posts : List Weighted) → ArePosts posts → ArePosts (filter test posts)
filtered test [] h = tt
filtered test (one ∷ posts) h = elim (test one) as (λ b. ArePosts (cond b (one ∷ filter test posts) (filter test posts))) [
  | true ↦ (h.0, filtered test posts h.1)
  | false ↦ filtered test posts h.1
]

first_is_post : (test : Weighted → Bool) (posts : List Weighted) → ArePosts posts → IsPost (post_of_first (find test posts))
first_is_post test [] h = tt
first_is_post test (one ∷ posts) h = elim (test one) as (λ b. IsPost (post_of_first (cond b (Some one) (find test posts)))) [
  | true ↦ h.0
  | false ↦ first_is_post test posts h.1
]

pub heaviest_is_post : (posts : List Weighted) → ArePosts posts → IsPost (heaviest (known (counted posts)))
heaviest_is_post posts h = first_is_post _ _ (filtered (λ (o : Weighted). not (has_no_height o)) _ (filtered (λ (o : Weighted). nat_lt 0 o.weight) posts h))
