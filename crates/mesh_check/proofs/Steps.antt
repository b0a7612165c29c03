-- Going from member to member by heights.
use Rattle.std.proofs.Common.{◌≡◌, ℕ, zero, suc, ◌+◌, ◌-◌, ◌<◌, ◌≤◌, refl, sym, subst, ap, ◌∙◌, arith, List, [], ◌∷◌}
use Rattle.std.proofs.Common.{length, slice_index_or, drop, inl, inr, ⊎_elim}
use Rattle.std.specs.Prelude.{pos, All, ◌⊎◌, ◌<ℤ◌, ◌↔◌}
use Rattle.std.proofs.lemmas.Int.{ints}
use Rattle.mesh_plane.specs.Plane.{IsCounterClockwise}
use Rattle.mesh_check.specs.Slab.{Slab, Segment, Member, IsSame, SameAt, under, west, Joined, HeightsJoined, IsTileSlab}
use Rattle.mesh_check.specs.Slab.{upright_of}
use Rattle.mesh_check.specs.Members.{IsTileMember, HasHeights}
use Rattle.mesh_check.specs.Findings.{StepAt, FirstStepAt}
use Rattle.mesh_check.proofs.Walks.{drop_at, drop_end}
use Rattle.mesh_check.proofs.ListFacts.{any_default}
use Rattle.mesh_check.proofs.Upright.{heights_agree}

pub joined_at : (slab : Slab) (g : Segment) (ms : List Member) (k : ℕ) (d : Member) → Joined slab g ms
    → k + 1 < length ms
    → IsSame slab (slice_index_or ms k d).right (slice_index_or ms (k + 1) d).left
joined_at slab g [] k d j l = absurd (omega arith)
joined_at slab g (m ∷ []) k d j l = absurd (omega arith)
joined_at slab g (m ∷ (n ∷ ms)) zero d j l = j.1.0
joined_at slab g (m ∷ (n ∷ ms)) (suc k) d j l =
    let e : k + 1 ≡ suc k = omega arith in
    let r : IsSame slab (slice_index_or (n ∷ ms) k d).right (slice_index_or (n ∷ ms) (k + 1) d).left =
    joined_at slab m.right (n ∷ ms) k d j.1 (omega arith) in
    let f : suc (k + 1) ≡ suc k + 1 = omega arith in
    subst (λ (i : ℕ). IsSame slab (slice_index_or (n ∷ ms) k d).right (slice_index_or (m ∷ (n ∷ ms)) i d).left) f r

-- heights at both ends, by the upright segments
pub same_heights : (slab : Slab) (m n : Member) → IsTileSlab slab → IsTileMember slab m → IsTileMember slab n
    → IsCounterClockwise m.tri → IsCounterClockwise n.tri → IsSame slab m.right n.left
    → IsSame slab (upright_of m.right) (upright_of n.left) ↔ (SameAt n.left slab.low m.tri n.tri
    × SameAt n.left slab.high m.tri n.tri)
same_heights slab m n t i j a b e =
    let ug : pos 0 <ℤ under m.right = omega (arith, ints, t.order, i.is.right.low, i.is.right.high) in
    let uh : pos 0 <ℤ under n.left = omega (arith, ints, t.order, j.is.left.low, j.is.left.high) in
    let low = heights_agree m.tri n.tri m.right n.left slab.low i.is.up j.is.down e.low ug uh a b in
    let high = heights_agree m.tri n.tri m.right n.left slab.high i.is.up j.is.down e.high ug uh a b in
    ((λ s. (low.0 s.low, high.0 s.high)), (λ s. record { low = low.1 s.0; high = high.1 s.1 }))

-- what comes after so many members is what comes after the first
pub record Stepped (slab : Slab) (ms : List Member) (place : ℕ) : Type 0 where
  pub from : 1 ≤ place
  pub bound : (place ≤ length ms) ⊎ (length ms ≡ 0)
  pub heights : (d : Member) → place ≤ length ms → HeightsJoined slab (slice_index_or ms (place - 1) d) (drop place ms)
      → HasHeights slab ms
  pub step : (d : Member) (p : ℕ) → place ≤ length ms → StepAt slab (slice_index_or ms (place - 1) d) (drop place ms) p
      → FirstStepAt slab ms (p + place)

pub step_start : (slab : Slab) (ms : List Member) → Stepped slab ms 1
step_start slab [] = record {
  from = omega arith;
  bound = inr refl;
  heights = λ d l h. tt;
  step =
      λ d p l h. absurd (omega (arith, l));
}
step_start slab (m ∷ ms) = record {
  from = omega arith;
  bound = inl (omega arith);
  heights = λ d l h. h;
  step = λ d p l h. let e : suc p ≡ p + 1 = omega arith in subst (λ (k : ℕ). FirstStepAt slab (m ∷ ms) k) e h;
}

module _ (slab : Slab) (ms : List Member) (place : ℕ) (w : Stepped slab ms place) where
  pub step_on : (d : Member) → place < length ms
      → ((e : Member) → SameAt (slice_index_or ms place e).left slab.low (slice_index_or ms (place - 1) e).tri
      (slice_index_or ms place e).tri
      × SameAt (slice_index_or ms place e).left slab.high (slice_index_or ms (place - 1) e).tri
      (slice_index_or ms place e).tri)
      → Stepped slab ms (place + 1)
  step_on d l s =
      let at : (place + 1) - 1 ≡ place = omega arith in
      record {
        from = omega arith;
        bound = inl (omega (arith, l));
        heights = λ e k h. w.heights e (omega (arith, l))
            (subst (λ (xs : List Member). HeightsJoined slab (slice_index_or ms (place - 1) e) xs)
            (sym (drop_at ms place e l)) (
              (s e).0,
              (s e).1,
              subst (λ (i : ℕ). HeightsJoined slab (slice_index_or ms i e) (drop (place + 1) ms)) at
                  h,
            ));
        step = λ e p k h. let f : suc p + place ≡ p + (place + 1) = omega arith in
            subst (λ (i : ℕ). FirstStepAt slab ms i) f
            (w.step e (suc p) (omega (arith, l))
            (subst (λ (xs : List Member). StepAt slab (slice_index_or ms (place - 1) e) xs (suc p))
            (sym (drop_at ms place e l))
            ((s e).0, (s e).1, subst (λ (i : ℕ). StepAt slab (slice_index_or ms i e) (drop (place + 1) ms) p) at h)));
      }

  pub step_gap : (e : Member) → place < length ms
      → ¬ (SameAt (slice_index_or ms place e).left slab.low (slice_index_or ms (place - 1) e).tri
      (slice_index_or ms place e).tri
      × SameAt (slice_index_or ms place e).left slab.high (slice_index_or ms (place - 1) e).tri
      (slice_index_or ms place e).tri)
      → FirstStepAt slab ms place
  step_gap e l n =
      let f : 0 + place ≡ place = omega arith in
      subst (λ (i : ℕ). FirstStepAt slab ms i) f
      (w.step e 0 (omega (arith, l)) (subst (λ (xs : List Member). StepAt slab (slice_index_or ms (place - 1) e) xs 0)
      (sym (drop_at ms place e l)) n))

empty_heights : (slab : Slab) (ms : List Member) → length ms ≡ 0 → HasHeights slab ms
empty_heights slab [] e = tt
empty_heights slab (m ∷ ms) e = absurd (omega (arith, e))

pub step_end : (slab : Slab) (ms : List Member) (place : ℕ) (d : Member) → Stepped slab ms place → length ms ≤ place
    → HasHeights slab ms
step_end slab ms place d w l =
    ⊎_elim
    (λ k. let e : length ms ≡ place = omega (arith, k, l) in
    w.heights d k (subst (λ (xs : List Member). HeightsJoined slab (slice_index_or ms (place - 1) d) xs)
    (sym (ap (λ (i : ℕ). drop i ms) (sym e) ∙ drop_end ms)) tt))
    (λ k. empty_heights slab ms k) w.bound

-- ---- one step of the loop, from what the code has compared
module _ (slab : Slab) (ms : List Member) (place : ℕ) (d : Member) (t : IsTileSlab slab)
    (each : All (IsTileMember slab) ms) (turned : All (λ m. IsCounterClockwise m.tri) ms)
    (joined : Joined slab west ms) (w : Stepped slab ms place) (l : place < length ms) (before here : Segment)
    (b : before ≡ upright_of (slice_index_or ms (place - 1) d).right)
    (h : here ≡ upright_of (slice_index_or ms place d).left) where
  abbrev Agree : Member → Member → Type 0
  Agree m n = SameAt n.left slab.low m.tri n.tri × SameAt n.left slab.high m.tri n.tri

  compared : IsSame slab before here ↔ Agree (slice_index_or ms (place - 1) d) (slice_index_or ms place d)
  compared =
      let k : (place - 1) + 1 ≡ place = omega (arith, w.from) in
      let e : IsSame slab (slice_index_or ms (place - 1) d).right (slice_index_or ms place d).left =
      subst (λ (i : ℕ). IsSame slab (slice_index_or ms (place - 1) d).right (slice_index_or ms i d).left) k
      (joined_at slab west ms (place - 1) d joined (omega (arith, k, l))) in
      let q = same_heights slab (slice_index_or ms (place - 1) d) (slice_index_or ms place d) t
      (each (place - 1) d (omega (arith, l))) (each place d l) (turned (place - 1) d (omega (arith, l)))
      (turned place d l) e in (
        (λ s. q.0 (subst (λ (g : Segment). IsSame slab g (upright_of (slice_index_or ms place d).left)) b
            (subst (λ (g : Segment). IsSame slab before g) h s))),
        (λ s. subst (λ (g : Segment). IsSame slab before g) (sym h)
            (subst (λ (g : Segment). IsSame slab g (upright_of (slice_index_or ms place d).left)) (sym b) (q.1 s))),
      )

  pub step_here : IsSame slab before here → Stepped slab ms (place + 1)
  step_here s =
      step_on slab ms place w d l (λ e.
      subst (λ (n : Member). Agree (slice_index_or ms (place - 1) e) n) (any_default ms place d e l)
      (subst (λ (m : Member). Agree m (slice_index_or ms place d)) (any_default ms (place - 1) d e (omega (arith, l)))
      (compared.0 s)))

  pub step_not_here : ¬ IsSame slab before here → FirstStepAt slab ms place
  step_not_here n = step_gap slab ms place w d l (λ a. n (compared.1 a))
