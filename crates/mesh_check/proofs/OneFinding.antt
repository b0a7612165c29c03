-- At most one finding comes, and none where the triangles cover the tile.
use Rattle.std.proofs.Common.{◌≡◌, ℕ, zero, suc, ◌<◌, ◌≤◌, refl, ap, sym, subst, arith, ◌∙◌, List, [], ◌∷◌, ⊎_elim}
use Rattle.std.specs.Prelude.{◌⊎◌, ℤ, pos, ◌≤ℤ◌}
use Rattle.std.proofs.lemmas.Int.{ints, by_lt_z}
use Rattle.mesh_plane.specs.declared.corner.Tri.{Tri}
use Rattle.mesh_plane.specs.Plane.{IsCounterClockwise}
use Rattle.mesh_plane.specs.Cover.{Covers}
use Rattle.mesh_check.specs.declared.verdict.Finding.{Finding}
use Rattle.mesh_check.specs.declared.verdict.Finding.TheVariants.{TooLarge, NotCounterClockwise, SlabGap, HeightGap}
use Rattle.mesh_check.specs.declared.verdict.Finding.TheVariants.{LineDisagrees}
use Rattle.mesh_check.specs.declared.verdict.Verdict.{Verdict}
use Rattle.mesh_check.specs.declared.verdict.Verdict.TheVariants.{Good, Found}
use Rattle.mesh_check.specs.Slab.{Slab, Member, GapAt, west}
use Rattle.mesh_check.specs.Members.{IsSlab, ArePlaced}
use Rattle.mesh_check.specs.Findings.{slab_of, IsTurnedBack, StepAt, FirstStepAt, HasGap, HasStep, AllTurned, Comes}
use Rattle.mesh_check.specs.Findings.{IsShown, IsExact}
use Rattle.mesh_check.proofs.ListFacts.{all_at, contains_all}
use Rattle.mesh_check.proofs.Sound.{sound}
use Rattle.mesh_check.proofs.Exact.{no_gap, no_step, no_break, one_gap, one_members}

one_step : (slab : Slab) (m : Member) (ms : List Member) (p q : ℕ) → StepAt slab m ms p → StepAt slab m ms q → p ≡ q
one_step slab m [] p q h k = absurd h
one_step slab m (n ∷ ms) zero zero h k = refl
one_step slab m (n ∷ ms) zero (suc q) h k = absurd (h (k.0, k.1))
one_step slab m (n ∷ ms) (suc p) zero h k = absurd (k (h.0, h.1))
one_step slab m (n ∷ ms) (suc p) (suc q) h k = ap (λ (i : ℕ). suc i) (one_step slab n ms p q h.2 k.2)

first_step : (slab : Slab) (ms : List Member) (p q : ℕ) → FirstStepAt slab ms p → FirstStepAt slab ms q → p ≡ q
first_step slab [] p q h k = absurd h
first_step slab (m ∷ ms) zero q h k = absurd h
first_step slab (m ∷ ms) (suc p) zero h k = absurd k
first_step slab (m ∷ ms) (suc p) (suc q) h k = ap (λ (i : ℕ). suc i) (one_step slab m ms p q h k)

module _ (levels : List ℤ) (ts : List Tri) where
  -- neighbouring levels
  one_top : (low a b : ℕ) → IsSlab levels (slab_of low a) → IsSlab levels (slab_of low b) → a ≡ b
  one_top low a b i j =
      let k : pos a ≤ℤ pos b = ⊎_elim (λ h. absurd (omega (arith, ints, h, j.order))) (λ h. h)
      (contains_all (λ v. (v ≤ℤ pos low) ⊎ (pos a ≤ℤ v)) levels (pos b) i.none_between j.high) in
      let l : pos b ≤ℤ pos a = ⊎_elim (λ h. absurd (omega (arith, ints, h, i.order))) (λ h. h)
      (contains_all (λ v. (v ≤ℤ pos low) ⊎ (pos b ≤ℤ v)) levels (pos a) j.none_between i.high) in
      omega (arith, ints, k, l)

  -- neither is lower
  neither : (P : ℕ → ℕ → ℕ → Type 0) (a b : ℕ) → (a < b → ⊥) → (b < a → ⊥) → a ≡ b
  neither P a b f g = by_lt_z (pos a) (pos b) (λ h. absurd (f (omega (arith, ints, h)))) (λ h. by_lt_z (pos b) (pos a)
      (λ k. absurd (g (omega (arith, ints, k)))) (λ k. omega (arith, ints, h, k)))

  gap_place : (slab : Slab) (p q : ℕ) → HasGap levels ts slab p → HasGap levels ts slab q → p ≡ q
  gap_place slab p q h k = one_gap slab west h.members p q h.at (subst (λ (ms : List Member). GapAt slab west ms q)
      (one_members slab k.is.order ts k.members h.members k.are h.are) k.at)

  step_place : (slab : Slab) (p q : ℕ) → HasStep levels ts slab p → HasStep levels ts slab q → p ≡ q
  step_place slab p q h k = first_step slab h.members p q h.at (subst (λ (ms : List Member). FirstStepAt slab ms q)
      (one_members slab k.is.order ts k.members h.members k.are h.are) k.at)

  not_turned : (k : ℕ) → AllTurned levels ts → IsTurnedBack ts k → ⊥
  not_turned k a h = h.2 (all_at IsCounterClockwise ts k h.0 a h.1.0 h.1.1)

  same_gap : (n a b p a' b' p' : ℕ) → Comes levels ts n (SlabGap a b p) → Comes levels ts n (SlabGap a' b' p')
      → SlabGap a b p ≡ SlabGap a' b' p'
  same_gap n a b p a' b' p' h k =
      let e : a ≡ a' = neither (λ x y z. ⊥) a a' (λ l. k.3 (slab_of a b) p (omega (arith, ints, l)) h.2)
      (λ l. h.3 (slab_of a' b') p' (omega (arith, ints, l)) k.2) in
      let k' : HasGap levels ts (slab_of a b') p' = subst (λ (x : ℕ). HasGap levels ts (slab_of x b') p') (sym e) k.2 in
      let f : b ≡ b' = one_top a b b' h.2.is k'.is in
      let g : p ≡ p' = gap_place (slab_of a b) p p' h.2 (subst (λ (x : ℕ). HasGap levels ts (slab_of a x) p')
      (sym f) k') in
      ap (λ (x : ℕ). SlabGap x b p) e ∙ ap (λ (x : ℕ). SlabGap a' x p) f ∙ ap (λ (x : ℕ). SlabGap a' b' x) g

  same_step : (n a b p a' b' p' : ℕ) → Comes levels ts n (HeightGap a b p) → Comes levels ts n (HeightGap a' b' p')
      → HeightGap a b p ≡ HeightGap a' b' p'
  same_step n a b p a' b' p' h k =
      let e : a ≡ a' = neither (λ x y z. ⊥) a a' (λ l. k.4 (slab_of a b) p (omega (arith, ints, l)) h.3)
      (λ l. h.4 (slab_of a' b') p' (omega (arith, ints, l)) k.3) in
      let k' : HasStep levels ts (slab_of a b') p' = subst (λ (x : ℕ). HasStep levels ts (slab_of x b') p')
      (sym e) k.3 in
      let f : b ≡ b' = one_top a b b' h.3.is k'.is in
      let g : p ≡ p' = step_place (slab_of a b) p p' h.3 (subst (λ (x : ℕ). HasStep levels ts (slab_of a x) p')
      (sym f) k') in
      ap (λ (x : ℕ). HeightGap x b p) e ∙ ap (λ (x : ℕ). HeightGap a' x p) f ∙ ap (λ (x : ℕ). HeightGap a' b' x) g

  pub one_finding : (n : ℕ) (f g : Finding) → Comes levels ts n f → Comes levels ts n g → f ≡ g
  one_finding n (TooLarge v) (TooLarge w) h k = ap (λ (x : ℕ). TooLarge x) (h.0 ∙ sym k.0)
  one_finding n (TooLarge v) (NotCounterClockwise t) h k = absurd (omega (arith, h.1, k.0))
  one_finding n (TooLarge v) (SlabGap a b p) h k = absurd (omega (arith, h.1, k.0))
  one_finding n (TooLarge v) (HeightGap a b p) h k = absurd (omega (arith, h.1, k.0))
  one_finding n (TooLarge v) (LineDisagrees w) h k = absurd (omega (arith, h.1, k.0))
  one_finding n (NotCounterClockwise t) (TooLarge w) h k = absurd (omega (arith, k.1, h.0))
  one_finding n (NotCounterClockwise t) (NotCounterClockwise u) h k =
      ap (λ (x : ℕ). NotCounterClockwise x) (neither (λ x y z. ⊥) t u (λ l. k.2 t l h.1) (λ l. h.2 u l k.1))
  one_finding n (NotCounterClockwise t) (SlabGap a b p) h k = absurd (not_turned t k.1 h.1)
  one_finding n (NotCounterClockwise t) (HeightGap a b p) h k = absurd (not_turned t k.1 h.1)
  one_finding n (NotCounterClockwise t) (LineDisagrees w) h k = absurd (not_turned t k.1 h.1)
  one_finding n (SlabGap a b p) (TooLarge w) h k = absurd (omega (arith, k.1, h.0))
  one_finding n (SlabGap a b p) (NotCounterClockwise u) h k = absurd (not_turned u h.1 k.1)
  one_finding n (SlabGap a b p) (SlabGap a' b' p') h k = same_gap n a b p a' b' p' h k
  one_finding n (SlabGap a b p) (HeightGap a' b' p') h k = absurd (k.2 (slab_of a b) p h.2)
  one_finding n (SlabGap a b p) (LineDisagrees w) h k = absurd (k.2 (slab_of a b) p h.2)
  one_finding n (HeightGap a b p) (TooLarge w) h k = absurd (omega (arith, k.1, h.0))
  one_finding n (HeightGap a b p) (NotCounterClockwise u) h k = absurd (not_turned u h.1 k.1)
  one_finding n (HeightGap a b p) (SlabGap a' b' p') h k = absurd (h.2 (slab_of a' b') p' k.2)
  one_finding n (HeightGap a b p) (HeightGap a' b' p') h k = same_step n a b p a' b' p' h k
  one_finding n (HeightGap a b p) (LineDisagrees w) h k = absurd (k.3 (slab_of a b) p h.3)
  one_finding n (LineDisagrees v) (TooLarge w) h k = absurd (omega (arith, k.1, h.0))
  one_finding n (LineDisagrees v) (NotCounterClockwise u) h k = absurd (not_turned u h.1 k.1)
  one_finding n (LineDisagrees v) (SlabGap a' b' p') h k = absurd (h.2 (slab_of a' b') p' k.2)
  one_finding n (LineDisagrees v) (HeightGap a' b' p') h k = absurd (h.3 (slab_of a' b') p' k.3)
  one_finding n (LineDisagrees v) (LineDisagrees w) h k =
      ap (λ (x : ℕ). LineDisagrees x) (neither (λ x y z. ⊥) v w (λ l. k.5 v l h.4) (λ l. h.5 w l k.4))

  pub none_comes : ArePlaced levels ts → (n : ℕ) → n ≤ 16384 → Covers ts → (f : Finding) → Comes levels ts n f → ⊥
  none_comes placed n l c (TooLarge v) h = omega (arith, l, h.1)
  none_comes placed n l c (NotCounterClockwise t) h = not_turned t c.counter_clockwise h.1
  none_comes placed n l c (SlabGap a b p) h = no_gap levels ts placed c (slab_of a b) p h.2
  none_comes placed n l c (HeightGap a b p) h = no_step levels ts placed c (slab_of a b) p h.3
  none_comes placed n l c (LineDisagrees v) h = no_break levels ts placed c v h.4

  pub exact : ArePlaced levels ts → (n : ℕ) (v : Verdict) → IsShown levels ts n v → IsExact levels ts n v
  exact placed n Good s =
      let c = sound levels ts placed s.1 in
      record {
        good = ((λ e. (s.0, c)), (λ e. refl));
        found = λ f. ((λ e. absurd (differ f e)), (λ h. absurd (none_comes placed n s.0 c f h)));
      }
    where
      differ : (f : Finding) → Good ≡ Found f → ⊥
      differ f e = cc
  exact placed n (Found g) s = record {
    good = ((λ e. absurd (differ g e)), (λ h. absurd (none_comes placed n h.0 h.1 g s)));
    found = λ f. (
      (λ e. subst (λ (x : Finding). Comes levels ts n x) (same g f e) s),
      (λ h. ap (λ (x : Finding). Found x) (one_finding n g f s h)),
    );
  }
    where
      differ : (g : Finding) → Found g ≡ Good → ⊥
      differ g e = cc

      same : (g f : Finding) → Found g ≡ Found f → g ≡ f
      same g f e = cc
