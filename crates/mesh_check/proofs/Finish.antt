-- What a whole sweep, or a gap that ends it, shows.
use Rattle.std.proofs.Common.{◌≡◌, ℕ, ◌+◌, ◌-◌, ◌<◌, ◌≤◌, refl, sym, subst, ◌∙◌, arith, List, map, length}
use Rattle.std.proofs.Common.{slice_index_or, inl, inr, ⊎_elim}
use Rattle.std.specs.Prelude.{◌⊎◌, ℤ, pos, ◌≤ℤ◌, All, AllPairs, Contains, Option, None, Some, MatchOption}
use Rattle.std.specs.List.{AllByRecursion}
use Rattle.std.specs.List.Sorted.{IsStrictlyIncreasing}
use Rattle.std.proofs.lemmas.Int.{ints, by_lt_z}
use Rattle.std.proofs.lemmas.List.Kept.{AllPairs-from_increasing}
use Rattle.common_laws.proofs.Lists.{all_weaker}
use Rattle.mesh_plane.specs.declared.corner.Tri.{Tri}
use Rattle.mesh_plane.proofs.ListWords.{all_to}
use Rattle.mesh_check.specs.declared.verdict.Finding.{Finding}
use Rattle.mesh_check.specs.declared.verdict.Finding.TheVariants.{SlabGap}
use Rattle.mesh_check.specs.declared.verdict.Verdict.TheVariants.{Found}
use Rattle.mesh_check.specs.Slab.{Slab, Segment, Member, Joined, GapAt, west, east}
use Rattle.mesh_check.specs.Members.{IsSlab, AreMembers, IsListed, IsWhole, AgreesOn, HoldsEnd}
use Rattle.mesh_check.specs.Findings.{slab_of, HasGap, HasStep, HasBreak, NoGap, NoStep, Comes, IsShown}
use Rattle.mesh_check.specs.Level.{IsWitness}
use Rattle.mesh_check.specs.Sweep.{Course, Layer, levels_in, IsCourse, IsLayer, IsJoined, AreWitnessed, AllJoined}
use Rattle.mesh_check.specs.Sweep.{AllWhole, AllWitnessed, IsFirstStep, IsFirstBreak, told_of}
use Rattle.mesh_check.proofs.ListFacts.{contains_all, at_own, any_default}
use Rattle.mesh_check.proofs.Exact.{gap_not_joined, first_step_not, one_members}
use Rattle.mesh_check.proofs.Ends.{Agreed, Witness}
use Rattle.mesh_check.proofs.LevelEnds.{lines_from_ends, ends_below, ends_above}
use Rattle.mesh_check.proofs.Slabs.{ends_by}
use Rattle.mesh_check.proofs.Sweeps.{turned, listed_in}
use Rattle.mesh_check.proofs.Towers.{map_length, map_at, map_has}

module _ (course : Course) (ready : IsCourse course) where
  abbrev hs : List ℤ
  hs = levels_in course

  abbrev ts : List Tri
  ts = course.triangles.items

  no_gap_in : (slab : Slab) → IsSlab hs slab → IsJoined slab ts → (place : ℕ) → HasGap hs ts slab place → ⊥
  no_gap_in slab i j place h =
      gap_not_joined slab west h.members place (subst (λ (ms : List Member). Joined slab west ms)
      (one_members slab i.order ts j.members h.members j.are h.are) j.joined) h.at

  no_step_in : (slab : Slab) → IsSlab hs slab → IsWhole slab ts → (place : ℕ) → HasStep hs ts slab place → ⊥
  no_step_in slab i w place h =
      first_step_not slab h.members place
      (subst (λ (ms : List Member). Rattle.mesh_check.specs.Members.HasHeights slab ms)
      (one_members slab i.order ts w.members h.members w.are h.are) w.heights) h.at

  -- a gap ends the sweep
  pub gap_shown : (low high place : ℕ) (layer : Layer) → IsLayer course low high layer
      → GapAt layer.slab west layer.members.items place → AllJoined hs ts low
      → (count : ℕ) → count ≤ 16384 → IsShown hs ts count (Found (SlabGap low high place))
  gap_shown low high place layer is gap joined count few = (
    few,
    turned course ready,
    subst (λ (z : Slab). HasGap hs ts z place) is.slab (record {
      is = is.is;
      members = layer.members.items;
      are =
          is.are;
      at = gap;
    }),
    λ slab other l h. no_gap_in slab h.is (joined slab h.is (ends_by hs slab (pos low) h.is at_low l)) other h,
  )
    where
      at_low : Contains hs (pos low)
      at_low = subst (λ (z : Slab). Contains hs z.low) is.slab is.is.low

  module _ (v : ℕ) (top : All (λ u. u ≤ℤ pos v) hs) (joined : AllJoined hs ts v) where
    below_top : (slab : Slab) → IsSlab hs slab → slab.high ≤ℤ pos v
    below_top slab i = contains_all (λ u. u ≤ℤ pos v) hs slab.high top i.high

    no_gap : NoGap hs ts
    no_gap slab place h = no_gap_in slab h.is (joined slab h.is (below_top slab h.is)) place h

    step_shown : (finding : Finding) → IsFirstStep hs ts finding → (count : ℕ) → count ≤ 16384 → IsShown hs ts count
        (Found finding)
    step_shown finding s count few =
        subst (λ (f : Finding). Comes hs ts count f) (sym s.is) (
          few,
          turned course ready,
          no_gap,
          s.has,
          λ slab other l h. no_step_in slab h.is (s.before slab h.is (ends_by hs slab (pos s.low) h.is s.has.is.low l))
              other h,
        )

    module _ (whole : AllWhole hs ts v) where
      slabs : (slab : Slab) → IsSlab hs slab → IsWhole slab ts
      slabs slab i = whole slab i (below_top slab i)

      no_step : NoStep hs ts
      no_step slab place h = no_step_in slab h.is (slabs slab h.is) place h

      module _ (below above : Slab) (i : IsSlab hs below) (j : IsSlab hs above) (e : below.high ≡ above.low)
          (w : AreWitnessed ts below above) where
        to_witness : (g : Segment) → IsWitness below.high w.lower w.upper g → Witness below above ts below.high g
        to_witness g k = record {
          lower = k.held.below;
          upper = k.held.above;
          listed_lower = listed_in below ts w.lower k.held.below w.are_lower k.held.in_lower;
          listed_upper = listed_in above ts w.upper k.held.above w.are_upper k.held.in_upper;
          holds_lower = k.held.holds_below;
          holds_upper = k.held.holds_above;
          agree = k.agree;
        }

        lower_ends : AllByRecursion (λ m. Witness below above ts below.high m.left) w.lower
        lower_ends = all_weaker (λ m. IsWitness below.high w.lower w.upper m.left)
            (λ m. Witness below above ts below.high m.left) (λ m k. to_witness m.left k) w.lower
            (all_to (λ m. IsWitness below.high w.lower w.upper m.left) w.lower w.ends.lower_ends)

        upper_ends : AllByRecursion (λ m. Witness below above ts below.high m.left) w.upper
        upper_ends = all_weaker (λ m. IsWitness below.high w.lower w.upper m.left)
            (λ m. Witness below above ts below.high m.left) (λ m k. to_witness m.left k) w.upper
            (all_to (λ m. IsWitness below.high w.lower w.upper m.left) w.upper w.ends.upper_ends)

        last : Witness below above ts below.high east
        last = to_witness east w.ends.last

        agrees : AgreesOn ts below above
        agrees =
            lines_from_ends hs ts ready.placed (turned course ready) slabs below above i j e
            (subst (λ (ms : List Member). AllByRecursion (λ m. Witness below above ts below.high m.left) ms)
            (one_members below i.order ts w.lower (slabs below i).members w.are_lower
            (slabs below i).are) lower_ends)
            (subst (λ (ms : List Member). AllByRecursion (λ m. Witness below above ts below.high m.left) ms)
            (one_members above j.order ts w.upper (slabs above j).members w.are_upper
            (slabs above j).are) upper_ends)
            last

        at_end : (m : Member) (g : Segment) → IsListed below ts m ⊎ IsListed above ts m → (g ≡ m.left) ⊎ (g ≡ m.right)
            → Agreed below above ts below.high g
        at_end m g (inl l) q =
            let c = ends_below hs ts ready.placed (turned course ready) slabs below above i j e w.lower w.are_lower
            lower_ends last m l in
            ⊎_elim (λ p. subst (λ (z : Segment). Agreed below above ts below.high z) (sym p) c.0)
            (λ p. subst (λ (z : Segment). Agreed below above ts below.high z) (sym p) c.1) q
        at_end m g (inr l) q =
            let c = ends_above hs ts ready.placed (turned course ready) slabs below above i j e w.upper w.are_upper
            upper_ends last m l in
            ⊎_elim (λ p. subst (λ (z : Segment). Agreed below above ts below.high z) (sym p) c.0)
            (λ p. subst (λ (z : Segment). Agreed below above ts below.high z) (sym p) c.1) q

      no_break_at : (u : ℕ) (h : HasBreak hs ts u) → AreWitnessed ts h.below h.above → ⊥
      no_break_at u h w =
          h.differs (subst (λ (z : ℤ). Rattle.mesh_check.specs.Slab.SameAt h.end z h.lower.tri h.upper.tri) h.top
          (at_end h.below h.above h.is_below h.is_above (h.top ∙ sym h.bottom) w h.end_of h.end h.listed_end h.is_end
          h.lower h.upper h.listed_lower h.listed_upper
          (subst (λ (z : ℤ). HoldsEnd h.end z h.lower.tri) (sym h.top) h.holds_lower)
          (subst (λ (z : ℤ). HoldsEnd h.end z h.upper.tri) (sym h.top) h.holds_upper)))

      line_shown : (line : Option ℕ) → MatchOption line (AllWitnessed hs ts v) (IsFirstBreak hs ts) → (count : ℕ)
          → count ≤ 16384 → IsShown hs ts count (told_of None line)
      line_shown (Some u) s count few = (
        few,
        turned course ready,
        no_gap,
        no_step,
        s.has,
        λ lower l h. no_break_at lower h (s.before h.below h.above h.is_below h.is_above (h.top ∙ sym h.bottom)
            (ends_by hs h.above (pos u) h.is_above (subst (λ (z : ℤ). Contains hs z) s.has.top s.has.is_below.high)
            (omega (arith, ints, l, h.bottom)))),
      )
      line_shown None s count few = (
        few,
        record {
          turned = turned course ready;
          slabs = slabs;
          lines = λ below above i j e. agrees below above i j e (s below above i j e (below_top above j));
        },
      )

    pub all_shown : (step : Option Finding) (line : Option ℕ) → MatchOption step (AllWhole hs ts v) (IsFirstStep hs ts)
        → (step ≡ None → MatchOption line (AllWitnessed hs ts v) (IsFirstBreak hs ts))
        → (count : ℕ) → count ≤ 16384 → IsShown hs ts count (told_of step line)
    all_shown (Some f) line s l count few = step_shown f s count few
    all_shown None line s l count few = line_shown s line (l refl) count few

-- ---- ascending levels
module _ (xs : List ℕ) (rises : IsStrictlyIncreasing xs) where
  pairs : AllPairs (λ x y. x < y) xs
  pairs = AllPairs-from_increasing xs rises

  at_most : (i j : ℕ) → i ≤ j → j < length xs → slice_index_or xs i 0 ≤ slice_index_or xs j 0
  at_most i j l k =
      by_lt_z (pos i) (pos j) (λ h. let p = pairs i j 0 (omega (arith, ints, h)) k in omega (arith, p))
      (λ h. let e : i ≡ j = omega (arith, ints, h, l) in
      subst (λ (m : ℕ). slice_index_or xs i 0 ≤ slice_index_or xs m 0) e (omega arith))

  -- neighbouring levels
  pub is_slab : (k : ℕ) → k + 1 < length xs → IsSlab (map pos xs) (slab_of (slice_index_or xs k 0)
      (slice_index_or xs (k + 1) 0))
  is_slab k l = record {
    low = map_has pos xs (slice_index_or xs k 0) (k, omega (arith, l), at_own xs k 0 (omega (arith, l)));
    high = map_has pos xs (slice_index_or xs (k + 1) 0) (k + 1, l, at_own xs (k + 1) 0 l);
    order = let p = rises k l in omega (arith, ints, p);
    none_between = λ i d m.
        let n : i < length xs = let q : length (map pos xs) ≡ length xs = map_length pos xs in omega (arith, m, q) in
        subst (λ (z : ℤ). (z ≤ℤ pos (slice_index_or xs k 0)) ⊎ (pos (slice_index_or xs (k + 1) 0) ≤ℤ z))
        (sym (map_at pos xs i d 0 n))
        (by_lt_z (pos k) (pos i) (λ h. inr (let a = at_most (k + 1) i (omega (arith, ints, h)) n in
        omega (arith, ints, a)))
        (λ h. inl (let a = at_most i k (omega (arith, ints, h)) (omega (arith, l)) in omega (arith, ints, a))));
  }

  -- the last one
  pub at_top : (k : ℕ) → length xs ≤ k + 1 → k < length xs → All (λ u. u ≤ℤ pos (slice_index_or xs k 0)) (map pos xs)
  at_top k l m i d n =
      let q : length (map pos xs) ≡ length xs = map_length pos xs in
      let o : i < length xs = omega (arith, n, q) in
      let a = at_most i k (omega (arith, o, l)) m in
      subst (λ (z : ℤ). z ≤ℤ pos (slice_index_or xs k 0)) (sym (map_at pos xs i d 0 o)) (omega (arith, ints, a))

  -- the first one
  pub at_bottom : Contains (map pos xs) (pos 0) → slice_index_or xs 0 0 ≡ 0
  at_bottom c =
      let q : length (map pos xs) ≡ length xs = map_length pos xs in
      let o : c.0 < length xs = omega (arith, c.1, q) in
      let e : pos (slice_index_or xs c.0 0) ≡ pos 0 = sym (map_at pos xs c.0 (pos 0) 0 o) ∙ c.2 in
      let a = at_most 0 c.0 (omega arith) o in
      omega (arith, ints, e, a)

  pub level_read : (k x : ℕ) → k < length xs → x ≡ slice_index_or xs k x → slice_index_or xs k 0 ≡ x
  level_read k x l e = any_default xs k 0 x l ∙ sym e

  pub slab_before : (place low high : ℕ) → 1 ≤ place → place < length xs → slice_index_or xs (place - 1) 0 ≡ low
      → slice_index_or xs place 0 ≡ high → IsSlab (map pos xs) (slab_of low high)
  slab_before place low high f l a b =
      let e : (place - 1) + 1 ≡ place = omega (arith, f) in
      let s = is_slab (place - 1) (omega (arith, e, l)) in
      subst (λ (x : ℕ). IsSlab (map pos xs) (slab_of x high)) a
      (subst (λ (y : ℕ). IsSlab (map pos xs) (slab_of (slice_index_or xs (place - 1) 0) y))
      (subst (λ (i : ℕ). slice_index_or xs i 0 ≡ high) (sym e) b) s)

  pub some_level : Contains (map pos xs) (pos 0) → 1 ≤ length xs
  some_level c = let q : length (map pos xs) ≡ length xs = map_length pos xs in omega (arith, c.1, q)
