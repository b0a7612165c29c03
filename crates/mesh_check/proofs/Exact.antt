-- A mesh that covers its tile has no finding, and the members of a slab are one list.
use Rattle.std.proofs.Common.{◌≡◌, ℕ, zero, suc, refl, ap, sym, subst, arith, ◌∙◌, List, [], ◌∷◌, inl, inr, ⊎_elim}
use Rattle.std.specs.Prelude.{◌⊎◌, ℤ, pos, ◌≤ℤ◌, ◌<ℤ◌, slice_index_or}
use Rattle.std.specs.List.{AllByRecursion}
use Rattle.std.proofs.lemmas.Int.{ints, by_lt_z}
use Rattle.mesh_plane.specs.declared.corner.Tri.{Tri}
use Rattle.mesh_plane.specs.Cover.{Covers}
use Rattle.mesh_plane.proofs.ListWords.{all_to}
use Rattle.mesh_check.specs.Slab.{Slab, Segment, under, IsDown, IsUp, SameAt, HeightsJoined, Member, IsMember, Joined}
use Rattle.mesh_check.specs.Slab.{GapAt, west}
use Rattle.mesh_check.specs.Members.{IsSlab, IsAt, AreMembers, ArePlaced, HasHeights, IsListed, Before, Reaches}
use Rattle.mesh_check.specs.Findings.{StepAt, FirstStepAt, HasBreak, NoGap, NoStep}
use Rattle.mesh_check.proofs.Leads.{rises}
use Rattle.mesh_check.proofs.Chains.{Some}
use Rattle.mesh_check.proofs.ChainHeights.{all_with}
use Rattle.mesh_check.proofs.ListFacts.{one_at, some_from, some_map, some_with, Each, pairs_to}
use Rattle.mesh_check.proofs.Complete.{joined, heights, one_left, one_right, one_height_of}

-- ---- places
pub gap_not_joined : (slab : Slab) (g : Segment) (ms : List Member) (p : ℕ) → Joined slab g ms → GapAt slab g ms p → ⊥
gap_not_joined slab g [] zero j h = h j
gap_not_joined slab g [] (suc p) j h = h
gap_not_joined slab g (m ∷ ms) zero j h = h j.0
gap_not_joined slab g (m ∷ ms) (suc p) j h = gap_not_joined slab m.right ms p j.1 h.1

pub one_gap : (slab : Slab) (g : Segment) (ms : List Member) (p q : ℕ) → GapAt slab g ms p → GapAt slab g ms q → p ≡ q
one_gap slab g [] zero zero h k = refl
one_gap slab g [] zero (suc q) h k = absurd k
one_gap slab g [] (suc p) q h k = absurd h
one_gap slab g (m ∷ ms) zero zero h k = refl
one_gap slab g (m ∷ ms) zero (suc q) h k = absurd (h k.0)
one_gap slab g (m ∷ ms) (suc p) zero h k = absurd (k h.0)
one_gap slab g (m ∷ ms) (suc p) (suc q) h k = ap (λ (n : ℕ). suc n) (one_gap slab m.right ms p q h.1 k.1)

step_not_joined : (slab : Slab) (m : Member) (ms : List Member) (p : ℕ) → HeightsJoined slab m ms → StepAt slab m ms p
    → ⊥
step_not_joined slab m [] p j h = h
step_not_joined slab m (n ∷ ms) zero j h = h (j.0, j.1)
step_not_joined slab m (n ∷ ms) (suc p) j h = step_not_joined slab n ms p j.2 h.2

pub first_step_not : (slab : Slab) (ms : List Member) (p : ℕ) → HasHeights slab ms → FirstStepAt slab ms p → ⊥
first_step_not slab [] p j h = h
first_step_not slab (m ∷ ms) zero j h = h
first_step_not slab (m ∷ ms) (suc p) j h = step_not_joined slab m ms p j h

-- ---- a mesh that covers has no finding
module _ (levels : List ℤ) (ts : List Tri) (placed : ArePlaced levels ts) (covers : Covers ts) where
  pub no_gap : NoGap levels ts
  no_gap slab place h = gap_not_joined slab west h.members place
      (joined levels ts placed covers slab h.is h.members h.are) h.at

  pub no_step : NoStep levels ts
  no_step slab place h = first_step_not slab h.members place (heights levels ts placed covers slab h.is h.members h.are)
      h.at

  same_or : (i j : ℕ) → (i ≡ j) ⊎ (i ≡ j → ⊥)
  same_or i j = by_lt_z (pos i) (pos j) (λ h. inr (λ q. omega (arith, ints, h, q))) (λ h. by_lt_z (pos j) (pos i)
      (λ q. inr (λ r. omega (arith, ints, q, r))) (λ q. inl (omega (arith, ints, h, q))))

  rising : (slab : Slab) (m : Member) (g : Segment) → IsSlab levels slab → IsListed slab ts m → (g ≡ m.left) ⊎
      (g ≡ m.right) → pos 0 <ℤ under g
  rising slab m g is l (inl e) = subst (λ (z : Segment). pos 0 <ℤ under z) (sym e)
      (rises slab is.order m.left l.is.left)
  rising slab m g is l (inr e) = subst (λ (z : Segment). pos 0 <ℤ under z) (sym e)
      (rises slab is.order m.right l.is.right)

  pub no_break : (v : ℕ) → ¬ HasBreak levels ts v
  no_break v h = h.differs (go (same_or h.lower.number h.upper.number))
    where
      up : pos 0 <ℤ under h.end
      up = ⊎_elim (λ l. rising h.below h.end_of h.end h.is_below l h.is_end)
          (λ l. rising h.above h.end_of h.end h.is_above l h.is_end) h.listed_end

      go : (h.lower.number ≡ h.upper.number) ⊎ (h.lower.number ≡ h.upper.number → ⊥) → SameAt h.end
          (pos v) h.lower.tri h.upper.tri
      go (inl q) = subst (λ (z : Tri). SameAt h.end (pos v) h.lower.tri z)
          (one_at ts h.upper.number h.lower.tri h.upper.tri h.listed_upper.at.0
          (subst (λ (j : ℕ). slice_index_or ts j h.lower.tri ≡ h.lower.tri) q h.listed_lower.at.1)
          h.listed_upper.at.1) refl
      go (inr q) = one_height_of ts covers h.lower.number h.upper.number h.lower.tri h.upper.tri h.listed_lower.at
          h.listed_upper.at q _ _ _ (omega (arith, ints, up)) h.holds_lower h.holds_upper

-- ---- the members of a slab are one list
abbrev built : ℕ → Tri → Segment → Segment → Member
built i t l r = record { number = i; tri = t; left = l; right = r }

module _ (slab : Slab) (gap : slab.low <ℤ slab.high) (ts : List Tri) where
  pub same_member : (m n : Member) → IsListed slab ts m → IsListed slab ts n → m.number ≡ n.number → m ≡ n
  same_member m n l k e =
      let t : m.tri ≡ n.tri = one_at ts n.number m.tri n.tri k.at.0
      (subst (λ (j : ℕ). slice_index_or ts j m.tri ≡ m.tri) e l.at.1) k.at.1 in
      let gl : m.left ≡ n.left = one_left slab gap n.tri m.left n.left
      (subst (λ (z : Tri). IsDown z m.left) t l.is.down) k.is.down l.is.left k.is.left in
      let gr : m.right ≡ n.right = one_right slab gap n.tri m.right n.right
      (subst (λ (z : Tri). IsUp z m.right) t l.is.up) k.is.up l.is.right k.is.right in
      ap (λ (i : ℕ). built i m.tri m.left m.right) e ∙ ap (λ (z : Tri). built n.number z m.left m.right) t ∙ ap
      (λ (z : Segment). built n.number n.tri z m.right) gl ∙ ap (λ (z : Segment). built n.number n.tri n.left z) gr

  -- the order is strict
  not_both : (m n : Member) → Before slab m n → Before slab n m → ⊥
  not_both m n (inl h) (inl k) = omega (arith, ints, h, k)
  not_both m n (inl h) (inr k) = omega (arith, ints, h, k.0)
  not_both m n (inr h) (inl k) = omega (arith, ints, h.0, k)
  not_both m n (inr h) (inr k) = ⊎_elim (λ a. ⊎_elim (λ b. omega (arith, ints, a, b)) (λ b. omega (
    arith,
    ints,
    a,
    b.0,
  )) k.1) (λ a. ⊎_elim (λ b. omega (arith, ints, a.0, b)) (λ b. omega (arith, a.1, b.1)) k.1) h.1

  abbrev pub Has : List Member → Member → Type 0
  Has ns m = Some (λ n. m ≡ n) ns

  after : (m x : Member) (ms : List Member) → AllByRecursion (Before slab m) ms → Has ms x → Before slab m x
  after m x [] a h = elim h [ ]
  after m x (n ∷ ms) a (inl e) = subst (λ (z : Member). Before slab m z) (sym e) a.0
  after m x (n ∷ ms) a (inr h) = after m x ms a.1 h

  -- what the longer list has but for its head, the shorter one has
  rest : (m : Member) (ns xs : List Member) → AllByRecursion (Before slab m) xs → AllByRecursion (Has (m ∷ ns)) xs
      → AllByRecursion (Has ns) xs
  rest m ns [] b a = tt
  rest m ns (x ∷ xs) b a = (
    ⊎_elim (λ e. absurd (let c : Before slab m m = subst (λ (z : Member). Before slab m z) e b.0 in
        not_both m m c c)) (λ h. h) a.0,
    rest m ns xs b.1 a.1,
  )

  one_list : (ms ns : List Member) → Each (Before slab) ms → Each (Before slab) ns → AllByRecursion (Has ns) ms
      → AllByRecursion (Has ms) ns → ms ≡ ns
  one_list [] [] a b h k = refl
  one_list [] (n ∷ ns) a b h k = elim k.0 [ ]
  one_list (m ∷ ms) [] a b h k = elim h.0 [ ]
  one_list (m ∷ ms) (n ∷ ns) a b h k =
      let e : m ≡ n = ⊎_elim (λ e. e) (λ x. ⊎_elim (λ e. sym e)
      (λ y. absurd (not_both m n (after m n ms a.0 y) (after n m ns b.0 x))) k.0) h.0 in
      ap (λ (z : Member). z ∷ ms) e
      ∙ ap (λ (zs : List Member). n ∷ zs)
      (one_list ms ns a.1 b.1
      (rest n ns ms (subst (λ (z : Member). AllByRecursion (Before slab z) ms) e a.0) h.1)
      (rest m ms ns (subst (λ (z : Member). AllByRecursion (Before slab z) ns) (sym e) b.0) k.1))

  pub listed_all : (ms : List Member) → AreMembers slab ts ms → AllByRecursion (IsListed slab ts) ms
  listed_all ms a = all_with (λ m. IsAt ts m.number m.tri) (IsMember slab) (IsListed slab ts) (λ m p q. record {
    at = p;
    is = q;
  }) ms
      (all_to (λ m. IsAt ts m.number m.tri) ms a.numbered) (all_to (IsMember slab) ms a.each)

  pub reaches_down : (t : Tri) (g : Segment) → IsDown t g → g.low.v ≤ℤ slab.low → slab.high ≤ℤ g.high.v → Reaches slab t
  reaches_down t g (inl e) i j = let i' : t.b.v ≤ℤ slab.low = subst (λ (z : Segment). z.low.v ≤ℤ slab.low) e i in
      let j' : slab.high ≤ℤ t.a.v = subst (λ (z : Segment). slab.high ≤ℤ z.high.v) e j in
      record { down = inr (inl i'); up = inl j' }
  reaches_down t g (inr (inl e)) i j = let i' : t.c.v ≤ℤ slab.low = subst (λ (z : Segment). z.low.v ≤ℤ slab.low) e i in
      let j' : slab.high ≤ℤ t.b.v = subst (λ (z : Segment). slab.high ≤ℤ z.high.v) e j in
      record { down = inr (inr i'); up = inr (inl j') }
  reaches_down t g (inr (inr e)) i j = let i' : t.a.v ≤ℤ slab.low = subst (λ (z : Segment). z.low.v ≤ℤ slab.low) e i in
      let j' : slab.high ≤ℤ t.c.v = subst (λ (z : Segment). slab.high ≤ℤ z.high.v) e j in
      record { down = inl i'; up = inr (inr j') }

  pub has_all : (ms ns : List Member) → AreMembers slab ts ns → AllByRecursion (IsListed slab ts) ns → AllByRecursion
      (IsListed slab ts) ms → AllByRecursion (Has ns) ms
  has_all [] ns a ls ks = tt
  has_all (m ∷ ms) ns a ls ks = (
    some_map (λ n. (n.number ≡ m.number) × IsListed slab ts n) (λ n. m ≡ n) ns (λ n p. same_member m n ks.0 p.1
        (sym p.0))
        (some_with (λ n. n.number ≡ m.number) (IsListed slab ts) ns ls (some_from (λ n. n.number ≡ m.number) ns
        (a.all m.number m.tri ks.0.at (reaches_down m.tri m.left ks.0.is.down ks.0.is.left.low ks.0.is.left.high)))),
    has_all ms ns a ls ks.1,
  )

  pub one_members : (ms ns : List Member) → AreMembers slab ts ms → AreMembers slab ts ns → ms ≡ ns
  one_members ms ns a b =
      one_list ms ns (pairs_to (Before slab) ms a.ascending) (pairs_to (Before slab) ns b.ascending)
      (has_all ms ns b (listed_all ns b) (listed_all ms a)) (has_all ns ms a (listed_all ms a) (listed_all ns b))
