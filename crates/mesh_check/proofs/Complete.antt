-- Where the triangles cover the tile, the members of each slab are joined and have joined heights.
use Rattle.std.proofs.Common.{◌≡◌, ℕ, ◌<◌, refl, ap, sym, subst, arith, ◌∙◌, List, [], ◌∷◌, inl, inr, ⊎_elim}
use Rattle.std.specs.Prelude.{◌⊎◌, ℤ, pos, ◌+ℤ◌, ◌-ℤ◌, ◌*ℤ◌, ◌≤ℤ◌, ◌<ℤ◌, All, slice_index_or}
use Rattle.std.specs.List.{AllByRecursion}
use Rattle.std.proofs.lemmas.Int.{ints, by_lt_z}
use Rattle.common_laws.proofs.Lists.{all_weaker}
use Rattle.polynomial.proofs.Expressions.{var, num, add, sub, mul}
use Rattle.polynomial.proofs.NormalForm.{by_ring}
use Rattle.polynomial.proofs.Signs.{weaken, times_nonneg, times_pos}
use Rattle.mesh_plane.specs.declared.corner.Tri.{Tri}
use Rattle.mesh_plane.specs.Plane.{IsCounterClockwise, TriangleHolds, TriangleHoldsInside, IsTileTri}
use Rattle.mesh_plane.specs.Surface.{SameHeight}
use Rattle.mesh_plane.specs.Cover.{Covers}
use Rattle.mesh_check.specs.Slab.{Slab, Segment, segment, under, over, Spans, IsDown, IsUp, IsSame, SameAt}
use Rattle.mesh_check.specs.Slab.{HeightsJoined, Member, Joined, west}
use Rattle.mesh_check.specs.Members.{IsSlab, IsAt, AreMembers, ArePlaced, HasHeights, IsListed, AgreesOn, over_both}
use Rattle.mesh_check.specs.Members.{Before}
use Rattle.mesh_check.proofs.Wedges.{beside}
use Rattle.mesh_check.proofs.Leads.{lead, lead_at, lead_over, rises, no_lead, same_back, still_left, still_right}
use Rattle.mesh_check.proofs.Chains.{Some, IsWedge}
use Rattle.mesh_check.proofs.Between.{Both, back_lead}
use Rattle.mesh_check.proofs.Places.{IsIn, halves, IsWhole, all_places}
use Rattle.mesh_check.proofs.OnLevel.{beside_end}
use Rattle.mesh_check.proofs.ListFacts.{one_at, all_at, some_map, Each, pairs_to, pair_at, each_map}
use Rattle.mesh_check.proofs.Sound.{wedge_at, listed, range_of, goes_down, goes_up, IsFor, member_for}

-- ---- a triangle has one left segment in a slab
module _ (slab : Slab) (gap : slab.low <ℤ slab.high) where
  clash : (g h : Segment) → Spans slab g → Spans slab h → g.low.v ≡ h.high.v → ⊥
  clash g h i j e = omega (arith, ints, gap, i.low, j.high, e)

  -- two edges, of which the first ends where the second begins
  follow : (g h a b : Segment) → g ≡ a → h ≡ b → a.low.v ≡ b.high.v → Spans slab g → Spans slab h → ⊥
  follow g h a b e f k i j = clash g h i j (ap (λ (z : Segment). z.low.v) e ∙ k ∙ sym
      (ap (λ (z : Segment). z.high.v) f))

  pub one_left : (t : Tri) (g h : Segment) → IsDown t g → IsDown t h → Spans slab g → Spans slab h → g ≡ h
  one_left t g h (inl e) (inl f) i j = e ∙ sym f
  one_left t g h (inl e) (inr (inl f)) i j = absurd (follow g h (segment t.b t.a) (segment t.c t.b) e f refl i j)
  one_left t g h (inl e) (inr (inr f)) i j = absurd (follow h g (segment t.a t.c) (segment t.b t.a) f e refl j i)
  one_left t g h (inr (inl e)) (inl f) i j = absurd (follow h g (segment t.b t.a) (segment t.c t.b) f e refl j i)
  one_left t g h (inr (inl e)) (inr (inl f)) i j = e ∙ sym f
  one_left t g h (inr (inl e)) (inr (inr f)) i j = absurd (follow g h (segment t.c t.b) (segment t.a t.c) e f refl i j)
  one_left t g h (inr (inr e)) (inl f) i j = absurd (follow g h (segment t.a t.c) (segment t.b t.a) e f refl i j)
  one_left t g h (inr (inr e)) (inr (inl f)) i j = absurd (follow h g (segment t.c t.b) (segment t.a t.c) f e refl j i)
  one_left t g h (inr (inr e)) (inr (inr f)) i j = e ∙ sym f

  pub one_right : (t : Tri) (g h : Segment) → IsUp t g → IsUp t h → Spans slab g → Spans slab h → g ≡ h
  one_right t g h (inl e) (inl f) i j = e ∙ sym f
  one_right t g h (inl e) (inr (inl f)) i j = absurd (follow h g (segment t.b t.c) (segment t.a t.b) f e refl j i)
  one_right t g h (inl e) (inr (inr f)) i j = absurd (follow g h (segment t.a t.b) (segment t.c t.a) e f refl i j)
  one_right t g h (inr (inl e)) (inl f) i j = absurd (follow g h (segment t.b t.c) (segment t.a t.b) e f refl i j)
  one_right t g h (inr (inl e)) (inr (inl f)) i j = e ∙ sym f
  one_right t g h (inr (inl e)) (inr (inr f)) i j = absurd (follow h g (segment t.c t.a) (segment t.b t.c) f e refl j i)
  one_right t g h (inr (inr e)) (inl f) i j = absurd (follow h g (segment t.a t.b) (segment t.c t.a) f e refl j i)
  one_right t g h (inr (inr e)) (inr (inl f)) i j = absurd (follow g h (segment t.c t.a) (segment t.b t.c) e f refl i j)
  one_right t g h (inr (inr e)) (inr (inr f)) i j = e ∙ sym f

in_down : (t : Tri) (g : Segment) → IsTileTri t → IsDown t g → IsIn g
in_down t g i (inl e) = subst (λ (z : Segment). IsIn z) (sym e) (record { low = i.b; high = i.a })
in_down t g i (inr (inl e)) = subst (λ (z : Segment). IsIn z) (sym e) (record { low = i.c; high = i.b })
in_down t g i (inr (inr e)) = subst (λ (z : Segment). IsIn z) (sym e) (record { low = i.a; high = i.c })

in_up : (t : Tri) (g : Segment) → IsTileTri t → IsUp t g → IsIn g
in_up t g i (inl e) = subst (λ (z : Segment). IsIn z) (sym e) (record { low = i.a; high = i.b })
in_up t g i (inr (inl e)) = subst (λ (z : Segment). IsIn z) (sym e) (record { low = i.b; high = i.c })
in_up t g i (inr (inr e)) = subst (λ (z : Segment). IsIn z) (sym e) (record { low = i.c; high = i.a })

-- the order of left segments, as a lead halfway up
by_sums : (slab : Slab) (gap : slab.low <ℤ slab.high) (g h : Segment)
    → lead g h (pos 2) (slab.low +ℤ slab.high) ≡ over_both slab h *ℤ under g -ℤ over_both slab g *ℤ under h
by_sums slab gap g h =
    halves slab gap g h
    ∙ ap (λ i. i +ℤ lead g h (pos 1) slab.high) (lead_over g h slab.low)
    ∙ ap (λ i. (over h slab.low *ℤ under g -ℤ over g slab.low *ℤ under h) +ℤ i) (lead_over g h slab.high)
    ∙ by_ring (add (sub (mul (var 0) (var 4)) (mul (var 1) (var 5))) (sub (mul (var 2) (var 4)) (mul (var 3) (var 5))))
    (sub (mul (add (var 0) (var 2)) (var 4)) (mul (add (var 1) (var 3)) (var 5)))
    (over h slab.low ∷ over g slab.low ∷ over h slab.high ∷ over g slab.high ∷ under g ∷ under h ∷ []) refl

moved : (t u : Tri) (s x y : ℤ) → u ≡ t → TriangleHolds s x y t → TriangleHolds s x y u
moved t u s x y e h = subst (λ (z : Tri). TriangleHolds s x y z) (sym e) h

pub ordered : {P : Type 0} (i j : ℕ) → (i ≡ j → ⊥) → (i < j → P) → (j < i → P) → P
ordered i j n f g = by_lt_z (pos i) (pos j) (λ l. f (omega (arith, ints, l))) (λ l. by_lt_z (pos j) (pos i)
    (λ k. g (omega (arith, ints, k))) (λ k. absurd (n (omega (arith, ints, l, k)))))

module _ (ts : List Tri) (covers : Covers ts) where
  pub one_height_of : (i j : ℕ) (t u : Tri) → IsAt ts i t → IsAt ts j u → (i ≡ j → ⊥) → (s x y : ℤ) → pos 1 ≤ℤ s
      → TriangleHolds s x y t → TriangleHolds s x y u → SameHeight s x y t u
  one_height_of i j t u p q d s x y hs a b =
      ordered i j d
      (λ o. pair_at (λ t u. TriangleHolds s x y t → TriangleHolds s x y u → SameHeight s x y t u) ts i j t u
      (covers.one_height s x y hs) o q.0 p.1 q.1 a b)
      (λ o. sym (pair_at (λ t u. TriangleHolds s x y t → TriangleHolds s x y u → SameHeight s x y t u) ts j i u t
      (covers.one_height s x y hs) o p.0 q.1 p.1 b a))

module _ (levels : List ℤ) (ts : List Tri) (placed : ArePlaced levels ts) (covers : Covers ts) (slab : Slab)
    (is : IsSlab levels slab) (ms : List Member) (are : AreMembers slab ts ms) where
  gap : slab.low <ℤ slab.high
  gap = is.order

  abbrev ccw : All IsCounterClockwise ts
  ccw = covers.counter_clockwise

  lists : AllByRecursion (IsListed slab ts) ms
  lists = listed levels ts placed ccw slab ms are

  tile_tri : (m : Member) → IsListed slab ts m → IsTileTri m.tri
  tile_tri m l = all_at IsTileTri ts m.number m.tri placed.on_tile l.at.0 l.at.1

  wedge_m : (m : Member) → IsListed slab ts m → IsWedge slab m
  wedge_m m l = wedge_at levels ts placed ccw slab is m l

  ascend : Each (λ m n. pos 0 ≤ℤ lead m.left n.left (pos 2) (slab.low +ℤ slab.high)) ms
  ascend =
      each_map (Before slab) (λ m n. pos 0 ≤ℤ lead m.left n.left (pos 2) (slab.low +ℤ slab.high)) (IsListed slab ts) ms
      (λ m n l k b. ⊎_elim (λ h. omega (arith, ints, h, by_sums slab gap m.left n.left)) (λ h. omega (
        arith,
        ints,
        h.0,
        by_sums slab gap m.left n.left,
      )) b)
      lists (pairs_to (Before slab) ms are.ascending)

  -- members at two places have two numbers
  apart : (m n : Member) → IsListed slab ts m → IsListed slab ts n → Before slab m n → m.number ≡ n.number → ⊥
  apart m n l k b e =
      let t : m.tri ≡ n.tri = one_at ts n.number m.tri n.tri k.at.0
      (subst (λ (j : ℕ). slice_index_or ts j m.tri ≡ m.tri) e l.at.1) k.at.1 in
      let gl : m.left ≡ n.left = one_left slab gap n.tri m.left n.left
      (subst (λ (z : Tri). IsDown z m.left) t l.is.down) k.is.down l.is.left k.is.left in
      let gr : m.right ≡ n.right = one_right slab gap n.tri m.right n.right
      (subst (λ (z : Tri). IsUp z m.right) t l.is.up) k.is.up l.is.right k.is.right in
      ⊎_elim (λ h. self m.left n.left gl h) (λ h. ⊎_elim (λ i. self m.right n.right gr i) (λ i. omega (
        arith,
        e,
        i.1,
      )) h.1) b
    where
      self : (g h : Segment) → g ≡ h → (over_both slab g *ℤ under h) <ℤ (over_both slab h *ℤ under g) → ⊥
      self g h e i =
          let j : (over_both slab h *ℤ under h) <ℤ (over_both slab h *ℤ under h) =
          subst (λ (z : Segment). (over_both slab z *ℤ under h) <ℤ (over_both slab h *ℤ under z)) e i in
          omega (arith, ints, j)

  numbers : Each (λ m n. m.number ≡ n.number → ⊥) ms
  numbers = each_map (Before slab) (λ m n. m.number ≡ n.number → ⊥) (IsListed slab ts) ms
      (λ m n l k b. apart m n l k b) lists (pairs_to (Before slab) ms are.ascending)

  -- ---- cover, for two members
  disjoint : (m n : Member) → IsListed slab ts m → IsListed slab ts n → (m.number ≡ n.number → ⊥) → Both m.tri n.tri → ⊥
  disjoint m n l k d b =
      ordered m.number n.number d
      (λ o. pair_at (λ t u. ¬ (TriangleHoldsInside b.s b.x b.y t × TriangleHoldsInside b.s b.x b.y u)) ts m.number n.number m.tri
      n.tri (covers.once b.s b.x b.y b.larger) o k.at.0 l.at.1 k.at.1 (b.first, b.second))
      (λ o. pair_at (λ t u. ¬ (TriangleHoldsInside b.s b.x b.y t × TriangleHoldsInside b.s b.x b.y u)) ts n.number m.number n.tri
      m.tri (covers.once b.s b.x b.y b.larger) o l.at.0 k.at.1 l.at.1 (b.second, b.first))

  disjoints : Each (λ m n. Both m.tri n.tri → ⊥) ms
  disjoints = each_map (λ m n. m.number ≡ n.number → ⊥) (λ m n. Both m.tri n.tri → ⊥) (IsListed slab ts) ms
      (λ m n l k d. disjoint m n l k d) lists numbers

  wholes : AllByRecursion (IsWhole slab gap (range_of levels ts placed ccw slab is).0
      (range_of levels ts placed ccw slab is).1) ms
  wholes = all_weaker (IsListed slab ts) (λ m. IsWedge slab m × IsIn m.left × IsIn m.right)
      (λ m l. (wedge_m m l, in_down m.tri m.left (tile_tri m l) l.is.down, in_up m.tri m.right (tile_tri m l) l.is.up))
      ms lists

  full_from : (k x : ℤ) → pos 0 <ℤ k → pos 0 ≤ℤ x → x ≤ℤ (pos 32767 *ℤ (k *ℤ pos 2)) → Some (λ m. TriangleHolds (k *ℤ pos 2) x
      (k *ℤ (slab.low +ℤ slab.high)) m.tri) ms
  full_from k x hk x0 x1 =
      let s = k *ℤ pos 2 in let y = k *ℤ (slab.low +ℤ slab.high) in
      let r = range_of levels ts placed ccw slab is in
      let low : (s *ℤ slab.low) <ℤ y = omega (
        arith,
        ints,
        times_pos k (slab.high -ℤ slab.low) hk (omega (arith, ints, gap)),
        by_ring (mul (var 0) (sub (var 1) (var 2))) (sub (mul (var 0) (add (var 2) (var 1))) (mul (mul (var 0) (num 2))
            (var 2))) (k ∷ slab.high ∷ slab.low ∷ []) refl,
      ) in
      let high : y <ℤ (s *ℤ slab.high) = omega (
        arith,
        ints,
        times_pos k (slab.high -ℤ slab.low) hk (omega (arith, ints, gap)),
        by_ring (mul (var 0) (sub (var 1) (var 2))) (sub (mul (mul (var 0) (num 2)) (var 1))
            (mul (var 0) (add (var 2) (var 1)))) (k ∷ slab.high ∷ slab.low ∷ []) refl,
      ) in
      let hs : pos 0 ≤ℤ s = omega (arith, ints, hk) in
      let south : pos 0 ≤ℤ y = omega (arith, ints, low, times_nonneg s slab.low hs r.0) in
      let north : y ≤ℤ (pos 32767 *ℤ s) = omega (
        arith,
        ints,
        high,
        times_nonneg s (pos 32767 -ℤ slab.high) hs (omega (arith, ints, r.1)),
        by_ring (mul (var 0) (sub (num 32767) (var 1))) (sub (mul (num 32767) (var 0)) (mul (var 0) (var 1)))
            (s ∷ slab.high ∷ []) refl,
      ) in
      let a = covers.full s x y (omega (arith, ints, hk)) (record {
        west = x0;
        east = x1;
        south = south;
        north =
            north;
      }) in
      let at : IsAt ts a.0 a.1 = (a.2, a.3) in
      some_map (IsFor levels ts placed ccw a.0 a.1 slab) (λ m. TriangleHolds s x y m.tri) ms
      (λ m f. moved a.1 m.tri s x y f.1 a.4)
      (member_for levels ts placed ccw slab ms are a.0 a.1 at
      (record {
        down = goes_down levels ts placed ccw slab is a.0 a.1 at s x y a.4 high;
        up =
            goes_up levels ts placed ccw slab is a.0 a.1 at s x y a.4 low;
      }))

  pub joined : Joined slab west ms
  joined =
      let r = range_of levels ts placed ccw slab is in
      all_places slab gap r.0 r.1 ms wholes ascend disjoints (λ k x hk x0 x1 l. full_from k x hk x0 x1)

  -- ---- heights
  at_end : (m n : Member) → IsListed slab ts m → IsListed slab ts n → (m.number ≡ n.number → ⊥)
      → IsSame slab m.right n.left → (v : ℤ) → slab.low ≤ℤ v → v ≤ℤ slab.high → SameAt n.left v m.tri n.tri
  at_end m n l k d e v lv vh =
      let w = wedge_m m l in let z = wedge_m n k in
      let g = n.left in
      let ug = rises slab gap n.left z.left in let ur = rises slab gap m.right w.right in
      let s = under g in let x = over g v in let y = under g *ℤ v in
      let hs : pos 0 ≤ℤ s = weaken ug in
      let low : (s *ℤ slab.low) ≤ℤ y = most s slab.low v hs lv in
      let high : y ≤ℤ (s *ℤ slab.high) = most s v slab.high hs vh in
      let on_g : beside g s x y ≡ pos 0 = omega (arith, ints, beside_end g g v, back_lead g g (pos 1) v) in
      let on_m : beside m.right s x y ≡ pos 0 = omega (
        arith,
        ints,
        beside_end m.right g v,
        no_lead slab gap g m.right (same_back slab gap m.right g e) (pos 1) v,
      ) in
      one_height_of ts covers m.number n.number m.tri n.tri l.at k.at d s x y (omega (arith, ints, ug))
      (w.holds s x y hs low high
      (still_right m.left m.right s x y (rises slab gap m.left w.left) ur (omega (
        arith,
        ints,
        w.wide s x y hs low high,
        lead_at m.left m.right s x y,
      )) (omega (arith, ints, on_m)))
      (omega (arith, ints, on_m)))
      (z.holds s x y hs low high (omega (arith, ints, on_g))
      (still_left n.left n.right s x y ug (rises slab gap n.right z.right) (omega (
        arith,
        ints,
        z.wide s x y hs low high,
        lead_at n.left n.right s x y,
      )) (omega (arith, ints, on_g))))
    where
      most : (k a b : ℤ) → pos 0 ≤ℤ k → a ≤ℤ b → (k *ℤ a) ≤ℤ (k *ℤ b)
      most k a b h l = omega (
        arith,
        ints,
        times_nonneg k (b -ℤ a) h (omega (arith, ints, l)),
        by_ring (mul (var 0) (sub (var 1) (var 2))) (sub (mul (var 0) (var 1)) (mul (var 0) (var 2)))
            (k ∷ b ∷ a ∷ []) refl,
      )

  from : (m : Member) (ns : List Member) → IsListed slab ts m → AllByRecursion (IsListed slab ts) ns → Each
      (λ m n. m.number ≡ n.number → ⊥) (m ∷ ns) → Joined slab m.right ns → HeightsJoined slab m ns
  from m [] l ls d j = tt
  from m (n ∷ ns) l ls d j = (
    at_end m n l ls.0 d.0.0 j.0 slab.low (omega (arith, ints)) (weaken gap),
    at_end m n l ls.0 d.0.0 j.0 slab.high
        (weaken gap) (omega (arith, ints)),
    from n ns ls.0 ls.1 d.1 j.1,
  )

  begin : (ns : List Member) → AllByRecursion (IsListed slab ts) ns → Each (λ m n. m.number ≡ n.number → ⊥) ns
      → Joined slab west ns → HasHeights slab ns
  begin [] ls d j = tt
  begin (m ∷ ns) ls d j = from m ns ls.0 ls.1 d j.1

  pub heights : HasHeights slab ms
  heights = begin ms lists numbers joined

-- on the levels
pub lines_agree : (levels : List ℤ) (ts : List Tri) → ArePlaced levels ts → Covers ts → (below above : Slab)
    → IsSlab levels below → IsSlab levels above → below.high ≡ above.low → AgreesOn ts below above
lines_agree levels ts placed covers below above is is' e m n g l k o a b =
    same_number (ordered_cases m.number n.number)
  where
    ordered_cases : (i j : ℕ) → (i ≡ j) ⊎ (i ≡ j → ⊥)
    ordered_cases i j = by_lt_z (pos i) (pos j) (λ h. inr (λ q. omega (arith, ints, h, q)))
        (λ h. by_lt_z (pos j) (pos i) (λ q. inr (λ r. omega (arith, ints, q, r)))
        (λ q. inl (omega (arith, ints, h, q))))

    positive : pos 0 <ℤ under g
    positive = ⊎_elim (λ q. of g m.left q (rises below is.order m.left l.is.left))
        (λ q. ⊎_elim (λ q. of g m.right q (rises below is.order m.right l.is.right))
        (λ q. ⊎_elim (λ q. of g n.left q (rises above is'.order n.left k.is.left))
        (λ q. of g n.right q (rises above is'.order n.right k.is.right)) q) q) o
      where
        of : (g h : Segment) → g ≡ h → pos 0 <ℤ under h → pos 0 <ℤ under g
        of g h q p = subst (λ (z : Segment). pos 0 <ℤ under z) (sym q) p

    same_number : (m.number ≡ n.number) ⊎ (m.number ≡ n.number → ⊥) → SameAt g below.high m.tri n.tri
    same_number (inl q) =
        let t : m.tri ≡ n.tri = one_at ts n.number m.tri n.tri k.at.0
        (subst (λ (j : ℕ). slice_index_or ts j m.tri ≡ m.tri) q l.at.1) k.at.1 in
        subst (λ (z : Tri). SameAt g below.high m.tri z) t refl
    same_number (inr q) = one_height_of ts covers m.number n.number m.tri n.tri l.at k.at q (under g)
        (over g below.high) (under g *ℤ below.high) (omega (arith, ints, positive)) a b
