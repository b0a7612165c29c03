-- What the sweep has seen makes the triangles cover the tile.
use Rattle.std.proofs.Common.{◌≡◌, ℕ, ◌<◌, refl, ap, sym, subst, arith, ◌∙◌, List, [], ◌∷◌, inl, inr, ⊎_elim}
use Rattle.std.specs.Prelude.{◌⊎◌, ℤ, pos, ◌+ℤ◌, ◌-ℤ◌, ◌*ℤ◌, ◌≤ℤ◌, ◌<ℤ◌, All, Any, Contains, slice_index_or}
use Rattle.std.specs.List.{AllByRecursion}
use Rattle.std.proofs.lemmas.Int.{ints, by_lt_z}
use Rattle.common_laws.proofs.Lists.{all_weaker}
use Rattle.polynomial.proofs.Expressions.{var, num, sub, mul}
use Rattle.polynomial.proofs.NormalForm.{by_ring}
use Rattle.polynomial.proofs.Signs.{weaken}
use Rattle.mesh_plane.specs.declared.corner.Tri.{Tri}
use Rattle.mesh_plane.specs.Plane.{doubled_area, IsCounterClockwise, TriangleHolds, TriangleHoldsInside, IsTilePoint, IsTileTri}
use Rattle.mesh_plane.specs.Surface.{SameHeight}
use Rattle.mesh_plane.specs.Cover.{Covers, HeldOnce, OneHeight}
use Rattle.mesh_plane.proofs.ListWords.{all_to, all_from}
use Rattle.mesh_check.specs.Slab.{Slab, Member, IsMember, Joined, west}
use Rattle.mesh_check.specs.Members.{IsSlab, IsAt, Reaches, AreMembers, ArePlaced, HasHeights, IsWhole, IsListed}
use Rattle.mesh_check.specs.Members.{AgreesOn, IsSwept}
use Rattle.mesh_check.proofs.Wedges.{wedge}
use Rattle.mesh_check.proofs.Chains.{Some, IsWedge, chain_full, chain_once}
use Rattle.mesh_check.proofs.ChainHeights.{chain_heights, all_with}
use Rattle.mesh_check.proofs.Held.{above_least, below_greatest, most_out, most_in, off, still_strictly, strictly_holds}
use Rattle.mesh_check.proofs.FindSlab.{narrowed}
use Rattle.mesh_check.proofs.OnLevel.{on_level}
use Rattle.mesh_check.proofs.ListFacts.{one_at, all_at, some_from, some_map, some_with, some_elim, Each, two_of}
use Rattle.mesh_check.proofs.ListFacts.{contains_all, at_own}

module _ (levels : List ℤ) (ts : List Tri) (placed : ArePlaced levels ts) (turned : All IsCounterClockwise ts) where
  abbrev ccw : (k : ℕ) (t : Tri) → IsAt ts k t → IsCounterClockwise t
  ccw k t i = all_at IsCounterClockwise ts k t turned i.0 i.1

  pub wedge_at : (slab : Slab) → IsSlab levels slab → (m : Member) → IsListed slab ts m → IsWedge slab m
  wedge_at slab is m l = wedge slab is.order m.tri m.left m.right (ccw m.number m.tri l.at) l.is.down l.is.up l.is.left
      l.is.right

  pub listed : (slab : Slab) (ms : List Member) → AreMembers slab ts ms → AllByRecursion (IsListed slab ts) ms
  listed slab ms a =
      all_with (λ m. IsAt ts m.number m.tri) (IsMember slab) (IsListed slab ts) (λ m p q. record { at = p; is = q }) ms
      (all_to (λ m. IsAt ts m.number m.tri) ms a.numbered) (all_to (IsMember slab) ms a.each)

  pub range_of : (slab : Slab) → IsSlab levels slab → (pos 0 ≤ℤ slab.low) × (slab.high ≤ℤ pos 32767)
  range_of slab is = (
    (contains_all (λ v. (pos 0 ≤ℤ v) × (v ≤ℤ pos 32767)) levels slab.low placed.range is.low).0,
    (contains_all (λ v. (pos 0 ≤ℤ v) × (v ≤ℤ pos 32767)) levels slab.high placed.range is.high).1,
  )

  -- ---- which triangles reach through
  abbrev Between : Slab → ℤ → Type 0
  Between slab v = (v ≤ℤ slab.low) ⊎ (slab.high ≤ℤ v)

  sides_of : (slab : Slab) → IsSlab levels slab → (k : ℕ) (t : Tri) → IsAt ts k t → Between slab t.a.v
      × Between slab t.b.v × Between slab t.c.v
  sides_of slab is k t i =
      let c = all_at (λ t. Contains levels t.a.v × Contains levels t.b.v × Contains levels t.c.v) ts k t placed.corners
      i.0 i.1 in (
        contains_all (Between slab) levels t.a.v is.none_between c.0,
        contains_all (Between slab) levels t.b.v is.none_between c.1,
        contains_all (Between slab) levels t.c.v is.none_between c.2,
      )

  -- some corner is below, or all are above
  abbrev Down : Slab → Tri → Type 0
  Down slab t = (t.a.v ≤ℤ slab.low) ⊎ ((t.b.v ≤ℤ slab.low) ⊎ (t.c.v ≤ℤ slab.low))

  abbrev Up : Slab → Tri → Type 0
  Up slab t = (slab.high ≤ℤ t.a.v) ⊎ ((slab.high ≤ℤ t.b.v) ⊎ (slab.high ≤ℤ t.c.v))

  pub record AllAbove (slab : Slab) (t : Tri) : Type 0 where
    pub a : slab.high ≤ℤ t.a.v
    pub b : slab.high ≤ℤ t.b.v
    pub c : slab.high ≤ℤ t.c.v

  pub record AllBelow (slab : Slab) (t : Tri) : Type 0 where
    pub a : t.a.v ≤ℤ slab.low
    pub b : t.b.v ≤ℤ slab.low
    pub c : t.c.v ≤ℤ slab.low

  down_or : (slab : Slab) (t : Tri) → Between slab t.a.v × Between slab t.b.v × Between slab t.c.v → Down slab t
      ⊎ AllAbove slab t
  down_or slab t b =
      ⊎_elim (λ h. inl (inl h)) (λ x. ⊎_elim (λ h. inl (inr (inl h))) (λ y. ⊎_elim (λ h. inl (inr (inr h)))
      (λ z. inr (record { a = x; b = y; c = z })) b.2) b.1) b.0

  up_or : (slab : Slab) (t : Tri) → Between slab t.a.v × Between slab t.b.v × Between slab t.c.v → Up slab t
      ⊎ AllBelow slab t
  up_or slab t b =
      ⊎_elim (λ x. ⊎_elim (λ y. ⊎_elim (λ z. inr (record { a = x; b = y; c = z })) (λ h. inl (inr (inr h))) b.2)
      (λ h. inl (inr (inl h))) b.1) (λ h. inl (inl h)) b.0

  -- a triangle that holds a point below the upper level, and one that holds a point above the lower one
  pub goes_down : (slab : Slab) → IsSlab levels slab → (k : ℕ) (t : Tri) → IsAt ts k t → (s x y : ℤ) → TriangleHolds s x y t
      → y <ℤ (s *ℤ slab.high) → Down slab t
  goes_down slab is k t i s x y h l =
      ⊎_elim (λ d. d) (λ n. absurd (omega (arith, ints, l, above_least t (ccw k t i) s x y h slab.high n.a n.b n.c)))
      (down_or slab t (sides_of slab is k t i))

  pub goes_up : (slab : Slab) → IsSlab levels slab → (k : ℕ) (t : Tri) → IsAt ts k t → (s x y : ℤ) → TriangleHolds s x y t →
      (s *ℤ slab.low) <ℤ y → Up slab t
  goes_up slab is k t i s x y h l =
      ⊎_elim (λ d. d) (λ n. absurd (omega (arith, ints, l, below_greatest t (ccw k t i) s x y h slab.low n.a n.b n.c)))
      (up_or slab t (sides_of slab is k t i))

  -- ---- slabs at a height
  abbrev Level : ℤ → Type 0
  Level v = Contains levels v

  all_levels : AllByRecursion Level levels
  all_levels = all_to Level levels (λ k d l. (k, l, at_own levels k d l))

  -- the slab that begins at the height or below it, and ends above it
  pub record SlabAt (Low High : ℤ → Type 0) : Type 0 where
    pub slab : Slab
    pub is : IsSlab levels slab
    pub low : Low slab.low
    pub high : High slab.high

  slab_at : (Low High : ℤ → Type 0) → ((v : ℤ) → Low v ⊎ High v) → Low (pos 0) → High (pos 32767) → SlabAt Low High
  slab_at Low High side a b =
      let r = narrowed Level Low High side levels all_levels (pos 0) (pos 32767) placed.south placed.north
      (omega (arith, ints)) a b in
      record {
        slab = r.slab;
        is = record {
          low = r.p_low;
          high = r.p_high;
          order = r.order;
          none_between =
              all_from (λ v. (v ≤ℤ r.slab.low) ⊎ (r.slab.high ≤ℤ v)) levels r.between;
        };
        low = r.is_low;
        high = r.is_high;
      }

  pub floor_at : (s y : ℤ) → pos 0 ≤ℤ y → y <ℤ (s *ℤ pos 32767) → SlabAt (λ v. (s *ℤ v) ≤ℤ y) (λ v. y <ℤ (s *ℤ v))
  floor_at s y a b =
      slab_at (λ v. (s *ℤ v) ≤ℤ y) (λ v. y <ℤ (s *ℤ v)) (λ v. by_lt_z y (s *ℤ v) (λ l. inr l) (λ l. inl l))
      (omega (arith, ints, a, by_ring (mul (var 0) (num 0)) (num 0) (s ∷ []) refl)) b

  pub ceiling_at : (s y : ℤ) → pos 0 <ℤ y → y ≤ℤ (s *ℤ pos 32767) → SlabAt (λ v. (s *ℤ v) <ℤ y) (λ v. y ≤ℤ (s *ℤ v))
  ceiling_at s y a b =
      slab_at (λ v. (s *ℤ v) <ℤ y) (λ v. y ≤ℤ (s *ℤ v)) (λ v. by_lt_z (s *ℤ v) y (λ l. inl l) (λ l. inr l))
      (omega (arith, ints, a, by_ring (mul (var 0) (num 0)) (num 0) (s ∷ []) refl)) b

  pub some_any : (P : Tri → Type 0) (ms : List Member) → Some (λ m. P m.tri × IsAt ts m.number m.tri) ms → Any P ts
  some_any P ms h = some_elim (λ m. P m.tri × IsAt ts m.number m.tri) ms (λ m p. (m.number, m.tri, p.1.0, p.1.1, p.0)) h

  -- the member of a number
  abbrev pub IsFor : ℕ → Tri → Slab → Member → Type 0
  IsFor k t slab m = (m.number ≡ k) × (m.tri ≡ t) × IsListed slab ts m

  pub member_for : (slab : Slab) (ms : List Member) → AreMembers slab ts ms → (k : ℕ) (t : Tri) → IsAt ts k t
      → Reaches slab t → Some (IsFor k t slab) ms
  member_for slab ms a k t i r =
      some_map (λ m. (m.number ≡ k) × IsListed slab ts m) (IsFor k t slab) ms
      (λ m p. (
        p.0,
        one_at ts k m.tri t i.0 (subst (λ (j : ℕ). slice_index_or ts j m.tri ≡ m.tri) p.0 p.1.at.1) i.1,
        p.1,
      ))
      (some_with (λ m. m.number ≡ k) (IsListed slab ts) ms (listed slab ms a) (some_from (λ m. m.number ≡ k) ms
      (a.all k t i r)))

  -- ---- from the members of a slab
  module _ (slabs : (slab : Slab) → IsSlab levels slab → IsWhole slab ts) where
    full_in : (slab : Slab) → IsSlab levels slab → (s x y : ℤ) → pos 0 ≤ℤ s → (s *ℤ slab.low) ≤ℤ y → y ≤ℤ
        (s *ℤ slab.high) → pos 0 ≤ℤ x → x ≤ℤ (pos 32767 *ℤ s)
        → Any (TriangleHolds s x y) ts
    full_in slab is s x y hs ly hy a b =
        let w = slabs slab is in let r = range_of slab is in
        let ls = listed slab w.members w.are in
        some_any (TriangleHolds s x y) w.members
        (some_with (λ m. TriangleHolds s x y m.tri) (λ m. IsAt ts m.number m.tri) w.members (all_weaker (IsListed slab ts)
        (λ m. IsAt ts m.number m.tri) (λ m l. l.at) w.members ls)
        (chain_full slab is.order r.0 r.1 s x y hs ly hy w.members w.joined (all_weaker (IsListed slab ts) (IsWedge slab)
        (λ m l. wedge_at slab is m l) w.members ls) a b))

    pub full : (s x y : ℤ) → pos 1 ≤ℤ s → IsTilePoint s x y → Any (TriangleHolds s x y) ts
    full s x y hs p =
        by_lt_z y (s *ℤ pos 32767)
        (λ l. let f = floor_at s y p.south l in full_in f.slab f.is s x y (omega (arith, ints, hs)) f.low
        (weaken f.high) p.west p.east)
        (λ l. let f = ceiling_at s y (omega (arith, ints, l, hs)) (omega (arith, ints, p.north)) in
        full_in f.slab f.is s x y (omega (arith, ints, hs)) (weaken f.low) f.high p.west p.east)

    once_apart : (s x y : ℤ) → pos 1 ≤ℤ s → (i j : ℕ) (t u : Tri) → i < j → IsAt ts i t → IsAt ts j u
        → TriangleHoldsInside s x y t → TriangleHoldsInside s x y u → ⊥
    once_apart s x y hs i j t u l p q a b =
        let o = off *ℤ s in let ox = off *ℤ x in let oy = off *ℤ y +ℤ pos 1 in
        let ta = all_at IsTileTri ts i t placed.on_tile p.0 p.1 in let tb =
        all_at IsTileTri ts j u placed.on_tile q.0 q.1 in
        let ha = still_strictly t s x y ta a in let hb = still_strictly u s x y tb b in
        let ho : pos 0 ≤ℤ o = omega (arith, ints, hs) in
        let above_south : pos 0 ≤ℤ y = omega (
          arith,
          ints,
          above_least t (ccw i t p) s x y (strictly_holds t s x y a)
              (pos 0) ta.a.south ta.b.south ta.c.south,
          by_ring (mul (var 0) (num 0)) (num 0) (s ∷ []) refl,
        ) in
        let below_north : oy ≤ℤ (o *ℤ pos 32767) = below_greatest t (ccw i t p) o ox oy (strictly_holds t o ox oy ha)
        (pos 32767) ta.a.north ta.b.north ta.c.north in
        let f = ceiling_at o oy (omega (arith, ints, above_south)) below_north in
        let w = slabs f.slab f.is in let r = range_of f.slab f.is in
        let top : oy <ℤ (o *ℤ f.slab.high) = off_below s y f.slab.high f.high in
        let ra : Reaches f.slab t = record {
          down = goes_down f.slab f.is i t p o ox oy
              (strictly_holds t o ox oy ha) top;
          up =
              goes_up f.slab f.is i t p o ox oy (strictly_holds t o ox oy ha) f.low;
        } in
        let rb : Reaches f.slab u = record {
          down = goes_down f.slab f.is j u q o ox oy
              (strictly_holds u o ox oy hb) top;
          up =
              goes_up f.slab f.is j u q o ox oy (strictly_holds u o ox oy hb) f.low;
        } in
        let ls = listed f.slab w.members w.are in
        two_of (λ m n. TriangleHoldsInside o ox oy m.tri → TriangleHoldsInside o ox oy n.tri → ⊥) (IsFor i t f.slab)
        (IsFor j u f.slab) w.members
        (chain_once f.slab f.is.order r.0 r.1 o ox oy ho (weaken f.low) f.high west w.members w.joined
        (all_weaker (IsListed f.slab ts) (IsWedge f.slab) (λ m l. wedge_at f.slab f.is m l) w.members ls))
        (λ m e g. omega (arith, l, e.0, g.0))
        (λ m n e g apart. apart (subst (λ (z : Tri). TriangleHoldsInside o ox oy z) (sym e.1) ha)
        (subst (λ (z : Tri). TriangleHoldsInside o ox oy z) (sym g.1) hb))
        (λ m n e g apart. apart (subst (λ (z : Tri). TriangleHoldsInside o ox oy z) (sym g.1) hb)
        (subst (λ (z : Tri). TriangleHoldsInside o ox oy z) (sym e.1) ha))
        (member_for f.slab w.members w.are i t p ra) (member_for f.slab w.members w.are j u q rb)
      where
        off_below : (s y l : ℤ) → (off *ℤ y +ℤ pos 1) ≤ℤ ((off *ℤ s) *ℤ l) → (off *ℤ y +ℤ pos 1) <ℤ ((off *ℤ s) *ℤ l)
        off_below s y l h = omega (
          arith,
          ints,
          h,
          by_ring (mul (mul (num 65536) (var 0)) (var 1))
              (mul (num 65536) (mul (var 0) (var 1))) (s ∷ l ∷ []) refl,
        )

    pub once : (s x y : ℤ) → pos 1 ≤ℤ s → HeldOnce s x y ts
    once s x y hs i j d l k =
        λ h. once_apart s x y hs i j (slice_index_or ts i d) (slice_index_or ts j d) l (
          omega (arith, l, k),
          at_own ts i d (omega (arith, l, k)),
        ) (k, at_own ts j d k) h.0 h.1

    -- ---- heights
    flat : (t : Tri) → IsCounterClockwise t → t.b.v ≡ t.a.v → t.c.v ≡ t.a.v → ⊥
    flat t n e f =
        let z : doubled_area t ≡ pos 0 =
        ap (λ i. (t.b.u -ℤ t.a.u) *ℤ (t.c.v -ℤ t.a.v) -ℤ (i -ℤ t.a.v) *ℤ (t.c.u -ℤ t.a.u)) e
        ∙ ap (λ i. (t.b.u -ℤ t.a.u) *ℤ (i -ℤ t.a.v) -ℤ (t.a.v -ℤ t.a.v) *ℤ (t.c.u -ℤ t.a.u)) f
        ∙ by_ring (sub (mul (sub (var 1) (var 0)) (sub (var 3) (var 3))) (mul (sub (var 3) (var 3))
        (sub (var 2) (var 0)))) (num 0) (t.a.u ∷ t.b.u ∷ t.c.u ∷ t.a.v ∷ []) refl in
        omega (arith, ints, n, z)

    heights : (slab : Slab) (gap : slab.low <ℤ slab.high) (floor : pos 0 ≤ℤ slab.low) (ceiling : slab.high ≤ℤ pos 32767)
        (s x y : ℤ) (hs : pos 0 ≤ℤ s) (ly : (s *ℤ slab.low) ≤ℤ y) (hy : y ≤ℤ (s *ℤ slab.high))
        (ms : List Member) → AllByRecursion (λ m. IsWedge slab m × IsCounterClockwise m.tri) ms → Joined slab west ms
        → HasHeights slab ms
        → Each (λ m n. TriangleHolds s x y m.tri → TriangleHolds s x y n.tri → SameHeight s x y m.tri n.tri) ms
    heights slab gap floor ceiling s x y hs ly hy [] w j k = tt
    heights slab gap floor ceiling s x y hs ly hy (m ∷ ms) w j k =
        chain_heights slab gap floor ceiling s x y hs ly hy m ms w j.1 k

    pub same_in : (slab : Slab) → IsSlab levels slab → (s x y : ℤ) → pos 0 ≤ℤ s → (s *ℤ slab.low) ≤ℤ y → y ≤ℤ
        (s *ℤ slab.high) → (i j : ℕ) (t u : Tri) → i < j → IsAt ts i t → IsAt ts j u
        → Reaches slab t → Reaches slab u → TriangleHolds s x y t → TriangleHolds s x y u → SameHeight s x y t u
    same_in slab is s x y hs ly hy i j t u l p q ra rb a b =
        let w = slabs slab is in let r = range_of slab is in
        let ls = listed slab w.members w.are in
        two_of (λ m n. TriangleHolds s x y m.tri → TriangleHolds s x y n.tri → SameHeight s x y m.tri n.tri) (IsFor i t slab)
        (IsFor j u slab) w.members
        (heights slab is.order r.0 r.1 s x y hs ly hy w.members (all_weaker (IsListed slab ts)
        (λ m. IsWedge slab m × IsCounterClockwise m.tri) (λ m l. (
          wedge_at slab is m l,
          ccw m.number m.tri l.at,
        )) w.members ls) w.joined w.heights)
        (λ m e g. absurd (omega (arith, l, e.0, g.0)))
        (λ m n e g h. put t u m.tri n.tri e.1 g.1 h a b)
        (λ m n e g h. sym (put u t n.tri m.tri g.1 e.1 h b a))
        (member_for slab w.members w.are i t p ra) (member_for slab w.members w.are j u q rb)
      where
        put : (t u t' u' : Tri) → t' ≡ t → u' ≡ u → (TriangleHolds s x y t' → TriangleHolds s x y u' → SameHeight s x y t' u')
            → TriangleHolds s x y t → TriangleHolds s x y u → SameHeight s x y t u
        put t u t' u' e f h = subst (λ (z : Tri). TriangleHolds s x y z → TriangleHolds s x y u → SameHeight s x y z u) e
            (subst (λ (z : Tri). TriangleHolds s x y t' → TriangleHolds s x y z → SameHeight s x y t' z) f h)

    module _ (lines : (below above : Slab) → IsSlab levels below → IsSlab levels above → below.high ≡ above.low
        → AgreesOn ts below above) where
      across : (below above : Slab) → IsSlab levels below → IsSlab levels above → below.high ≡ above.low → (s x y : ℤ)
          → pos 0 <ℤ s → y ≡ s *ℤ below.high → (i j : ℕ) (t u : Tri) → IsAt ts i t → IsAt ts j u
          → Reaches below t → Reaches above u → TriangleHolds s x y t → TriangleHolds s x y u → SameHeight s x y t u
      across below above is is' e s x y hs f i j t u p q ra rb a b =
          let w = slabs below is in let w' = slabs above is' in
          some_elim (IsFor i t below) w.members
          (λ m g. some_elim (IsFor j u above) w'.members
          (λ n h. subst (λ (z : ℤ). TriangleHolds s x z t → TriangleHolds s x z u → SameHeight s x z t u) (sym f)
          (at_level m n g h) a b)
          (member_for above w'.members w'.are j u q rb))
          (member_for below w.members w.are i t p ra)
        where
          at_level : (m n : Member) → IsFor i t below m → IsFor j u above n → TriangleHolds s x (s *ℤ below.high) t → TriangleHolds s x
              (s *ℤ below.high) u → SameHeight s x (s *ℤ below.high) t u
          at_level m n g h = subst (λ (z : Tri). TriangleHolds s x (s *ℤ below.high) z → TriangleHolds s x (s *ℤ below.high) u
              → SameHeight s x (s *ℤ below.high) z u) g.1
              (subst (λ (z : Tri). TriangleHolds s x (s *ℤ below.high) m.tri → TriangleHolds s x (s *ℤ below.high) z → SameHeight s x
              (s *ℤ below.high) m.tri z) h.1
              (λ c d. on_level below above is.order is'.order below.high (weaken is.order) (omega (arith, ints))
              (omega (arith, ints, e)) (omega (arith, ints, e, is'.order)) m n
              (wedge_at below is m g.2) (wedge_at above is' n h.2) (λ k o. lines below above is is' e m n k g.2 h.2 o) s
              x hs c d))

      -- a triangle that holds the point reaches through the slab below it or through the one above
      pub record IsAbove (below above : Slab) (s y : ℤ) (t : Tri) : Type 0 where
        pub reaches : Reaches above t
        pub meet : below.high ≡ above.low
        pub on : y ≡ s *ℤ below.high

      where_is : (below above : Slab) → IsSlab levels below → IsSlab levels above → (s x y : ℤ) → pos 0 <ℤ s →
          (s *ℤ below.low) <ℤ y → y ≤ℤ (s *ℤ below.high) → (s *ℤ above.low) ≤ℤ y → y <ℤ (s *ℤ above.high)
          → (i : ℕ) (t : Tri) → IsAt ts i t → TriangleHolds s x y t → Reaches below t ⊎ IsAbove below above s y t
      where_is below above is is' s x y hs l₁ l₂ l₃ l₄ i t p a =
          ⊎_elim (λ d. inl (record { down = d; up = goes_up below is i t p s x y a l₁ }))
          (λ n. inr (
          let on : y ≡ s *ℤ below.high =
          omega (arith, ints, l₂, above_least t (ccw i t p) s x y a below.high n.a n.b n.c) in
          let meet : below.high ≡ above.low =
          ⊎_elim (λ h. omega (arith, ints, h, most_out s above.low below.high hs (omega (arith, ints, l₃, on))))
          (λ h. absurd (omega (arith, ints, on, l₄, most_in s above.high below.high (weaken hs) h)))
          (contains_all (Between above) levels below.high is'.none_between is.high) in
          record {
            reaches = record {
              down = goes_down above is' i t p s x y a l₄;
              up = ⊎_elim (λ u. u) (λ m. absurd (flat t (ccw i t p) (omega (arith, ints, meet, n.a, n.b, m.a, m.b))
                  (omega (arith, ints, meet, n.a, n.c, m.a, m.c)))) (up_or above t (sides_of above is' i t p));
            };
            meet = meet;
            on = on;
          })) (down_or below t (sides_of below is i t p))

      one_pair : (s x y : ℤ) → pos 1 ≤ℤ s → (i j : ℕ) (t u : Tri) → i < j → IsAt ts i t → IsAt ts j u → TriangleHolds s x y t
          → TriangleHolds s x y u → SameHeight s x y t u
      one_pair s x y hs i j t u l p q a b =
          let scale_nonnegative : pos 0 ≤ℤ s = omega (arith, ints, hs) in
          let scale_positive : pos 0 <ℤ s = omega (arith, ints, hs) in
          let ta = all_at IsTileTri ts i t placed.on_tile p.0 p.1 in let tb =
          all_at IsTileTri ts j u placed.on_tile q.0 q.1 in
          let above_south : pos 0 ≤ℤ y = omega (
            arith,
            ints,
            above_least t (ccw i t p) s x y a (pos 0) ta.a.south ta.b.south ta.c.south,
            by_ring (mul (var 0) (num 0)) (num 0) (s ∷ []) refl,
          ) in
          let below_north : y ≤ℤ (s *ℤ pos 32767) = below_greatest t (ccw i t p) s x y a
          (pos 32767) ta.a.north ta.b.north ta.c.north in
          by_lt_z (pos 0) y
          (λ k. by_lt_z y (s *ℤ pos 32767)
          (λ m.
          let c = ceiling_at s y k below_north in let f = floor_at s y above_south m in
          let wt = where_is c.slab f.slab c.is f.is s x y scale_positive c.low c.high f.low f.high i t p a in
          let wu = where_is c.slab f.slab c.is f.is s x y scale_positive c.low c.high f.low f.high j u q b in
          ⊎_elim
          (λ rt. ⊎_elim
          (λ ru. same_in c.slab c.is s x y scale_nonnegative (weaken c.low) c.high i j t u l p q rt ru a b)
          (λ ru. across c.slab f.slab c.is f.is ru.meet s x y scale_positive ru.on i j t u p q rt ru.reaches a b) wu)
          (λ rt. ⊎_elim
          (λ ru. sym (across c.slab f.slab c.is f.is rt.meet s x y scale_positive rt.on j i u t q p ru rt.reaches b a))
          (λ ru. same_in f.slab f.is s x y scale_nonnegative f.low (weaken f.high) i j t u l p q
          rt.reaches ru.reaches a b) wu) wt)
          (λ m.
          let c = ceiling_at s y k below_north in
          same_in c.slab c.is s x y scale_nonnegative (weaken c.low) c.high i j t u l p q (at_top c i t p ta a m)
          (at_top c j u q tb b m) a b))
          (λ k.
          let f = floor_at s y above_south (omega (arith, ints, k, hs)) in
          same_in f.slab f.is s x y scale_nonnegative f.low (weaken f.high) i j t u l p q (at_bottom f i t p ta a k)
          (at_bottom f j u q tb b k) a b)
        where
          at_top : (c : SlabAt (λ v. (s *ℤ v) <ℤ y) (λ v. y ≤ℤ (s *ℤ v))) (i : ℕ) (t : Tri) → IsAt ts i t → IsTileTri t
              → TriangleHolds s x y t → (s *ℤ pos 32767) ≤ℤ y → Reaches c.slab t
          at_top c i t p z a m =
              let e : pos 32767 ≤ℤ c.slab.high = most_out s (pos 32767) c.slab.high (omega (arith, ints, hs))
              (omega (arith, ints, m, c.high)) in
              record {
                down = ⊎_elim (λ d. d) (λ n. absurd (flat t (ccw i t p) (omega (
                  arith,
                  ints,
                  e,
                  n.a,
                  n.b,
                  z.a.north,
                  z.b.north,
                )) (omega (arith, ints, e, n.a, n.c, z.a.north, z.c.north))))
                    (down_or c.slab t (sides_of c.slab c.is i t p));
                up = goes_up c.slab c.is i t p s x y a c.low;
              }

          at_bottom : (c : SlabAt (λ v. (s *ℤ v) ≤ℤ y) (λ v. y <ℤ (s *ℤ v))) (i : ℕ) (t : Tri) → IsAt ts i t
              → IsTileTri t → TriangleHolds s x y t → y ≤ℤ pos 0 → Reaches c.slab t
          at_bottom c i t p z a m =
              let e : c.slab.low ≤ℤ pos 0 = most_out s c.slab.low (pos 0) (omega (arith, ints, hs)) (omega (
                arith,
                ints,
                m,
                c.low,
                by_ring (mul (var 0) (num 0)) (num 0) (s ∷ []) refl,
              )) in
              record {
                down = goes_down c.slab c.is i t p s x y a c.high;
                up = ⊎_elim (λ d. d) (λ n. absurd (flat t (ccw i t p) (omega (
                  arith,
                  ints,
                  e,
                  n.a,
                  n.b,
                  z.a.south,
                  z.b.south,
                )) (omega (arith, ints, e, n.a, n.c, z.a.south, z.c.south))))
                    (up_or c.slab t (sides_of c.slab c.is i t p));
              }

      pub one_height : (s x y : ℤ) → pos 1 ≤ℤ s → OneHeight s x y ts
      one_height s x y hs i j d l k =
          one_pair s x y hs i j (slice_index_or ts i d) (slice_index_or ts j d) l (
            omega (arith, l, k),
            at_own ts i d (omega (arith, l, k)),
          ) (k, at_own ts j d k)

-- the soundness of the audit
pub sound : (levels : List ℤ) (ts : List Tri) → ArePlaced levels ts → IsSwept levels ts → Covers ts
sound levels ts placed swept = record {
  on_tile = placed.on_tile;
  counter_clockwise = swept.turned;
  full = full levels ts placed swept.turned swept.slabs;
  once = once levels ts placed swept.turned swept.slabs;
  one_height = one_height levels ts placed swept.turned swept.slabs swept.lines;
}
