-- The triangles of two neighbouring slabs agree on the level between them where a witness stands at each left end and
-- at the east edge.
use Rattle.std.proofs.Common.{◌≡◌, ℕ, refl, sym, subst, arith, List, [], ◌∷◌, ⊎_elim}
use Rattle.std.specs.Prelude.{ℤ, pos, ◌*ℤ◌, ◌≤ℤ◌, ◌<ℤ◌, All, slice_index_or}
use Rattle.std.specs.List.{AllByRecursion}
use Rattle.std.proofs.lemmas.Int.{ints, by_lt_z}
use Rattle.common_laws.proofs.Lists.{all_weaker}
use Rattle.polynomial.proofs.Signs.{weaken}
use Rattle.mesh_plane.specs.declared.corner.Tri.{Tri}
use Rattle.mesh_plane.specs.Plane.{TriangleHolds, IsCounterClockwise}
use Rattle.mesh_plane.specs.Surface.{SameHeight}
use Rattle.mesh_check.specs.Slab.{Slab, Segment, Member, under, over, IsSame, SameAt, east, west, Joined}
use Rattle.mesh_check.specs.Members.{IsSlab, ArePlaced, IsWhole, IsListed, HoldsEnd, AgreesOn, AreMembers}
use Rattle.mesh_check.proofs.Leads.{rises}
use Rattle.mesh_check.proofs.Held.{most_in}
use Rattle.mesh_check.proofs.ListFacts.{one_at, all_at, find}
use Rattle.mesh_check.proofs.Sound.{same_in}
use Rattle.mesh_check.proofs.Exact.{has_all, listed_all, reaches_down, one_members}
use Rattle.mesh_check.proofs.Ends.{Agreed, agreed_moved, Witness, agreed_from, rights}

module _ (levels : List ℤ) (ts : List Tri) (placed : ArePlaced levels ts) (turned : All IsCounterClockwise ts)
    (slabs : (slab : Slab) → IsSlab levels slab → IsWhole slab ts) where
  -- two members of a slab, at one place or at two
  one_in : (slab : Slab) → IsSlab levels slab → (s x y : ℤ) → pos 0 ≤ℤ s → (s *ℤ slab.low) ≤ℤ y → y ≤ℤ (s *ℤ slab.high)
      → (m n : Member) → IsListed slab ts m → IsListed slab ts n
      → TriangleHolds s x y m.tri → TriangleHolds s x y n.tri → SameHeight s x y m.tri n.tri
  one_in slab is s x y hs ly hy m n l k i j =
      let rm = reaches_down slab is.order ts m.tri m.left l.is.down l.is.left.low l.is.left.high in
      let rn = reaches_down slab is.order ts n.tri n.left k.is.down k.is.left.low k.is.left.high in
      by_lt_z (pos m.number) (pos n.number)
      (λ h. same_in levels ts placed turned slabs slab is s x y hs ly hy m.number n.number m.tri n.tri
      (omega (arith, ints, h)) l.at k.at rm rn i j)
      (λ h. by_lt_z (pos n.number) (pos m.number)
      (λ g. sym (same_in levels ts placed turned slabs slab is s x y hs ly hy n.number m.number n.tri m.tri
      (omega (arith, ints, g)) k.at l.at rn rm j i))
      (λ g. one m n l k (omega (arith, ints, h, g))))
    where
      one : (m n : Member) → IsListed slab ts m → IsListed slab ts n → m.number ≡ n.number
          → SameHeight s x y m.tri n.tri
      one m n l k e = subst (λ (z : Tri). SameHeight s x y m.tri z) (one_at ts n.number m.tri n.tri k.at.0
          (subst (λ (j : ℕ). slice_index_or ts j m.tri ≡ m.tri) e l.at.1) k.at.1) refl

  ccw : (slab : Slab) (m : Member) → IsListed slab ts m → IsCounterClockwise m.tri
  ccw slab m l = all_at IsCounterClockwise ts m.number m.tri turned l.at.0 l.at.1

  abbrev Up : Segment → Type 0
  Up g = pos 0 <ℤ under g

  ups : (slab : Slab) → IsSlab levels slab → (m : Member) → IsListed slab ts m → Up m.left × Up m.right
  ups slab is m l = (rises slab is.order m.left l.is.left, rises slab is.order m.right l.is.right)

  module _ (below above : Slab) (is : IsSlab levels below) (is' : IsSlab levels above)
      (e : below.high ≡ above.low) where
    abbrev v : ℤ
    v = below.high

    one_below : (g : Segment) → Up g → (m n : Member) → IsListed below ts m → IsListed below ts n → HoldsEnd g v m.tri
        → HoldsEnd g v n.tri → SameAt g v m.tri n.tri
    one_below g u m n l k i j =
        one_in below is (under g) (over g v) (under g *ℤ v) (weaken u) (most_in (under g) below.low v (weaken u)
        (weaken is.order)) (most_in (under g) v v (weaken u) (omega (arith, ints))) m n l k i j

    one_above : (g : Segment) → Up g → (m n : Member) → IsListed above ts m → IsListed above ts n → HoldsEnd g v m.tri
        → HoldsEnd g v n.tri → SameAt g v m.tri n.tri
    one_above g u m n l k i j =
        one_in above is' (under g) (over g v) (under g *ℤ v) (weaken u) (most_in (under g) above.low v (weaken u)
        (omega (arith, ints, e)))
        (most_in (under g) v above.high (weaken u) (omega (arith, ints, e, is'.order))) m n l k i j

    all_pairs : (g : Segment) → Up g → Witness below above ts v g → Agreed below above ts v g
    all_pairs g u w = agreed_from below above ts v g (one_below g u) (one_above g u) (ccw below) (ccw above) w

    abbrev C : Segment → Type 0
    C g = Agreed below above ts v g

    move_below : (g h : Segment) → Up g → Up h → IsSame below g h → C h → C g
    move_below g h u w s a = agreed_moved below above ts h g v (sym s.high) w u a

    move_above : (g h : Segment) → Up g → Up h → IsSame above g h → C h → C g
    move_above g h u w s a = agreed_moved below above ts h g v
        (sym (subst (λ (z : ℤ). over g z *ℤ under h ≡ over h z *ℤ under g) (sym e) s.low)) w u a

    -- of the members of one slab
    sides : (slab : Slab) → IsSlab levels slab → ((g h : Segment) → Up g → Up h → IsSame slab g h → C h → C g) →
        (ms : List Member) → AreMembers slab ts ms → Joined slab west ms
        → AllByRecursion (λ m. Witness below above ts v m.left) ms → C east → (m : Member) → IsListed slab ts m
        → C m.left × C m.right
    sides slab i move ms a j ws c m l =
        let ls = listed_all slab i.order ts ms a in
        let us = all_weaker (IsListed slab ts) (λ k. Up k.left × Up k.right) (ups slab i) ms ls in
        let lefts = lefts_of ms us ws in
        let both = rights C Up slab move west ms (omega (arith, ints)) us (omega (arith, ints)) j lefts c in
        let here = (has_all slab i.order ts (m ∷ []) ms a ls (l, tt)).0 in (
          find (λ k. C k.left) (λ k. m ≡ k) ms (λ k p q. subst (λ (z : Member). C z.left) (sym q) p) lefts here,
          find (λ k. C k.right) (λ k. m ≡ k) ms (λ k p q. subst (λ (z : Member). C z.right) (sym q) p) both.1 here,
        )
      where
        lefts_of : (ms : List Member) → AllByRecursion (λ k. Up k.left × Up k.right) ms → AllByRecursion
            (λ m. Witness below above ts v m.left) ms → AllByRecursion (λ m. C m.left) ms
        lefts_of [] us ws = tt
        lefts_of (k ∷ ks) us ws = (all_pairs k.left us.0.0 ws.0, lefts_of ks us.1 ws.1)

    pub lines_from_ends : AllByRecursion (λ m. Witness below above ts v m.left) (slabs below is).members
        → AllByRecursion (λ n. Witness below above ts v n.left) (slabs above is').members
        → Witness below above ts v east → AgreesOn ts below above
    lines_from_ends lower upper last m n g l k o i j =
        let c = all_pairs east (omega (arith, ints)) last in
        let w = slabs below is in let w' = slabs above is' in
        let p = sides below is move_below w.members w.are w.joined lower c m l in
        let q = sides above is' move_above w'.members w'.are w'.joined upper c n k in
        at g m n l k (⊎_elim (λ f. put g m.left f p.0) (λ f. ⊎_elim (λ f. put g m.right f p.1)
        (λ f. ⊎_elim (λ f. put g n.left f q.0) (λ f. put g n.right f q.1) f) f) o) i j
      where
        put : (g h : Segment) → g ≡ h → C h → C g
        put g h f c = subst (λ (z : Segment). C z) (sym f) c

        at : (g : Segment) (m n : Member) → IsListed below ts m → IsListed above ts n → C g → HoldsEnd g v m.tri
            → HoldsEnd g v n.tri → SameAt g v m.tri n.tri
        at g m n l k c i j = c m n l k i j

    -- all ends of each slab, by a list of its members
    joined_of : (slab : Slab) (i : IsSlab levels slab) (ms : List Member) → AreMembers slab ts ms → Joined slab west ms
    joined_of slab i ms a = let w = slabs slab i in subst (λ (ks : List Member). Joined slab west ks)
        (one_members slab i.order ts w.members ms w.are a) w.joined

    pub ends_below : (ms : List Member) → AreMembers below ts ms → AllByRecursion
        (λ m. Witness below above ts v m.left) ms → Witness below above ts v east
        → (m : Member) → IsListed below ts m → C m.left × C m.right
    ends_below ms a ws last m l = sides below is move_below ms a (joined_of below is ms a) ws
        (all_pairs east (omega (arith, ints)) last) m l

    pub ends_above : (ms : List Member) → AreMembers above ts ms → AllByRecursion
        (λ m. Witness below above ts v m.left) ms → Witness below above ts v east
        → (m : Member) → IsListed above ts m → C m.left × C m.right
    ends_above ms a ws last m l = sides above is' move_above ms a (joined_of above is' ms a) ws
        (all_pairs east (omega (arith, ints)) last) m l
