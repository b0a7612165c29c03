-- Where the members of a slab hold each point of the line halfway up, and no two of them hold a point strictly, they
-- are joined from the
-- west edge to the east edge.
use Rattle.std.proofs.Common.{◌≡◌, refl, arith, List, [], ◌∷◌, inl, inr, ⊎_elim}
use Rattle.std.specs.Prelude.{ℤ, pos, ◌+ℤ◌, ◌-ℤ◌, ◌*ℤ◌, ◌≤ℤ◌, ◌<ℤ◌}
use Rattle.std.specs.List.{AllByRecursion}
use Rattle.std.proofs.lemmas.Int.{ints, by_lt_z}
use Rattle.polynomial.proofs.Expressions.{var, num, add, sub, mul}
use Rattle.polynomial.proofs.NormalForm.{by_ring}
use Rattle.polynomial.proofs.Signs.{times_nonneg, factor_pos, weaken}
use Rattle.mesh_plane.specs.Plane.{TriangleHolds, IsOnTile}
use Rattle.mesh_check.specs.Slab.{Slab, Segment, under, Spans, IsSame, west, east, Member, Joined}
use Rattle.mesh_check.proofs.Wedges.{beside}
use Rattle.mesh_check.proofs.Leads.{lead, lead_at, lead_over, rises, no_lead, still_strictly_left, still_strictly_right}
use Rattle.mesh_check.proofs.Leads.{beside_east, besides, rise, leads, ends}
use Rattle.mesh_check.proofs.Chains.{Some, IsWedge, spans_east, spans_west}
use Rattle.mesh_check.proofs.Between.{amid, Both, crossing, lead_times}

pub record IsIn (g : Segment) : Type 0 where
  pub low : IsOnTile g.low
  pub high : IsOnTile g.high

-- ---- a segment of the tile
module _ (slab : Slab) (g : Segment) (i : Spans slab g) (t : IsIn g) (gap : slab.low <ℤ slab.high) where
  under_pos : pos 0 <ℤ under g
  under_pos = rises slab gap g i

  module _ (s x y : ℤ) (hs : pos 0 ≤ℤ s) (ly : (s *ℤ slab.low) ≤ℤ y) (hy : y ≤ℤ (s *ℤ slab.high)) where
    -- what is east of it, in both parts
    parts_west : beside g s x y ≡ (g.low.u *ℤ (s *ℤ g.high.v -ℤ y) +ℤ g.high.u *ℤ (y -ℤ s *ℤ g.low.v)) -ℤ under g *ℤ x
    parts_west =
        by_ring (besides 0 (var 0) (var 1) (var 2))
        (sub (add (mul (var 3) (sub (mul (var 0) (var 6)) (var 2))) (mul (var 5) (sub (var 2) (mul (var 0) (var 4)))))
        (mul (rise 0) (var 1)))
        (s ∷ x ∷ y ∷ ends (g ∷ [])) refl

    parts_east : beside g s x y ≡ under g *ℤ (pos 32767 *ℤ s -ℤ x) -ℤ ((pos 32767 -ℤ g.low.u) *ℤ (s *ℤ g.high.v -ℤ y) +ℤ
        (pos 32767 -ℤ g.high.u) *ℤ (y -ℤ s *ℤ g.low.v))
    parts_east =
        by_ring (besides 0 (var 0) (var 1) (var 2))
        (sub (mul (rise 0) (sub (mul (num 32767) (var 0)) (var 1)))
        (add (mul (sub (num 32767) (var 3)) (sub (mul (var 0) (var 6)) (var 2))) (mul (sub (num 32767) (var 5))
        (sub (var 2) (mul (var 0) (var 4))))))
        (s ∷ x ∷ y ∷ ends (g ∷ [])) refl

    higher : pos 0 ≤ℤ (s *ℤ g.high.v -ℤ y)
    higher = omega (
      arith,
      ints,
      hy,
      times_nonneg s (g.high.v -ℤ slab.high) hs (omega (arith, ints, i.high)),
      by_ring (mul (var 0) (sub (var 1) (var 2))) (sub (mul (var 0) (var 1)) (mul (var 0) (var 2)))
          (s ∷ g.high.v ∷ slab.high ∷ []) refl,
    )

    lower : pos 0 ≤ℤ (y -ℤ s *ℤ g.low.v)
    lower = omega (
      arith,
      ints,
      ly,
      times_nonneg s (slab.low -ℤ g.low.v) hs (omega (arith, ints, i.low)),
      by_ring (mul (var 0) (sub (var 1) (var 2))) (sub (mul (var 0) (var 1)) (mul (var 0) (var 2)))
          (s ∷ slab.low ∷ g.low.v ∷ []) refl,
    )

    pub right_is_in : beside g s x y <ℤ pos 0 → pos 0 <ℤ x
    right_is_in l = factor_pos (under g) x under_pos (omega (
      arith,
      ints,
      l,
      parts_west,
      times_nonneg g.low.u (s *ℤ g.high.v -ℤ y) t.low.west higher,
      times_nonneg g.high.u (y -ℤ s *ℤ g.low.v) t.high.west lower,
    ))

    pub left_is_in : pos 0 <ℤ beside g s x y → x <ℤ (pos 32767 *ℤ s)
    left_is_in l =
        let k : pos 0 <ℤ (pos 32767 *ℤ s -ℤ x) = factor_pos (under g) (pos 32767 *ℤ s -ℤ x) under_pos (omega (
          arith,
          ints,
          l,
          parts_east,
          times_nonneg (pos 32767 -ℤ g.low.u) (s *ℤ g.high.v -ℤ y) (omega (arith, ints, t.low.east)) higher,
          times_nonneg (pos 32767 -ℤ g.high.u) (y -ℤ s *ℤ g.low.v) (omega (arith, ints, t.high.east)) lower,
        )) in
        omega (arith, ints, k)

    east_parts : lead g east s y ≡ pos 32767 *ℤ ((pos 32767 -ℤ g.low.u) *ℤ (s *ℤ g.high.v -ℤ y) +ℤ
        (pos 32767 -ℤ g.high.u) *ℤ (y -ℤ s *ℤ g.low.v))
    east_parts =
        by_ring
        (sub
        (mul (sub (mul (sub (num 32767) (num 32767)) (sub (var 2) (mul (var 0) (num 0)))) (mul (sub (num 32767) (num 0))
        (sub (num 0) (mul (var 0) (num 32767))))) (rise 0))
        (mul (besides 0 (var 0) (num 0) (var 2)) (sub (num 32767) (num 0))))
        (mul (num 32767) (add (mul (sub (num 32767) (var 3)) (sub (mul (var 0) (var 6)) (var 2)))
        (mul (sub (num 32767) (var 5)) (sub (var 2) (mul (var 0) (var 4))))))
        (s ∷ x ∷ y ∷ ends (g ∷ [])) refl

    west_parts : lead west g s y ≡ pos 32767 *ℤ (g.low.u *ℤ (s *ℤ g.high.v -ℤ y) +ℤ g.high.u *ℤ (y -ℤ s *ℤ g.low.v))
    west_parts =
        by_ring
        (sub
        (mul (besides 0 (var 0) (num 0) (var 2)) (sub (num 32767) (num 0)))
        (mul (sub (mul (sub (num 0) (num 0)) (sub (var 2) (mul (var 0) (num 0)))) (mul (sub (num 32767) (num 0))
        (sub (num 0) (mul (var 0) (num 0))))) (rise 0)))
        (mul (num 32767) (add (mul (var 3) (sub (mul (var 0) (var 6)) (var 2)))
        (mul (var 5) (sub (var 2) (mul (var 0) (var 4))))))
        (s ∷ x ∷ y ∷ ends (g ∷ [])) refl

    pub before_east : pos 0 ≤ℤ lead g east s y
    before_east = omega (
      arith,
      ints,
      east_parts,
      times_nonneg (pos 32767 -ℤ g.low.u) (s *ℤ g.high.v -ℤ y) (omega (arith, ints, t.low.east)) higher,
      times_nonneg (pos 32767 -ℤ g.high.u) (y -ℤ s *ℤ g.low.v) (omega (arith, ints, t.high.east)) lower,
    )

    pub after_west : pos 0 ≤ℤ lead west g s y
    after_west = omega (
      arith,
      ints,
      west_parts,
      times_nonneg g.low.u (s *ℤ g.high.v -ℤ y) t.low.west higher,
      times_nonneg g.high.u (y -ℤ s *ℤ g.low.v) t.high.west lower,
    )

-- ---- one place
module _ (slab : Slab) (gap : slab.low <ℤ slab.high) where
  abbrev mid : ℤ
  mid = slab.low +ℤ slab.high

  pub halves : (g h : Segment) → lead g h (pos 2) mid ≡ lead g h (pos 1) slab.low +ℤ lead g h (pos 1) slab.high
  halves g h =
      by_ring (leads 0 1 (num 2) (add (var 0) (var 1))) (add (leads 0 1 (num 1) (var 0)) (leads 0 1 (num 1) (var 1)))
      (slab.low ∷ slab.high ∷ pos 0 ∷ ends (g ∷ h ∷ [])) refl

  -- two segments with no room between them that do not cross either
  pub one_segment : (g h : Segment) → (pos 0 <ℤ lead g h (pos 2) mid → ⊥)
      → ((z : ℤ) → slab.low ≤ℤ z → z ≤ℤ slab.high → lead g h (pos 2) mid ≤ℤ pos 0 → lead g h (pos 1) z <ℤ pos 0 → ⊥)
      → IsSame slab g h
  one_segment g h room cross =
      let m : lead g h (pos 2) mid ≤ℤ pos 0 = by_lt_z (pos 0) (lead g h (pos 2) mid) (λ l. absurd (room l)) (λ l. l) in
      let a : pos 0 ≤ℤ lead g h (pos 1) slab.low = by_lt_z (lead g h (pos 1) slab.low) (pos 0)
      (λ l. absurd (cross slab.low (omega (arith, ints)) (weaken gap) m l)) (λ l. l) in
      let b : pos 0 ≤ℤ lead g h (pos 1) slab.high = by_lt_z (lead g h (pos 1) slab.high) (pos 0)
      (λ l. absurd (cross slab.high (weaken gap) (omega (arith, ints)) m l)) (λ l. l) in
      record {
        low = omega (arith, ints, halves g h, lead_over g h slab.low, m, a, b);
        high = omega (arith, ints, halves g h, lead_over g h slab.high, m, a, b);
      }

module _ (slab : Slab) (gap : slab.low <ℤ slab.high) (floor : pos 0 ≤ℤ slab.low)
    (ceiling : slab.high ≤ℤ pos 32767) where
  abbrev middle : ℤ
  middle = slab.low +ℤ slab.high

  -- each point of the line halfway up that lies on the tile and strictly right of the segment is held
  abbrev pub FullFrom : Segment → List Member → Type 0
  FullFrom g ms = (k x : ℤ) → pos 0 <ℤ k → pos 0 ≤ℤ x → x ≤ℤ (pos 32767 *ℤ (k *ℤ pos 2)) → beside g (k *ℤ pos 2) x
      (k *ℤ middle) <ℤ pos 0
      → Some (λ m. TriangleHolds (k *ℤ pos 2) x (k *ℤ middle) m.tri) ms

  -- the left segments ascend
  abbrev pub Ascend : List Member → Type 0
  Ascend [] = Unit {0}
  Ascend (m ∷ ms) = AllByRecursion (λ n. pos 0 ≤ℤ lead m.left n.left (pos 2) middle) ms × Ascend ms

  abbrev pub EachDisjoint : List Member → Type 0
  EachDisjoint [] = Unit {0}
  EachDisjoint (m ∷ ms) = AllByRecursion (λ n. Both m.tri n.tri → ⊥) ms × EachDisjoint ms

  abbrev pub NoCross : Segment → List Member → Type 0
  NoCross g [] = Unit {0}
  NoCross g (m ∷ ms) = (z : ℤ) → slab.low ≤ℤ z → z ≤ℤ slab.high → lead g m.left (pos 2) middle ≤ℤ pos 0 → lead g m.left
      (pos 1) z <ℤ pos 0 → ⊥

  abbrev pub IsWhole : Member → Type 0
  IsWhole m = IsWedge slab m × IsIn m.left × IsIn m.right

  low_in : (k : ℤ) → pos 0 <ℤ k → ((k *ℤ pos 2) *ℤ slab.low) ≤ℤ (k *ℤ middle)
  low_in k h = omega (
    arith,
    ints,
    times_nonneg k (slab.high -ℤ slab.low) (weaken h) (omega (arith, ints, gap)),
    by_ring (mul (var 0) (sub (var 1) (var 2))) (sub (mul (var 0) (add (var 2) (var 1))) (mul (mul (var 0) (num 2))
        (var 2))) (k ∷ slab.high ∷ slab.low ∷ []) refl,
  )

  high_in : (k : ℤ) → pos 0 <ℤ k → (k *ℤ middle) ≤ℤ ((k *ℤ pos 2) *ℤ slab.high)
  high_in k h = omega (
    arith,
    ints,
    times_nonneg k (slab.high -ℤ slab.low) (weaken h) (omega (arith, ints, gap)),
    by_ring (mul (var 0) (sub (var 1) (var 2))) (sub (mul (mul (var 0) (num 2)) (var 1))
        (mul (var 0) (add (var 2) (var 1)))) (k ∷ slab.high ∷ slab.low ∷ []) refl,
  )

  -- a point left of the left segment of one member is held by none that follows
  none_later : (m : Member) (ms : List Member) (k x : ℤ) → pos 0 <ℤ k → IsWhole m → AllByRecursion IsWhole ms
      → AllByRecursion (λ n. pos 0 ≤ℤ lead m.left n.left (pos 2) middle) ms → pos 0 <ℤ beside m.left (k *ℤ pos 2) x
      (k *ℤ middle)
      → Some (λ n. TriangleHolds (k *ℤ pos 2) x (k *ℤ middle) n.tri) ms → ⊥
  none_later m [] k x hk w ws a l h = elim h [ ]
  none_later m (n ∷ ms) k x hk w ws a l (inl h) =
      let e : pos 0 <ℤ beside n.left (k *ℤ pos 2) x (k *ℤ middle) =
      still_strictly_left m.left n.left (k *ℤ pos 2) x (k *ℤ middle) (rises slab gap m.left w.0.left)
      (rises slab gap n.left ws.0.0.left)
      (omega (
        arith,
        ints,
        lead_times m.left n.left k (pos 2) middle,
        times_nonneg k (lead m.left n.left (pos 2) middle)
            (weaken hk) a.0,
      )) l in
      omega (arith, ints, e, (ws.0.0.inside (k *ℤ pos 2) x (k *ℤ middle) h).0)
  none_later m (n ∷ ms) k x hk w ws a l (inr h) = none_later m ms k x hk w ws.1 a.1 l h

  next_cross : (m : Member) (ms : List Member) → IsWhole m → AllByRecursion IsWhole ms → AllByRecursion
      (λ n. pos 0 ≤ℤ lead m.left n.left (pos 2) middle) ms
      → AllByRecursion (λ n. Both m.tri n.tri → ⊥) ms → NoCross m.right ms
  next_cross m [] w ws a d = tt
  next_cross m (n ∷ ms) w ws a d = λ z lz zh i j.
      d.0 (crossing slab gap m.tri n.tri m.left m.right n.left n.right w.0 ws.0.0 z lz zh a.0 i j)

  pub places : (g : Segment) (ms : List Member) → Spans slab g → IsIn g → AllByRecursion IsWhole ms → Ascend ms
      → EachDisjoint ms → FullFrom g ms → NoCross g ms
      → Joined slab g ms
  places g [] i t ws a d full cross =
      one_segment slab gap g east
      (λ l. let p = amid g east (pos 2) middle (rises slab gap g i)
      (rises slab gap east (spans_east slab gap floor ceiling)) l in
      let hk : pos 0 ≤ℤ (p.k *ℤ pos 2) = omega (arith, ints, p.larger) in
      full p.k p.x p.larger (weaken (right_is_in slab g i t gap (p.k *ℤ pos 2) p.x (p.k *ℤ middle) hk
      (low_in p.k p.larger) (high_in p.k p.larger) p.right))
      (omega (arith, ints, p.left, beside_east (p.k *ℤ pos 2) p.x (p.k *ℤ middle))) p.right)
      (λ z lz zh l n. omega (
        arith,
        ints,
        n,
        before_east slab g i t gap (pos 1) (pos 0) z (omega (arith, ints))
            (omega (arith, ints, lz)) (omega (arith, ints, zh)),
      ))
  places g (m ∷ ms) i t ws a d full cross =
      let w = ws.0.0 in
      let um = rises slab gap m.left w.left in let ug = rises slab gap g i in
      let same : IsSame slab g m.left =
      one_segment slab gap g m.left
      (λ l. let p = amid g m.left (pos 2) middle ug um l in
      let hk : pos 0 ≤ℤ (p.k *ℤ pos 2) = omega (arith, ints, p.larger) in
      ⊎_elim (λ h. omega (arith, ints, p.left, (w.inside (p.k *ℤ pos 2) p.x (p.k *ℤ middle) h).0))
      (λ h. none_later m ms p.k p.x p.larger ws.0 ws.1 a.0 p.left h)
      (full p.k p.x p.larger (weaken (right_is_in slab g i t gap (p.k *ℤ pos 2) p.x (p.k *ℤ middle) hk
      (low_in p.k p.larger) (high_in p.k p.larger) p.right))
      (weaken (left_is_in slab m.left w.left ws.0.1 gap (p.k *ℤ pos 2) p.x (p.k *ℤ middle) hk (low_in p.k p.larger)
      (high_in p.k p.larger) p.left)) p.right))
      cross in
      let rest : FullFrom m.right ms = λ k x hk x0 x1 l.
      let hs : pos 0 ≤ℤ (k *ℤ pos 2) = omega (arith, ints, hk) in
      let s = k *ℤ pos 2 in let y = k *ℤ middle in
      let right_of_left_side = still_strictly_right m.left m.right s x y um (rises slab gap m.right w.right)
      (omega (arith, ints, w.wide s x y hs (low_in k hk) (high_in k hk), lead_at m.left m.right s x y)) l in
      let right_of_start = still_strictly_right g m.left s x y ug um
      (omega (arith, ints, no_lead slab gap g m.left same s y)) right_of_left_side in
      ⊎_elim (λ h. absurd (omega (arith, ints, l, (w.inside s x y h).1))) (λ h. h) (full k x hk x0 x1 right_of_start) in
      (same, places m.right ms w.right ws.0.2 ws.1 a.1 d.1 rest (next_cross m ms ws.0 ws.1 a.0 d.0))

  -- from the west edge on
  pub all_places : (ms : List Member) → AllByRecursion IsWhole ms → Ascend ms → EachDisjoint ms → FullFrom west ms
      → Joined slab west ms
  all_places ms ws a d full =
      places west ms (spans_west slab gap floor ceiling)
      (record {
        low = record {
          west = omega (arith, ints);
          east = omega (arith, ints);
          south = omega (arith, ints);
          north =
              omega (arith, ints);
        };
        high = record {
          west = omega (arith, ints);
          east = omega (arith, ints);
          south = omega (arith, ints);
          north =
              omega (arith, ints);
        };
      })
      ws a d full (first ms ws)
    where
      first : (ms : List Member) → AllByRecursion IsWhole ms → NoCross west ms
      first [] ws = tt
      first (m ∷ ms) ws = λ z lz zh i n.
          omega (
            arith,
            ints,
            n,
            after_west slab m.left ws.0.0.left ws.0.1 gap (pos 1) (pos 0) z (omega (arith, ints))
                (omega (arith, ints, lz)) (omega (arith, ints, zh)),
          )
