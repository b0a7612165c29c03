-- Members that are joined from the west edge to the east edge cover the slab once.
use Rattle.std.proofs.Common.{arith, List, [], ◌∷◌, inl, inr}
use Rattle.std.specs.Prelude.{◌⊎◌, ℤ, pos, ◌*ℤ◌, ◌≤ℤ◌, ◌<ℤ◌}
use Rattle.std.specs.List.{AllByRecursion}
use Rattle.std.proofs.lemmas.Int.{ints, by_lt_z}
use Rattle.polynomial.proofs.Signs.{weaken}
use Rattle.mesh_plane.specs.Plane.{TriangleHolds, TriangleHoldsInside}
use Rattle.mesh_check.specs.Slab.{Slab, Segment, Spans, IsSame, west, east, Member, Joined}
use Rattle.mesh_check.proofs.Wedges.{beside, Wedge}
use Rattle.mesh_check.proofs.Leads.{lead, lead_at, rises, no_lead, same_back, still_left, still_strictly_left}
use Rattle.mesh_check.proofs.Leads.{still_right, still_strictly_right, beside_east, beside_west}

abbrev pub Some : {X : Type 0} → (X → Type 0) → List X → Type 0
Some P [] = ⊥
Some P (x ∷ xs) = P x ⊎ Some P xs

abbrev pub IsWedge : Slab → Member → Type 0
IsWedge slab m = Wedge slab m.tri m.left m.right

module _ (slab : Slab) (gap : slab.low <ℤ slab.high) (floor : pos 0 ≤ℤ slab.low)
    (ceiling : slab.high ≤ℤ pos 32767) where
  pub spans_east : Spans slab east
  spans_east = record { low = floor; high = ceiling }

  pub spans_west : Spans slab west
  spans_west = record { low = floor; high = ceiling }

  module _ (s x y : ℤ) (hs : pos 0 ≤ℤ s) (ly : (s *ℤ slab.low) ≤ℤ y) (hy : y ≤ℤ (s *ℤ slab.high)) where
    -- east of a member's left segment: held, or strictly right of it
    passed : (m : Member) → IsWedge slab m → beside m.left s x y ≤ℤ pos 0 → TriangleHolds s x y m.tri ⊎
        (beside m.right s x y <ℤ pos 0)
    passed m w l = by_lt_z (beside m.right s x y) (pos 0) (λ k. inr k) (λ k. inl (w.holds s x y hs ly hy l k))

    widens : (m : Member) → IsWedge slab m → pos 0 ≤ℤ lead m.left m.right s y
    widens m w = omega (arith, ints, w.wide s x y hs ly hy, lead_at m.left m.right s x y)

    same : (g h : Segment) → IsSame slab g h → pos 0 ≤ℤ lead g h s y
    same g h e = omega (arith, ints, no_lead slab gap g h e s y)

    back : (g h : Segment) → IsSame slab g h → pos 0 ≤ℤ lead h g s y
    back g h e = omega (arith, ints, no_lead slab gap h g (same_back slab gap g h e) s y)

    -- ---- each point is held
    from_here : (g : Segment) (ms : List Member) → Spans slab g → Joined slab g ms → AllByRecursion (IsWedge slab) ms
        → x ≤ℤ (pos 32767 *ℤ s) → beside g s x y <ℤ pos 0 → Some (λ m. TriangleHolds s x y m.tri) ms
    from_here g [] i j w e r =
        absurd (omega (
          arith,
          ints,
          e,
          beside_east s x y,
          still_strictly_right east g s x y (rises slab gap east spans_east) (rises slab gap g i) (back g east j) r,
        ))
    from_here g (m ∷ ms) i j w e r =
        go (passed m w.0 (weaken (still_strictly_right m.left g s x y (rises slab gap m.left w.0.left)
        (rises slab gap g i) (back g m.left j.0) r)))
        (from_here m.right ms w.0.right j.1 w.1 e)
      where
        go : TriangleHolds s x y m.tri ⊎ (beside m.right s x y <ℤ pos 0) → (beside m.right s x y <ℤ pos 0 → Some
            (λ m. TriangleHolds s x y m.tri) ms)
            → TriangleHolds s x y m.tri ⊎ Some (λ m. TriangleHolds s x y m.tri) ms
        go (inl h) k = inl h
        go (inr h) k = inr (k h)

    pub chain_full : (ms : List Member) → Joined slab west ms → AllByRecursion (IsWedge slab) ms
        → pos 0 ≤ℤ x → x ≤ℤ (pos 32767 *ℤ s) → Some (λ m. TriangleHolds s x y m.tri) ms
    chain_full [] j w a b = absurd (omega (arith, ints, j.low))
    chain_full (m ∷ ms) j w a b =
        go (passed m w.0 (still_right m.left west s x y (rises slab gap m.left w.0.left)
        (rises slab gap west spans_west) (back west m.left j.0) (omega (arith, ints, a, beside_west s x y))))
        (from_here m.right ms w.0.right j.1 w.1 b)
      where
        go : TriangleHolds s x y m.tri ⊎ (beside m.right s x y <ℤ pos 0) → (beside m.right s x y <ℤ pos 0 → Some
            (λ m. TriangleHolds s x y m.tri) ms)
            → TriangleHolds s x y m.tri ⊎ Some (λ m. TriangleHolds s x y m.tri) ms
        go (inl h) k = inl h
        go (inr h) k = inr (k h)

    -- ---- who is left of a segment is left of all that follow
    pub later_left : (g : Segment) (ms : List Member) → Spans slab g → Joined slab g ms → AllByRecursion
        (IsWedge slab) ms
        → pos 0 ≤ℤ beside g s x y → AllByRecursion (λ m. pos 0 ≤ℤ beside m.left s x y) ms
    later_left g [] i j w l = tt
    later_left g (m ∷ ms) i j w l =
        let k = still_left g m.left s x y (rises slab gap g i) (rises slab gap m.left w.0.left)
        (same g m.left j.0) l in (
          k,
          later_left m.right ms w.0.right j.1 w.1 (still_left m.left m.right s x y (rises slab gap m.left w.0.left)
              (rises slab gap m.right w.0.right) (widens m w.0) k),
        )

    pub later_strictly_left : (g : Segment) (ms : List Member) → Spans slab g → Joined slab g ms → AllByRecursion
        (IsWedge slab) ms
        → pos 0 <ℤ beside g s x y → AllByRecursion (λ m. pos 0 <ℤ beside m.left s x y) ms
    later_strictly_left g [] i j w l = tt
    later_strictly_left g (m ∷ ms) i j w l =
        let k = still_strictly_left g m.left s x y (rises slab gap g i) (rises slab gap m.left w.0.left)
        (same g m.left j.0) l in (
          k,
          later_strictly_left m.right ms w.0.right j.1 w.1 (still_strictly_left m.left m.right s x y
              (rises slab gap m.left w.0.left) (rises slab gap m.right w.0.right) (widens m w.0) k),
        )

    -- ---- no point is held strictly by two
    abbrev pub Apart : Member → Member → Type 0
    Apart m n = TriangleHoldsInside s x y m.tri → TriangleHoldsInside s x y n.tri → ⊥

    abbrev pub EachApart : List Member → Type 0
    EachApart [] = Unit {0}
    EachApart (m ∷ ms) = AllByRecursion (Apart m) ms × EachApart ms

    none : (m : Member) (ms : List Member) → AllByRecursion (IsWedge slab) ms → (TriangleHoldsInside s x y m.tri
        → AllByRecursion (λ n. pos 0 <ℤ beside n.left s x y) ms)
        → AllByRecursion (Apart m) ms
    none m [] w f = tt
    none m (n ∷ ms) w f = (
      λ i j. omega (arith, ints, (f i).0, (w.0.strictly_inside s x y j).0),
      none m ms w.1 (λ i. (f i).1),
    )

    pub chain_once : (g : Segment) (ms : List Member) → Joined slab g ms → AllByRecursion (IsWedge slab) ms
        → EachApart ms
    chain_once g [] j w = tt
    chain_once g (m ∷ ms) j w = (
      none m ms w.1 (λ i. later_strictly_left m.right ms w.0.right j.1 w.1 (w.0.strictly_inside s x y i).1),
      chain_once m.right ms j.1 w.1,
    )
