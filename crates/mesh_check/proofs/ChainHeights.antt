-- Joined members with joined heights give each point of the slab one height.
use Rattle.std.proofs.Common.{arith, List, [], ◌∷◌}
use Rattle.std.specs.Prelude.{ℤ, pos, ◌*ℤ◌, ◌≤ℤ◌, ◌<ℤ◌}
use Rattle.std.specs.List.{AllByRecursion}
use Rattle.std.proofs.lemmas.Int.{ints, by_lt_z}
use Rattle.common_laws.proofs.Lists.{all_weaker}
use Rattle.mesh_plane.specs.Plane.{TriangleHolds, IsCounterClockwise}
use Rattle.mesh_plane.specs.Surface.{SameHeight}
use Rattle.mesh_check.specs.Slab.{Slab, under, over, IsSame, Member, Joined, HeightsJoined}
use Rattle.mesh_check.proofs.Wedges.{beside}
use Rattle.mesh_check.proofs.Leads.{lead, lead_at, rises, no_lead, still_left, still_right}
use Rattle.mesh_check.proofs.Chains.{IsWedge, later_strictly_left}
use Rattle.mesh_check.proofs.Mixes.{same_through, along}

pub all_with : {X : Type 0} (P Q R : X → Type 0) → ((x : X) → P x → Q x → R x) → (xs : List X) → AllByRecursion P xs
    → AllByRecursion Q xs → AllByRecursion R xs
all_with P Q R f [] h k = tt
all_with P Q R f (x ∷ xs) h k = (f x h.0 k.0, all_with P Q R f xs h.1 k.1)

module _ (slab : Slab) (gap : slab.low <ℤ slab.high) (floor : pos 0 ≤ℤ slab.low) (ceiling : slab.high ≤ℤ pos 32767)
    (s x y : ℤ) (hs : pos 0 ≤ℤ s) (ly : (s *ℤ slab.low) ≤ℤ y) (hy : y ≤ℤ (s *ℤ slab.high)) where
  abbrev pub Same : Member → Member → Type 0
  Same m n = TriangleHolds s x y m.tri → TriangleHolds s x y n.tri → SameHeight s x y m.tri n.tri

  abbrev pub IsTurned : Member → Type 0
  IsTurned m = IsWedge slab m × IsCounterClockwise m.tri

  wedges : (ms : List Member) → AllByRecursion IsTurned ms → AllByRecursion (IsWedge slab) ms
  wedges ms ws = all_weaker IsTurned (IsWedge slab) (λ m w. w.0) ms ws

  -- two neighbours, at a point that is not right of the first and not left of the second
  next_to : (m n : Member) → IsTurned m → IsTurned n → IsSame slab m.right n.left
      → SameHeight (under n.left) (over n.left slab.low) (under n.left *ℤ slab.low) m.tri n.tri
      → SameHeight (under n.left) (over n.left slab.high) (under n.left *ℤ slab.high) m.tri n.tri
      → pos 0 ≤ℤ beside m.right s x y → beside n.left s x y ≤ℤ pos 0 → SameHeight s x y m.tri n.tri
  next_to m n w v e h₁ h₂ a b =
      let c : pos 0 ≤ℤ beside n.left s x y =
      still_left m.right n.left s x y (rises slab gap m.right w.0.right) (rises slab gap n.left v.0.left)
      (omega (arith, ints, no_lead slab gap m.right n.left e s y)) a in
      along slab gap n.left (rises slab gap n.left v.0.left) m.tri n.tri s x y (omega (arith, ints, b, c)) h₁ h₂

  from_one : (m : Member) (ms : List Member) → IsTurned m → AllByRecursion IsTurned ms → Joined slab m.right ms
      → HeightsJoined slab m ms
      → TriangleHolds s x y m.tri → AllByRecursion (λ n. TriangleHolds s x y n.tri → SameHeight s x y m.tri n.tri) ms
  from_one m [] w ws j k i = tt
  from_one m (n ∷ ms) w ws j k i =
      let a : pos 0 ≤ℤ beside m.right s x y = (w.0.inside s x y i).1 in
      let un = rises slab gap n.left ws.0.0.left in
      let c : pos 0 ≤ℤ beside n.left s x y =
      still_left m.right n.left s x y (rises slab gap m.right w.0.right) un (omega (
        arith,
        ints,
        no_lead slab gap m.right n.left j.0 s y,
      )) a in
      let wide : pos 0 ≤ℤ lead n.left n.right s y = omega (
        arith,
        ints,
        ws.0.0.wide s x y hs ly hy,
        lead_at n.left n.right s x y,
      ) in (
        (λ l. next_to m n w ws.0 j.0 k.0 k.1 a (ws.0.0.inside s x y l).0),
        by_lt_z (pos 0) (beside n.right s x y)
            (λ far. all_with IsTurned (λ o. pos 0 <ℤ beside o.left s x y)
            (λ o. TriangleHolds s x y o.tri → SameHeight s x y m.tri o.tri)
            (λ o v l h. absurd (omega (arith, ints, l, (v.0.inside s x y h).0)))
            ms ws.1 (later_strictly_left slab gap floor ceiling s x y hs ly hy n.right ms ws.0.0.right j.1
            (wedges ms ws.1) far))
            (λ near.
            let b : beside n.left s x y ≤ℤ pos 0 = still_right n.left n.right s x y un
            (rises slab gap n.right ws.0.0.right) wide near in
            let d : pos 0 ≤ℤ beside n.right s x y = still_left n.left n.right s x y un
            (rises slab gap n.right ws.0.0.right) wide c in
            let held : TriangleHolds s x y n.tri = ws.0.0.holds s x y hs ly hy b d in
            all_weaker (λ o. TriangleHolds s x y o.tri → SameHeight s x y n.tri o.tri)
            (λ o. TriangleHolds s x y o.tri → SameHeight s x y m.tri o.tri)
            (λ o f h. same_through m.tri n.tri o.tri s x y ws.0.1 (next_to m n w ws.0 j.0 k.0 k.1 a b) (f h))
            ms (from_one n ms ws.0 ws.1 j.1 k.2 held)),
      )

  abbrev pub EachSame : List Member → Type 0
  EachSame [] = Unit {0}
  EachSame (m ∷ ms) = AllByRecursion (λ n. TriangleHolds s x y m.tri → TriangleHolds s x y n.tri → SameHeight s x y m.tri n.tri) ms
      × EachSame ms

  later : (H : Type 0) (X : Member → Type 0) (ms : List Member) → (H → AllByRecursion X ms) → AllByRecursion
      (λ m. H → X m) ms
  later H X [] f = tt
  later H X (m ∷ ms) f = (λ h. (f h).0, later H X ms (λ h. (f h).1))

  from_each : (m : Member) (ms : List Member) → IsTurned m → AllByRecursion IsTurned ms → Joined slab m.right ms
      → HeightsJoined slab m ms → EachSame (m ∷ ms)
  from_each m [] w ws j k = (tt, tt)
  from_each m (n ∷ ms) w ws j k = (
    later (TriangleHolds s x y m.tri) (λ o. TriangleHolds s x y o.tri → SameHeight s x y m.tri o.tri) (n ∷ ms)
        (λ i. from_one m (n ∷ ms) w ws j k i),
    from_each n ms ws.0 ws.1 j.1 k.2,
  )

  pub chain_heights : (m : Member) (ms : List Member) → AllByRecursion IsTurned (m ∷ ms) → Joined slab m.right ms
      → HeightsJoined slab m ms → EachSame (m ∷ ms)
  chain_heights m ms w j k = from_each m ms w.0 w.1 j k
