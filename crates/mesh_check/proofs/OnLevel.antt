-- On the level between two slabs, a triangle from below and one from above agree where they agree at the ends of their
-- intervals.
use Rattle.std.proofs.Common.{◌≡◌, ℕ, ◌+◌, ◌*◌, refl, ap, arith, [], ◌∷◌, inl, inr}
use Rattle.std.specs.Prelude.{ℤ, pos, ◌-ℤ◌, ◌*ℤ◌, ◌≤ℤ◌, ◌<ℤ◌}
use Rattle.std.proofs.lemmas.Int.{ints, by_lt_z}
use Rattle.polynomial.proofs.Expressions.{Expr, var, num, add, sub, mul}
use Rattle.polynomial.proofs.NormalForm.{by_ring}
use Rattle.polynomial.proofs.Signs.{times_nonneg, times_pos, factor_nonneg, weaken, by_le_z}
use Rattle.mesh_plane.specs.declared.corner.Tri.{Tri}
use Rattle.mesh_plane.specs.Plane.{TriangleHolds}
use Rattle.mesh_plane.specs.Surface.{SameHeight}
use Rattle.mesh_check.specs.Slab.{Slab, Segment, under, over, SameAt, Member}
use Rattle.mesh_check.specs.Members.{IsOneOf, HoldsEnd}
use Rattle.mesh_check.proofs.Wedges.{beside, Wedge}
use Rattle.mesh_check.proofs.Leads.{lead, lead_at, lead_on, rises, besides, rise, leads, ends}
use Rattle.mesh_check.proofs.Between.{back_lead}
use Rattle.mesh_check.proofs.Mixes.{mixed_height}

-- where the segment g meets the level v, the segment f is this far east
pub beside_end : (f g : Segment) (v : ℤ) → beside f (under g) (over g v) (under g *ℤ v) ≡ lead g f (pos 1) v
beside_end f g v =
    by_ring
    (besides 0 (rise 1) (add (mul (var 7) (sub (var 10) (var 2))) (mul (var 9) (sub (var 2) (var 8))))
    (mul (rise 1) (var 2)))
    (leads 1 0 (num 1) (var 2)) (pos 0 ∷ pos 0 ∷ v ∷ ends (f ∷ g ∷ [])) refl

lead_level : (g h : Segment) (s v : ℤ) → lead g h s (s *ℤ v) ≡ s *ℤ lead g h (pos 1) v
lead_level g h s v =
    by_ring (leads 0 1 (var 0) (mul (var 0) (var 2))) (mul (var 0) (leads 0 1 (num 1) (var 2)))
    (s ∷ pos 0 ∷ v ∷ ends (g ∷ h ∷ [])) refl

level_beside : (g : Segment) (s x v : ℤ) → beside g s x (s *ℤ v) ≡ s *ℤ over g v -ℤ under g *ℤ x
level_beside g s x v =
    by_ring (besides 0 (var 0) (var 1) (mul (var 0) (var 2)))
    (sub (mul (var 0) (add (mul (var 3) (sub (var 6) (var 2))) (mul (var 5) (sub (var 2) (var 4)))))
    (mul (rise 0) (var 1)))
    (s ∷ x ∷ v ∷ ends (g ∷ [])) refl

-- ---- between two ends
module _ (t u : Tri) (g h : Segment) (v s x : ℤ) (ug : pos 0 <ℤ under g) (uh : pos 0 <ℤ under h) (hs : pos 0 <ℤ s)
    (east_of : beside g s x (s *ℤ v) ≤ℤ pos 0) (west_of : pos 0 ≤ℤ beside h s x (s *ℤ v)) where
  pub apart : pos 0 ≤ℤ lead g h (pos 1) v
  apart =
      factor_nonneg s (lead g h (pos 1) v) hs
      (omega (
        arith,
        ints,
        lead_level g h s v,
        lead_at g h s x (s *ℤ v),
        times_nonneg (beside h s x (s *ℤ v)) (under g) west_of (weaken ug),
        times_nonneg (pos 0 -ℤ beside g s x (s *ℤ v)) (under h) (omega (arith, ints, east_of)) (weaken uh),
        by_ring (mul (sub (num 0) (var 0)) (var 1)) (sub (num 0) (mul (var 0) (var 1)))
            (beside g s x (s *ℤ v) ∷ under h ∷ []) refl,
      ))

  l : ℤ
  l = lead g h (pos 1) v

  -- at one place
  together : lead g h (pos 1) v ≡ pos 0 → SameAt g v t u → SameHeight s x (s *ℤ v) t u
  together e k =
      let z : beside g s x (s *ℤ v) ≡ pos 0 =
      by_lt_z (beside g s x (s *ℤ v)) (pos 0)
      (λ n. absurd (omega (
        arith,
        ints,
        lead_at g h s x (s *ℤ v),
        lead_level g h s v,
        ap (λ i. s *ℤ i) e,
        by_ring (mul (var 0) (num 0)) (num 0) (s ∷ []) refl,
        times_nonneg (beside h s x (s *ℤ v)) (under g) west_of (weaken ug),
        times_pos (pos 0 -ℤ beside g s x (s *ℤ v)) (under h) (omega (arith, ints, n)) uh,
        by_ring (mul (sub (num 0) (var 0)) (var 1)) (sub (num 0) (mul (var 0) (var 1)))
            (beside g s x (s *ℤ v) ∷ under h ∷ []) refl,
      )))
      (λ n. omega (arith, ints, n, east_of)) in
      mixed_height t u (under g) s x (s *ℤ v) s (under g) (over g v) (under g *ℤ v) (pos 0) (under g) (over g v)
      (under g *ℤ v) ug
      (by_ring (mul (var 0) (var 1)) (add (mul (var 1) (var 0)) (mul (num 0) (var 0))) (under g ∷ s ∷ []) refl)
      (omega (
        arith,
        ints,
        z,
        level_beside g s x v,
        by_ring (add (mul (var 1) (var 0)) (mul (num 0) (var 0))) (mul (var 1) (var 0)) (over g v ∷ s ∷ []) refl,
      ))
      (by_ring (mul (var 0) (mul (var 1) (var 2))) (add (mul (var 1) (mul (var 0) (var 2)))
      (mul (num 0) (mul (var 0) (var 2)))) (under g ∷ s ∷ v ∷ []) refl)
      k k

  abbrev levelE : ℕ → Expr
  levelE i = add (mul (var (4 * i + 3)) (sub (var (4 * i + 6)) (var 2)))
      (mul (var (4 * i + 5)) (sub (var 2) (var (4 * i + 4))))

  -- between two places
  between_ends : pos 0 <ℤ lead g h (pos 1) v → SameAt g v t u → SameAt h v t u → SameHeight s x (s *ℤ v) t u
  between_ends n j k =
      mixed_height t u (lead g h (pos 1) v) s x (s *ℤ v) (beside h s x (s *ℤ v)) (under g) (over g v) (under g *ℤ v)
      (pos 0 -ℤ beside g s x (s *ℤ v)) (under h) (over h v) (under h *ℤ v) n
      (by_ring (mul (leads 0 1 (num 1) (var 2)) (var 0))
      (add (mul (besides 1 (var 0) (var 1) (mul (var 0) (var 2))) (rise 0))
      (mul (sub (num 0) (besides 0 (var 0) (var 1) (mul (var 0) (var 2)))) (rise 1)))
      (s ∷ x ∷ v ∷ ends (g ∷ h ∷ [])) refl)
      (by_ring (mul (leads 0 1 (num 1) (var 2)) (var 1))
      (add (mul (besides 1 (var 0) (var 1) (mul (var 0) (var 2))) (levelE 0))
      (mul (sub (num 0) (besides 0 (var 0) (var 1) (mul (var 0) (var 2)))) (levelE 1)))
      (s ∷ x ∷ v ∷ ends (g ∷ h ∷ [])) refl)
      (by_ring (mul (leads 0 1 (num 1) (var 2)) (mul (var 0) (var 2)))
      (add (mul (besides 1 (var 0) (var 1) (mul (var 0) (var 2))) (mul (rise 0) (var 2)))
      (mul (sub (num 0) (besides 0 (var 0) (var 1) (mul (var 0) (var 2)))) (mul (rise 1) (var 2))))
      (s ∷ x ∷ v ∷ ends (g ∷ h ∷ [])) refl)
      j k

  pub from_ends : SameAt g v t u → SameAt h v t u → SameHeight s x (s *ℤ v) t u
  from_ends j k = by_lt_z (pos 0) (lead g h (pos 1) v) (λ n. between_ends n j k)
      (λ n. together (omega (arith, ints, n, apart)) j)

-- both slabs have the level
module _ (below above : Slab) (b : below.low <ℤ below.high) (a : above.low <ℤ above.high) (v : ℤ) (vb : below.low ≤ℤ v)
    (bv : v ≤ℤ below.high) (va : above.low ≤ℤ v) (av : v ≤ℤ above.high)
    (m n : Member) (w : Wedge below m.tri m.left m.right) (z : Wedge above n.tri n.left n.right)
    (agree : (g : Segment) → IsOneOf g m n → HoldsEnd g v m.tri → HoldsEnd g v n.tri → SameAt g v m.tri n.tri)
    (s x : ℤ) (hs : pos 0 <ℤ s) (hm : TriangleHolds s x (s *ℤ v) m.tri) (hn : TriangleHolds s x (s *ℤ v) n.tri) where
  most : (k a b : ℤ) → pos 0 ≤ℤ k → a ≤ℤ b → (k *ℤ a) ≤ℤ (k *ℤ b)
  most k a b h l = omega (
    arith,
    ints,
    times_nonneg k (b -ℤ a) h (omega (arith, ints, l)),
    by_ring (mul (var 0) (sub (var 1) (var 2))) (sub (mul (var 0) (var 1)) (mul (var 0) (var 2))) (k ∷ b ∷ a ∷ []) refl,
  )

  -- an end that is not west of the left segment and not east of the right one
  held_below : (g : Segment) → pos 0 <ℤ under g → pos 0 ≤ℤ lead m.left g (pos 1) v → pos 0 ≤ℤ lead g m.right (pos 1) v
      → HoldsEnd g v m.tri
  held_below g ug i j =
      w.holds (under g) (over g v) (under g *ℤ v) (weaken ug) (most (under g) below.low v (weaken ug) vb)
      (most (under g) v below.high (weaken ug) bv)
      (omega (arith, ints, i, beside_end m.left g v, back_lead m.left g (pos 1) v)) (omega (
        arith,
        ints,
        j,
        beside_end m.right g v,
      ))

  held_above : (g : Segment) → pos 0 <ℤ under g → pos 0 ≤ℤ lead n.left g (pos 1) v → pos 0 ≤ℤ lead g n.right (pos 1) v
      → HoldsEnd g v n.tri
  held_above g ug i j =
      z.holds (under g) (over g v) (under g *ℤ v) (weaken ug) (most (under g) above.low v (weaken ug) va)
      (most (under g) v above.high (weaken ug) av)
      (omega (arith, ints, i, beside_end n.left g v, back_lead n.left g (pos 1) v)) (omega (
        arith,
        ints,
        j,
        beside_end n.right g v,
      ))

  on : (f g h : Segment) → pos 0 <ℤ under f → pos 0 <ℤ under g → pos 0 <ℤ under h → pos 0 ≤ℤ lead f g (pos 1) v
      → pos 0 ≤ℤ lead g h (pos 1) v → pos 0 ≤ℤ lead f h (pos 1) v
  on f g h uf ug uh i j =
      factor_nonneg (under g) (lead f h (pos 1) v) ug
      (omega (
        arith,
        ints,
        lead_on f g h (pos 1) v,
        times_nonneg (lead f g (pos 1) v) (under h) i (weaken uh),
        times_nonneg (lead g h (pos 1) v) (under f) j (weaken uf),
        by_ring (mul (var 0) (var 1)) (mul (var 1) (var 0)) (under g ∷ lead f h (pos 1) v ∷ []) refl,
      ))

  -- between the more eastern of both left segments and the more western of both right ones
  with_ends : (g h : Segment) → IsOneOf g m n → IsOneOf h m n → pos 0 <ℤ under g → pos 0 <ℤ under h
      → pos 0 ≤ℤ lead m.left g (pos 1) v → pos 0 ≤ℤ lead n.left g (pos 1) v → pos 0 ≤ℤ lead h m.right (pos 1) v
      → pos 0 ≤ℤ lead h n.right (pos 1) v
      → beside g s x (s *ℤ v) ≤ℤ pos 0 → pos 0 ≤ℤ beside h s x (s *ℤ v) → SameHeight s x (s *ℤ v) m.tri n.tri
  with_ends g h gi hi ug uh lg lg' hr hr' p q =
      let d : pos 0 ≤ℤ lead g h (pos 1) v = apart m.tri n.tri g h v s x ug uh hs p q in
      let ul = rises below b m.left w.left in let ur = rises below b m.right w.right in
      let ul' = rises above a n.left z.left in let ur' = rises above a n.right z.right in
      from_ends m.tri n.tri g h v s x ug uh hs p q
      (agree g gi (held_below g ug lg (on g h m.right ug uh ur d hr))
      (held_above g ug lg' (on g h n.right ug uh ur' d hr')))
      (agree h hi (held_below h uh (on m.left g h ul ug uh lg d) hr)
      (held_above h uh (on n.left g h ul' ug uh lg' d) hr'))

  itself : (g : Segment) → pos 0 ≤ℤ lead g g (pos 1) v
  itself g = omega (arith, ints, back_lead g g (pos 1) v)

  pub on_level : SameHeight s x (s *ℤ v) m.tri n.tri
  on_level =
      let ul = rises below b m.left w.left in let ur = rises below b m.right w.right in
      let ul' = rises above a n.left z.left in let ur' = rises above a n.right z.right in
      let i = w.inside s x (s *ℤ v) hm in let j = z.inside s x (s *ℤ v) hn in
      by_le_z (pos 0) (lead m.left n.left (pos 1) v)
      (λ k. by_le_z (pos 0) (lead m.right n.right (pos 1) v)
      (λ l. with_ends n.left m.right (inr (inr (inl refl))) (inr (inl refl)) ul' ur k (itself n.left)
      (itself m.right) l j.0 i.1)
      (λ l. with_ends n.left n.right (inr (inr (inl refl))) (inr (inr (inr refl))) ul' ur' k (itself n.left)
      (omega (arith, ints, l, back_lead m.right n.right (pos 1) v)) (itself n.right) j.0 j.1))
      (λ k. by_le_z (pos 0) (lead m.right n.right (pos 1) v)
      (λ l. with_ends m.left m.right (inl refl) (inr (inl refl)) ul ur (itself m.left) (omega (
        arith,
        ints,
        k,
        back_lead m.left n.left (pos 1) v,
      )) (itself m.right) l i.0 i.1)
      (λ l. with_ends m.left n.right (inl refl) (inr (inr (inr refl))) ul ur' (itself m.left) (omega (
        arith,
        ints,
        k,
        back_lead m.left n.left (pos 1) v,
      )) (omega (arith, ints, l, back_lead m.right n.right (pos 1) v))
      (itself n.right) i.0 j.1))
