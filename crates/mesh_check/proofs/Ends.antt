-- Two slabs agree on the level between them where they do at each left end and at the east edge.
use Rattle.std.proofs.Common.{◌≡◌, refl, ap, sym, arith, ◌∙◌, List, [], ◌∷◌}
use Rattle.std.specs.Prelude.{ℤ, pos, ◌*ℤ◌, ◌≤ℤ◌, ◌<ℤ◌}
use Rattle.std.specs.List.{AllByRecursion}
use Rattle.std.proofs.lemmas.Int.{ints}
use Rattle.polynomial.proofs.Expressions.{var, num, add, sub, mul}
use Rattle.polynomial.proofs.NormalForm.{by_ring}
use Rattle.polynomial.proofs.Signs.{times_nonneg, factor_nonneg, weaken}
use Rattle.mesh_plane.specs.declared.corner.Corner.{Corner}
use Rattle.mesh_plane.specs.declared.corner.Tri.{Tri}
use Rattle.mesh_plane.specs.Plane.{side_of, IsCounterClockwise}
use Rattle.mesh_check.specs.Slab.{Slab, Segment, Member, under, over, IsSame, SameAt, east, Joined}
use Rattle.mesh_check.specs.Members.{IsListed, HoldsEnd}
use Rattle.mesh_check.proofs.Sides.{side}
use Rattle.mesh_check.proofs.Mixes.{mixed_height, same_through}

-- ---- one place by two segments
module _ (g h : Segment) (v : ℤ) (one : over g v *ℤ under h ≡ over h v *ℤ under g) (ug : pos 0 <ℤ under g)
    (uh : pos 0 <ℤ under h) where
  side_times : (a b : Corner) (k s x y : ℤ) → side_of a b (k *ℤ s) (k *ℤ x) (k *ℤ y) ≡ k *ℤ side_of a b s x y
  side_times a b k s x y =
      by_ring
      (sub (mul (sub (var 5) (var 3)) (sub (mul (var 7) (var 2)) (mul (mul (var 7) (var 0)) (var 4))))
      (mul (sub (var 6) (var 4)) (sub (mul (var 7) (var 1)) (mul (mul (var 7) (var 0)) (var 3)))))
      (mul (var 7) (side 0 1)) (s ∷ x ∷ y ∷ a.u ∷ a.v ∷ b.u ∷ b.v ∷ k ∷ []) refl

  swapped : (a b : ℤ) → a *ℤ b ≡ b *ℤ a
  swapped a b = by_ring (mul (var 0) (var 1)) (mul (var 1) (var 0)) (a ∷ b ∷ []) refl

  same_side : (a b : Corner) → under g *ℤ side_of a b (under h) (over h v) (under h *ℤ v) ≡ under h *ℤ side_of a b
      (under g) (over g v) (under g *ℤ v)
  same_side a b =
      sym (side_times a b (under g) (under h) (over h v) (under h *ℤ v))
      ∙ ap (λ i. side_of a b i (under g *ℤ over h v) (under g *ℤ (under h *ℤ v))) (swapped (under g) (under h))
      ∙ ap (λ i. side_of a b (under h *ℤ under g) i (under g *ℤ (under h *ℤ v))) (swapped (under g) (over h v) ∙ sym one
      ∙ swapped (over g v) (under h))
      ∙ ap (λ i. side_of a b (under h *ℤ under g) (under h *ℤ over g v) i) (by_ring (mul (var 0) (mul (var 1) (var 2)))
      (mul (var 1) (mul (var 0) (var 2))) (under g ∷ under h ∷ v ∷ []) refl)
      ∙ side_times a b (under h) (under g) (over g v) (under g *ℤ v)

  side_moved : (a b : Corner) → pos 0 ≤ℤ side_of a b (under g) (over g v) (under g *ℤ v) → pos 0 ≤ℤ side_of a b
      (under h) (over h v) (under h *ℤ v)
  side_moved a b l =
      factor_nonneg (under g) (side_of a b (under h) (over h v) (under h *ℤ v)) ug
      (omega (
        arith,
        ints,
        same_side a b,
        times_nonneg (under h) (side_of a b (under g) (over g v) (under g *ℤ v))
            (weaken uh) l,
      ))

  pub end_moved : (t : Tri) → HoldsEnd g v t → HoldsEnd h v t
  end_moved t i = record { ab = side_moved t.a t.b i.ab; bc = side_moved t.b t.c i.bc; ca = side_moved t.c t.a i.ca }

  pub same_moved : (t u : Tri) → SameAt g v t u → SameAt h v t u
  same_moved t u s =
      mixed_height t u (under g) (under h) (over h v) (under h *ℤ v) (under h) (under g) (over g v) (under g *ℤ v)
      (pos 0) (under g) (over g v) (under g *ℤ v) ug
      (by_ring (mul (var 0) (var 1)) (add (mul (var 1) (var 0)) (mul (num 0) (var 0))) (under g ∷ under h ∷ []) refl)
      (swapped (under g) (over h v) ∙ sym one ∙ by_ring (mul (var 0) (var 1)) (add (mul (var 1) (var 0))
      (mul (num 0) (var 0))) (over g v ∷ under h ∷ []) refl)
      (by_ring (mul (var 0) (mul (var 1) (var 2))) (add (mul (var 1) (mul (var 0) (var 2)))
      (mul (num 0) (mul (var 0) (var 2)))) (under g ∷ under h ∷ v ∷ []) refl)
      s s

-- ---- all pairs that hold an end agree there
abbrev pub Agreed : Slab → Slab → List Tri → ℤ → Segment → Type 0
Agreed below above ts v g = (m n : Member) → IsListed below ts m → IsListed above ts n → HoldsEnd g v m.tri
    → HoldsEnd g v n.tri → SameAt g v m.tri n.tri

pub agreed_moved : (below above : Slab) (ts : List Tri) (g h : Segment) (v : ℤ)
    → over g v *ℤ under h ≡ over h v *ℤ under g → pos 0 <ℤ under g → pos 0 <ℤ under h
    → Agreed below above ts v g → Agreed below above ts v h
agreed_moved below above ts g h v one ug uh a m n l k i j =
    same_moved g h v one ug uh m.tri n.tri (a m n l k (end_moved h g v (sym one) uh ug m.tri i)
    (end_moved h g v (sym one) uh ug n.tri j))

-- one pair that agrees, where each slab gives the end one height
pub record Witness (below above : Slab) (ts : List Tri) (v : ℤ) (g : Segment) : Type 0 where
  pub lower : Member
  pub upper : Member
  pub listed_lower : IsListed below ts lower
  pub listed_upper : IsListed above ts upper
  pub holds_lower : HoldsEnd g v lower.tri
  pub holds_upper : HoldsEnd g v upper.tri
  pub agree : SameAt g v lower.tri upper.tri

pub agreed_from : (below above : Slab) (ts : List Tri) (v : ℤ) (g : Segment)
    → ((m n : Member) → IsListed below ts m → IsListed below ts n → HoldsEnd g v m.tri → HoldsEnd g v n.tri
    → SameAt g v m.tri n.tri)
    → ((m n : Member) → IsListed above ts m → IsListed above ts n → HoldsEnd g v m.tri → HoldsEnd g v n.tri
    → SameAt g v m.tri n.tri)
    → ((m : Member) → IsListed below ts m → IsCounterClockwise m.tri) → ((m : Member) → IsListed above ts m
    → IsCounterClockwise m.tri)
    → Witness below above ts v g → Agreed below above ts v g
agreed_from below above ts v g one two c d w m n l k i j =
    same_through m.tri w.lower.tri n.tri (under g) (over g v) (under g *ℤ v) (c w.lower w.listed_lower)
    (one m w.lower l w.listed_lower i w.holds_lower)
    (same_through w.lower.tri w.upper.tri n.tri (under g) (over g v) (under g *ℤ v) (d w.upper w.listed_upper) w.agree
    (two w.upper n w.listed_upper k w.holds_upper j))

-- right segments are the left ones after them, or the east edge
pub rights : (C Up : Segment → Type 0) (slab : Slab) → ((g h : Segment) → Up g → Up h → IsSame slab g h → C h → C g) →
    (g : Segment) (ms : List Member) → Up g
    → AllByRecursion (λ m. Up m.left × Up m.right) ms → Up east → Joined slab g ms → AllByRecursion (λ m. C m.left) ms
    → C east → C g × AllByRecursion (λ m. C m.right) ms
rights C Up slab move g [] u us ue j a e = (move g east u ue j e, tt)
rights C Up slab move g (m ∷ ms) u us ue j a e = (
  move g m.left u us.0.0 j.0 a.0,
  rights C Up slab move m.right ms us.0.1 us.1 ue j.1 a.1 e,
)
