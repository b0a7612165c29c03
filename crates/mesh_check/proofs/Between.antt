-- Points between segments.
use Rattle.std.proofs.Common.{◌≡◌, refl, arith, [], ◌∷◌}
use Rattle.std.specs.Prelude.{ℤ, pos, ◌+ℤ◌, ◌-ℤ◌, ◌*ℤ◌, ◌≤ℤ◌, ◌<ℤ◌, unsigned_abs}
use Rattle.std.proofs.lemmas.Int.{ints}
use Rattle.polynomial.proofs.Expressions.{var, num, add, sub, mul}
use Rattle.polynomial.proofs.NormalForm.{by_ring}
use Rattle.polynomial.proofs.Signs.{times_nonneg, times_pos, factor_pos, weaken, by_le_z}
use Rattle.mesh_plane.specs.declared.corner.Tri.{Tri}
use Rattle.mesh_plane.specs.Plane.{TriangleHoldsInside}
use Rattle.mesh_check.specs.Slab.{Slab, Segment, under}
use Rattle.mesh_check.proofs.Wedges.{beside, Wedge}
use Rattle.mesh_check.proofs.Leads.{lead, lead_mix, lead_on, besides, rise, leads, ends, rises, still_strictly_left}
use Rattle.mesh_check.proofs.Leads.{still_strictly_right}

-- ---- the point halfway between two segments at a height, at a larger scale
-- the larger scale
abbrev pub times : Segment → Segment → ℤ
times g h = pos 2 *ℤ (under g *ℤ under h)

abbrev pub halfway : Segment → Segment → ℤ → ℤ → ℤ
halfway g h s y = beside g s (pos 0) y *ℤ under h +ℤ beside h s (pos 0) y *ℤ under g

right_of_first : (g h : Segment) (s y : ℤ)
    → beside g (times g h *ℤ s) (halfway g h s y) (times g h *ℤ y) ≡ pos 0 -ℤ under g *ℤ lead g h s y
right_of_first g h s y =
    by_ring
    (besides 0 (mul (mul (num 2) (mul (rise 0) (rise 1))) (var 0))
    (add (mul (besides 0 (var 0) (num 0) (var 2)) (rise 1)) (mul (besides 1 (var 0) (num 0) (var 2)) (rise 0)))
    (mul (mul (num 2) (mul (rise 0) (rise 1))) (var 2)))
    (sub (num 0) (mul (rise 0) (leads 0 1 (var 0) (var 2)))) (s ∷ pos 0 ∷ y ∷ ends (g ∷ h ∷ [])) refl

left_of_second : (g h : Segment) (s y : ℤ)
    → beside h (times g h *ℤ s) (halfway g h s y) (times g h *ℤ y) ≡ under h *ℤ lead g h s y
left_of_second g h s y =
    by_ring
    (besides 1 (mul (mul (num 2) (mul (rise 0) (rise 1))) (var 0))
    (add (mul (besides 0 (var 0) (num 0) (var 2)) (rise 1)) (mul (besides 1 (var 0) (num 0) (var 2)) (rise 0)))
    (mul (mul (num 2) (mul (rise 0) (rise 1))) (var 2)))
    (mul (rise 1) (leads 0 1 (var 0) (var 2))) (s ∷ pos 0 ∷ y ∷ ends (g ∷ h ∷ [])) refl

-- a point at the height y/s, at a scale k times as large
pub record Amid (g h : Segment) (s y : ℤ) : Type 0 where
  pub k : ℤ
  pub x : ℤ
  pub larger : pos 0 <ℤ k
  pub right : beside g (k *ℤ s) x (k *ℤ y) <ℤ pos 0
  pub left : pos 0 <ℤ beside h (k *ℤ s) x (k *ℤ y)

pub amid : (g h : Segment) (s y : ℤ) → pos 0 <ℤ under g → pos 0 <ℤ under h → pos 0 <ℤ lead g h s y → Amid g h s y
amid g h s y hg hh l = record {
  k = times g h;
  x = halfway g h s y;
  larger = omega (arith, ints, times_pos (under g) (under h) hg hh);
  right = omega (arith, ints, right_of_first g h s y, times_pos (under g) (lead g h s y) hg l);
  left = omega (arith, ints, left_of_second g h s y, times_pos (under h) (lead g h s y) hh l);
}

-- a lead at a larger scale
pub lead_times : (g h : Segment) (k s y : ℤ) → lead g h (k *ℤ s) (k *ℤ y) ≡ k *ℤ lead g h s y
lead_times g h k s y =
    by_ring (leads 0 1 (mul (var 1) (var 0)) (mul (var 1) (var 2))) (mul (var 1) (leads 0 1 (var 0) (var 2)))
    (s ∷ k ∷ y ∷ ends (g ∷ h ∷ [])) refl

pub back_lead : (g h : Segment) (s y : ℤ) → lead h g s y ≡ pos 0 -ℤ lead g h s y
back_lead g h s y =
    by_ring (leads 1 0 (var 0) (var 2)) (sub (num 0) (leads 0 1 (var 0) (var 2)))
    (s ∷ pos 0 ∷ y ∷ ends (g ∷ h ∷ [])) refl

-- a point right of two segments and left of two others
pub record Amids (f g h i : Segment) (s y : ℤ) : Type 0 where
  pub k : ℤ
  pub x : ℤ
  pub larger : pos 0 <ℤ k
  pub right_f : beside f (k *ℤ s) x (k *ℤ y) <ℤ pos 0
  pub right_g : beside g (k *ℤ s) x (k *ℤ y) <ℤ pos 0
  pub left_h : pos 0 <ℤ beside h (k *ℤ s) x (k *ℤ y)
  pub left_i : pos 0 <ℤ beside i (k *ℤ s) x (k *ℤ y)

module _ (f g h i : Segment) (s y : ℤ) (hf : pos 0 <ℤ under f) (hg : pos 0 <ℤ under g) (hh : pos 0 <ℤ under h)
    (hi : pos 0 <ℤ under i) where
  -- of the first two the second is further east, and of the last two the third is further west
  amids_of : (f g h i : Segment) → pos 0 <ℤ under f → pos 0 <ℤ under g → pos 0 <ℤ under h → pos 0 <ℤ under i
      → pos 0 ≤ℤ lead f g s y → pos 0 ≤ℤ lead h i s y → Amid g h s y → Amids f g h i s y
  amids_of f g h i hf hg hh hi a b p = record {
    k = p.k;
    x = p.x;
    larger = p.larger;
    right_f = still_strictly_right f g (p.k *ℤ s) p.x (p.k *ℤ y) hf hg (omega (
      arith,
      ints,
      lead_times f g p.k s y,
      times_nonneg p.k (lead f g s y) (weaken p.larger) a,
    )) p.right;
    right_g = p.right;
    left_h = p.left;
    left_i = still_strictly_left h i (p.k *ℤ s) p.x (p.k *ℤ y) hh hi (omega (
      arith,
      ints,
      lead_times h i p.k s y,
      times_nonneg p.k (lead h i s y) (weaken p.larger) b,
    )) p.left;
  }

  pub amids : pos 0 <ℤ lead f h s y → pos 0 <ℤ lead f i s y → pos 0 <ℤ lead g h s y → pos 0 <ℤ lead g i s y
      → Amids f g h i s y
  amids fh fi gh gi =
      by_le_z (pos 0) (lead f g s y)
      (λ a. by_le_z (pos 0) (lead h i s y)
      (λ b. amids_of f g h i hf hg hh hi a b (amid g h s y hg hh gh))
      (λ b. let p = amids_of f g i h hf hg hi hh a (omega (arith, ints, b, back_lead h i s y))
      (amid g i s y hg hi gi) in
      record {
        k = p.k;
        x = p.x;
        larger = p.larger;
        right_f = p.right_f;
        right_g = p.right_g;
        left_h = p.left_i;
        left_i = p.left_h;
      }))
      (λ a. by_le_z (pos 0) (lead h i s y)
      (λ b. let p = amids_of g f h i hg hf hh hi (omega (arith, ints, a, back_lead f g s y)) b
      (amid f h s y hf hh fh) in
      record {
        k = p.k;
        x = p.x;
        larger = p.larger;
        right_f = p.right_g;
        right_g = p.right_f;
        left_h = p.left_h;
        left_i = p.left_i;
      })
      (λ b. let p = amids_of g f i h hg hf hi hh (omega (arith, ints, a, back_lead f g s y)) (omega (
        arith,
        ints,
        b,
        back_lead h i s y,
      )) (amid f i s y hf hi fi) in
      record {
        k = p.k;
        x = p.x;
        larger = p.larger;
        right_f = p.right_g;
        right_g = p.right_f;
        left_h = p.left_i;
        left_i = p.left_h;
      }))

-- ---- two members whose segments cross
-- at the height of the larger scale
abbrev pub mix : ℤ → ℤ → ℤ → ℤ
mix k a b = k *ℤ a +ℤ pos 1 *ℤ b

pub record Both (t u : Tri) : Type 0 where
  pub s : ℤ
  pub x : ℤ
  pub y : ℤ
  pub larger : pos 1 ≤ℤ s
  pub first : TriangleHoldsInside s x y t
  pub second : TriangleHoldsInside s x y u

inside_low : (k m s y t z low : ℤ) → pos 0 <ℤ m → (k *ℤ s +ℤ pos 1 *ℤ t) *ℤ low ≡ k *ℤ (s *ℤ low) +ℤ t *ℤ low
inside_low k m s y t z low h =
    by_ring (mul (add (mul (var 0) (var 1)) (mul (num 1) (var 2))) (var 3)) (add (mul (var 0) (mul (var 1) (var 3)))
    (mul (var 2) (var 3))) (k ∷ s ∷ t ∷ low ∷ []) refl

strict_mix : (k a b c d : ℤ) → pos 0 <ℤ k → a <ℤ b → c ≤ℤ d → (k *ℤ a +ℤ c) <ℤ (k *ℤ b +ℤ d)
strict_mix k a b c d h l m =
    omega (
      arith,
      ints,
      m,
      times_pos k (b -ℤ a) h (omega (arith, ints, l)),
      by_ring (mul (var 0) (sub (var 1) (var 2))) (sub (mul (var 0) (var 1)) (mul (var 0) (var 2)))
          (k ∷ b ∷ a ∷ []) refl,
    )

scaled_less : (k a b : ℤ) → pos 0 <ℤ k → a <ℤ b → (k *ℤ a) <ℤ (k *ℤ b)
scaled_less k a b h l =
    omega (
      arith,
      ints,
      times_pos k (b -ℤ a) h (omega (arith, ints, l)),
      by_ring (mul (var 0) (sub (var 1) (var 2))) (sub (mul (var 0) (var 1)) (mul (var 0) (var 2)))
          (k ∷ b ∷ a ∷ []) refl,
    )

module _ (slab : Slab) (gap : slab.low <ℤ slab.high) (t u : Tri) (l r l' r' : Segment) (w : Wedge slab t l r)
    (w' : Wedge slab u l' r') where
  -- strictly inside the slab, where each left segment is strictly west of each right one
  pub both_at : (s y : ℤ) → pos 1 ≤ℤ s → (s *ℤ slab.low) <ℤ y → y <ℤ (s *ℤ slab.high)
      → pos 0 <ℤ lead l r' s y → pos 0 <ℤ lead l' r s y → Both t u
  both_at s y hs ly hy a b =
      let hs' : pos 0 ≤ℤ s = omega (arith, ints, hs) in
      let own : pos 0 <ℤ lead l r s y = omega (arith, ints, w.strictly_wide s (pos 0) y hs' ly hy) in
      let own' : pos 0 <ℤ lead l' r' s y = omega (arith, ints, w'.strictly_wide s (pos 0) y hs' ly hy) in
      let p = amids l l' r r' s y (rises slab gap l w.left) (rises slab gap l' w'.left) (rises slab gap r w.right)
      (rises slab gap r' w'.right) own a b own' in
      let low : ((p.k *ℤ s) *ℤ slab.low) <ℤ (p.k *ℤ y) =
      omega (
        arith,
        ints,
        scaled_less p.k (s *ℤ slab.low) y p.larger ly,
        by_ring (mul (mul (var 0) (var 1)) (var 2)) (mul (var 0) (mul (var 1) (var 2))) (p.k ∷ s ∷ slab.low ∷ []) refl,
      ) in
      let high : (p.k *ℤ y) <ℤ ((p.k *ℤ s) *ℤ slab.high) =
      omega (
        arith,
        ints,
        scaled_less p.k y (s *ℤ slab.high) p.larger hy,
        by_ring (mul (mul (var 0) (var 1)) (var 2)) (mul (var 0) (mul (var 1) (var 2))) (p.k ∷ s ∷ slab.high ∷ []) refl,
      ) in
      let large : pos 1 ≤ℤ (p.k *ℤ s) = omega (arith, ints, times_pos p.k s p.larger (omega (arith, ints, hs))) in
      record {
        s = p.k *ℤ s;
        x = p.x;
        y = p.k *ℤ y;
        larger = large;
        first = w.holds_strictly (p.k *ℤ s) p.x (p.k *ℤ y) (omega (arith, ints, large)) low high p.right_f p.left_h;
        second = w'.holds_strictly (p.k *ℤ s) p.x (p.k *ℤ y) (omega (arith, ints, large)) low high p.right_g p.left_i;
      }

  -- the height halfway up
  abbrev mid : ℤ
  mid = slab.low +ℤ slab.high

  -- halfway up, the second left segment is not west of the first, and not east of the first right one; and on a level z
  -- it is west of that
  pub crossing : (z : ℤ) → slab.low ≤ℤ z → z ≤ℤ slab.high → pos 0 ≤ℤ lead l l' (pos 2) mid → lead r l'
      (pos 2) mid ≤ℤ pos 0 → lead r l' (pos 1) z <ℤ pos 0
      → Both t u
  crossing z lz zh sorted meets west_of =
      let ul : pos 0 <ℤ under l = rises slab gap l w.left in let ul' : pos 0 <ℤ under l' = rises slab gap l' w'.left in
      let ur' : pos 0 <ℤ under r' = rises slab gap r' w'.right in
      let own' : pos 0 <ℤ lead l' r' (pos 2) mid =
      omega (
        arith,
        ints,
        w'.strictly_wide (pos 2) (pos 0) mid (omega (arith, ints)) (omega (arith, ints, gap))
            (omega (arith, ints, gap)),
      ) in
      let c : ℤ = lead l r' (pos 2) mid in
      let hc : pos 0 <ℤ lead l r' (pos 2) mid =
      factor_pos (under l') (lead l r' (pos 2) mid) ul'
      (omega (
        arith,
        ints,
        lead_on l l' r' (pos 2) mid,
        times_nonneg (lead l l' (pos 2) mid) (under r') sorted (weaken ur'),
        times_pos (lead l' r' (pos 2) mid) (under l) own' ul,
        by_ring (mul (var 0) (var 1)) (mul (var 1) (var 0)) (under l' ∷ lead l r' (pos 2) mid ∷ []) refl,
      )) in
      let d = lead l r' (pos 1) z in
      let k : ℤ = pos 1 +ℤ pos (unsigned_abs d) in
      let hk : pos 0 <ℤ k = omega (arith, ints) in
      let s : ℤ = mix k (pos 2) (pos 1) in
      let y : ℤ = mix k mid z in
      let hs : pos 1 ≤ℤ s = omega (arith, ints, hk) in
      let big : pos 0 <ℤ lead l r' s y =
      omega (
        arith,
        ints,
        lead_mix l r' k (pos 1) (pos 2) mid (pos 1) z,
        times_nonneg k (lead l r' (pos 2) mid -ℤ pos 1) (weaken hk) (omega (arith, ints, hc)),
        by_ring (mul (var 0) (sub (var 1) (num 1))) (sub (mul (var 0) (var 1)) (var 0))
            (k ∷ lead l r' (pos 2) mid ∷ []) refl,
      ) in
      let back : pos 0 <ℤ lead l' r s y =
      omega (
        arith,
        ints,
        lead_mix l' r k (pos 1) (pos 2) mid (pos 1) z,
        times_nonneg k (lead l' r (pos 2) mid) (weaken hk) (omega (arith, ints, meets, back_lead r l' (pos 2) mid)),
        back_lead r l' (pos 1) z,
        west_of,
      ) in
      let low : (s *ℤ slab.low) <ℤ y =
      omega (
        arith,
        ints,
        inside_low k k (pos 2) mid (pos 1) z slab.low hk,
        strict_mix k (pos 2 *ℤ slab.low) mid
            (pos 1 *ℤ slab.low) z hk (omega (arith, ints, gap)) (omega (arith, ints, lz)),
      ) in
      let high : y <ℤ (s *ℤ slab.high) =
      omega (
        arith,
        ints,
        inside_low k k (pos 2) mid (pos 1) z slab.high hk,
        strict_mix k mid (pos 2 *ℤ slab.high) z
            (pos 1 *ℤ slab.high) hk (omega (arith, ints, gap)) (omega (arith, ints, zh)),
      ) in
      both_at s y hs low high big back
