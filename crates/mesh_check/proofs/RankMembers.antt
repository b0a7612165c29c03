-- Ranks that ascend are those of members in order.
use Rattle.std.proofs.Common.{◌≡◌, ℕ, ◌*◌, ◌/◌, ◌%◌, ◌<◌, ◌≤◌, ap, sym, arith, ◌∙◌, inl, inr, ⊎_elim, unsigned_abs}
use Rattle.std.specs.Prelude.{ℤ, pos, ◌+ℤ◌, ◌-ℤ◌, ◌*ℤ◌, ◌≤ℤ◌, ◌<ℤ◌}
use Rattle.std.proofs.Math.Nat.{div-add-mod', mod-lt}
use Rattle.std.proofs.lemmas.Int.{ints, by_lt_z}
use Rattle.polynomial.proofs.Signs.{times_nonneg}
use Rattle.mesh_check.specs.declared.rank.Rank.{Rank}
use Rattle.mesh_check.specs.Slab.{Slab, Segment, Member, under, Spans, IsTileSlab, IsTileSegment}
use Rattle.mesh_check.specs.Members.{over_both, IsWestOf, IsLevelWith, Before, IsTileMember}
use Rattle.mesh_check.specs.Ranks.{key_of, IsNotAfter}
use Rattle.mesh_check.specs.Ordered.{IsRankOf}
use Rattle.mesh_check.proofs.Keys.{keys_rise, keys_keep}

-- a quotient and its rest
parted : (x d : ℕ) → 0 < d → pos x *ℤ pos 1073741824 ≡ pos (x * 1073741824 / d) *ℤ pos d +ℤ pos (x * 1073741824 % d)
parted x d h = omega (arith, ints, div-add-mod' (x * 1073741824) d)

rest_below : (x d : ℕ) → 1 ≤ d → (x * 1073741824 % d) < d
rest_below x d h = let k : 0 < d = omega (arith, h) in mod-lt (x * 1073741824) k

module _ (x d y e : ℕ) (hd : 1 ≤ d) (he : 1 ≤ e) (ld : d ≤ 32767) (le : e ≤ 32767) where
  rise_nat : (pos x *ℤ pos e) <ℤ (pos y *ℤ pos d) → (x * 1073741824 / d) < (y * 1073741824 / e)
  rise_nat l =
      let k : pos (x * 1073741824 / d) <ℤ pos (y * 1073741824 / e) =
      keys_rise (pos x) (pos d) (pos (x * 1073741824 / d)) (pos (x * 1073741824 % d)) (pos y) (pos e)
      (pos (y * 1073741824 / e)) (pos (y * 1073741824 % e))
      (omega (arith, ints, hd)) (omega (arith, ints, he)) (omega (arith, ints, ld)) (omega (arith, ints, le))
      (parted x d (omega (arith, hd))) (parted y e (omega (arith, he)))
      (omega (arith, ints)) (omega (arith, ints)) (omega (arith, ints, rest_below x d hd)) (omega (
        arith,
        ints,
        rest_below y e he,
      )) l in
      omega (arith, ints, k)

  keep_nat : pos x *ℤ pos e ≡ pos y *ℤ pos d → (y * 1073741824 / e) ≤ (x * 1073741824 / d)
  keep_nat l =
      let k : pos (y * 1073741824 / e) ≤ℤ pos (x * 1073741824 / d) =
      keys_keep (pos x) (pos d) (pos (x * 1073741824 / d)) (pos (x * 1073741824 % d)) (pos y) (pos e)
      (pos (y * 1073741824 / e)) (pos (y * 1073741824 % e))
      (omega (arith, ints, hd)) (omega (arith, ints, he)) (omega (arith, ints, ld)) (omega (arith, ints, le))
      (parted x d (omega (arith, hd))) (parted y e (omega (arith, he)))
      (omega (arith, ints)) (omega (arith, ints)) (omega (arith, ints, rest_below x d hd)) (omega (
        arith,
        ints,
        rest_below y e he,
      )) l in
      omega (arith, ints, k)

-- the same for whole numbers that are not below 0
module _ (x d y e : ℤ) (hx : pos 0 ≤ℤ x) (hy : pos 0 ≤ℤ y) (hd : pos 1 ≤ℤ d) (he : pos 1 ≤ℤ e) (ld : d ≤ℤ pos 32767)
    (le : e ≤ℤ pos 32767) where
  same : (z : ℤ) → pos 0 ≤ℤ z → pos (unsigned_abs z) ≡ z
  same z h = omega (arith, ints, h)

  pub rise_int : (x *ℤ e) <ℤ (y *ℤ d) → (unsigned_abs x * 1073741824 / unsigned_abs d) <
      (unsigned_abs y * 1073741824 / unsigned_abs e)
  rise_int l =
      rise_nat (unsigned_abs x) (unsigned_abs d) (unsigned_abs y) (unsigned_abs e) (omega (arith, ints, hd))
      (omega (arith, ints, he)) (omega (arith, ints, ld, hd)) (omega (arith, ints, le, he))
      (omega (
        arith,
        ints,
        l,
        ap (λ i. i *ℤ pos (unsigned_abs e)) (same x hx),
        ap (λ i. x *ℤ i) (same e (omega (arith, ints, he))),
        ap (λ i. i *ℤ pos (unsigned_abs d)) (same y hy),
        ap (λ i. y *ℤ i) (same d (omega (arith, ints, hd))),
      ))

  pub keep_int : x *ℤ e ≡ y *ℤ d → (unsigned_abs y * 1073741824 / unsigned_abs e) ≤
      (unsigned_abs x * 1073741824 / unsigned_abs d)
  keep_int l =
      keep_nat (unsigned_abs x) (unsigned_abs d) (unsigned_abs y) (unsigned_abs e) (omega (arith, ints, hd))
      (omega (arith, ints, he)) (omega (arith, ints, ld, hd)) (omega (arith, ints, le, he))
      (ap (λ i. i *ℤ pos (unsigned_abs e)) (same x hx) ∙ ap (λ i. x *ℤ i) (same e (omega (arith, ints, he))) ∙ l ∙ sym
      (ap (λ i. y *ℤ i) (same d (omega (arith, ints, hd)))) ∙ sym (ap (λ i. i *ℤ pos (unsigned_abs d)) (same y hy)))

-- ---- the keys of two segments of a slab
pub over_nonneg : (slab : Slab) (g : Segment) → IsTileSlab slab → IsTileSegment g → Spans slab g
    → pos 0 ≤ℤ over_both slab g
over_nonneg slab g t i p =
    omega (
      arith,
      ints,
      times_nonneg g.low.u (g.high.v -ℤ slab.low) (omega (arith, ints, i.low)) (omega (arith, ints, p.high, t.order)),
      times_nonneg g.high.u (slab.low -ℤ g.low.v) (omega (arith, ints, i.high)) (omega (arith, ints, p.low)),
      times_nonneg g.low.u (g.high.v -ℤ slab.high) (omega (arith, ints, i.low)) (omega (arith, ints, p.high)),
      times_nonneg g.high.u (slab.high -ℤ g.low.v) (omega (arith, ints, i.high)) (omega (arith, ints, p.low, t.order)),
    )

module _ (slab : Slab) (g h : Segment) (t : IsTileSlab slab) (gi : IsTileSegment g) (hi : IsTileSegment h)
    (gp : Spans slab g) (hp : Spans slab h) where
  ug : pos 1 ≤ℤ under g
  ug = omega (arith, ints, gp.low, gp.high, t.order)

  uh : pos 1 ≤ℤ under h
  uh = omega (arith, ints, hp.low, hp.high, t.order)

  lg : under g ≤ℤ pos 32767
  lg = omega (arith, ints, gi.low, gi.high)

  lh : under h ≤ℤ pos 32767
  lh = omega (arith, ints, hi.low, hi.high)

  pub key_less : key_of slab g < key_of slab h → IsWestOf slab g h
  key_less l =
      by_lt_z (over_both slab g *ℤ under h) (over_both slab h *ℤ under g) (λ k. k)
      (λ k. by_lt_z (over_both slab h *ℤ under g) (over_both slab g *ℤ under h)
      (λ m. absurd (omega (
        arith,
        l,
        rise_int (over_both slab h) (under h) (over_both slab g) (under g)
            (over_nonneg slab h t hi hp) (over_nonneg slab g t gi gp) uh ug lh lg m,
      )))
      (λ m. absurd (omega (
        arith,
        l,
        keep_int (over_both slab g) (under g) (over_both slab h) (under h)
            (over_nonneg slab g t gi gp) (over_nonneg slab h t hi hp) ug uh lg lh (omega (arith, ints, k, m)),
      ))))

  pub key_same : key_of slab g ≡ key_of slab h → IsLevelWith slab g h
  key_same e =
      by_lt_z (over_both slab g *ℤ under h) (over_both slab h *ℤ under g)
      (λ m. absurd (omega (
        arith,
        e,
        rise_int (over_both slab g) (under g) (over_both slab h) (under h)
            (over_nonneg slab g t gi gp) (over_nonneg slab h t hi hp) ug uh lg lh m,
      )))
      (λ k. by_lt_z (over_both slab h *ℤ under g) (over_both slab g *ℤ under h)
      (λ m. absurd (omega (
        arith,
        e,
        rise_int (over_both slab h) (under h) (over_both slab g) (under g)
            (over_nonneg slab h t hi hp) (over_nonneg slab g t gi gp) uh ug lh lg m,
      )))
      (λ m. omega (arith, ints, k, m)))

pub ranked_before : (slab : Slab) (m n : Member) (r s : Rank) → IsTileSlab slab → IsTileMember slab m
    → IsTileMember slab n → IsRankOf slab m r → IsRankOf slab n s
    → (m.number ≡ n.number → ⊥) → IsNotAfter r s → Before slab m n
ranked_before slab m n r s t i j p q apart o =
    ⊎_elim
    (λ l. inl (key_less slab m.left n.left t i.left j.left i.is.left j.is.left (omega (arith, l, p.left, q.left))))
    (λ e. inr (
      key_same slab m.left n.left t i.left j.left i.is.left j.is.left (sym p.left ∙ e.0 ∙ q.left),
      ⊎_elim
          (λ l. inl (key_less slab m.right n.right t i.right j.right i.is.right j.is.right (omega (
            arith,
            l,
            p.right,
            q.right,
          ))))
          (λ f. inr (
            key_same slab m.right n.right t i.right j.right i.is.right j.is.right (sym p.right ∙ f.0 ∙ q.right),
            smaller m.number n.number (omega (arith, f.1, p.number, q.number)) apart,
          )) e.1,
    )) o
  where
    smaller : (a b : ℕ) → a ≤ b → (a ≡ b → ⊥) → a < b
    smaller a b l d = by_lt_z (pos a) (pos b) (λ k. omega (arith, ints, k))
        (λ k. absurd (d (omega (arith, ints, k, l))))
