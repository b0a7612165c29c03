-- What a level shows of the members of one slab, and which of two segments is east of the other on it.
use Rattle.std.proofs.Common.{◌≡◌, ℕ, zero, suc, ◌+◌, ◌<◌, refl, sym, subst, arith, ◌∙◌, List, [], ◌∷◌, length}
use Rattle.std.proofs.Common.{slice_index_or}
use Rattle.std.specs.Prelude.{ℤ, pos, ◌+ℤ◌, ◌-ℤ◌, ◌*ℤ◌, ◌≤ℤ◌, ◌<ℤ◌, All}
use Rattle.std.proofs.lemmas.Int.{ints}
use Rattle.polynomial.proofs.Expressions.{var, num, add, sub, mul}
use Rattle.polynomial.proofs.NormalForm.{by_ring}
use Rattle.polynomial.proofs.Signs.{times_nonneg, factor_nonneg, weaken}
use Rattle.mesh_plane.specs.Plane.{IsCounterClockwise}
use Rattle.mesh_check.specs.Slab.{Slab, Segment, Member, under, over, IsSame, Joined, west, east, IsTileSlab}
use Rattle.mesh_check.specs.Slab.{IsTileSegment}
use Rattle.mesh_check.specs.Members.{IsTileMember, HoldsEnd}
use Rattle.mesh_check.specs.Level.{left_at, right_at, Meets, east_by}
use Rattle.mesh_check.proofs.Wedges.{Wedge, wedge}
use Rattle.mesh_check.proofs.Leads.{lead, lead_over, rises, no_lead}
use Rattle.mesh_check.proofs.Held.{most_in}
use Rattle.mesh_check.proofs.OnLevel.{beside_end}
use Rattle.mesh_check.proofs.Steps.{joined_at}
use Rattle.mesh_check.proofs.LevelHeights.{end_point}

-- on the level the first segment is not east of the second
abbrev pub NotEast : ℤ → Segment → Segment → Type 0
NotEast v g h = pos 0 ≤ℤ east_by v g h

pub back : (v : ℤ) (g h : Segment) → east_by v h g ≡ pos 0 -ℤ east_by v g h
back v g h =
    by_ring (sub (mul (var 0) (var 3)) (mul (var 2) (var 1)))
    (sub (num 0) (sub (mul (var 2) (var 1)) (mul (var 0) (var 3))))
    (over g v ∷ under g ∷ over h v ∷ under h ∷ []) refl

fractions : (a b c p q r : ℤ) → q *ℤ (c *ℤ p -ℤ a *ℤ r) ≡ p *ℤ (c *ℤ q -ℤ b *ℤ r) +ℤ r *ℤ (b *ℤ p -ℤ a *ℤ q)
fractions a b c p q r =
    by_ring (mul (var 4) (sub (mul (var 2) (var 3)) (mul (var 0) (var 5))))
    (add (mul (var 3) (sub (mul (var 2) (var 4)) (mul (var 1) (var 5))))
    (mul (var 5) (sub (mul (var 1) (var 3)) (mul (var 0) (var 4)))))
    (a ∷ b ∷ c ∷ p ∷ q ∷ r ∷ []) refl

pub not_east_of_third : (v : ℤ) (f g h : Segment) → pos 0 <ℤ under f → pos 0 <ℤ under g → pos 0 <ℤ under h
    → NotEast v f g → NotEast v g h → NotEast v f h
not_east_of_third v f g h uf ug uh i j =
    factor_nonneg (under g) (east_by v f h) ug
    (omega (
      arith,
      ints,
      fractions (over f v) (over g v) (over h v) (under f) (under g) (under h),
      times_nonneg (under f) (east_by v g h) (weaken uf) j,
      times_nonneg (under h) (east_by v f g) (weaken uh) i,
    ))

pub same_not_east : (v : ℤ) (g h : Segment) → east_by v g h ≡ pos 0 → NotEast v g h
same_not_east v g h e = omega (arith, ints, e)

pub same_back_not_east : (v : ℤ) (g h : Segment) → east_by v g h ≡ pos 0 → NotEast v h g
same_back_not_east v g h e = omega (arith, ints, e, back v g h)

pub itself : (v : ℤ) (g : Segment) → NotEast v g g
itself v g = omega (arith, ints, back v g g)

-- ---- a member: it holds each end on the level that is between its own two
pub record Wide (v : ℤ) (m : Member) : Type 0 where
  pub left_up : pos 0 <ℤ under m.left
  pub right_up : pos 0 <ℤ under m.right
  pub left_meets : Meets v m.left
  pub right_meets : Meets v m.right
  pub wide : NotEast v m.left m.right
  pub within : NotEast v m.right east
  pub holds : (g : Segment) → pos 0 <ℤ under g → NotEast v m.left g → NotEast v g m.right → HoldsEnd g v m.tri

module _ (slab : Slab) (v : ℤ) (t : IsTileSlab slab) (low : slab.low ≤ℤ v) (high : v ≤ℤ slab.high) where
  meets : (g : Segment) → IsTileSegment g → g.low.v ≤ℤ slab.low → slab.high ≤ℤ g.high.v → Meets v g
  meets g i l h = record {
    on_tile = i;
    up = omega (arith, ints, t.order, l, h);
    low = omega (arith, ints, l, low);
    high = omega (arith, ints, h, high);
  }

  before_east : (g : Segment) → Meets v g → NotEast v g east
  before_east g m =
      omega (
        arith,
        ints,
        (end_point g v m).east,
        by_ring
            (sub
            (mul (add (mul (num 32767) (sub (num 32767) (var 0))) (mul (num 32767) (sub (var 0) (num 0)))) (var 1))
            (mul (var 2) (num 32767)))
            (mul (num 32767) (sub (mul (num 32767) (var 1)) (var 2))) (v ∷ under g ∷ over g v ∷ []) refl,
      )

  pub wide_of : (m : Member) → IsTileMember slab m → IsCounterClockwise m.tri → Wide v m
  wide_of m i n =
      let w : Wedge slab m.tri m.left m.right =
      wedge slab t.order m.tri m.left m.right n i.is.down i.is.up i.is.left i.is.right in
      record {
        left_up = rises slab t.order m.left i.is.left;
        right_up = rises slab t.order m.right i.is.right;
        left_meets = meets m.left i.left i.is.left.low i.is.left.high;
        right_meets = meets m.right i.right i.is.right.low i.is.right.high;
        wide =
            let order = w.wide (pos 1) (pos 0) v (omega (arith, ints)) (omega (arith, ints, low))
            (omega (arith, ints, high)) in
            let ahead : pos 0 ≤ℤ lead m.left m.right (pos 1) v = omega (arith, ints, order) in
            subst (λ (z : ℤ). pos 0 ≤ℤ z) (lead_over m.left m.right v) ahead;
        within = before_east m.right (meets m.right i.right i.is.right.low i.is.right.high);
        holds = λ g u a b.
            w.holds (under g) (over g v) (under g *ℤ v) (weaken u) (most_in (under g) slab.low v (weaken u) low)
            (most_in (under g) v slab.high (weaken u) high)
            (omega (arith, ints, a, beside_end m.left g v, lead_over g m.left v, back v m.left g))
            (omega (arith, ints, b, beside_end m.right g v, lead_over g m.right v));
      }

  pub same_on : (g h : Segment) → IsSame slab g h → east_by v g h ≡ pos 0
  same_on g h e = sym (lead_over g h v) ∙ no_lead slab t.order g h e (pos 1) v

-- ---- the members of a slab in their order
joined_last : (slab : Slab) (g : Segment) (ms : List Member) (k : ℕ) (d : Member) → Joined slab g ms
    → k + 1 ≡ length ms → IsSame slab (right_at ms k d) east
joined_last slab g [] k d j l = absurd (omega (arith, l))
joined_last slab g (m ∷ []) zero d j l = j.1
joined_last slab g (m ∷ []) (suc k) d j l = absurd (omega (arith, l))
joined_last slab g (m ∷ (n ∷ ms)) zero d j l = absurd (omega (arith, l))
joined_last slab g (m ∷ (n ∷ ms)) (suc k) d j l = joined_last slab m.right (n ∷ ms) k d j.1 (omega (arith, l))

joined_first : (slab : Slab) (g : Segment) (ms : List Member) (d : Member) → 0 < length ms → Joined slab g ms
    → IsSame slab g (left_at ms 0 d)
joined_first slab g [] d l j = absurd (omega (arith, l))
joined_first slab g (m ∷ ms) d l j = j.0

joined_some : (slab : Slab) (ms : List Member) → Joined slab west ms → 0 < length ms
joined_some slab [] j = absurd (omega (arith, ints, j.low))
joined_some slab (m ∷ ms) j = omega arith

-- members that follow one another from edge to edge
pub record Row (v : ℤ) (ms : List Member) : Type 0 where
  pub some : 0 < length ms
  pub each : All (Wide v) ms
  pub first : (d : Member) → east_by v west (left_at ms 0 d) ≡ pos 0
  pub next : (k : ℕ) (d : Member) → k + 1 < length ms → east_by v (right_at ms k d) (left_at ms (k + 1) d) ≡ pos 0
  pub last : (k : ℕ) (d : Member) → k + 1 ≡ length ms → east_by v (right_at ms k d) east ≡ pos 0

pub row_of : (slab : Slab) (v : ℤ) (ms : List Member) → IsTileSlab slab → slab.low ≤ℤ v → v ≤ℤ slab.high
    → All (IsTileMember slab) ms → All (λ m. IsCounterClockwise m.tri) ms → Joined slab west ms → Row v ms
row_of slab v ms t low high each turned j = record {
  some = joined_some slab ms j;
  each = λ k d l. wide_of slab v t low high (slice_index_or ms k d) (each k d l) (turned k d l);
  first = λ d. same_on slab v t low high west (left_at ms 0 d) (joined_first slab west ms d (joined_some slab ms j) j);
  next = λ k d l. same_on slab v t low high (right_at ms k d) (left_at ms (k + 1) d) (joined_at slab west ms k d j l);
  last = λ k d l. same_on slab v t low high (right_at ms k d) east (joined_last slab west ms k d j l);
}
