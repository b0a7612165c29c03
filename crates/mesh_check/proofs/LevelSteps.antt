-- Going along a level over the members of two slabs that overlap there.
use Rattle.std.proofs.Common.{◌≡◌, ℕ, ◌+◌, ◌<◌, subst, arith, List, length, inl, inr}
use Rattle.std.specs.Prelude.{◌⊎◌, ℤ, pos, ◌<ℤ◌}
use Rattle.std.proofs.lemmas.Int.{ints, by_lt_z}
use Rattle.mesh_check.specs.Slab.{Segment, Member, under, west}
use Rattle.mesh_check.specs.Level.{left_at, right_at, east_by}
use Rattle.mesh_check.proofs.LevelRows.{NotEast, back, not_east_of_third, same_not_east, same_back_not_east, Wide, Row}

-- members i of the one slab and j of the other overlap on the level. C is shown at the left end of each member before
-- them, and at that of the one of both that begins first; where they begin at one place it is not yet shown there
pub record Met (v : ℤ) (C : Segment → Type 0) (ms ns : List Member) (i j : ℕ) : Type 0 where
  pub in_first : i < length ms
  pub in_second : j < length ns
  pub first_begins : (d : Member) → NotEast v (left_at ms i d) (right_at ns j d)
  pub second_begins : (d : Member) → NotEast v (left_at ns j d) (right_at ms i d)
  pub first_seen : (k : ℕ) (d : Member) → k < i → C (left_at ms k d)
  pub second_seen : (k : ℕ) (d : Member) → k < j → C (left_at ns k d)
  pub first_early : (d : Member) → pos 0 <ℤ east_by v (left_at ms i d) (left_at ns j d) → C (left_at ms i d)
  pub second_early : (d : Member) → pos 0 <ℤ east_by v (left_at ns j d) (left_at ms i d) → C (left_at ns j d)

-- the two slabs change places
pub turned_round : (v : ℤ) (C : Segment → Type 0) (ms ns : List Member) (i j : ℕ) → Met v C ms ns i j
    → Met v C ns ms j i
turned_round v C ms ns i j w = record {
  in_first = w.in_second;
  in_second = w.in_first;
  first_begins = w.second_begins;
  second_begins = w.first_begins;
  first_seen = w.second_seen;
  second_seen = w.first_seen;
  first_early = w.second_early;
  second_early = w.first_early;
}

-- two that begin at one place
pub no_early : (v : ℤ) (C : Segment → Type 0) (g h : Segment) → NotEast v h g → pos 0 <ℤ east_by v g h → C g
no_early v C g h n l = absurd (omega (arith, ints, n, l, back v g h))

pub met_start : (v : ℤ) (C : Segment → Type 0) (ms ns : List Member) → Row v ms → Row v ns → Met v C ms ns 0 0
met_start v C ms ns r s = record {
  in_first = r.some;
  in_second = s.some;
  first_begins = λ d. begins ms ns r s d;
  second_begins = λ d. begins ns ms s r d;
  first_seen = λ k d l. absurd (omega (arith, l));
  second_seen = λ k d l. absurd (omega (arith, l));
  first_early = λ d. no_early v C (left_at ms 0 d) (left_at ns 0 d) (together ns ms s r d);
  second_early = λ d. no_early v C (left_at ns 0 d) (left_at ms 0 d) (together ms ns r s d);
}
  where
    together : (ms ns : List Member) → Row v ms → Row v ns → (d : Member) → NotEast v (left_at ms 0 d) (left_at ns 0 d)
    together ms ns r s d =
        not_east_of_third v (left_at ms 0 d) west (left_at ns 0 d) (r.each 0 d r.some).left_up (omega (arith, ints))
        (s.each 0 d s.some).left_up
        (same_back_not_east v west (left_at ms 0 d) (r.first d)) (same_not_east v west (left_at ns 0 d) (s.first d))

    begins : (ms ns : List Member) → Row v ms → Row v ns → (d : Member) → NotEast v (left_at ms 0 d) (right_at ns 0 d)
    begins ms ns r s d =
        let n = s.each 0 d s.some in
        not_east_of_third v (left_at ms 0 d) (left_at ns 0 d) (right_at ns 0 d)
        (r.each 0 d r.some).left_up n.left_up n.right_up (together ms ns r s d) n.wide

module _ (v : ℤ) (C : Segment → Type 0) where
  -- what is shown at the later left end is shown at both
  pub both_left : (m n : Member)
      → ((g h : Segment) → pos 0 <ℤ under g → pos 0 <ℤ under h → east_by v g h ≡ pos 0 → C g → C h)
      → Wide v m → Wide v n
      → (pos 0 <ℤ east_by v m.left n.left → C m.left) → (pos 0 <ℤ east_by v n.left m.left → C n.left)
      → (g : Segment) → (g ≡ m.left) ⊎ (g ≡ n.left) → NotEast v m.left g → NotEast v n.left g → C g
      → C m.left × C n.left
  both_left m n move a b early late g (inl e) p q c =
      let here : C m.left = subst (λ (z : Segment). C z) e c in
      let not_west : NotEast v n.left m.left = subst (λ (z : Segment). NotEast v n.left z) e q in
      let other : C n.left =
      by_lt_z (pos 0) (east_by v n.left m.left) late
      (λ l. move m.left n.left a.left_up b.left_up (omega (arith, ints, l, not_west, back v n.left m.left)) here) in
      (here, other)
  both_left m n move a b early late g (inr e) p q c =
      let here : C n.left = subst (λ (z : Segment). C z) e c in
      let not_west : NotEast v m.left n.left = subst (λ (z : Segment). NotEast v m.left z) e p in
      let other : C m.left =
      by_lt_z (pos 0) (east_by v m.left n.left) early
      (λ l. move n.left m.left b.left_up a.left_up (omega (arith, ints, l, not_west, back v m.left n.left)) here) in
      (other, here)

  pub seen_on : (ms : List Member) (i : ℕ) → ((k : ℕ) (d : Member) → k < i → C (left_at ms k d))
      → ((d : Member) → C (left_at ms i d))
      → (k : ℕ) (d : Member) → k < i + 1 → C (left_at ms k d)
  seen_on ms i seen here k d l =
      by_lt_z (pos k) (pos i) (λ h. seen k d (omega (arith, ints, h)))
      (λ h. let e : i ≡ k = omega (arith, ints, h, l) in subst (λ (z : ℕ). C (left_at ms z d)) e (here d))

  module _ (ms ns : List Member) (i j : ℕ) (r : Row v ms) (s : Row v ns) (w : Met v C ms ns i j)
      (first : (d : Member) → C (left_at ms i d)) (second : (d : Member) → C (left_at ns j d)) where
    -- the first ends no further east than the second, and the next one follows it
    pub first_on : i + 1 < length ms → ((d : Member) → NotEast v (right_at ms i d) (right_at ns j d))
        → Met v C ms ns (i + 1) j
    first_on l ends = record {
      in_first = l;
      in_second = w.in_second;
      first_begins = λ d.
          let m = r.each i d w.in_first in let next = r.each (i + 1) d l in let n = s.each j d w.in_second in
          not_east_of_third v (left_at ms (i + 1) d) (right_at ms i d) (right_at ns j d)
          next.left_up m.right_up n.right_up
          (same_back_not_east v (right_at ms i d) (left_at ms (i + 1) d) (r.next i d l)) (ends d);
      second_begins = λ d.
          let next = r.each (i + 1) d l in let n = s.each j d w.in_second in
          not_east_of_third v (left_at ns j d) (left_at ms (i + 1) d) (right_at ms (i + 1) d)
          n.left_up next.left_up next.right_up (follows d) next.wide;
      first_seen = seen_on ms i w.first_seen first;
      second_seen = w.second_seen;
      first_early = λ d. no_early v C (left_at ms (i + 1) d) (left_at ns j d) (follows d);
      second_early = λ d h. second d;
    }
      where
        follows : (d : Member) → NotEast v (left_at ns j d) (left_at ms (i + 1) d)
        follows d =
            not_east_of_third v (left_at ns j d) (right_at ms i d) (left_at ms (i + 1) d)
            (s.each j d w.in_second).left_up (r.each i d w.in_first).right_up (r.each (i + 1) d l).left_up
            (w.second_begins d) (same_not_east v (right_at ms i d) (left_at ms (i + 1) d) (r.next i d l))

  -- the next of the first begins no further east than the next of the second, where the first ends no further east
  next_left : (ms ns : List Member) (i j : ℕ) → Row v ms → Row v ns → i + 1 < length ms → j + 1 < length ns
      → (d : Member)
      → NotEast v (right_at ms i d) (right_at ns j d) → NotEast v (left_at ms (i + 1) d) (left_at ns (j + 1) d)
  next_left ms ns i j r s l k d e =
      let m = r.each i d (omega (arith, l)) in let n = s.each j d (omega (arith, k)) in let m' = r.each (i + 1) d l in
      let n' = s.each (j + 1) d k in
      not_east_of_third v (left_at ms (i + 1) d) (right_at ns j d) (left_at ns (j + 1) d)
      m'.left_up n.right_up n'.left_up
      (not_east_of_third v (left_at ms (i + 1) d) (right_at ms i d) (right_at ns j d) m'.left_up m.right_up n.right_up
      (same_back_not_east v (right_at ms i d) (left_at ms (i + 1) d) (r.next i d l)) e)
      (same_not_east v (right_at ns j d) (left_at ns (j + 1) d) (s.next j d k))

  next_begins : (ms ns : List Member) (i j : ℕ) → Row v ms → Row v ns → i + 1 < length ms → j + 1 < length ns
      → (d : Member)
      → NotEast v (right_at ms i d) (right_at ns j d) → NotEast v (left_at ms (i + 1) d) (right_at ns (j + 1) d)
  next_begins ms ns i j r s l k d e =
      let m' = r.each (i + 1) d l in let n' = s.each (j + 1) d k in
      not_east_of_third v (left_at ms (i + 1) d) (left_at ns (j + 1) d) (right_at ns (j + 1) d)
      m'.left_up n'.left_up n'.right_up (next_left ms ns i j r s l k d e) n'.wide

  module _ (ms ns : List Member) (i j : ℕ) (r : Row v ms) (s : Row v ns) (w : Met v C ms ns i j)
      (first : (d : Member) → C (left_at ms i d)) (second : (d : Member) → C (left_at ns j d)) where
    -- both end together
    pub both_on : i + 1 < length ms → j + 1 < length ns → ((d : Member) → NotEast v (right_at ms i d) (right_at ns j d))
        → ((d : Member) → NotEast v (right_at ns j d) (right_at ms i d)) → Met v C ms ns (i + 1) (j + 1)
    both_on l k ends ends' = record {
      in_first = l;
      in_second = k;
      first_begins = λ d. next_begins ms ns i j r s l k d (ends d);
      second_begins = λ d. next_begins ns ms j i s r k l d (ends' d);
      first_seen = seen_on ms i w.first_seen first;
      second_seen = seen_on ns j w.second_seen second;
      first_early = λ d. no_early v C (left_at ms (i + 1) d) (left_at ns (j + 1) d)
          (next_left ns ms j i s r k l d (ends' d));
      second_early = λ d. no_early v C (left_at ns (j + 1) d) (left_at ms (i + 1) d)
          (next_left ms ns i j r s l k d (ends d));
    }
