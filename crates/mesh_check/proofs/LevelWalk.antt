-- The walk along a level: each step of it, and what it has shown at its end.
use Rattle.std.proofs.Common.{◌≡◌, ℕ, ◌+◌, ◌<◌, ◌≤◌, refl, ap, sym, subst, ◌∙◌, arith, List, length, slice_index_or}
use Rattle.std.proofs.Common.{inl, inr, ⊎_elim, IsTrue}
use Rattle.std.specs.Prelude.{◌⊎◌, ℤ, pos, ◌*ℤ◌, ◌≤ℤ◌, ◌<ℤ◌, All, Contains}
use Rattle.std.specs.Int.Signed.{le_z}
use Rattle.std.proofs.lemmas.Int.{ints, by_lt_z}
use Rattle.mesh_check.specs.declared.level.Pair.{Pair}
use Rattle.mesh_check.specs.Slab.{Segment, Member, under, over, SameAt, east}
use Rattle.mesh_check.specs.Members.{IsAt, HoldsEnd}
use Rattle.mesh_check.specs.Level.{left_at, IsCodeTri, east_by, AreBeside, Held, IsWitness}
use Rattle.mesh_check.specs.Level.{IsWitnessed, IsBreak, Meeting, Later, Overlap, IsNext}
use Rattle.mesh_check.proofs.ListFacts.{any_default, one_at, all_at, at_own}
use Rattle.mesh_check.proofs.Ends.{end_moved, same_moved}
use Rattle.mesh_check.proofs.LevelRows.{NotEast, back, itself, not_east_of_third, same_back_not_east, Wide, wide_of}
use Rattle.mesh_check.proofs.LevelRows.{Row, row_of}
use Rattle.mesh_check.proofs.LevelSteps.{Met, turned_round, both_left, seen_on, first_on, both_on}

-- a comparison and its outcome
pub is_most : (a b : ℤ) → IsTrue (le_z a b) → a ≤ℤ b
is_most a b h = grind (arith, ints)

pub most_is : (a b : ℤ) → a ≤ℤ b → IsTrue (le_z a b)
most_is a b h = grind (arith, ints)

-- ---- two members that overlap
module _ (v : ℤ) (m n : Member) (w : Meeting v m n) where
  pub lower_wide : Wide v m
  lower_wide =
      wide_of w.below v w.is_below (omega (arith, ints, w.top, w.is_below.order)) (omega (arith, ints, w.top)) m
      w.is_lower w.lower_code.turned

  pub upper_wide : Wide v n
  upper_wide =
      wide_of w.above v w.is_above (omega (arith, ints, w.bottom)) (omega (arith, ints, w.bottom, w.is_above.order)) n
      w.is_upper w.upper_code.turned

  pub later_lower : NotEast v n.left m.left → Later v m n m.left
  later_lower e = record {
    is = inl refl;
    after_lower = itself v m.left;
    after_upper = e;
    meets = lower_wide.left_meets;
    holds_lower = lower_wide.holds m.left lower_wide.left_up (itself v m.left) lower_wide.wide;
    holds_upper = upper_wide.holds m.left lower_wide.left_up e w.lower_first;
  }

  pub later_upper : NotEast v m.left n.left → Later v m n n.left
  later_upper e = record {
    is = inr refl;
    after_lower = e;
    after_upper = itself v n.left;
    meets = upper_wide.left_meets;
    holds_lower = lower_wide.holds n.left upper_wide.left_up e w.upper_first;
    holds_upper = upper_wide.holds n.left upper_wide.left_up (itself v n.left) upper_wide.wide;
  }

-- ---- the members of both slabs
module _ (v : ℤ) (lower upper : List Member) (b : AreBeside v lower upper) where
  code_of : (ms : List Member) → All (λ m. IsAt b.triangles m.number m.tri) ms → All (λ m. IsCodeTri m.tri) ms
  code_of ms numbered k d l =
      let at = numbered k d l in
      all_at IsCodeTri b.triangles (slice_index_or ms k d).number (slice_index_or ms k d).tri b.codes at.0 at.1

  pub lower_row : Row v lower
  lower_row =
      row_of b.below v lower b.is_below (omega (arith, ints, b.top, b.is_below.order))
      (omega (arith, ints, b.top)) b.each_lower
      (λ k d l. (code_of lower b.numbered_lower k d l).turned) b.joined_lower

  pub upper_row : Row v upper
  upper_row =
      row_of b.above v upper b.is_above (omega (arith, ints, b.bottom))
      (omega (arith, ints, b.bottom, b.is_above.order)) b.each_upper
      (λ k d l. (code_of upper b.numbered_upper k d l).turned) b.joined_upper

  -- triangles of one number
  one_tri : (m n : Member) → IsAt b.triangles m.number m.tri → IsAt b.triangles n.number n.tri → m.number ≡ n.number
      → m.tri ≡ n.tri
  one_tri m n p q e =
      one_at b.triangles n.number m.tri n.tri q.0
      (subst (λ (k : ℕ). slice_index_or b.triangles k m.tri ≡ m.tri) e p.1) q.1

  -- the members at the places
  abbrev lower_at : Pair → Member → Member
  lower_at at d = slice_index_or lower at.lower d

  abbrev upper_at : Pair → Member → Member
  upper_at at d = slice_index_or upper at.upper d

  abbrev C : Segment → Type 0
  C g = IsWitness v lower upper g

  move : (g h : Segment) → pos 0 <ℤ under g → pos 0 <ℤ under h → east_by v g h ≡ pos 0 → C g → C h
  move g h ug uh e c =
      let one : over g v *ℤ under h ≡ over h v *ℤ under g = omega (arith, ints, e) in
      record {
        held = record {
          below = c.held.below;
          above = c.held.above;
          in_lower = c.held.in_lower;
          in_upper = c.held.in_upper;
          holds_below = end_moved g h v one ug uh c.held.below.tri c.held.holds_below;
          holds_above = end_moved g h v one ug uh c.held.above.tri c.held.holds_above;
        };
        agree = same_moved g h v one ug uh c.held.below.tri c.held.above.tri c.agree;
      }

  contained : (ms : List Member) (k : ℕ) (d : Member) → k < length ms → Contains ms (slice_index_or ms k d)
  contained ms k d l = (k, l, at_own ms k d l)

  module _ (at : Pair) (o : Overlap v lower upper at) (d : Member) where
    abbrev m : Member
    m = lower_at at d

    abbrev n : Member
    n = upper_at at d

    pub meeting : Meeting v m n
    meeting = record {
      below = b.below;
      above = b.above;
      top = b.top;
      bottom = b.bottom;
      is_below = b.is_below;
      is_above = b.is_above;
      is_lower = b.each_lower at.lower d o.in_lower;
      is_upper = b.each_upper at.upper d o.in_upper;
      lower_code = code_of lower b.numbered_lower at.lower d o.in_lower;
      upper_code = code_of upper b.numbered_upper at.upper d o.in_upper;
      one = one_tri m n (b.numbered_lower at.lower d o.in_lower) (b.numbered_upper at.upper d o.in_upper);
      lower_first = o.lower_first d;
      upper_first = o.upper_first d;
    }

    -- an end that both hold
    abbrev held_at : (g : Segment) → HoldsEnd g v m.tri → HoldsEnd g v n.tri → Held v lower upper g
    held_at g h k = record {
      below = m;
      above = n;
      in_lower = contained lower at.lower d o.in_lower;
      in_upper = contained upper at.upper d o.in_upper;
      holds_below = h;
      holds_above = k;
    }

    witness_at : (g : Segment) → HoldsEnd g v m.tri → HoldsEnd g v n.tri → SameAt g v m.tri n.tri → C g
    witness_at g h k s = record { held = held_at g h k; agree = s }

    -- the left end that begins later, where the heights differ
    pub break_left : (g : Segment) → Later v m n g → ¬ SameAt g v m.tri n.tri → IsBreak v lower upper
    break_left g l s =
        ⊎_elim (λ e. broken m (inl (contained lower at.lower d o.in_lower)) (inl e))
        (λ e. broken n (inr (contained upper at.upper d o.in_upper)) (inl e)) l.is
      where
        broken : (e : Member) → Contains lower e ⊎ Contains upper e → (g ≡ e.left) ⊎ (g ≡ e.right)
            → IsBreak v lower upper
        broken e c i = record {
          end_of = e;
          listed = c;
          end = g;
          is_end = i;
          held = held_at g l.holds_lower l.holds_upper;
          differs = s;
        }

    -- the right end of the last member below
    pub right_upper : at.upper + 1 ≡ length upper → HoldsEnd m.right v n.tri
    right_upper e =
        let a = lower_wide v m n meeting in let z = upper_wide v m n meeting in
        z.holds m.right a.right_up (o.upper_first d)
        (not_east_of_third v m.right east n.right a.right_up (omega (arith, ints)) z.right_up a.within
        (same_back_not_east v n.right east (upper_row.last at.upper d e)))

    pub right_lower : HoldsEnd m.right v m.tri
    right_lower = let a = lower_wide v m n meeting in a.holds m.right a.right_up a.wide (itself v m.right)

    pub break_right : at.upper + 1 ≡ length upper → ¬ SameAt m.right v m.tri n.tri → IsBreak v lower upper
    break_right e s = record {
      end_of = m;
      listed = inl (contained lower at.lower d o.in_lower);
      end = m.right;
      is_end = inr refl;
      held = held_at m.right right_lower (right_upper e);
      differs = s;
    }

  -- ---- the walk
  abbrev pub Walking : Pair → Type 0
  Walking at = Met v (λ g. IsWitness v lower upper g) lower upper at.lower at.upper

  pub overlap_of : (at : Pair) → Walking at → Overlap v lower upper at
  overlap_of at w = record {
    in_lower = w.in_first;
    in_upper = w.in_second;
    lower_first = w.first_begins;
    upper_first = w.second_begins;
  }

  any_left : (ms : List Member) (k : ℕ) (d : Member) → k < length ms → C (left_at ms k d) → (e : Member)
      → C (left_at ms k e)
  any_left ms k d l c e = subst (λ (m : Member). C m.left) (any_default ms k d e l) c

  -- what the later left end shows
  pub record Shown (at : Pair) : Type 0 where
    pub first : (e : Member) → C (lower_at at e).left
    pub second : (e : Member) → C (upper_at at e).left

  pub shown : (at : Pair) → Walking at → (d : Member) (g : Segment) → Later v (lower_at at d) (upper_at at d) g
      → SameAt g v (lower_at at d).tri (upper_at at d).tri → Shown at
  shown at w d g l s =
      let both =
      both_left v C (lower_at at d) (upper_at at d) move (lower_row.each at.lower d w.in_first)
      (upper_row.each at.upper d w.in_second) (w.first_early d) (w.second_early d) g l.is l.after_lower l.after_upper
      (witness_at at (overlap_of at w) d g l.holds_lower l.holds_upper s) in
      record {
        first = any_left lower at.lower d w.in_first both.0;
        second = any_left upper at.upper d w.in_second both.1;
      }

  -- one step
  module _ (at next : Pair) (w : Walking at) (s : Shown at) (n : IsNext v lower upper at next) where
    abbrev BelowGoes : Type 0
    BelowGoes = (next.lower ≡ at.lower + 1) × ((d : Member) → NotEast v (lower_at at d).right (upper_at at d).right)

    abbrev AboveGoes : Type 0
    AboveGoes = (next.upper ≡ at.upper + 1) × ((d : Member) → NotEast v (upper_at at d).right (lower_at at d).right)

    put : (i j : ℕ) → next.lower ≡ i → next.upper ≡ j → Met v C lower upper i j → Walking next
    put i j e f met =
        subst (λ (k : ℕ). Met v C lower upper k next.upper) (sym e)
        (subst (λ (k : ℕ). Met v C lower upper i k) (sym f) met)

    below_alone : BelowGoes → next.upper ≡ at.upper → Walking next
    below_alone p q =
        put (at.lower + 1) at.upper p.0 q
        (first_on v C lower upper at.lower at.upper lower_row upper_row w s.first s.second
        (omega (arith, n.in_lower, p.0)) p.1)

    above_alone : next.lower ≡ at.lower → AboveGoes → Walking next
    above_alone p q =
        put at.lower (at.upper + 1) p q.0
        (turned_round v C upper lower (at.upper + 1) at.lower
        (first_on v C upper lower at.upper at.lower upper_row lower_row
        (turned_round v C lower upper at.lower at.upper w) s.second s.first (omega (arith, n.in_upper, q.0)) q.1))

    both : BelowGoes → AboveGoes → Walking next
    both p q =
        put (at.lower + 1) (at.upper + 1) p.0 q.0
        (both_on v C lower upper at.lower at.upper lower_row upper_row w s.first s.second
        (omega (arith, n.in_lower, p.0)) (omega (arith, n.in_upper, q.0)) p.1 q.1)

    pub walk_next : Walking next
    walk_next =
        ⊎_elim (λ p. ⊎_elim (λ q. absurd (omega (arith, n.on, p, q))) (above_alone p) n.upper_by)
        (λ p. ⊎_elim (below_alone p) (both p) n.upper_by) n.lower_by

  -- the end of the walk
  all_seen : (ms : List Member) (i : ℕ) → i + 1 ≡ length ms → ((k : ℕ) (d : Member) → k < i → C (left_at ms k d))
      → ((d : Member) → C (left_at ms i d)) → All (λ m. C m.left) ms
  all_seen ms i e seen here k d l = seen_on v C ms i seen here k d (omega (arith, l, e))

  pub walk_end : (at : Pair) (w : Walking at) → Shown at → at.lower + 1 ≡ length lower → at.upper + 1 ≡ length upper
      → (d : Member)
      → SameAt (lower_at at d).right v (lower_at at d).tri (upper_at at d).tri → IsWitnessed v lower upper
  walk_end at w s e f d same = record {
    lower_ends = all_seen lower at.lower e w.first_seen s.first;
    upper_ends = all_seen upper at.upper f w.second_seen s.second;
    last = let o = overlap_of at w in
        move (lower_at at d).right east (lower_row.each at.lower d w.in_first).right_up (omega (arith, ints))
        (lower_row.last at.lower d e)
        (witness_at at o d (lower_at at d).right (right_lower at o d) (right_upper at o d f) same);
  }

  -- the last of the one is not passed by the other
  pub last_ahead : (at : Pair) → Overlap v lower upper at → (d : Member) → at.upper + 1 ≡ length upper
      → NotEast v (lower_at at d).right (upper_at at d).right
  last_ahead at o d e =
      let m = lower_row.each at.lower d o.in_lower in let n = upper_row.each at.upper d o.in_upper in
      not_east_of_third v (lower_at at d).right east (upper_at at d).right m.right_up
      (omega (arith, ints)) n.right_up m.within
      (same_back_not_east v (upper_at at d).right east (upper_row.last at.upper d e))

  pub last_behind : (at : Pair) → Overlap v lower upper at → (d : Member) → at.lower + 1 ≡ length lower
      → NotEast v (upper_at at d).right (lower_at at d).right
  last_behind at o d e =
      let m = lower_row.each at.lower d o.in_lower in let n = upper_row.each at.upper d o.in_upper in
      not_east_of_third v (upper_at at d).right east (lower_at at d).right n.right_up
      (omega (arith, ints)) m.right_up n.within
      (same_back_not_east v (lower_at at d).right east (lower_row.last at.lower d e))

  -- the places after one step, by how far the right end above is east of the one below
  module _ (at next : Pair) (o : Overlap v lower upper at) (d : Member) (ahead : ℤ)
      (e : ahead ≡ east_by v (lower_at at d).right (upper_at at d).right)
      (in_lower : next.lower < length lower) (in_upper : next.upper < length upper)
      (lower_by : (next.lower ≡ at.lower) ⊎ ((next.lower ≡ at.lower + 1) × (pos 0 ≤ℤ ahead)))
      (upper_by : (next.upper ≡ at.upper) ⊎ ((next.upper ≡ at.upper + 1) × (ahead ≤ℤ pos 0)))
      (lower_on : pos 0 ≤ℤ ahead → at.lower + 1 < length lower → next.lower ≡ at.lower + 1)
      (upper_on : ahead ≤ℤ pos 0 → at.upper + 1 < length upper → next.upper ≡ at.upper + 1)
      (more : (at.lower + 1 < length lower) ⊎ (at.upper + 1 < length upper)) where
    lower_stays : at.lower ≤ next.lower
    lower_stays = ⊎_elim (λ p. omega (arith, p)) (λ p. omega (arith, p.0)) lower_by

    upper_stays : at.upper ≤ next.upper
    upper_stays = ⊎_elim (λ p. omega (arith, p)) (λ p. omega (arith, p.0)) upper_by

    lower_end : at.lower + 1 ≡ length lower → ahead ≤ℤ pos 0
    lower_end l =
        let n = last_behind at o d l in
        subst (λ (z : ℤ). z ≤ℤ pos 0) (sym e)
        (omega (arith, ints, n, back v (lower_at at d).right (upper_at at d).right))

    upper_end : at.upper + 1 ≡ length upper → pos 0 ≤ℤ ahead
    upper_end l = subst (λ (z : ℤ). pos 0 ≤ℤ z) (sym e) (last_ahead at o d l)

    by_less : {P : Type 0} (i k : ℕ) → (i < k → P) → (k ≤ i → P) → P
    by_less i k f g = by_lt_z (pos i) (pos k) (λ h. f (omega (arith, ints, h))) (λ h. g (omega (arith, ints, h)))

    lower_goes : pos 0 ≤ℤ ahead → at.lower + 1 < length lower → at.lower + at.upper < next.lower + next.upper
    lower_goes h l = omega (arith, lower_on h l, upper_stays)

    upper_goes : ahead ≤ℤ pos 0 → at.upper + 1 < length upper → at.lower + at.upper < next.lower + next.upper
    upper_goes h l = omega (arith, upper_on h l, lower_stays)

    goes_on : at.lower + at.upper < next.lower + next.upper
    goes_on =
        by_lt_z ahead (pos 0)
        (λ h. by_less (at.upper + 1) (length upper) (upper_goes (omega (arith, ints, h)))
        (λ l. absurd (omega (arith, ints, h, upper_end (omega (arith, l, o.in_upper))))))
        (λ h. by_less (at.lower + 1) (length lower) (lower_goes h)
        (λ l. upper_goes (lower_end (omega (arith, l, o.in_lower)))
        (⊎_elim (λ p. absurd (omega (arith, p, l))) (λ p. p) more)))

    any_right : (f : Member) → (east_by v (lower_at at d).right (upper_at at d).right
        ≡ east_by v (lower_at at f).right (upper_at at f).right)
    any_right f =
        ap (λ (m : Member). east_by v m.right (upper_at at d).right) (any_default lower at.lower d f o.in_lower)
        ∙ ap (λ (n : Member). east_by v (lower_at at f).right n.right) (any_default upper at.upper d f o.in_upper)

    pub next_of : IsNext v lower upper at next
    next_of = record {
      in_lower = in_lower;
      in_upper = in_upper;
      lower_by = ⊎_elim (λ p. inl p)
          (λ p. inr (p.0, λ f. subst (λ (z : ℤ). pos 0 ≤ℤ z) (e ∙ any_right f) p.1)) lower_by;
      upper_by = ⊎_elim (λ p. inl p)
          (λ p. inr (p.0, λ f. behind f (subst (λ (z : ℤ). z ≤ℤ pos 0) (e ∙ any_right f) p.1))) upper_by;
      on = goes_on;
    }
      where
        behind : (f : Member) → east_by v (lower_at at f).right (upper_at at f).right ≤ℤ pos 0
            → NotEast v (upper_at at f).right (lower_at at f).right
        behind f h = omega (arith, ints, h, back v (lower_at at f).right (upper_at at f).right)
