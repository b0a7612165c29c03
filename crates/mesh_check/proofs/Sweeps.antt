-- A sweep goes on over the next slab.
use Rattle.std.proofs.Common.{◌≡◌, ℕ, ◌≤◌, true, false, refl, ap, sym, subst, ◌∙◌, arith, List, [], take, inl, inr}
use Rattle.std.proofs.Common.{⊎_elim}
use Rattle.std.specs.Prelude.{◌⊎◌, ℤ, pos, ◌≤ℤ◌, All, Contains, Option, None, Some, MatchOption, IfSome, is_some}
use Rattle.std.specs.Prelude.{filter}
use Rattle.std.proofs.lemmas.Int.{ints}
use Rattle.std.proofs.lemmas.List.Elements.{All-nil}
use Rattle.mesh_plane.specs.declared.corner.Tri.{Tri}
use Rattle.mesh_plane.specs.Plane.{IsCounterClockwise}
use Rattle.mesh_check.specs.declared.verdict.Finding.{Finding}
use Rattle.mesh_check.specs.declared.verdict.Finding.TheVariants.{HeightGap}
use Rattle.mesh_check.specs.Slab.{Slab, Member, IsMember, Joined, west, IsTileSlab}
use Rattle.mesh_check.specs.Members.{IsSlab, IsAt, AreMembers, IsListed, HasHeights, IsWhole}
use Rattle.mesh_check.specs.Findings.{FirstStepAt, HasStep}
use Rattle.mesh_check.specs.Level.{AreBeside, IsWitnessed, IsBreak}
use Rattle.mesh_check.specs.Sweep.{Course, Layer, Seen, levels_in, IsCourse, IsLayer, IsBelow, IsJoined, AreWitnessed}
use Rattle.mesh_check.specs.Sweep.{AllJoined, AllWhole, AllWitnessed, IsFirstStep, IsFirstBreak, AreSeen, IsSweptTo}
use Rattle.mesh_check.specs.Spans.{Active, reaches_up, AreBegun}
use Rattle.mesh_check.proofs.ListFacts.{contains_all}
use Rattle.mesh_check.proofs.Sound.{range_of}
use Rattle.mesh_check.proofs.Slabs.{one_slab, up_to}

pub listed_in : (slab : Slab) (ts : List Tri) (ms : List Member) (m : Member) → AreMembers slab ts ms → Contains ms m
    → IsListed slab ts m
listed_in slab ts ms m a c = record {
  at = contains_all (λ m. IsAt ts m.number m.tri) ms m a.numbered c;
  is =
      contains_all (IsMember slab) ms m a.each c;
}

module _ (course : Course) (ready : IsCourse course) where
  abbrev hs : List ℤ
  hs = levels_in course

  abbrev ts : List Tri
  ts = course.triangles.items

  pub turned : All IsCounterClockwise ts
  turned k d l = (ready.codes k d l).turned

  pub tile : (slab : Slab) → IsSlab hs slab → IsTileSlab slab
  tile slab is = let r = range_of hs ts ready.placed turned slab is in record {
    floor = r.0;
    order = is.order;
    ceiling =
        r.1;
  }

  module _ (low high : ℕ) (above : Layer) (is : IsLayer course low high above)
      (joined : Joined above.slab west above.members.items) where
    abbrev ms : List Member
    ms = above.members.items

    new_or : (slab : Slab) → IsSlab hs slab → slab.high ≤ℤ pos high → (slab.high ≤ℤ pos low) ⊎ (slab ≡ above.slab)
    new_or slab i l =
        ⊎_elim (λ h. inl (subst (λ (z : Slab). slab.high ≤ℤ z.low) is.slab h)) (λ e. inr e)
        (up_to hs slab above.slab i is.is (subst (λ (z : Slab). slab.high ≤ℤ z.high) (sym is.slab) l))

    pub joined_on : AllJoined hs ts low → AllJoined hs ts high
    joined_on f slab i l =
        ⊎_elim (λ h. f slab i h) (λ e. subst (λ (z : Slab). IsJoined z ts) (sym e) (record {
          members = ms;
          are = is.are;
          joined = joined;
        })) (new_or slab i l)

    whole_on : AllWhole hs ts low → HasHeights above.slab ms → AllWhole hs ts high
    whole_on f h slab i l =
        ⊎_elim (λ k. f slab i k) (λ e. subst (λ (z : Slab). IsWhole z ts) (sym e) (record {
          members = ms;
          are = is.are;
          joined = joined;
          heights = h;
        })) (new_or slab i l)

    pub step_seen : (step : Option Finding) → AllWhole hs ts low → IfSome step
        (λ f. (place : ℕ) × (f ≡ HeightGap low high place) × FirstStepAt above.slab ms place)
        → (step ≡ None → HasHeights above.slab ms) → MatchOption step (AllWhole hs ts high) (IsFirstStep hs ts)
    step_seen (Some f) w s n = record {
      low = low;
      high = high;
      place = s.0;
      is = s.1;
      has = subst (λ (z : Slab). HasStep hs ts z s.0) is.slab (record {
        is = is.is;
        members = ms;
        are = is.are;
        at =
            s.2;
      });
      before = w;
    }
    step_seen None w s n = whole_on w (n refl)

    module _ (b : Layer) (under : IsBelow course low b) where
      top : b.slab.high ≡ pos low
      top = ap (λ (z : Slab). z.high) under.is.slab

      bottom : above.slab.low ≡ pos low
      bottom = ap (λ (z : Slab). z.low) is.slab

      pub beside : AreBeside (pos low) b.members.items ms
      beside = record {
        below = b.slab;
        above = above.slab;
        triangles = ts;
        top = top;
        bottom = bottom;
        is_below = tile b.slab under.is.is;
        is_above = tile above.slab is.is;
        codes = ready.codes;
        numbered_lower = under.is.are.numbered;
        numbered_upper = is.are.numbered;
        each_lower = under.is.on_tile;
        each_upper = is.on_tile;
        joined_lower = under.joined;
        joined_upper = joined;
      }

      first_break : AllWitnessed hs ts low → IsBreak (pos low) b.members.items ms → IsFirstBreak hs ts low
      first_break w k = record {
        has = record {
          below = b.slab;
          above = above.slab;
          is_below = under.is.is;
          is_above = is.is;
          top = top;
          bottom = bottom;
          lower = k.held.below;
          upper = k.held.above;
          listed_lower = listed_in b.slab ts b.members.items k.held.below under.is.are k.held.in_lower;
          listed_upper = listed_in above.slab ts ms k.held.above is.are k.held.in_upper;
          end_of = k.end_of;
          listed_end = ⊎_elim (λ c. inl (listed_in b.slab ts b.members.items k.end_of under.is.are c))
              (λ c. inr (listed_in above.slab ts ms k.end_of is.are c)) k.listed;
          end = k.end;
          is_end = k.is_end;
          holds_lower = k.held.holds_below;
          holds_upper = k.held.holds_above;
          differs = k.differs;
        };
        before = w;
      }

      witnessed : IsWitnessed (pos low) b.members.items ms → AreWitnessed ts b.slab above.slab
      witnessed e = record {
        lower = b.members.items;
        upper = ms;
        are_lower = under.is.are;
        are_upper = is.are;
        ends = subst (λ (v : ℤ). IsWitnessed v b.members.items ms) (sym top) e;
      }

      witnessed_on : AllWitnessed hs ts low → IsWitnessed (pos low) b.members.items ms → AllWitnessed hs ts high
      witnessed_on w e below over i j k l =
          ⊎_elim (λ h. w below over i j k h) (λ q.
          let r : below.high ≡ b.slab.high = k ∙ ap (λ (z : Slab). z.low) q ∙ bottom ∙ sym top in
          subst (λ (z : Slab). AreWitnessed ts z over) (sym (one_slab hs below b.slab i under.is.is r))
          (subst (λ (z : Slab). AreWitnessed ts b.slab z) (sym q) (witnessed e)))
          (new_or over j l)

    -- no slab lies below the south edge
    witnessed_first : low ≡ 0 → AllWitnessed hs ts low → AllWitnessed hs ts high
    witnessed_first z w below over i j k l =
        ⊎_elim (λ h. w below over i j k h) (λ q.
        let r : below.high ≡ pos low = k ∙ ap (λ (z : Slab). z.low) q ∙ ap (λ (z : Slab). z.low) is.slab in
        let t = tile below i in
        absurd (omega (arith, ints, r, z, t.floor, t.order))) (new_or over j l)

    pub line_seen : (below : Option Layer) (line : Option ℕ) → AllWitnessed hs ts low → MatchOption below (low ≡ 0)
        (IsBelow course low)
        → (line ≡ None → IfSome below (λ b. IsWitnessed (pos low) b.members.items ms))
        → IfSome line (λ at. (at ≡ low) × MatchOption below ⊥ (λ b. IsBreak (pos low) b.members.items ms))
        → MatchOption line (AllWitnessed hs ts high) (IsFirstBreak hs ts)
    line_seen (Some b) (Some v) w u n s = subst (λ (k : ℕ). IsFirstBreak hs ts k) (sym s.0) (first_break b u w s.1)
    line_seen None (Some v) w u n s = absurd s.1
    line_seen (Some b) None w u n s = witnessed_on b u w (n refl)
    line_seen None None w u n s = witnessed_first u w

    pub beside_some : (below : Option Layer) → MatchOption below (low ≡ 0) (IsBelow course low) → IfSome below
        (λ b. AreBeside (pos low) b.members.items ms)
    beside_some (Some b) u = beside b u
    beside_some None u = tt

    line_kept : (line : Option ℕ) → is_some line ≡ true → MatchOption line (AllWitnessed hs ts low) (IsFirstBreak hs ts)
        → MatchOption line (AllWitnessed hs ts high) (IsFirstBreak hs ts)
    line_kept (Some v) e h = h
    line_kept None e h = absurd (let f : false ≡ true = e in cc)

    line_open : (line : Option ℕ) → is_some line ≡ false → MatchOption line (AllWitnessed hs ts low)
        (IsFirstBreak hs ts) → AllWitnessed hs ts low
    line_open (Some v) e h = absurd (let f : true ≡ false = e in cc)
    line_open None e h = h

    step_open : (step : Option Finding) → is_some step ≡ false → step ≡ None
    step_open (Some f) e = absurd (let g : true ≡ false = e in cc)
    step_open None e = refl

    -- what is seen after the slab
    module _ (seen : Seen) (are : AreSeen hs ts seen low) (stepless : is_some seen.step ≡ false) (step : Option Finding)
        (found : IfSome step (λ f. (place : ℕ) × (f ≡ HeightGap low high place) × FirstStepAt above.slab ms place))
        (none : step ≡ None → HasHeights above.slab ms) where
      no_step : seen.step ≡ None
      no_step = step_open seen.step stepless

      so_far : AllWhole hs ts low
      so_far = subst (λ (o : Option Finding). MatchOption o (AllWhole hs ts low) (IsFirstStep hs ts)) no_step are.step

      pub seen_with_line : is_some seen.line ≡ true → AreSeen hs ts (record { step = step; line = seen.line }) high
      seen_with_line e = record {
        step = step_seen step so_far found none;
        line =
            λ q. line_kept seen.line e (are.line no_step);
      }

      pub seen_on : is_some seen.line ≡ false → (below : Option Layer) (line : Option ℕ) → MatchOption below (low ≡ 0)
          (IsBelow course low)
          → (line ≡ None → IfSome below (λ b. IsWitnessed (pos low) b.members.items ms))
          → IfSome line (λ at. (at ≡ low) × MatchOption below ⊥ (λ b. IsBreak (pos low) b.members.items ms))
          → AreSeen hs ts (record { step = step; line = line }) high
      seen_on e below line u n s = record {
        step = step_seen step so_far found none;
        line =
            λ q. line_seen below line (line_open seen.line e (are.line no_step)) u n s;
      }

-- ---- the sweep's loop
module _ (course : Course) (ready : IsCourse course) where
  nothing_below : (slab : Slab) → IsSlab (levels_in course) slab → slab.high ≤ℤ pos 0 → ⊥
  nothing_below slab i l = let t = tile course ready slab i in omega (arith, ints, l, t.floor, t.order)

  pub sweep_start : (active : Active) → active.spans.items ≡ [] → active.next ≡ 0 → (v : ℕ) → v ≡ 0
      → IsSweptTo course active None (record { step = None; line = None }) v
  sweep_start active e n v z =
      subst (λ (k : ℕ). IsSweptTo course active None (record { step = None; line = None }) k) (sym z)
      (record {
        begun = record {
          are = subst (λ (k : ℕ). active.spans.items ≡ filter (reaches_up 0) (take k course.spans.items)) (sym n) e;
          within = omega (arith, n);
          begun = subst (λ (k : ℕ). All (λ s. s.low ≤ 0) (take k course.spans.items)) (sym n)
              (All-nil (λ s. s.low ≤ 0));
        };
        below = refl;
        joined = λ slab i l. absurd (nothing_below slab i l);
        seen = record {
          step = λ slab i l. absurd (nothing_below slab i l);
          line = λ q below above i j e l. absurd (nothing_below above j l);
        };
      })

  pub sweep_on : (low high : ℕ) (above : Layer) (is : IsLayer course low high above)
      → Joined above.slab west above.members.items → (active : Active) → AreBegun course.spans.items active high
      → AllJoined (levels_in course) course.triangles.items low → (seen : Seen) → AreSeen
      (levels_in course) course.triangles.items seen high
      → (v : ℕ) → v ≡ high → IsSweptTo course active (Some above) seen v
  sweep_on low high above is joined active begun so_far seen are v e =
      subst (λ (k : ℕ). IsSweptTo course active (Some above) seen k) (sym e)
      (record {
        begun = begun;
        below = record { low = low; is = is; joined = joined };
        joined =
            joined_on course ready low high above is joined so_far;
        seen = are;
      })
