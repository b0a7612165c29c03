-- The spans that reach through a slab are those of its members.
use Rattle.std.proofs.Common.{◌≡◌, ℕ, suc, ◌<◌, ◌≤◌, Bool, true, false, cond, ap, sym, subst, ◌∙◌, arith, List, [], ◌∷◌}
use Rattle.std.proofs.Common.{length, take, slice_index_or, ⊎_elim}
use Rattle.std.specs.Prelude.{◌⊎◌, ℤ, pos, ◌≤ℤ◌, filter, All, Any, AllPairs, Contains}
use Rattle.std.proofs.lemmas.Int.{ints, by_lt_z}
use Rattle.std.proofs.lemmas.Bool.{leb-true, le-leb}
use Rattle.std.proofs.lemmas.List.{get_or-take, length-take-le}
use Rattle.std.proofs.lemmas.List.Elements.{All-take, All-filter, filter_passes}
use Rattle.std.proofs.lemmas.List.Kept.{AllPairs-filter}
use Rattle.mesh_plane.specs.declared.corner.Tri.{Tri}
use Rattle.mesh_plane.proofs.ListWords.{any_here, any_there, any_none, any_cases}
use Rattle.mesh_check.specs.Slab.{Slab}
use Rattle.mesh_check.specs.Members.{IsSlab, IsAt, Reaches, IsApart, ArePlaced, AreMembers, IsTileMember}
use Rattle.mesh_check.specs.Findings.{slab_of}
use Rattle.mesh_check.specs.Ordered.{IsActive, IsEachOnce, AreAll}
use Rattle.mesh_check.specs.Spans.{Span, Active, IsSpan, IsSpanAt, AreSpans, reaches_up, AreThrough}
use Rattle.mesh_check.specs.Sweep.{Course, Layer, levels_in, IsCourse, IsLayer}
use Rattle.mesh_check.proofs.ListFacts.{all_at, at_own, contains_all}

module _ {X : Type 0} (p : X → Bool) where
  pub filter_short : (xs : List X) → length (filter p xs) ≤ length xs
  filter_short [] = omega arith
  filter_short (x ∷ xs) = by_test (p x) x (filter p xs) (length xs) (filter_short xs)
    where
      by_test : (b : Bool) (x : X) (ys : List X) (n : ℕ) → length ys ≤ n → length (cond b (x ∷ ys) ys) ≤ suc n
      by_test true x ys n l = omega (arith, l)
      by_test false x ys n l = omega (arith, l)

  -- what passes the test is kept
  any_kept : (P : X → Type 0) (x : X) (ys : List X) (b : Bool) → Any P ys → Any P (cond b (x ∷ ys) ys)
  any_kept P x ys true h = any_there P x ys h
  any_kept P x ys false h = h

  pub any_filter : (P : X → Type 0) (xs : List X) → Any (λ x. P x × (p x ≡ true)) xs → Any P (filter p xs)
  any_filter P [] h = absurd (any_none (λ x. P x × (p x ≡ true)) h)
  any_filter P (x ∷ xs) h =
      ⊎_elim (λ a. subst (λ (b : Bool). Any P (cond b (x ∷ filter p xs) (filter p xs))) (sym a.1)
      (any_here P x (filter p xs) a.0))
      (λ t. any_kept P x (filter p xs) (p x) (any_filter P xs t)) (any_cases (λ x. P x × (p x ≡ true)) x xs h)

pairs_take : {X : Type 0} (R : X → X → Type 0) (n : ℕ) (xs : List X) → n ≤ length xs → AllPairs R xs → AllPairs R
    (take n xs)
pairs_take R n xs within h i j d l k =
    let len : length (take n xs) ≡ n = length-take-le n xs within in
    let jn : j < n = omega (arith, k, len) in
    subst (λ a. R a (slice_index_or (take n xs) j d)) (sym (get_or-take n xs i d (omega (arith, l, jn))))
    (subst (λ b. R (slice_index_or xs i d) b) (sym (get_or-take n xs j d jn)) (h i j d l (omega (arith, jn, within))))

module _ (levels : List ℤ) (ts : List Tri) (placed : ArePlaced levels ts) (spans : List Span) (all : AreSpans ts spans)
    (active : Active) (low high : ℕ)
    (is : IsSlab levels (slab_of low high)) (t : AreThrough spans active low high) where
  abbrev slab : Slab
  slab = slab_of low high

  abbrev Between : ℤ → Type 0
  Between v = (v ≤ℤ slab.low) ⊎ (slab.high ≤ℤ v)

  apart : (k : ℕ) (u : Tri) → IsAt ts k u → IsApart slab u
  apart k u i =
      let c = all_at (λ t. Contains levels t.a.v × Contains levels t.b.v × Contains levels t.c.v) ts k u placed.corners
      i.0 i.1 in
      record {
        a = contains_all Between levels u.a.v is.none_between c.0;
        b =
            contains_all Between levels u.b.v is.none_between c.1;
        c =
            contains_all Between levels u.c.v is.none_between c.2;
      }

  reach : (u : Tri) (s : Span) → IsSpan u s → s.low ≤ low → high ≤ s.high → Reaches slab u
  reach u s i a b = record {
    down = (i.low (pos low)).0 (omega (arith, ints, a));
    up =
        (i.high (pos high)).0 (omega (arith, ints, b));
  }

  abbrev kept : List Span
  kept = filter (reaches_up high) (take active.next spans)

  kept_active : All (λ s. IsActive slab ts s.number) kept
  kept_active k d l =
      let s = slice_index_or kept k d in
      let at = All-filter (reaches_up high) (IsSpanAt ts) (take active.next spans)
      (All-take (IsSpanAt ts) active.next spans all.each) k d l in
      let a : s.low ≤ low = All-filter (reaches_up high) (λ s. s.low ≤ low) (take active.next spans) t.begun k d l in
      let b : high ≤ s.high = leb-true high s.high (filter_passes (reaches_up high) (take active.next spans) k d l) in (
        at.numbered,
        λ e. (
          reach (slice_index_or ts s.number e) s (at.is e) a b,
          apart s.number (slice_index_or ts s.number e) (at.numbered, at_own ts s.number e at.numbered),
        ),
      )

  pub are_active : All (λ s. IsActive slab ts s.number) active.spans.items
  are_active = subst (λ (xs : List Span). All (λ s. IsActive slab ts s.number) xs) (sym t.are) kept_active

  pub are_once : IsEachOnce active.spans.items
  are_once = subst (λ (xs : List Span). IsEachOnce xs) (sym t.are)
      (AllPairs-filter (λ r s. r.number ≡ s.number → ⊥) (reaches_up high) (take active.next spans)
      (pairs_take (λ r s. r.number ≡ s.number → ⊥) active.next spans t.within all.once))

  -- the span of a triangle that reaches through is among the first ones
  module _ (number : ℕ) (u : Tri) (at : IsAt ts number u) (r : Reaches slab u) (i : ℕ) (s : Span) (l : i < length spans)
      (e : slice_index_or spans i s ≡ s) (n : s.number ≡ number) where
    own : IsSpan u s
    own =
        let z = all_at (IsSpanAt ts) spans i s all.each l e in
        subst (λ (k : Tri). IsSpan k s) (subst (λ (k : ℕ). slice_index_or ts k u ≡ u) (sym n) at.1) (z.is u)

    low_end : s.low ≤ low
    low_end = omega (arith, ints, (own.low (pos low)).1 r.down)

    high_end : high ≤ s.high
    high_end = omega (arith, ints, (own.high (pos high)).1 r.up)

    first : i < active.next
    first =
        by_lt_z (pos i) (pos active.next) (λ h. omega (arith, ints, h))
        (λ h. absurd (let j : active.next ≤ i = omega (arith, ints, h) in
        let a : (slice_index_or spans active.next s).low ≤ (slice_index_or spans i s).low =
        all.ascending active.next i s j l in
        let b : (slice_index_or spans i s).low ≡ s.low = ap (λ (k : Span). k.low) e in
        let c = t.rest s (omega (arith, j, l)) in
        omega (arith, a, b, c, low_end)))

    here : Any (λ s. s.number ≡ number) kept
    here =
        let len : length (take active.next spans) ≡ active.next = length-take-le active.next spans t.within in
        any_filter (reaches_up high) (λ s. s.number ≡ number) (take active.next spans)
        (i, s, omega (arith, first, len), get_or-take active.next spans i s first ∙ e, (n, le-leb high s.high high_end))

  pub are_all : AreAll slab ts active.spans.items
  are_all number u at r =
      let a = all.all number at.0 in
      subst (λ (xs : List Span). Any (λ s. s.number ≡ number) xs) (sym t.are) (here number u at r a.0 a.1 a.2 a.3 a.4)

  pub few : length active.spans.items ≤ length ts
  few =
      let a : length active.spans.items ≡ length kept = ap (λ (xs : List Span). length xs) t.are in
      let b : length kept ≤ length (take active.next spans) = filter_short (reaches_up high) (take active.next spans) in
      let c : length (take active.next spans) ≡ active.next = length-take-le active.next spans t.within in
      omega (arith, a, b, c, t.within, all.count)

-- what the making of members asks for, and what it gives, of lists that are read through references
module _ (course : Course) (ready : IsCourse course) (active : Active) (low high : ℕ) (is : IsSlab (levels_in course)
    (slab_of low high)) (spans : List Span) (t : AreThrough spans active low high)
    (s : spans ≡ course.spans.items) (slab : Slab) (e : slab ≡ slab_of low high) (ts : List Tri)
    (f : ts ≡ course.triangles.items) (xs : List Span) (g : xs ≡ active.spans.items) where
  reads : AreThrough course.spans.items active low high
  reads = subst (λ (ys : List Span). AreThrough ys active low high) s t

  pub ready_active : All (λ s. IsActive slab ts s.number) xs
  ready_active =
      subst (λ (z : Slab). All (λ s. IsActive z ts s.number) xs) (sym e)
      (subst (λ (us : List Tri). All (λ s. IsActive (slab_of low high) us s.number) xs) (sym f)
      (subst (λ (ys : List Span). All (λ s. IsActive (slab_of low high) course.triangles.items s.number) ys) (sym g)
      (are_active (levels_in course) course.triangles.items ready.placed course.spans.items ready.spans active low high
      is reads)))

  pub ready_once : IsEachOnce xs
  ready_once =
      subst (λ (ys : List Span). IsEachOnce ys) (sym g)
      (are_once (levels_in course) course.triangles.items ready.placed course.spans.items ready.spans active low high is
      reads)

  pub ready_all : AreAll slab ts xs
  ready_all =
      subst (λ (z : Slab). AreAll z ts xs) (sym e)
      (subst (λ (us : List Tri). AreAll (slab_of low high) us xs) (sym f)
      (subst (λ (ys : List Span). AreAll (slab_of low high) course.triangles.items ys) (sym g)
      (are_all (levels_in course) course.triangles.items ready.placed course.spans.items ready.spans active low high is
      reads)))

  pub layer_of : (layer : Layer) → layer.slab ≡ slab → AreMembers slab ts layer.members.items → All
      (IsTileMember slab) layer.members.items → length layer.members.items ≡ length xs
      → IsLayer course low high layer
  layer_of layer q a o n = record {
    slab = q ∙ e;
    is = subst (λ (z : Slab). IsSlab (levels_in course) z) (sym (q ∙ e)) is;
    are = subst (λ (z : Slab). AreMembers z course.triangles.items layer.members.items) (sym q)
        (subst (λ (us : List Tri). AreMembers slab us layer.members.items) f a);
    on_tile = subst (λ (z : Slab). All (IsTileMember z) layer.members.items) (sym q) o;
    few =
        let l = few (levels_in course) course.triangles.items ready.placed course.spans.items ready.spans active low
        high is reads in
        let m : length xs ≡ length active.spans.items = ap (λ (ys : List Span). length ys) g in
        omega (arith, n, m, l, ready.few);
  }
