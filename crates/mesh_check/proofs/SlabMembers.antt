-- The members of the sorted ranks are the members of the slab.
use Rattle.std.proofs.Common.{◌≡◌, ℕ, ◌<◌, ap, sym, subst, ◌∙◌, arith, List, length, slice_index_or, IsPermutation}
use Rattle.std.specs.Prelude.{pos, All, Any, AllPairs}
use Rattle.std.specs.List.{AllZip}
use Rattle.std.proofs.lemmas.Int.{ints, by_lt_z}
use Rattle.std.proofs.lemmas.List.Sorted.{All-permutation, Contains-permutation, length_permutation}
use Rattle.mesh_plane.specs.declared.corner.Corner.{Corner}
use Rattle.mesh_plane.specs.declared.corner.Tri.{Tri}
use Rattle.mesh_check.specs.declared.rank.Rank.{Rank}
use Rattle.mesh_check.specs.declared.span.Span.{Span}
use Rattle.mesh_check.specs.Slab.{Slab, Member, IsTileSlab}
use Rattle.mesh_check.specs.Members.{IsAt, Reaches, AreMembers, IsListed, IsTileMember, Before}
use Rattle.mesh_check.specs.Ranks.{IsNotAfter}
use Rattle.mesh_check.specs.Ordered.{IsActive, IsMemberAt, IsRankOf, IsRankAt, IsEachOnce, AreAll}
use Rattle.mesh_check.proofs.ListFacts.{at_own, any_default}
use Rattle.mesh_check.proofs.Exact.{same_member}
use Rattle.mesh_check.proofs.RankMembers.{ranked_before}
use Rattle.mesh_check.proofs.Zips.{zip_at, zip_length}
use Rattle.mesh_check.proofs.Distinct.{IsDistinct, still_distinct}

nobody : Member
nobody = let o : Corner = record { u = pos 0; v = pos 0; h = pos 0 } in record {
  number = 0;
  tri =
      record { a = o; b = o; c = o };
  left = record { low = o; high = o };
  right = record { low = o; high = o };
}

none : Span
none = record { low = 0; high = 0; number = 0 }

module _ (slab : Slab) (ts : List Tri) (active : List Span) (first ranks : List Rank) (tile : IsTileSlab slab)
    (are_active : All (λ s. IsActive slab ts s.number) active)
    (zip : AllZip (λ s r. IsRankAt slab ts s.number r) active first)
    (moved : IsPermutation first ranks) where
  len : length first ≡ length active
  len = zip_length (λ s r. IsRankAt slab ts s.number r) active first zip

  rank_at : (k : ℕ) (d : Rank) → k < length first → IsRankAt slab ts (slice_index_or active k none).number
      (slice_index_or first k d)
  rank_at k d l = zip_at (λ s r. IsRankAt slab ts s.number r) active first k none d zip (omega (arith, l, len))

  number_at : (k : ℕ) (d : Rank) → k < length first → (slice_index_or first k d).number ≡
      (slice_index_or active k none).number
  number_at k d l = let r = rank_at k d l in r.is_rank.number ∙ r.is_member.numbered

  own : All (λ r. IsRankAt slab ts r.number r) first
  own k d l = subst (λ (n : ℕ). IsRankAt slab ts n (slice_index_or first k d)) (sym (number_at k d l)) (rank_at k d l)

  pub own_ranks : All (λ r. IsRankAt slab ts r.number r) ranks
  own_ranks = All-permutation (λ r. IsRankAt slab ts r.number r) first ranks moved own

  act : All (λ r. IsActive slab ts r.number) first
  act k d l = subst (λ (n : ℕ). IsActive slab ts n) (sym (number_at k d l)) (are_active k none (omega (arith, l, len)))

  pub active_ranks : All (λ r. IsActive slab ts r.number) ranks
  active_ranks = All-permutation (λ r. IsActive slab ts r.number) first ranks moved act

  module _ (once : IsEachOnce active) (all : AreAll slab ts active) (order : AllPairs IsNotAfter ranks)
      (members : List Member) (with : AllZip (λ r m. IsMemberAt slab ts r.number m) ranks members) where
    apart : (i j : ℕ) → i < length active → j < length active → (slice_index_or active i none).number ≡
        (slice_index_or active j none).number → i ≡ j
    apart i j li lj e =
        by_lt_z (pos i) (pos j) (λ l. absurd (once i j none (omega (arith, ints, l)) lj e))
        (λ l. by_lt_z (pos j) (pos i) (λ k. absurd (once j i none (omega (arith, ints, k)) li (sym e)))
        (λ k. omega (arith, ints, l, k)))

    distinct : IsDistinct (λ (r : Rank). r.number) ranks
    distinct = still_distinct (λ (r : Rank). r.number) first ranks
        (λ i j d li lj e. apart i j (omega (arith, li, len)) (omega (arith, lj, len)) (sym (number_at i d li) ∙ e
        ∙ number_at j d lj)) moved

    many : length members ≡ length ranks
    many = zip_length (λ r m. IsMemberAt slab ts r.number m) ranks members with

    nil : Rank
    nil = record { left = 0; right = 0; number = 0 }

    member_at : (k : ℕ) (d : Member) → k < length members → IsMemberAt slab ts (slice_index_or ranks k nil).number
        (slice_index_or members k d)
    member_at k d l = zip_at (λ r m. IsMemberAt slab ts r.number m) ranks members k nil d with (omega (arith, l, many))

    listed : (n : ℕ) (m : Member) → IsMemberAt slab ts n m → IsListed slab ts m
    listed n m i = record { at = subst (λ (k : ℕ). IsAt ts k m.tri) (sym i.numbered) i.at; is = i.is.is }

    rank_of_member : (k : ℕ) (d : Member) → k < length members → IsRankOf slab (slice_index_or members k d)
        (slice_index_or ranks k nil)
    rank_of_member k d l =
        let m = member_at k d l in let r = own_ranks k nil (omega (arith, l, many)) in
        subst (λ (x : Member). IsRankOf slab x (slice_index_or ranks k nil))
        (same_member slab tile.order ts r.member (slice_index_or members k d)
        (listed (slice_index_or ranks k nil).number r.member r.is_member)
        (listed (slice_index_or ranks k nil).number (slice_index_or members k d) m)
        (r.is_member.numbered ∙ sym m.numbered)) r.is_rank

    ascending : AllPairs (Before slab) members
    ascending i j d l k =
        let li : i < length members = omega (arith, l, k) in
        ranked_before slab (slice_index_or members i d) (slice_index_or members j d) (slice_index_or ranks i nil)
        (slice_index_or ranks j nil) tile (member_at i d li).is (member_at j d k).is
        (rank_of_member i d li) (rank_of_member j d k)
        (λ e. let f : i ≡ j = distinct i j nil (omega (arith, li, many)) (omega (arith, k, many))
        (sym (member_at i d li).numbered ∙ e ∙ (member_at j d k).numbered) in omega (arith, f, l))
        (order i j nil l (omega (arith, k, many)))

    there : (number : ℕ) (t : Tri) → IsAt ts number t → Reaches slab t → Any (λ m. m.number ≡ number) members
    there number t a r =
        let c = all number t a r in
        let l : c.0 < length first = omega (arith, c.2, len) in
        let x = slice_index_or first c.0 nil in
        let q = Contains-permutation first ranks x moved (c.0, l, at_own first c.0 nil l) in
        let n : x.number ≡ number = number_at c.0 nil l ∙ ap (λ (s : Span). s.number) (default active c.0 none c.1 c.2
        ∙ c.3) ∙ c.4 in
        let lm : q.0 < length members = omega (arith, q.1, many) in
        let m = slice_index_or members q.0 nobody in (
          q.0,
          m,
          lm,
          at_own members q.0 nobody lm,
          (member_at q.0 nobody lm).numbered ∙ ap (λ (s : Rank). s.number) (default ranks q.0 nil x q.1 ∙ q.2) ∙ n,
        )
      where
        default : {Y : Type 0} (ys : List Y) (k : ℕ) (d e : Y) → k < length ys
            → slice_index_or ys k d ≡ slice_index_or ys k e
        default ys k d e l = any_default ys k d e l

    pub are_members : AreMembers slab ts members
    are_members = record {
      numbered = λ k d l. (listed (slice_index_or ranks k nil).number (slice_index_or members k d)
          (member_at k d l)).at;
      each = λ k d l. (member_at k d l).is.is;
      ascending = ascending;
      all = there;
    }

    pub count : length members ≡ length active
    count = let moved_len = length_permutation first ranks moved in omega (arith, many, len, moved_len)

    pub on_tile : All (IsTileMember slab) members
    on_tile k d l = (member_at k d l).is
