-- Going from member to member.
use Rattle.std.proofs.Common.{◌≡◌, ℕ, zero, suc, ◌+◌, ◌<◌, refl, sym, subst, ap, ◌∙◌, arith, List, [], ◌∷◌, length}
use Rattle.std.proofs.Common.{slice_index_or, drop}
use Rattle.std.proofs.lemmas.Int.{ints}
use Rattle.mesh_check.specs.Slab.{Slab, Segment, Member, Spans, IsSame, west, east, Joined, GapAt, IsTileSlab}
use Rattle.mesh_check.specs.Slab.{IsTileSegment}
use Rattle.mesh_check.specs.Members.{IsTileMember}

drop_suc : {X : Type 0} (xs : List X) (k : ℕ) (d : X) → k < length xs → drop k xs ≡ slice_index_or xs k d ∷ drop
    (suc k) xs
drop_suc [] k d l = absurd (omega arith)
drop_suc (x ∷ xs) zero d l = refl
drop_suc (x ∷ xs) (suc k) d l = drop_suc xs k d (omega arith)

pub drop_at : {X : Type 0} (xs : List X) (k : ℕ) (d : X) → k < length xs → drop k xs ≡ slice_index_or xs k d ∷ drop
    (k + 1) xs
drop_at {X} xs k d l = let e : suc k ≡ k + 1 = omega arith in
    subst (λ (n : ℕ). drop k xs ≡ slice_index_or xs k d ∷ drop n xs) e (drop_suc xs k d l)

pub drop_end : {X : Type 0} (xs : List X) → drop (length xs) xs ≡ []
drop_end [] = refl
drop_end (x ∷ xs) = drop_end xs

-- what comes from the segment on, after so many members, is what comes from the west edge on
pub record Walked (slab : Slab) (ms : List Member) (right : Segment) (place : ℕ) : Type 0 where
  pub spans : Spans slab right
  pub on_tile : IsTileSegment right
  pub joined : Joined slab right (drop place ms) → Joined slab west ms
  pub gap : (p : ℕ) → GapAt slab right (drop place ms) p → GapAt slab west ms (p + place)

pub walk_start : (slab : Slab) (ms : List Member) (right : Segment) → IsTileSlab slab → right ≡ west
    → Walked slab ms right 0
walk_start slab ms right t e = subst (λ (g : Segment). Walked slab ms g 0) (sym e) (record {
  spans = record { low = t.floor; high = t.ceiling };
  on_tile = record {
    low = record {
      west = omega (arith, ints);
      east = omega (arith, ints);
      south = omega (arith, ints);
      north =
          omega (arith, ints);
    };
    high = record {
      west = omega (arith, ints);
      east = omega (arith, ints);
      south = omega (arith, ints);
      north =
          omega (arith, ints);
    };
  };
  joined = λ j. j;
  gap = λ p g. subst (λ (k : ℕ). GapAt slab west ms k) (omega arith) g;
})

module _ (slab : Slab) (ms : List Member) (right : Segment) (place : ℕ) (w : Walked slab ms right place) where
  pub walk_on : (d : Member) → place < length ms → IsTileMember slab (slice_index_or ms place d) → IsSame slab right
      (slice_index_or ms place d).left
      → Walked slab ms (slice_index_or ms place d).right (place + 1)
  walk_on d l t s =
      record {
        spans = t.is.right;
        on_tile = t.right;
        joined = λ j. w.joined (subst (λ (xs : List Member). Joined slab right xs) (sym (drop_at ms place d l)) (s, j));
        gap = λ p g. subst (λ (k : ℕ). GapAt slab west ms k) (omega arith)
            (w.gap (suc p) (subst (λ (xs : List Member). GapAt slab right xs (suc p)) (sym (drop_at ms place d l)) (
              s,
              g,
            )));
      }

  pub walk_gap : (d : Member) → place < length ms → ¬ IsSame slab right (slice_index_or ms place d).left
      → GapAt slab west ms place
  walk_gap d l n =
      subst (λ (k : ℕ). GapAt slab west ms k) (omega arith)
      (w.gap 0 (subst (λ (xs : List Member). GapAt slab right xs 0) (sym (drop_at ms place d l)) n))

  ended : length ms ≡ place → drop place ms ≡ []
  ended e = ap (λ (k : ℕ). drop k ms) (sym e) ∙ drop_end ms

  pub walk_end : length ms ≡ place → IsSame slab right east → Joined slab west ms
  walk_end e s = w.joined (subst (λ (xs : List Member). Joined slab right xs) (sym (ended e)) s)

  pub walk_end_gap : length ms ≡ place → ¬ IsSame slab right east → GapAt slab west ms place
  walk_end_gap e n = subst (λ (k : ℕ). GapAt slab west ms k) (omega arith)
      (w.gap 0 (subst (λ (xs : List Member). GapAt slab right xs 0) (sym (ended e)) n))
