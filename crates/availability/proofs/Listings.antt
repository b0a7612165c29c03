-- There is a list that has each existing tile once.
use Rattle.std.specs.Prelude.{◌≡◌, ◌≢◌, ◌↔◌, ℕ, zero, suc, ◌+◌, ◌^◌, ◌<◌, ◌⊎◌, List, [], ◌∷◌, ◌++◌, get_or}
use Rattle.std.specs.List.{AllPairs, Contains}
use Rattle.std.proofs.Common.{arith, inl, inr, refl, sym, subst, ◌∙◌}
use Rattle.std.proofs.lemmas.Bool.{and_parts, both_ways, cases_Bool, cases_lt}
use Rattle.std.proofs.lemmas.List.Elements.{All-append, All-contains_itself, Contains-append_left, Contains-append_right, Contains-append_cases}
use Rattle.std.proofs.lemmas.List.Kept.{AllPairs-cons}
use Rattle.terrain_base.specs.declared.summary.Summary.{Summary}
use Rattle.terrain_base.specs.declared.tile.TileId.{TileId}
use Rattle.terrain_base.proofs.TileNumbers.{same_tile}
use Rattle.availability.specs.Count.{ListsTiles}
use Rattle.availability.specs.Existence.{Exists, is_tile, exists_at}
use Rattle.availability.proofs.Deepest.{tile_of, at_numbers}
use Rattle.availability.proofs.Existing.{exists_law}

-- a list that has each tile of a kind once and no other
record ListOf (P : TileId → Type 0) : Type 0 where
  tiles : List TileId
  once : AllPairs (λ a b. a ≢ b) tiles
  exact : (tile : TileId) → Contains tiles tile ↔ P tile

-- ---- lists of lists

no_tile : (P : TileId → Type 0) → ((tile : TileId) → P tile → ⊥) → ListOf P
no_tile P h = record {
  tiles = [];
  once = λ i j d lt inside. absurd (omega (arith, inside));
  exact = λ tile. (λ there. absurd (omega (arith, there.1)), λ p. absurd (h tile p));
}

only_one : (u tile : TileId) (k : ℕ) → k < 1 → get_or (u ∷ []) k tile ≡ tile → u ≡ tile
only_one u tile zero h e = e
only_one u tile (suc k) h e = absurd (omega (arith, h))

just_this : (P : TileId → Type 0) (u : TileId) → P u → ((tile : TileId) → P tile → tile ≡ u) → ListOf P
just_this P u h only = record {
  tiles = u ∷ [];
  once = λ i j d lt inside. absurd (omega (arith, lt, inside));
  exact = λ tile. (λ there. subst P (only_one u tile there.0 there.1 there.2) h, λ p. (0, omega arith, sym (only tile p)));
}

both_once : (xs ys : List TileId) → AllPairs (λ a b. a ≢ b) xs → AllPairs (λ a b. a ≢ b) ys → ((tile : TileId) → Contains xs tile → Contains ys tile → ⊥)
    → AllPairs (λ a b. a ≢ b) (xs ++ ys)
both_once [] ys f g apart = g
both_once (x ∷ xs) ys f g apart =
    AllPairs-cons (λ a b. a ≢ b) x (xs ++ ys)
    (All-append (λ b. x ≢ b) xs ys
    (λ k d inside. f 0 (suc k) d (omega arith) (omega arith))
    (λ k d inside e. apart x (0, omega arith, refl) (subst (Contains ys) (sym e) (All-contains_itself ys k d inside))))
    (both_once xs ys (λ i j d lt inside. f (suc i) (suc j) d (omega arith) (omega arith)) g (λ tile h. apart tile (suc h.0, omega (arith, h.1), h.2)))

both_lists : (P Q R : TileId → Type 0) → ListOf P → ListOf Q → ((tile : TileId) → P tile → Q tile → ⊥) → ((tile : TileId) → (P tile ⊎ Q tile) ↔ R tile) → ListOf R
both_lists P Q R a b apart whole = record {
  tiles = a.tiles ++ b.tiles;
  once = both_once a.tiles b.tiles a.once b.once (λ tile h g. apart tile ((a.exact tile).0 h) ((b.exact tile).0 g));
  exact = λ tile. (
    λ h. elim (Contains-append_cases a.tiles b.tiles tile h) [
      | inl g ↦ (whole tile).0 (inl ((a.exact tile).0 g))
      | inr g ↦ (whole tile).0 (inr ((b.exact tile).0 g))
    ],
    λ r. elim ((whole tile).1 r) [
      | inl p ↦ Contains-append_left a.tiles b.tiles tile ((a.exact tile).1 p)
      | inr q ↦ Contains-append_right a.tiles b.tiles tile ((b.exact tile).1 q)
    ],
  );
}

-- ---- the numbers below n

number_cases : (P : TileId → Type 0) (number : TileId → ℕ) (n : ℕ) (tile : TileId) → (((number tile < n) × P tile) ⊎ ((number tile ≡ n) × P tile)) ↔ ((number tile < suc n) × P tile)
number_cases P number n tile = (
  λ h. elim h [
    | inl g ↦ (omega (arith, g.0), g.1)
    | inr g ↦ (omega (arith, g.0), g.1)
  ],
  λ h. elim (cases_lt (number tile) n) [
    | inl g ↦ inl (g, h.1)
    | inr g ↦ inr (omega (arith, g, h.0), h.1)
  ],
)

all_below : (P : TileId → Type 0) (number : TileId → ℕ) → ((k : ℕ) → ListOf (λ tile. (number tile ≡ k) × P tile)) → (n : ℕ) → ListOf (λ tile. (number tile < n) × P tile)
all_below P number each zero = no_tile (λ tile. (number tile < 0) × P tile) (λ tile h. omega (arith, h.0))
all_below P number each (suc n) =
    both_lists (λ tile. (number tile < n) × P tile) (λ tile. (number tile ≡ n) × P tile) (λ tile. (number tile < suc n) × P tile)
    (all_below P number each n) (each n) (λ tile h g. omega (arith, h.0, g.0)) (number_cases P number n)

-- all numbers of tiles of the kind are below n
all_of : (P : TileId → Type 0) (number : TileId → ℕ) (n : ℕ) → ((tile : TileId) → P tile → number tile < n) → ((k : ℕ) → ListOf (λ tile. (number tile ≡ k) × P tile)) → ListOf P
all_of P number n within each =
    let list = all_below P number each n in
    record {
      tiles = list.tiles;
      once = list.once;
      exact = λ tile. (λ h. ((list.exact tile).0 h).1, λ p. (list.exact tile).1 (within tile p, p));
    }

-- ---- the existing tiles

abbrev OfLevel : ℕ → List Summary → ℕ → TileId → Type 0
OfLevel cap cells z tile = (tile.z ≡ z) × Exists cap cells tile

abbrev OfRow : ℕ → List Summary → ℕ → ℕ → TileId → Type 0
OfRow cap cells z r tile = (tile.y ≡ r) × OfLevel cap cells z tile

abbrev OfPlace : ℕ → List Summary → ℕ → ℕ → ℕ → TileId → Type 0
OfPlace cap cells z r c tile = (tile.x ≡ c) × OfRow cap cells z r tile

place_list : (cap : ℕ) (cells : List Summary) (z r c : ℕ) → ListOf (OfPlace cap cells z r c)
place_list cap cells z r c =
    elim (cases_Bool (exists_at cap cells z r c)) [
      | inl e ↦
          let tile = tile_of z r c (and_parts (is_tile z r c) _ e).0 in
          let there = (exists_law cap cells tile.0).0 (sym (at_numbers cap cells tile.0 z r c tile.1 tile.2 tile.3) ∙ e) in
          just_this (OfPlace cap cells z r c) tile.0 (tile.3, (tile.2, (tile.1, there)))
          (λ other h. same_tile other tile.0 (h.1.1.0 ∙ sym tile.1) (h.1.0 ∙ sym tile.2) (h.0 ∙ sym tile.3))
      | inr e ↦
          no_tile (OfPlace cap cells z r c)
          (λ tile h. both_ways (exists_at cap cells z r c) e (at_numbers cap cells tile z r c h.1.1.0 h.1.0 h.0 ∙ (exists_law cap cells tile).1 h.1.1.1))
    ]

row_list : (cap : ℕ) (cells : List Summary) (z r : ℕ) → ListOf (OfRow cap cells z r)
row_list cap cells z r =
    all_of (OfRow cap cells z r) (λ tile. tile.x) (2 ^ (z + 1)) (λ tile h. subst (λ n. tile.x < 2 ^ (n + 1)) h.1.0 tile.x_in_range) (place_list cap cells z r)

level_list : (cap : ℕ) (cells : List Summary) (z : ℕ) → ListOf (OfLevel cap cells z)
level_list cap cells z =
    all_of (OfLevel cap cells z) (λ tile. tile.y) (2 ^ z) (λ tile h. subst (λ n. tile.y < 2 ^ n) h.0 tile.y_in_range) (row_list cap cells z)

pub found_list : (cap : ℕ) (cells : List Summary) → (tiles : List TileId) × ListsTiles cap cells tiles
found_list cap cells =
    let list = all_of (Exists cap cells) (λ tile. tile.z) 15 (λ tile h. omega (arith, tile.z_in_range)) (level_list cap cells) in
    (list.tiles, record { once = list.once; exact = list.exact })
