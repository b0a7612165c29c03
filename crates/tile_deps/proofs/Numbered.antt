-- The tiles of a list from a number on.
use Rattle.std.specs.Prelude.{◌≡◌, ℕ, ◌+◌, ◌*◌, ◌<◌, ◌≤◌, ◌&&◌, nat_le, Bool, true, cond, List, [], ◌∷◌, Option, Some, None, MatchOption}
use Rattle.std.specs.List.{Contains}
use Rattle.std.proofs.Common.{arith, inl, inr, refl, sym, ap, ap₂, subst, ◌∙◌}
use Rattle.std.proofs.lemmas.Bool.{and_from, and_parts, le-leb, lt-leb, leb-true}
use Rattle.terrain_base.specs.declared.square.Square.{Square}
use Rattle.terrain_base.specs.declared.tile.TileId.{TileId}
use Rattle.tms_tree.specs.Touch.{touches_of}
use Rattle.tile_deps.specs.Tiles.{touched}
use Rattle.tile_deps.specs.Walk.{number_of, from_number, touched_from, IsNextTile, IsBehindAll}
use Rattle.tile_deps.proofs.Listed.{first_there, later_there, there_cases, none_there}
use Rattle.tile_deps.proofs.Rising.{Rises, none_lower}
use Rattle.tile_deps.proofs.TileLists.{touched_there, touched_rises, there_touched}
use Rattle.std.proofs.lemmas.List.Elements.{All-contains}

-- ---- any list of tiles

pub same_from : (n m : ℕ) (ts : List TileId) → ((t : TileId) → Contains ts t → nat_le n (number_of t) ≡ nat_le m (number_of t)) → from_number n ts ≡ from_number m ts
unfolding from_number
same_from n m [] h = refl
same_from n m (t ∷ ts) h =
    ap₂ (λ b rest. cond b (t ∷ rest) rest) (h t (first_there t ts)) (same_from n m ts (λ u there. h u (later_there t u ts there)))

pub all_from : (n : ℕ) (ts : List TileId) → ((t : TileId) → Contains ts t → n ≤ number_of t) → from_number n ts ≡ ts
unfolding from_number
all_from n [] h = refl
all_from n (t ∷ ts) h = rw (le-leb n (number_of t) (h t (first_there t ts))) (ap (λ rest. t ∷ rest) (all_from n ts (λ u there. h u (later_there t u ts there))))

pub none_from : (n : ℕ) (ts : List TileId) → ((t : TileId) → Contains ts t → number_of t < n) → from_number n ts ≡ []
unfolding from_number
none_from n [] h = refl
none_from n (t ∷ ts) h = rw (lt-leb n (number_of t) (h t (first_there t ts))) (none_from n ts (λ u there. h u (later_there t u ts there)))

-- ---- rising numbers

behind : (low high : ℕ) (t u : TileId) (ts : List TileId) → Rises low high (t ∷ ts) → Contains ts u → number_of t + 1 ≤ number_of u
behind low high t u ts h there = All-contains (λ v. number_of t + 1 ≤ number_of v) ts u (none_lower (number_of t + 1) high ts h.1) there

begins_here : (low high : ℕ) (t : TileId) (ts : List TileId) → Rises low high (t ∷ ts) → from_number (number_of t) (t ∷ ts) ≡ t ∷ from_number (number_of t + 1) (t ∷ ts)
unfolding from_number
begins_here low high t ts h =
    let others = behind low high t in
    rw (le-leb (number_of t) (number_of t) (omega arith), lt-leb (number_of t + 1) (number_of t) (omega arith))
    (ap (λ rest. t ∷ rest)
    (all_from (number_of t) ts (λ u there. let later = others u ts h there in omega (arith, later)) ∙ sym (all_from (number_of t + 1) ts (λ u there. others u ts h there))))

skips : (n : ℕ) (t : TileId) (ts : List TileId) → number_of t < n → from_number n (t ∷ ts) ≡ from_number n ts
unfolding from_number
skips n t ts lt = rw (lt-leb n (number_of t) lt) refl

-- from a tile's number on stand the tile and those behind it
pub begins_with : (low high : ℕ) (ts : List TileId) (t : TileId) → Rises low high ts → Contains ts t → from_number (number_of t) ts ≡ t ∷ from_number (number_of t + 1) ts
begins_with low high [] t h there = absurd (none_there t there)
begins_with low high (u ∷ us) t h there =
    elim (there_cases u t us there) [
      | inl same ↦ subst (λ v. from_number (number_of v) (u ∷ us) ≡ v ∷ from_number (number_of v + 1) (u ∷ us)) same (begins_here low high u us h)
      | inr later ↦
          let lt = behind low high u t us h later in
          skips (number_of t) u us (omega (arith, lt))
          ∙ begins_with (number_of u + 1) high us t h.1 later
          ∙ ap (λ rest. t ∷ rest) (sym (skips (number_of t + 1) u us (omega (arith, lt))))
    ]

-- ---- the tiles that touch

abbrev pub passes : ℕ → Square → TileId → Bool
passes cap square tile = nat_le tile.z cap && touches_of tile square

pub there_passes : (cap : ℕ) (square : Square) (t : TileId) → Contains (touched cap square) t → passes cap square t ≡ true
there_passes cap square t there =
    let both = there_touched cap square t there in
    and_from _ _ (le-leb t.z cap both.0) both.1

-- those behind a number are those from the next one on
pub from_next : (cap : ℕ) (square : Square) (n : ℕ) (next : TileId) → IsNextTile (passes cap square) n next → from_number n (touched cap square) ≡ touched_from cap square (Some next)
from_next cap square n next h =
    same_from n (number_of next) (touched cap square) (λ t there.
    elim (h.first t (there_passes cap square t there)) [
      | inl before ↦ let later = h.later in lt-leb n (number_of t) before ∙ sym (lt-leb (number_of next) (number_of t) (omega (arith, before, later)))
      | inr behind ↦ let later = h.later in le-leb n (number_of t) (omega (arith, behind, later)) ∙ sym (le-leb (number_of next) (number_of t) behind)
    ])

pub from_none : (cap : ℕ) (square : Square) (n : ℕ) → IsBehindAll (passes cap square) n → from_number n (touched cap square) ≡ touched_from cap square None
from_none cap square n h = none_from n (touched cap square) (λ t there. h t (there_passes cap square t there))

-- all, from the first one on
pub from_first : (cap : ℕ) (square : Square) (first : TileId) → IsNextTile (passes cap square) 0 first → touched_from cap square (Some first) ≡ touched cap square
from_first cap square first h =
    sym (from_next cap square 0 first h) ∙ all_from 0 (touched cap square) (λ t there. omega arith)

-- the next one is given, and those behind it are left
pub next_given : (cap : ℕ) (square : Square) (tile : TileId) → passes cap square tile ≡ true → touched_from cap square (Some tile) ≡ tile ∷ from_number (number_of tile + 1) (touched cap square)
next_given cap square tile h =
    let both = and_parts (nat_le tile.z cap) (touches_of tile square) h in
    begins_with 0 (536870912 * (cap + 1)) (touched cap square) tile (touched_rises cap square) (touched_there cap square tile (leb-true tile.z cap both.0) both.1)

-- what a call of `next` finds
pub next_steps : (cap : ℕ) (square : Square) (tile : TileId) (next : Option TileId) → passes cap square tile ≡ true
    → MatchOption next (IsBehindAll (passes cap square) (number_of tile + 1)) (IsNextTile (passes cap square) (number_of tile + 1))
    → touched_from cap square (Some tile) ≡ tile ∷ touched_from cap square next
next_steps cap square tile None is h = next_given cap square tile is ∙ ap (λ rest. tile ∷ rest) (from_none cap square (number_of tile + 1) h)
next_steps cap square tile (Some next) is h = next_given cap square tile is ∙ ap (λ rest. tile ∷ rest) (from_next cap square (number_of tile + 1) next h)
