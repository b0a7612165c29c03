-- Lists of tiles whose numbers rise are in the order of tiles.
use Rattle.std.specs.Prelude.{◌≡◌, ◌≢◌, ℕ, zero, suc, ◌+◌, ◌<◌, ◌≤◌, Bool, true, false, cond, List, [], ◌∷◌, ◌++◌, flat_map}
use Rattle.std.specs.List.{filter, range_with_len, All, AllPairs}
use Rattle.std.specs.Ordering.{nat_cmp, ordering_then}
use Rattle.std.specs.declared.cmp.Ordering.{Ordering}
use Rattle.std.specs.declared.cmp.Ordering.TheVariants.{Less}
use Rattle.std.proofs.Common.{arith, refl, ap, ◌∙◌, inl, inr}
use Rattle.std.proofs.lemmas.Bool.{lt-ltb, le-ltb, eq-eqb, cases_order}
use Rattle.std.proofs.lemmas.List.Elements.{All-nil, All-cons, All-weaker}
use Rattle.std.proofs.lemmas.List.Kept.{AllPairs-cons}
use Rattle.terrain_base.specs.TileOrder.{tile_cmp}
use Rattle.terrain_base.specs.declared.tile.TileId.{TileId}
use Rattle.terrain_base.proofs.TileNumbers.{small_x, small_y}
use Rattle.tile_deps.specs.Laws.{TilesAscend}
use Rattle.tile_deps.specs.Walk.{number_of}

-- from the low number on, below the high one, each tile's number is greater than the one before
abbrev pub Rises : ℕ → ℕ → List TileId → Type 0
Rises low high [] = low ≤ high
Rises low high (t ∷ ts) = (low ≤ number_of t) × Rises (number_of t + 1) high ts

pub not_empty : (low high : ℕ) (ts : List TileId) → Rises low high ts → low ≤ high
not_empty low high [] h = h
not_empty low high (t ∷ ts) h = let rest = not_empty (number_of t + 1) high ts h.1 in omega (arith, h.0, rest)

pub from_lower : (low lower high : ℕ) (ts : List TileId) → lower ≤ low → Rises low high ts → Rises lower high ts
from_lower low lower high [] le h = omega (arith, le, h)
from_lower low lower high (t ∷ ts) le h = (omega (arith, le, h.0), h.1)

pub to_higher : (low high higher : ℕ) (ts : List TileId) → high ≤ higher → Rises low high ts → Rises low higher ts
to_higher low high higher [] le h = omega (arith, le, h)
to_higher low high higher (t ∷ ts) le h = (h.0, to_higher (number_of t + 1) high higher ts le h.1)

pub both_rise : (low middle high : ℕ) (ts us : List TileId) → Rises low middle ts → Rises middle high us → Rises low high (ts ++ us)
both_rise low middle high [] us h g = from_lower middle low high us h g
both_rise low middle high (t ∷ ts) us h g = (h.0, both_rise (number_of t + 1) middle high ts us h.1 g)

pub all_rise : (low : ℕ → ℕ) (f : ℕ → List TileId) (m n : ℕ) → ((k : ℕ) → m ≤ k → k < m + n → Rises (low k) (low (k + 1)) (f k)) → Rises (low m) (low (m + n)) (flat_map f (range_with_len m n))
all_rise low f m zero h = let same : m + 0 ≡ m = omega arith in rw same (omega arith)
all_rise low f m (suc n) h =
    let same : m + suc n ≡ m + 1 + n = omega arith in
    rw same (both_rise (low m) (low (m + 1)) (low (m + 1 + n)) (f m) (flat_map f (range_with_len (m + 1) n)) (h m (omega arith) (omega arith))
    (all_rise low f (m + 1) n (λ k from below. h k (omega (arith, from)) (omega (arith, below)))))

kept_if : (p : TileId → Bool) (low high : ℕ) (t : TileId) (ts : List TileId) (b : Bool) → low ≤ number_of t → Rises (number_of t + 1) high (filter p ts)
    → Rises low high (cond b (t ∷ filter p ts) (filter p ts))
kept_if p low high t ts true le h = (le, h)
kept_if p low high t ts false le h = from_lower (number_of t + 1) low high (filter p ts) (omega (arith, le)) h

pub kept_rise : (p : TileId → Bool) (low high : ℕ) (ts : List TileId) → Rises low high ts → Rises low high (filter p ts)
kept_rise p low high [] h = h
kept_rise p low high (t ∷ ts) h = kept_if p low high t ts (p t) h.0 (kept_rise p (number_of t + 1) high ts h.1)

-- ---- each number

pub none_lower : (low high : ℕ) (ts : List TileId) → Rises low high ts → All (λ t. low ≤ number_of t) ts
none_lower low high [] h = All-nil (λ t. low ≤ number_of t)
none_lower low high (t ∷ ts) h =
    All-cons (λ t. low ≤ number_of t) t ts h.0
    (All-weaker (λ u. number_of t + 1 ≤ number_of u) (λ u. low ≤ number_of u) (λ u le. omega (arith, le, h.0)) ts (none_lower (number_of t + 1) high ts h.1))

pub all_below : (low high : ℕ) (ts : List TileId) → Rises low high ts → All (λ t. number_of t < high) ts
all_below low high [] h = All-nil (λ t. number_of t < high)
all_below low high (t ∷ ts) h =
    let end = not_empty (number_of t + 1) high ts h.1 in
    All-cons (λ t. number_of t < high) t ts (omega (arith, end)) (all_below (number_of t + 1) high ts h.1)

-- ---- the order

by_lesser : (a b : ℕ) (o : Ordering) → a < b → ordering_then (nat_cmp a b) o ≡ Less
by_lesser a b o lt = rw (lt-ltb a b lt) refl

by_equal : (a b : ℕ) (o : Ordering) → a ≡ b → ordering_then (nat_cmp a b) o ≡ o
by_equal a b o e = rw (le-ltb a b (omega (arith, e)), eq-eqb a b e) refl

pub before_by_numbers : (a b : TileId) → number_of a < number_of b → tile_cmp a b ≡ Less
before_by_numbers a b lt =
    let ax = small_x a in
    let ay = small_y a in
    let bx = small_x b in
    let by = small_y b in
    elim (cases_order a.z b.z) [
      | inr (inl less) ↦ by_lesser a.z b.z _ less
      | inr (inr greater) ↦ absurd (omega (arith, greater, lt, bx, by))
      | inl z_is ↦
          by_equal a.z b.z _ z_is ∙ elim (cases_order a.y b.y) [
            | inr (inl less) ↦ by_lesser a.y b.y _ less
            | inr (inr greater) ↦ absurd (omega (arith, greater, lt, bx, z_is))
            | inl y_is ↦ by_equal a.y b.y _ y_is ∙ rw (lt-ltb a.x b.x (omega (arith, lt, z_is, y_is))) refl
          ]
    ]

pub rise_ascend : (low high : ℕ) (ts : List TileId) → Rises low high ts → TilesAscend ts
rise_ascend low high [] h = λ i j d lt inside. absurd (omega (arith, inside))
rise_ascend low high (t ∷ ts) h =
    AllPairs-cons (λ a b. tile_cmp a b ≡ Less) t ts
    (All-weaker (λ u. number_of t + 1 ≤ number_of u) (λ u. tile_cmp t u ≡ Less) (λ u le. before_by_numbers t u (omega (arith, le))) ts (none_lower (number_of t + 1) high ts h.1))
    (rise_ascend (number_of t + 1) high ts h.1)

pub ascend_once : (low high : ℕ) (ts : List TileId) → Rises low high ts → AllPairs (λ a b. a ≢ b) ts
ascend_once low high [] h = λ i j d lt inside. absurd (omega (arith, inside))
ascend_once low high (t ∷ ts) h =
    AllPairs-cons (λ a b. a ≢ b) t ts
    (All-weaker (λ u. number_of t + 1 ≤ number_of u) (λ u. t ≢ u) (λ u le same. let e = ap number_of same in omega (arith, le, e)) ts (none_lower (number_of t + 1) high ts h.1))
    (ascend_once (number_of t + 1) high ts h.1)
