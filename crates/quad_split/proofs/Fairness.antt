-- The lines between nodes: what the split rule gives to the cover by leaves.
use Rattle.std.proofs.Common.{◌≡◌, ℕ, suc, ◌+◌, ◌-◌, ◌*◌, Bool, true, false, not, ◌&&◌, ◌||◌, List, refl, ap, sym, ◌∙◌, arith}
use Rattle.std.specs.Prelude.{ℤ}
use Rattle.std.proofs.lemmas.Bool.{or_left, or_right, or_parts}
use Rattle.std.proofs.Math.Bool.{or-false}
use Rattle.mesh_plane.proofs.QuadHeights.{IsFair}
use Rattle.quad_split.specs.Node.{is_node}
use Rattle.quad_split.specs.Fits.{fits_at}
use Rattle.quad_split.specs.Split.{touching, is_split}
use Rattle.quad_split.specs.Midpoints.{is_south_broken, is_west_broken, midpoints_of}
use Rattle.quad_split.specs.Laws.{AreBroken, AreWhereBroken, AreHalvesWhole}
use Rattle.quad_split.proofs.Nodes.{node_x, node_y, is_node_yes, twice}

-- the lines round a node that is split are broken
pub broken : (p : ℕ → ℕ → ℕ → Bool) (k x y : ℕ) → p k x y ≡ true → AreBroken p k x y
broken p k x y e =
    let i : x + 1 - 1 ≡ x = omega arith in let j : y + 1 - 1 ≡ y = omega arith in
    record {
      south = or_left (p k x y) (p k x (y - 1)) e;
      north = or_right (p k x (y + 1)) (p k x (y + 1 - 1)) (ap (p k x) j ∙ e);
      west = or_left (p k x y) (p k (x - 1) y) e;
      east = or_right (p k (x + 1) y) (p k (x + 1 - 1) y) (ap (λ n. p k n y) i ∙ e);
    }

-- a leaf has midpoints where they are
pub where_broken : (p : ℕ → ℕ → ℕ → Bool) (k x y : ℕ) → p k x y ≡ false
    → AreWhereBroken p k x y (midpoints_of p k x y)
where_broken p k x y e =
    let i : x + 1 - 1 ≡ x = omega arith in let j : y + 1 - 1 ≡ y = omega arith in
    record {
      south = rw e;
      north = sym (ap (λ (b : Bool). p k x (y + 1) || b) (ap (p k x) j ∙ e) ∙ or-false (p k x (y + 1)));
      west = rw e;
      east = sym (ap (λ (b : Bool). p k (x + 1) y || b) (ap (λ n. p k n y) i ∙ e) ∙ or-false (p k (x + 1) y));
    }

-- where no node of half the side in the node or beside it is split, the halves of its sides are whole
untouched : (f : ℕ → ℕ → Bool) (x y : ℕ) → touching f x y ≡ false → (k : ℕ) (p : ℕ → ℕ → ℕ → Bool)
    → ((u v : ℕ) → p k u v ≡ f u v) → AreHalvesWhole p k x y
untouched f x y t k p e =
    let past_south_west = (or_parts (f (2 * x) (2 * y)) _ t).1 in
    let past_south_east = (or_parts (f (2 * x + 1) (2 * y)) _ past_south_west).1 in
    let past_north_west = (or_parts (f (2 * x) (2 * y + 1)) _ past_south_east).1 in
    let past_north_east = (or_parts (f (2 * x + 1) (2 * y + 1)) _ past_north_west).1 in
    let past_west_low = (or_parts (f (2 * x - 1) (2 * y)) _ past_north_east).1 in
    let past_west_high = (or_parts (f (2 * x - 1) (2 * y + 1)) _ past_west_low).1 in
    let past_east_low = (or_parts (f (2 * x + 2) (2 * y)) _ past_west_high).1 in
    let past_east_high = (or_parts (f (2 * x + 2) (2 * y + 1)) _ past_east_low).1 in
    let past_south_left = (or_parts (f (2 * x) (2 * y - 1)) _ past_east_high).1 in
    let past_south_right = (or_parts (f (2 * x + 1) (2 * y - 1)) _ past_south_left).1 in
    let south_west = e _ _ ∙ (or_parts (f (2 * x) (2 * y)) _ t).0 in
    let south_east = e _ _ ∙ (or_parts (f (2 * x + 1) (2 * y)) _ past_south_west).0 in
    let north_west = e _ _ ∙ (or_parts (f (2 * x) (2 * y + 1)) _ past_south_east).0 in
    let north_east = e _ _ ∙ (or_parts (f (2 * x + 1) (2 * y + 1)) _ past_north_west).0 in
    let west_low = e _ _ ∙ (or_parts (f (2 * x - 1) (2 * y)) _ past_north_east).0 in
    let west_high = e _ _ ∙ (or_parts (f (2 * x - 1) (2 * y + 1)) _ past_west_low).0 in
    let east_low = e _ _ ∙ (or_parts (f (2 * x + 2) (2 * y)) _ past_west_high).0 in
    let east_high = e _ _ ∙ (or_parts (f (2 * x + 2) (2 * y + 1)) _ past_east_low).0 in
    let south_left = e _ _ ∙ (or_parts (f (2 * x) (2 * y - 1)) _ past_east_high).0 in
    let south_right = e _ _ ∙ (or_parts (f (2 * x + 1) (2 * y - 1)) _ past_south_left).0 in
    let north_left = e _ _ ∙ (or_parts (f (2 * x) (2 * y + 2)) (f (2 * x + 1) (2 * y + 2)) past_south_right).0 in
    let north_right = e _ _ ∙ (or_parts (f (2 * x) (2 * y + 2)) (f (2 * x + 1) (2 * y + 2)) past_south_right).1 in
    let east_column : 2 * (x + 1) ≡ 2 * x + 2 = omega arith in
    let column_before_east : 2 * x + 2 - 1 ≡ 2 * x + 1 = omega arith in
    let north_row : 2 * (y + 1) ≡ 2 * y + 2 = omega arith in
    let row_before_north : 2 * y + 2 - 1 ≡ 2 * y + 1 = omega arith in
    record {
      south = (rw (south_west, south_left), rw (south_east, south_right));
      north = (
        rw (north_row, row_before_north, north_left, north_west),
        rw (north_row, row_before_north, north_right, north_east),
      );
      west = (rw (south_west, west_low), rw (north_west, west_high));
      east = (
        rw (east_column, column_before_east, east_low, south_east),
        rw (east_column, column_before_east, east_high, north_east),
      );
    }

pub halves_whole : (grid : List ℤ) (tol k x y : ℕ) → is_node (suc k) x y ≡ true
    → is_split grid tol (suc k) x y ≡ false
    → AreHalvesWhole (is_split grid tol) k x y
halves_whole grid tol k x y n e =
    go (is_node (suc k) x y) n (not (fits_at grid tol (suc k) x y)) (touching
    (is_split grid tol k) x y) refl e
  where
    go : (a : Bool) → a ≡ true → (b c : Bool) → touching (is_split grid tol k) x y ≡ c → (a && (b || c))
        ≡ false
        → AreHalvesWhole (is_split grid tol) k x y
    go false a b c t h = absurd (let z = a in cc)
    go true a b c t h = untouched (is_split grid tol k) x y (t
        ∙ (or_parts b c h).1) k (is_split grid tol) (λ u v. refl)

-- a node that is not split fits
pub unsplit_fits : (grid : List ℤ) (tol k x y : ℕ) → is_node (suc k) x y ≡ true
    → is_split grid tol (suc k) x y ≡ false
    → fits_at grid tol (suc k) x y ≡ true
unsplit_fits grid tol k x y n e =
    go (is_node (suc k) x y) n (fits_at grid tol (suc k) x y) (touching (is_split grid tol k) x y) e
  where
    go : (a : Bool) → a ≡ true → (b c : Bool) → (a && (not b || c)) ≡ false → b ≡ true
    go false a b c h = absurd (let z = a in cc)
    go true a true c h = refl
    go true a false c h = absurd (let z = h in cc)

-- the place is a node's
abbrev pub Inside : ℕ → ℕ → ℕ → Type 0
Inside k x y = is_node k x y ≡ true

pub down : (k x y : ℕ) → Inside (suc (suc k)) x y
    → Inside (suc k) (2 * x) (2 * y)
    × (Inside (suc k) (2 * x + 1) (2 * y)
    × (Inside (suc k) (2 * x) (2 * y + 1) × Inside (suc k) (2 * x + 1) (2 * y + 1)))
down k x y h =
    let i = twice k x (node_x (suc (suc k)) x y h) in let j = twice k y (node_y (suc (suc k)) x y h) in (
      is_node_yes (suc k) (2 * x) (2 * y) (omega arith) (omega arith),
      (
        is_node_yes (suc k) (2 * x + 1) (2 * y) i (omega arith),
        (
          is_node_yes (suc k) (2 * x) (2 * y + 1) (omega arith) j,
          is_node_yes (suc k) (2 * x + 1) (2 * y + 1) i j,
        ),
      ),
    )

-- what the cover by leaves asks of a split rule
pub split_is_fair : (grid : List ℤ) (tol : ℕ)
    → IsFair (is_split grid tol) (midpoints_of (is_split grid tol)) (is_south_broken (is_split grid tol))
    (is_west_broken (is_split grid tol)) Inside
split_is_fair grid tol = let p = is_split grid tol in record {
  down = down;
  south = λ k x y i e. (broken p (suc k) x y e).south;
  north = λ k x y i e. (broken p (suc k) x y e).north;
  west = λ k x y i e. (broken p (suc k) x y e).west;
  east = λ k x y i e. (broken p (suc k) x y e).east;
  mid_south = λ k x y i e. (where_broken p (suc k) x y e).south;
  mid_north = λ k x y i e. (where_broken p (suc k) x y e).north;
  mid_west = λ k x y i e. (where_broken p (suc k) x y e).west;
  mid_east = λ k x y i e. (where_broken p (suc k) x y e).east;
  whole_south = λ k x y i e. (halves_whole grid tol k x y i e).south;
  whole_north = λ k x y i e. (halves_whole grid tol k x y i e).north;
  whole_west = λ k x y i e. (halves_whole grid tol k x y i e).west;
  whole_east = λ k x y i e. (halves_whole grid tol k x y i e).east;
}
