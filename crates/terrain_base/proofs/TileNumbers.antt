-- The numbers of a tile fit 64 bits and few digits, and make the tile.
use Rattle.std.specs.Prelude.{◌≡◌, ◌↔◌, ℕ, ◌≤◌, ◌<◌, ◌^◌, ◌+◌, Bool, true, false, Option, Some, None, IsSome, IfSome, length, decimal}
use Rattle.std.proofs.Common.{arith, ap, sym, subst, ◌∙◌}
use Rattle.std.proofs.lemmas.Fmt.{length-decimal-le}
use Rattle.std.proofs.Math.Pow.{pow_mono}
use Rattle.std.specs.Coded.{le_prop}
use mathlib.Core.HLevel.{is_prop→PathP}
use Rattle.terrain_base.specs.declared.tile.TileId.{TileId}

-- tiles of the same numbers are the same
pub same_tile : (s t : TileId) → s.z ≡ t.z → s.y ≡ t.y → s.x ≡ t.x → s ≡ t
same_tile s t p q r = λ i. record {
  z = p i;
  y = q i;
  x = r i;
  z_in_range = is_prop→PathP (λ j. p j ≤ 14) (λ j. le_prop) s.z_in_range t.z_in_range i;
  y_in_range = is_prop→PathP (λ j. q j < 2 ^ p j) (λ j. le_prop) s.y_in_range t.y_in_range i;
  x_in_range = is_prop→PathP (λ j. r j < 2 ^ (p j + 1)) (λ j. le_prop) s.x_in_range t.x_in_range i;
}

pub small_z : (t : TileId) → t.z < 2 ^ 8
small_z t = omega (arith, t.z_in_range)

pub small_y : (t : TileId) → t.y < 2 ^ 14
small_y t = let p : 2 ^ t.z ≤ 2 ^ 14 = pow_mono t.z_in_range in omega (arith, t.y_in_range)

pub small_x : (t : TileId) → t.x < 2 ^ 15
small_x t =
    let le : t.z + 1 ≤ 15 = omega (arith, t.z_in_range) in
    let p : 2 ^ (t.z + 1) ≤ 2 ^ 15 = pow_mono le in
    omega (arith, t.x_in_range)

pub short_z : (t : TileId) → length (decimal t.z) ≤ 2
short_z t = length-decimal-le 2 t.z (omega arith) (omega (arith, t.z_in_range)) (omega (arith, t.z_in_range))

pub short_y : (t : TileId) → length (decimal t.y) ≤ 5
short_y t = let small = small_y t in length-decimal-le 5 t.y (omega arith) (omega arith) (omega arith)

pub short_x : (t : TileId) → length (decimal t.x) ≤ 5
short_x t = let small = small_x t in length-decimal-le 5 t.x (omega arith) (omega arith) (omega arith)

pub tile_found : (o : Option TileId) (z x y : ℕ) (t : TileId)
    → (IsSome o ↔ ((z ≤ 14) × (x < 2 ^ (z + 1)) × (y < 2 ^ z))) → IfSome o
    (λ tile. (tile.z ≡ z) × (tile.x ≡ x) × (tile.y ≡ y)) → z ≡ t.z → x ≡ t.x → y ≡ t.y → o ≡ Some t
tile_found None z x y t some value p q r =
    let none : ◌≡◌ {A = Bool} false true = some.1 (subst (λ z. z ≤ 14) (sym p) t.z_in_range, rw (p, q) t.x_in_range, rw (p, r) t.y_in_range) in
    absurd (cc)
tile_found (Some tile) z x y t some value p q r = ap Some (same_tile tile t (value.0 ∙ p) (value.2 ∙ r) (value.1 ∙ q))
