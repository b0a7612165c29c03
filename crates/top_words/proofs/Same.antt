-- What is read from a text is what was wanted, since texts tell numbers, squares and levels apart.
use Rattle.std.proofs.Common.{◌≡◌, ℕ, ℤ, pos, ◌+◌, ◌^◌, ◌<◌, ◌≤◌, ◌-ℤ◌, ◌≤ℤ◌, ◌∙◌, ◌⊎◌, inl, inr, ◌++◌, [], Option, Some, None, IsSome, IfSome, ap, arith}
use mathlib.Core.HLevel.{is_prop→PathP}
use Rattle.std.specs.Coded.{le_prop}
use Rattle.std.proofs.Math.Dec.{T_prop}
use Rattle.std.proofs.lemmas.Nat.{pow_below}
use Rattle.std.proofs.lemmas.Bool.{cases_order}
use Rattle.terrain_base.specs.declared.cell_key.CellKey.{CellKey}
use Rattle.terrain_base.specs.declared.level.CellLevel.{CellLevel}
use Rattle.terrain_base.specs.declared.params.Params.{Params}
use Rattle.terrain_base.specs.declared.square.Square.{Square}
use Rattle.terrain_base.specs.declared.tile.TileId.{TileId}
use Rattle.terrain_base.specs.Height.{IsHeight}
use Rattle.terrain_base.specs.SquareText.{square_text}
use Rattle.terrain_base.proofs.SquareTexts.{square_cut}
use Rattle.terrain_base.proofs.TileNumbers.{same_tile}

le_z_prop : (a b : ℤ) → IsProp (a ≤ℤ b)
le_z_prop a b = λ x y i. record { le = T_prop _ x.le y.le i }

same_params : (p q : Params) → p.cap ≡ q.cap → p.fill ≡ q.fill → p ≡ q
same_params p q c f = λ i. record {
  cap = c i;
  fill = f i;
  cap_in_range = is_prop→PathP (λ j. c j ≤ 14) (λ j. le_prop) p.cap_in_range q.cap_in_range i;
  fill_above = is_prop→PathP (λ j. (pos 0 -ℤ pos 16000) ≤ℤ f j) (λ j. le_z_prop _ _) p.fill_above q.fill_above i;
  fill_below = is_prop→PathP (λ j. f j ≤ℤ pos 16000) (λ j. le_z_prop _ _) p.fill_below q.fill_below i;
}

pub key_found : (square : Square) (level : CellLevel) (wanted : CellKey) → square_text square ≡ square_text wanted.square
    → Some level ≡ Some wanted.level → Some (record { square = square; level = level }) ≡ Some wanted
key_found square level wanted texts levels =
    let same_square : square ≡ wanted.square = square_cut square wanted.square [] [] (ap (λ text. text ++ []) texts) in
    let same_level : level ≡ wanted.level = cc in
    ap Some (λ i. record { square = same_square i; level = same_level i })

pub params_found : (found : Option Params) (number : ℕ) (metres : ℤ) (wanted : Params) → (((number ≤ 14) × IsHeight metres) → IsSome found)
    → IfSome found (λ params. (params.cap ≡ number) × (params.fill ≡ metres)) → number ≡ wanted.cap → metres ≡ wanted.fill → found ≡ Some wanted
params_found None number metres wanted some is caps fills =
    absurd (cc (some (rw caps wanted.cap_in_range, rw fills (record { above = wanted.fill_above; below = wanted.fill_below }))))
params_found (Some params) number metres wanted some is caps fills = ap Some (same_params params wanted (is.0 ∙ caps) (is.1 ∙ fills))

-- ---- tiles are within the numbers of the deepest level

power_within : (k most : ℕ) → k ≤ most → 2 ^ k ≤ 2 ^ most
power_within k most within = by_order (cases_order k most)
  where
    by_order : (k ≡ most) ⊎ ((k < most) ⊎ (most < k)) → 2 ^ k ≤ 2 ^ most
    by_order (inl same) = rw same (omega arith)
    by_order (inr (inl less)) = let below = pow_below k most less in omega (arith, below)
    by_order (inr (inr more)) = absurd (omega (arith, within, more))

pub column_within : (tile : TileId) → tile.x ≤ 32767
column_within tile = let bound = power_within (tile.z + 1) 15 (omega (arith, tile.z_in_range)) in omega (arith, bound, tile.x_in_range)

pub row_within : (tile : TileId) → tile.y ≤ 16383
row_within tile = let bound = power_within tile.z 14 tile.z_in_range in omega (arith, bound, tile.y_in_range)

pub tile_found : (found : Option TileId) (z x y : ℕ) (wanted : TileId) → (((z ≤ 14) × (x < 2 ^ (z + 1)) × (y < 2 ^ z)) → IsSome found)
    → IfSome found (λ tile. (tile.z ≡ z) × (tile.x ≡ x) × (tile.y ≡ y)) → z ≡ wanted.z → x ≡ wanted.x → y ≡ wanted.y → found ≡ Some wanted
tile_found None z x y wanted some is zs xs ys =
    absurd (cc (some (rw zs wanted.z_in_range, rw (xs, zs) wanted.x_in_range, rw (ys, zs) wanted.y_in_range)))
tile_found (Some tile) z x y wanted some is zs xs ys = ap Some (same_tile tile wanted (is.0 ∙ zs) (is.2 ∙ ys) (is.1 ∙ xs))
