-- Tests on names.
use Rattle.terrain_base.specs.Name.{by_text}
use Rattle.terrain_base.specs.declared.name.Key.{Key}
use Rattle.database.proofs.Given.{by_text_total, by_text_exact, keys_total, keys_exact}
use Rattle.terrain_base.proofs.TileOrder.{tiles_total, tiles_exact}
use Rattle.terrain_base.specs.TileOrder.{tile_cmp}
use Rattle.terrain_base.specs.declared.tile.TileId.{TileId}
use Rattle.terrain_base.specs.declared.cell_key.CellKey.{CellKey}
use Rattle.terrain_base.specs.CellKey.{key_cmp}
use Rattle.std.proofs.Common.{◌≡◌, ℕ, Bool, true, false, cond, List, Option, refl}
use Rattle.std.proofs.lemmas.Map.Views.{tells_apart}
use Rattle.std.proofs.lemmas.Cmp.{eq_by_cmp_equiv}
use Rattle.std.proofs.lemmas.Bool.{false_from_ne_true}
use Rattle.std.specs.Ordering.{eq_by_cmp}

abbrev pub is_name : Key → Key → Bool
is_name a b = eq_by_cmp by_text a b

pub name_self : (a : Key) → is_name a a ≡ true
name_self a = (eq_by_cmp_equiv by_text_total).refl a

pub key_self : (a : CellKey) → eq_by_cmp key_cmp a a ≡ true
key_self a = (eq_by_cmp_equiv keys_total).refl a

pub name_same : (a b : Key) → is_name a b ≡ true → a ≡ b
name_same a b e = tells_apart by_text_exact a b e

pub name_other : (a b : Key) → (a ≡ b → ⊥) → is_name a b ≡ false
name_other a b never = false_from_ne_true _ (λ e. never (name_same a b e))

pub key_same : (a b : CellKey) → eq_by_cmp key_cmp a b ≡ true → a ≡ b
key_same a b e = tells_apart keys_exact a b e

-- either way the same
pub pick : (b : Bool) (x y : Option (List ℕ)) → y ≡ x → cond b x y ≡ x
pick true x y e = refl
pick false x y e = e

pub key_other : (a b : CellKey) → (a ≡ b → ⊥) → eq_by_cmp key_cmp a b ≡ false
key_other a b never = false_from_ne_true _ (λ e. never (key_same a b e))

pub tile_same : (t u : TileId) → eq_by_cmp tile_cmp t u ≡ true → t ≡ u
tile_same t u e = tells_apart tiles_exact t u e

pub tile_self : (t : TileId) → eq_by_cmp tile_cmp t t ≡ true
tile_self t = (eq_by_cmp_equiv tiles_total).refl t
