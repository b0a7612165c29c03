-- The names that a command changes are those that its definition says.
use Rattle.common_laws.proofs.Booleans.{same_from_both}
use Rattle.terrain_base.specs.declared.name.Key.{Key}
use Rattle.terrain_base.specs.declared.name.Key.TheVariants.{Manifest, Layer, Stage, Cell, OldCell, Terrain, Note}
use Rattle.terrain_base.specs.Overwrite.{is_among}
use Rattle.terrain_base.specs.declared.tile.TileId.{TileId}
use Rattle.terrain_base.specs.declared.cell_key.CellKey.{CellKey}
use Rattle.terrain_base.specs.CellKey.{key_cmp}
use Rattle.database.proofs.Given.{square_of, touches, touched_all, touched_only}
use Rattle.terrain_base.specs.TileOrder.{tile_cmp}
use Rattle.tile_deps.specs.Tiles.{touched}
use Rattle.database.specs.State.{is_changed}
use Rattle.database.specs.Commands.{tile_names, inner_names, last_names, changed_names}
use Rattle.database.proofs.Tests.{is_name, name_self, name_same, name_other, key_self, key_same, tile_self, tile_same}
use Rattle.std.proofs.Common.{◌≡◌, ℕ, Bool, true, false, ◌||◌, ◌&&◌, nat_le, List, [], ◌∷◌, refl, ◌∙◌}
use Rattle.std.specs.List.{list_any}
use Rattle.std.specs.Ordering.{eq_by_cmp}
use Rattle.std.proofs.lemmas.List.Folds.{list_any-append}
use Rattle.std.proofs.lemmas.Bool.{or_right, and_from, and_parts}
use Rattle.std.proofs.Math.Bool.{or-false}

-- no tile has this name
abbrev no_tile : Key → Type 0
no_tile name = (t : TileId) → ((name ≡ Terrain t → ⊥) × (name ≡ Note t → ⊥))

pub not_tile : (name : Key) → no_tile name → (ts : List TileId) → is_among name (tile_names ts) ≡ false
not_tile name other [] = refl
not_tile name other (t ∷ ts) = rw (name_other name (Terrain t) (other t).0) (rw (name_other name (Note t) (other t).1) (not_tile name other ts))

pub cell_test : (j k : CellKey) → is_name (Cell j) (Cell k) ≡ eq_by_cmp key_cmp j k
cell_test j k = same_from_both _ _
    (λ e. let same : Cell j ≡ Cell k = name_same _ _ e in let keys : j ≡ k = cc in rw keys (key_self k))
    (λ e. rw (key_same j k e) (name_self (Cell k)))

terrain_test : (t u : TileId) → is_name (Terrain t) (Terrain u) ≡ eq_by_cmp tile_cmp t u
terrain_test t u = same_from_both _ _
    (λ e. let same : Terrain t ≡ Terrain u = name_same _ _ e in let tiles : t ≡ u = cc in rw tiles (tile_self u))
    (λ e. rw (tile_same t u e) (name_self (Terrain u)))

note_test : (t u : TileId) → is_name (Note t) (Note u) ≡ eq_by_cmp tile_cmp t u
note_test t u = same_from_both _ _
    (λ e. let same : Note t ≡ Note u = name_same _ _ e in let tiles : t ≡ u = cc in rw tiles (tile_self u))
    (λ e. rw (tile_same t u e) (name_self (Note u)))

pub terrain_among : (t : TileId) (ts : List TileId) → is_among (Terrain t) (tile_names ts) ≡ list_any (eq_by_cmp tile_cmp t) ts
terrain_among t [] = refl
terrain_among t (u ∷ ts) = λ i. terrain_test t u i || (name_other (Terrain t) (Note u) (λ e. cc) i || terrain_among t ts i)

pub note_among : (t : TileId) (ts : List TileId) → is_among (Note t) (tile_names ts) ≡ list_any (eq_by_cmp tile_cmp t) ts
note_among t [] = refl
note_among t (u ∷ ts) = λ i. name_other (Note t) (Terrain u) (λ e. cc) i || (note_test t u i || note_among t ts i)

tile_test : (cap : ℕ) (k : CellKey) (t : TileId) → list_any (eq_by_cmp tile_cmp t) (touched cap (square_of k)) ≡ (nat_le t.z cap && touches t (square_of k))
tile_test cap k t = same_from_both _ _
    (λ e. let both = touched_only cap t (square_of k) e in and_from _ _ both.0 both.1)
    (λ e. let both = and_parts _ _ e in touched_all cap t (square_of k) both.0 both.1)

pub last_false : (name : Key) → (name ≡ Layer → ⊥) → (name ≡ Manifest → ⊥) → (name ≡ Stage → ⊥) → is_among name last_names ≡ false
last_false name a b c = rw (name_other name Layer a) (rw (name_other name Manifest b) (rw (name_other name Stage c) refl))

-- a name that is neither the last three nor another's
inner_alone : (cap : ℕ) (k : CellKey) (name : Key) (b : Bool) → is_among name (inner_names cap k) ≡ b → is_among name last_names ≡ false → is_among name (changed_names cap k) ≡ b
inner_alone cap k name b at none = list_any-append (is_name name) (inner_names cap k) last_names ∙ rw at (rw none (or-false b))

in_last : (cap : ℕ) (k : CellKey) (name : Key) → is_among name last_names ≡ true → is_among name (changed_names cap k) ≡ true
in_last cap k name at = list_any-append (is_name name) (inner_names cap k) last_names ∙ or_right _ _ at

pub among_changed : (cap : ℕ) (k : CellKey) (name : Key) → is_among name (changed_names cap k) ≡ is_changed cap k name
among_changed cap k Manifest = in_last cap k Manifest refl
among_changed cap k Layer = in_last cap k Layer refl
among_changed cap k Stage = in_last cap k Stage refl
among_changed cap k (Cell j) = inner_alone cap k (Cell j) _
    (rw (cell_test j k) (rw (not_tile (Cell j) (λ t. ((λ e. cc), (λ e. cc))) (touched cap (square_of k))) (or-false _)))
    (last_false (Cell j) (λ e. cc) (λ e. cc) (λ e. cc))
among_changed cap k (OldCell q) = inner_alone cap k (OldCell q) _
    (rw (name_other (OldCell q) (Cell k) (λ e. cc)) (rw (not_tile (OldCell q) (λ t. ((λ e. cc), (λ e. cc))) (touched cap (square_of k))) refl))
    (last_false (OldCell q) (λ e. cc) (λ e. cc) (λ e. cc))
among_changed cap k (Terrain t) = inner_alone cap k (Terrain t) _
    (rw (name_other (Terrain t) (Cell k) (λ e. cc)) (terrain_among t (touched cap (square_of k)) ∙ tile_test cap k t))
    (last_false (Terrain t) (λ e. cc) (λ e. cc) (λ e. cc))
among_changed cap k (Note t) = inner_alone cap k (Note t) _
    (rw (name_other (Note t) (Cell k) (λ e. cc)) (note_among t (touched cap (square_of k)) ∙ tile_test cap k t))
    (last_false (Note t) (λ e. cc) (λ e. cc) (λ e. cc))
