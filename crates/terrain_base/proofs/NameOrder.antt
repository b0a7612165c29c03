-- Different names have different texts, so the order of the texts is one of the names.
use Rattle.std.specs.Prelude.{◌≡◌, ◌≢◌, ℕ, ◌+◌, ◌^◌, ◌<◌, ◌≤◌, List, [], ◌∷◌, ◌++◌, codes, decimal, length, refl}
use Rattle.std.proofs.Common.{arith, ap, sym, ◌∙◌, subst, get_or, append_assoc}
use Rattle.std.proofs.lemmas.Fmt.{decimal_by_steps, decimal_injective}
use Rattle.std.specs.Cmp.{IsTotalOrder}
use Rattle.std.proofs.lemmas.Cmp.{nat_list_cmp_total, on_total}
use Rattle.std.proofs.lemmas.Map.Lookups.{exact_bytes}
use Rattle.std.specs.FinMap.{IsAntisymmetric}
use Rattle.terrain_base.specs.declared.tile.TileId.{TileId}
use Rattle.terrain_base.specs.declared.level.CellLevel.{CellLevel}
use Rattle.terrain_base.specs.declared.level.CellLevel.TheVariants.{Zero, One, Two}
use Rattle.terrain_base.specs.declared.name.Key.{Key}
use Rattle.terrain_base.specs.declared.name.Key.TheVariants.{Manifest, Layer, Stage, Cell, OldCell, Terrain, Note}
use Rattle.terrain_base.specs.declared.square.Square.{Square}
use Rattle.terrain_base.specs.Level.{level_number}
use Rattle.terrain_base.specs.Name.{tile_text, name_text, by_text}
use Rattle.terrain_base.specs.NameParts.{cell_stem, level_ending, stem_of, ending_of}
use Rattle.terrain_base.proofs.SquareTexts.{square_cut}
use Rattle.terrain_base.proofs.KeyOrder.{same_key}
use Rattle.terrain_base.proofs.TileNumbers.{same_tile, small_z, small_y, small_x}
use Rattle.terrain_base.proofs.NameTexts.{cut, ending_is, lacks-decimal, lacks-stem, parts_of}

same_tile_text : (s t : TileId) → tile_text s ≡ tile_text t → s ≡ t
same_tile_text s t e =
    let sz = small_z s in
    let tz = small_z t in
    let sx = small_x s in
    let tx = small_x t in
    let sy = small_y s in
    let ty = small_y t in
    let first : (decimal s.z ≡ decimal t.z) × (decimal s.x ++ 47 ∷ decimal s.y ≡ decimal t.x ++ 47 ∷ decimal t.y) = cut 47 _ _ _ _ (lacks-decimal s.z (omega arith)) (lacks-decimal t.z (omega arith)) e in
    let second : (decimal s.x ≡ decimal t.x) × (decimal s.y ≡ decimal t.y) = cut 47 _ _ _ _ (lacks-decimal s.x (omega arith)) (lacks-decimal t.x (omega arith)) first.1 in
    same_tile s t (decimal_injective _ _ (omega arith) (omega arith) first.0) (decimal_injective _ _ (omega arith) (omega arith) second.1) (decimal_injective _ _ (omega arith) (omega arith) second.0)

behind_cells : (xs ys : List ℕ) → codes "cells/" ++ xs ≡ codes "cells/" ++ ys → xs ≡ ys
behind_cells xs ys e = cc

-- a number's text begins with a digit
digit_first : (n : ℕ) (rest : List ℕ) → n < 2 ^ 64 → get_or (decimal n ++ rest) 0 0 < 58
digit_first n rest fits =
    decimal_by_steps (λ n ds. (rest : List ℕ) → get_or (ds ++ rest) 0 0 < 58) (λ n small rest. omega arith)
    (λ n ds big p rest. subst (λ xs. get_or xs 0 0 < 58) (sym (append_assoc ds _ rest)) (p _)) n fits rest

no_tile : (t : TileId) → codes "manifest" ≢ tile_text t
no_tile t e =
    let z = small_z t in
    let first : get_or (tile_text t) 0 0 < 58 = digit_first t.z _ (omega arith) in
    let other : get_or (tile_text t) 0 0 ≡ 109 = ap (λ xs. get_or xs 0 0) (sym e) in
    omega arith

pub same_stem : (s t : Square) → cell_stem s ≡ cell_stem t → s ≡ t
same_stem s t p = square_cut s t [] [] (ap (λ xs. xs ++ []) (behind_cells _ _ p))

-- tells the endings apart
abbrev tag : List ℕ → ℕ
tag ending = get_or ending 0 0 + length ending

level_tag : (level : CellLevel) → tag (level_ending level) ≡ 52 + level_number level
level_tag Zero = ap tag (ending_is Zero)
level_tag One = ap tag (ending_is One)
level_tag Two = ap tag (ending_is Two)

level_exact : (a b : CellLevel) → level_number a ≡ level_number b → a ≡ b
level_exact Zero Zero e = refl
level_exact One One e = refl
level_exact Two Two e = refl
level_exact Zero One e = absurd (cc)
level_exact Zero Two e = absurd (cc)
level_exact One Zero e = absurd (cc)
level_exact One Two e = absurd (cc)
level_exact Two Zero e = absurd (cc)
level_exact Two One e = absurd (cc)

number_below : (level : CellLevel) → level_number level < 3
number_below Zero = omega arith
number_below One = omega arith
number_below Two = omega arith

pub same_ending : (a b : CellLevel) → level_ending a ≡ level_ending b → a ≡ b
same_ending a b q = level_exact a b (omega (arith, level_tag a, level_tag b, ap tag q))

-- the other endings are of no level
other_ending : (level : CellLevel) (ending : List ℕ) → 55 ≤ tag ending → level_ending level ≢ ending
other_ending level ending more e = omega (arith, level_tag level, number_below level, ap tag e)

pub same_parts : (a b : Key) → stem_of a ≡ stem_of b → ending_of a ≡ ending_of b → a ≡ b
same_parts Manifest Manifest p q = refl
same_parts Layer Layer p q = refl
same_parts Stage Stage p q = refl
same_parts (Cell j) (Cell k) p q = ap Cell (same_key j k (same_stem j.square k.square p) (same_ending j.level k.level q))
same_parts (OldCell s) (OldCell t) p q = ap OldCell (same_stem s t p)
same_parts (Terrain s) (Terrain t) p q = ap Terrain (same_tile_text s t p)
same_parts (Note s) (Note t) p q = ap Note (same_tile_text s t p)
same_parts Manifest (Note t) p q = absurd (no_tile t p)
same_parts (Note t) Manifest p q = absurd (no_tile t (sym p))
same_parts Stage (OldCell t) p q = absurd (let h : ◌≡◌ {A = ℕ} 115 99 = ap (λ xs. get_or xs 0 0) p in omega arith)
same_parts (OldCell s) Stage p q = absurd (let h : ◌≡◌ {A = ℕ} 99 115 = ap (λ xs. get_or xs 0 0) p in omega arith)
same_parts (Cell k) Manifest p q = absurd (other_ending k.level _ (omega arith) q)
same_parts Manifest (Cell k) p q = absurd (other_ending k.level _ (omega arith) (sym q))
same_parts (Cell k) Layer p q = absurd (other_ending k.level _ (omega arith) q)
same_parts Layer (Cell k) p q = absurd (other_ending k.level _ (omega arith) (sym q))
same_parts (Cell k) Stage p q = absurd (other_ending k.level _ (omega arith) q)
same_parts Stage (Cell k) p q = absurd (other_ending k.level _ (omega arith) (sym q))
same_parts (Cell k) (OldCell s) p q = absurd (other_ending k.level _ (omega arith) q)
same_parts (OldCell s) (Cell k) p q = absurd (other_ending k.level _ (omega arith) (sym q))
same_parts (Cell k) (Terrain t) p q = absurd (other_ending k.level _ (omega arith) q)
same_parts (Terrain t) (Cell k) p q = absurd (other_ending k.level _ (omega arith) (sym q))
same_parts (Cell k) (Note t) p q = absurd (other_ending k.level _ (omega arith) q)
same_parts (Note t) (Cell k) p q = absurd (other_ending k.level _ (omega arith) (sym q))
same_parts a b p q = absurd (let h : tag (ending_of a) ≡ tag (ending_of b) = ap tag q in omega arith)

-- what ends as a mesh's name is one
pub is_terrain : (key : Key) → ending_of key ≡ codes "terrain" → (tile : TileId) × (key ≡ Terrain tile)
is_terrain (Terrain tile) e = (tile, refl)
is_terrain (Cell k) e = absurd (other_ending k.level _ (omega arith) e)
is_terrain key e = absurd (let h : tag (ending_of key) ≡ 123 = ap tag e in omega arith)

pub no_ending : (ending : List ℕ) → ending ≢ codes "0.dt" → ending ≢ codes "1.dt" → ending ≢ codes "2.dt" → (level : CellLevel) → ending ≢ level_ending level
no_ending ending zero one two Zero e = zero (e ∙ ending_is Zero)
no_ending ending zero one two One e = one (e ∙ ending_is One)
no_ending ending zero one two Two e = two (e ∙ ending_is Two)

pub same_text : (a b : Key) → name_text a ≡ name_text b → a ≡ b
same_text a b e =
    let parts = cut 46 (stem_of a) (stem_of b) (ending_of a) (ending_of b) (lacks-stem a) (lacks-stem b) (sym (parts_of a) ∙ e ∙ parts_of b) in
    same_parts a b parts.0 parts.1

pub by_text_total : IsTotalOrder by_text
by_text_total = on_total name_text nat_list_cmp_total

-- names that stand at one place in the order are the same
pub by_text_exact : IsAntisymmetric by_text
by_text_exact a b e = same_text a b (exact_bytes (name_text a) (name_text b) e)
