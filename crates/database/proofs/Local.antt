-- Where two states agree but for one cell, their files agree outside of what a command on it changes.
use Rattle.terrain_base.specs.declared.name.Key.{Key}
use Rattle.terrain_base.specs.declared.name.Key.TheVariants.{Manifest, Layer, Stage, Cell, OldCell, Terrain, Note}
use Rattle.terrain_base.specs.declared.tile.TileId.{TileId}
use Rattle.terrain_base.specs.declared.params.Params.{Params}
use Rattle.cell_mosaic.specs.Cells.{Cells}
use Rattle.terrain_base.specs.declared.cell_key.CellKey.{CellKey}
use Rattle.terrain_base.specs.CellKey.{key_cmp}
use Rattle.terrain_base.specs.declared.square.Square.{Square}
use Rattle.std.specs.Prelude.{◌≢◌}
use Rattle.database.specs.Laws.{TilesAreLocal}
use Rattle.database.proofs.Given.{AgreeNear, square_of, touches, exists, terrain_text, note_text, terrain_local, note_local, exists_local, exists_within}
use Rattle.database.specs.State.{file_of, where_it_is, is_changed}
use Rattle.database.proofs.Tests.{key_same}
use Rattle.std.proofs.Common.{◌≡◌, ℕ, Bool, true, false, ◌&&◌, nat_le, List, refl, ap, ◌⊎◌, inl, inr, ⊎_elim}
use Rattle.std.specs.FinMap.{get}
use Rattle.std.specs.Ordering.{eq_by_cmp}
use Rattle.std.proofs.lemmas.Bool.{false_from_ne_true}

-- the cells are the same but for one
pub record AgreeBut (k : CellKey) (c d : Cells) : Type 0 where
  pub same : (j : CellKey) → eq_by_cmp key_cmp j k ≡ false → get c j ≡ get d j

-- a tile that does not touch the cell looks at cells that agree
near_agree : (k : CellKey) (c d : Cells) (t : TileId) → AgreeBut k c d → touches t (square_of k) ≡ false → (j : CellKey) → touches t (square_of j) ≡ true → get c j ≡ get d j
near_agree k c d t agree apart j near =
    agree.same j (false_from_ne_true _ (λ e. let here : touches t (square_of j) ≡ touches t (square_of k) = ap (λ i. touches t (square_of i)) (key_same j k e) in cc))

either_false : (a b : Bool) → (a && b) ≡ false → (a ≡ false) ⊎ (b ≡ false)
either_false true b e = inr e
either_false false b e = inl refl

neither_there : (a b : Bool) (x y : List ℕ) → a ≡ false → b ≡ false → where_it_is a x ≡ where_it_is b y
neither_there a b x y p q = rw p (rw q refl)

both_there : (a b : Bool) (x y : List ℕ) → a ≡ b → x ≡ y → where_it_is a x ≡ where_it_is b y
both_there a b x y p q = rw p (rw q refl)

-- the files of a tile that does not touch the cell
pub terrain_same : (p : Params) (k : CellKey) (c d : Cells) (t : TileId) → AgreeBut k c d → (nat_le t.z p.cap && touches t (square_of k)) ≡ false
    → where_it_is (exists p.cap c t) (terrain_text p c t) ≡ where_it_is (exists p.cap d t) (terrain_text p d t)
terrain_same p k c d t agree out = ⊎_elim
    (λ above. neither_there _ _ _ _ (exists_within p.cap t c above) (exists_within p.cap t d above))
    (λ apart. both_there _ _ _ _ (exists_local p.cap t c d (near_agree k c d t agree apart)) (terrain_local p t c d (near_agree k c d t agree apart)))
    (either_false _ _ out)

pub note_same : (p : Params) (k : CellKey) (c d : Cells) (t : TileId) → AgreeBut k c d → (nat_le t.z p.cap && touches t (square_of k)) ≡ false
    → where_it_is (exists p.cap c t) (note_text p c t) ≡ where_it_is (exists p.cap d t) (note_text p d t)
note_same p k c d t agree out = ⊎_elim
    (λ above. neither_there _ _ _ _ (exists_within p.cap t c above) (exists_within p.cap t d above))
    (λ apart. both_there _ _ _ _ (exists_local p.cap t c d (near_agree k c d t agree apart)) (note_local p t c d (near_agree k c d t agree apart)))
    (either_false _ _ out)

pub files_local : (p : Params) (k : CellKey) (c d : Cells) → AgreeBut k c d → (name : Key) → is_changed p.cap k name ≡ false
    → file_of (record { params = p; cells = c }) name ≡ file_of (record { params = p; cells = d }) name
files_local p k c d agree Manifest out = absurd (cc)
files_local p k c d agree Layer out = absurd (cc)
files_local p k c d agree Stage out = absurd (cc)
files_local p k c d agree (Cell j) out = agree.same j out
files_local p k c d agree (OldCell q) out = refl
files_local p k c d agree (Terrain t) out = terrain_same p k c d t agree out
files_local p k c d agree (Note t) out = note_same p k c d t agree out

-- ---- by squares

-- a tile that does not touch the square looks at cells of other squares
away : (square : Square) (c d : Cells) (t : TileId) → ((k : CellKey) → k.square ≢ square → get c k ≡ get d k) → touches t square ≡ false → AgreeNear t c d
away square c d t agree apart k near = agree k (λ here. let same : touches t k.square ≡ touches t square = ap (touches t) here in cc)

pub tiles_local : TilesAreLocal
tiles_local p c d square agree t apart =
    let near = away square c d t agree apart in
    (exists_local p.cap t c d near, terrain_local p t c d near, note_local p t c d near)
