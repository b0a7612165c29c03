-- Meridians and parallels of a tile, and the boxes where they cross.
use Rattle.std.proofs.Common.{◌≡◌, ℕ, ◌+◌, ◌<◌, ◌≤◌, arith, refl, sym, ap, ◌∙◌, subst, List, [], ◌∷◌, ◌++◌, map, take, length, slice_index_or}
use Rattle.std.proofs.lemmas.List.{map_more}
use Rattle.std.proofs.lemmas.List.FromFn.{length-map-range_with_len, get_or-map-range_with_len, map-range_with_len_more}
use Rattle.terrain_base.specs.declared.tile.TileId.{TileId}
use Rattle.tms_tree.specs.declared.place.Place.{Place}
use Rattle.tms_tree.specs.Place.{place_of}
use Rattle.tms_tree.proofs.Places.{place_fits}
use Rattle.ecef_boxes.specs.Box.{box_of}
use Rattle.ecef_boxes.specs.Lines.{IsMeridian, IsParallel, crossing, meridian_of, parallel_of}
use Rattle.ecef_boxes.specs.declared.ecef_box.EcefBox.{EcefBox}
use Rattle.ecef_boxes.specs.declared.line.Meridian.{Meridian}
use Rattle.ecef_boxes.specs.declared.line.Parallel.{Parallel}
use Rattle.tile_mesh.specs.declared.point.MeshPoint.{MeshPoint}
use Rattle.tile_rule.specs.Tile.{vertex_box}
use Rattle.tile_bytes.specs.GridLines.{meridian_at, parallel_at, meridians_of, parallels_of}

-- one line more
pub next_meridian : (tile : TileId) (i : ℕ) (lines more : List Meridian) (place : Place) (line : Meridian) → lines ≡ meridians_of tile i
    → place ≡ place_of tile i 0 → line ≡ meridian_of place.p place.d → more ≡ lines ++ line ∷ [] → more ≡ meridians_of tile (i + 1)
next_meridian tile i lines more place line before here is pushed =
    pushed ∙ ap (λ ls. ls ++ line ∷ []) before
    ∙ ap (λ l. meridians_of tile i ++ l ∷ []) (is ∙ ap (λ (p : Place). meridian_of p.p p.d) here)
    ∙ sym (map-range_with_len_more (meridian_at tile) 0 i i (omega arith))

pub next_parallel : (tile : TileId) (j : ℕ) (lines more : List Parallel) (place : Place) (line : Parallel) → lines ≡ parallels_of tile j
    → place ≡ place_of tile 0 j → line ≡ parallel_of place.q place.d → more ≡ lines ++ line ∷ [] → more ≡ parallels_of tile (j + 1)
next_parallel tile j lines more place line before here is pushed =
    pushed ∙ ap (λ ls. ls ++ line ∷ []) before
    ∙ ap (λ l. parallels_of tile j ++ l ∷ []) (is ∙ ap (λ (p : Place). parallel_of p.q p.d) here)
    ∙ sym (map-range_with_len_more (parallel_at tile) 0 j j (omega arith))

-- how many there are, and which is which
pub meridian_count : (tile : TileId) (lines : List Meridian) → lines ≡ meridians_of tile 67 → length lines ≡ 67
meridian_count tile lines is = ap length is ∙ length-map-range_with_len (meridian_at tile) 0 67

pub parallel_count : (tile : TileId) (lines : List Parallel) → lines ≡ parallels_of tile 67 → length lines ≡ 67
parallel_count tile lines is = ap length is ∙ length-map-range_with_len (parallel_at tile) 0 67

pub meridian_is : (tile : TileId) (lines : List Meridian) (i : ℕ) (d : Meridian) → i ≤ 66 → lines ≡ meridians_of tile 67
    → slice_index_or lines i d ≡ meridian_at tile i
meridian_is tile lines i d l is =
    ap (λ ls. slice_index_or ls i d) is ∙ get_or-map-range_with_len (meridian_at tile) 0 67 i i d (omega (arith, l)) (omega arith)

pub parallel_is : (tile : TileId) (lines : List Parallel) (j : ℕ) (d : Parallel) → j ≤ 66 → lines ≡ parallels_of tile 67
    → slice_index_or lines j d ≡ parallel_at tile j
parallel_is tile lines j d l is =
    ap (λ ls. slice_index_or ls j d) is ∙ get_or-map-range_with_len (parallel_at tile) 0 67 j j d (omega (arith, l)) (omega arith)

pub meridian_fits : (tile : TileId) (i : ℕ) (line : Meridian) → i ≤ 66 → line ≡ meridian_at tile i → IsMeridian line
meridian_fits tile i line l is =
    let p = place_fits tile i 0 l (omega arith) in
    subst IsMeridian (sym is) (record { positive = p.positive; fine = p.fine; turn = p.turn; bounds = refl })

pub parallel_fits : (tile : TileId) (j : ℕ) (line : Parallel) → j ≤ 66 → line ≡ parallel_at tile j → IsParallel line
parallel_fits tile j line l is =
    let p = place_fits tile 0 j (omega arith) l in
    subst IsParallel (sym is) (record { positive = p.positive; fine = p.fine; pole = p.pole; bounds = refl })

-- both count in units of the tile's level
pub same_units : (tile : TileId) (i j : ℕ) (meridian : Meridian) (parallel : Parallel) → meridian ≡ meridian_at tile i → parallel ≡ parallel_at tile j
    → meridian.d ≡ parallel.d
same_units tile i j meridian parallel m p = ap (λ (a : Meridian). a.d) m ∙ sym (ap (λ (a : Parallel). a.d) p)

-- a vertex lies where the two cross
pub box_is : (tile : TileId) (point : MeshPoint) (meridian : Meridian) (parallel : Parallel) (box : EcefBox) → meridian ≡ meridian_at tile point.i
    → parallel ≡ parallel_at tile point.j → box ≡ box_of (crossing meridian parallel) point.metres → box ≡ vertex_box tile point
box_is tile point meridian parallel box m p is =
    is ∙ ap (λ a. box_of (crossing a parallel) point.metres) m ∙ ap (λ b. box_of (crossing (meridian_at tile point.i) b) point.metres) p

pub next_box : (tile : TileId) (points : List MeshPoint) (k : ℕ) (d : MeshPoint) (boxes more : List EcefBox) (box : EcefBox) → k < length points
    → boxes ≡ map (vertex_box tile) (take k points) → box ≡ vertex_box tile (slice_index_or points k d) → more ≡ boxes ++ box ∷ []
    → more ≡ map (vertex_box tile) (take (k + 1) points)
next_box tile points k d boxes more box l before is pushed =
    pushed ∙ ap (λ bs. bs ++ box ∷ []) before ∙ ap (λ b. map (vertex_box tile) (take k points) ++ b ∷ []) is
    ∙ sym (map_more (vertex_box tile) points k d l)
