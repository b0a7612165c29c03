-- The edges of a mesh are fixed by the heights along its sides.
use Rattle.std.proofs.Common.{◌≡◌, ℕ, ◌≤◌, arith, refl, sym, ap, ◌∙◌, List, [], ◌∷◌, map}
use Rattle.std.specs.Prelude.{ℤ, pos, slice_index_or}
use Rattle.std.specs.List.{AllByRecursion}
use Rattle.std.proofs.lemmas.List.FromFn.{get_or-map-range_with_len}
use Rattle.terrain_base.specs.Grid.{tolerance_of}
use Rattle.edge_decimate.specs.KeptPoints.{kept_points}
use Rattle.terrain_base.specs.declared.side.Side.{Side}
use Rattle.terrain_base.specs.declared.side.Side.TheVariants.{West, South, East, North}
use Rattle.tile_mesh.specs.declared.point.MeshPoint.{MeshPoint}
use Rattle.tile_mesh.specs.Mesh.{vertex_at, edge_heights, kept_on, mesh_of_grid}
use Rattle.tile_mesh.specs.Sides.{outer_at}
use Rattle.tile_mesh.specs.Seams.{index_along, edge_profile, SeamLaw}
use Rattle.tile_mesh.proofs.EdgeVertices.{edges_are_kept}
use Rattle.tile_mesh.proofs.KeptLists.{kept_to_66, within}

-- the points of these indexes on a line of heights
abbrev profile_of : List ℤ → List ℕ → List (ℕ × ℤ)
profile_of heights indexes = map (λ i. (i, slice_index_or heights i (pos 0))) indexes

index_is : (grid : List ℤ) (side : Side) (i : ℕ) → index_along side (vertex_at grid (outer_at side i)) ≡ i
index_is grid West i = refl
index_is grid South i = refl
index_is grid East i = refl
index_is grid North i = refl

height_is : (grid : List ℤ) (side : Side) (i : ℕ) → i ≤ 66
    → (vertex_at grid (outer_at side i)).metres ≡ slice_index_or (edge_heights grid side) i (pos 0)
unfolding edge_heights
height_is grid side i l =
    sym (get_or-map-range_with_len (λ k. (vertex_at grid (outer_at side k)).metres) 0 67 i i (pos 0) (omega (arith, l)) (omega arith))

each : (grid : List ℤ) (side : Side) (indexes : List ℕ) → AllByRecursion (λ i. i ≤ 66) indexes
    → map (λ p. (index_along side p, p.metres)) (map (λ i. vertex_at grid (outer_at side i)) indexes)
    ≡ profile_of (edge_heights grid side) indexes
each grid side [] h = refl
each grid side (i ∷ indexes) h = rw (index_is grid side i, height_is grid side i h.0, each grid side indexes h.1) refl

profile_is : (grid : List ℤ) (z : ℕ) (side : Side) → let heights = edge_heights grid side in
    edge_profile (mesh_of_grid grid z) side ≡ profile_of heights (kept_points heights (tolerance_of z))
profile_is grid z side =
    let kept = kept_on grid (tolerance_of z) side in
    ap (λ (vs : List MeshPoint). map (λ p. (index_along side p, p.metres)) vs) (edges_are_kept grid z side)
    ∙ each grid side kept (within kept (kept_to_66 (edge_heights grid side) (tolerance_of z)))

pub seam_law : SeamLaw
seam_law grid other z side beside same =
    profile_is grid z side
    ∙ ap (λ (heights : List ℤ). profile_of heights (kept_points heights (tolerance_of z))) same
    ∙ sym (profile_is other z beside)
