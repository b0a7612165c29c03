-- The lists of a mesh's edges name its vertices.
use Rattle.std.proofs.Common.{◌≡◌, ℕ, ◌+◌, ◌^◌, ◌<◌, arith, sym, ap, ◌∙◌, subst, List, [], map, length, All}
use Rattle.std.proofs.lemmas.List.{length-map}
use Rattle.height_lattice.specs.declared.height_frame.HeightFrame.{HeightFrame}
use Rattle.mesh_codec.specs.declared.codes.Codes.{Codes}
use Rattle.terrain_base.specs.declared.side.Side.{Side}
use Rattle.tile_mesh.specs.Mesh.{Mesh, edge_of}
use Rattle.tile_mesh.specs.MeshNumbers.{IsNumbered}
use Rattle.tile_rule.specs.Tile.{codes_of}

pub in_range : (frame : HeightFrame) (m : Mesh) (vertices : List Codes) (side : Side) (list : List ℕ) → vertices ≡ map (codes_of frame) m.points
    → list ≡ edge_of m side → IsNumbered m → All (λ v. v < length vertices) list
in_range frame m vertices side list is same numbered =
    let count : length m.points ≡ length vertices = sym (ap length is ∙ length-map m.points (codes_of frame)) in
    subst (λ (l : List ℕ). All (λ v. v < length vertices) l) (sym same) (subst (λ (k : ℕ). All (λ v. v < k) (edge_of m side)) count (numbered.edges side))

pub room : (m : Mesh) (side : Side) (old list : List ℕ) → old ≡ [] → list ≡ edge_of m side → IsNumbered m
    → length old + length list < 2 ^ 32
room m side old list none same numbered =
    let before = ap length none in
    let here = ap length same in
    let short = numbered.short side in
    omega (arith, before, here, short)
