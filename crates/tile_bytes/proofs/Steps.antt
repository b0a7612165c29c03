-- One vertex more, by its codes.
use Rattle.std.proofs.Common.{◌≡◌, ℕ, ◌+◌, ◌<◌, refl, sym, ap, ◌∙◌, List, [], ◌∷◌, ◌++◌, map, take, length, slice_index_or, append_assoc}
use Rattle.std.proofs.lemmas.List.{map_more}
use Rattle.terrain_base.specs.Grid.{line_position}
use Rattle.height_lattice.specs.declared.height_frame.HeightFrame.{HeightFrame}
use Rattle.height_lattice.specs.HeightCode.{code_of}
use Rattle.mesh_codec.specs.declared.codes.Codes.{Codes}
use Rattle.mesh_codec.specs.Mesh.{Mesh}
use Rattle.tile_mesh.specs.declared.point.MeshPoint.{MeshPoint}
use Rattle.tile_rule.specs.Tile.{codes_of}

same_codes : (u v h a b c : ℕ) → u ≡ a → v ≡ b → h ≡ c
    → ◌≡◌ {A = Codes} (record { u = u; v = v; height = h }) (record { u = a; v = b; height = c })
same_codes u v h a b c p q r = rw (p, q, r) refl

pub vertices_step : (frame : HeightFrame) (start now new : Mesh) (ps : List MeshPoint) (k : ℕ) (d : MeshPoint) (u v h : ℕ) → k < length ps
    → now ≡ record start { vertices = start.vertices ++ map (codes_of frame) (take k ps) }
    → u ≡ line_position (slice_index_or ps k d).i → v ≡ line_position (slice_index_or ps k d).j → h ≡ code_of frame (slice_index_or ps k d).metres
    → new ≡ record now { vertices = now.vertices ++ record { u = u; v = v; height = h } ∷ [] }
    → new ≡ record start { vertices = start.vertices ++ map (codes_of frame) (take (k + 1) ps) }
vertices_step frame start now new ps k d u v h l before column row height added =
    let point = slice_index_or ps k d in
    let codes = same_codes u v h (line_position point.i) (line_position point.j) (code_of frame point.metres) column row height in
    let some = map (codes_of frame) (take k ps) in
    added
    ∙ ap (λ (m : Mesh). record m { vertices = m.vertices ++ record { u = u; v = v; height = h } ∷ [] }) before
    ∙ ap (λ (c : Codes). record start { vertices = (start.vertices ++ some) ++ c ∷ [] }) codes
    ∙ ap (λ (cs : List Codes). record start { vertices = cs })
    (append_assoc start.vertices some (codes_of frame point ∷ []) ∙ ap (λ cs. start.vertices ++ cs) (sym (map_more (codes_of frame) ps k d l)))
