-- The spelling of a mesh, step by step.
use Rattle.std.proofs.Common.{◌≡◌, ℕ, ◌+◌, ◌-◌, ◌*◌, ◌/◌, ◌%◌, ◌<◌, ◌≤◌, nat_lt, List, [], ◌∷◌, ◌++◌, length, map, drop, get_or, true, false, cond, refl, ap, sym, ◌∙◌, append_assoc, arith}
use Rattle.std.proofs.lemmas.List.{drop_more, drop-map, length-replicate}
use Rattle.std.proofs.lemmas.Bool.Decides.{nat_tests}
use Rattle.byteorder.specs.Endian.{little_bytes}
use Rattle.terrain_base.specs.declared.indexes.Indexes.{Indexes}
use Rattle.mesh_codec.specs.declared.codes.Codes.{Codes}
use Rattle.mesh_codec.specs.declared.refusal.Array.{Array}
use Rattle.mesh_codec.specs.declared.refusal.Array.TheVariants.{U, V, Height}
use Rattle.mesh_codec.specs.Mesh.{IsVertex, coordinate}
use Rattle.terrain_base.specs.FirstUse.{corners}
use Rattle.mesh_codec.specs.Text.{zigzag, array_text, index_width, index_data_at, padding_text}

-- a code of a vertex is below 2 ^ 15
pub coordinate_small : (array : Array) (codes : Codes) → IsVertex codes → coordinate array codes ≤ 32767
coordinate_small U codes h = h.u
coordinate_small V codes h = h.v
coordinate_small Height codes h = h.height

-- one code more of an array
pub array_next : (array : Array) (vertices : List Codes) (i before : ℕ) (d : Codes) (out whole : List ℕ) → i < length vertices
    → out ++ array_text before (drop i (map (coordinate array) vertices)) ≡ whole
    → (out ++ little_bytes 2 (zigzag before (coordinate array (get_or vertices i d)))) ++ array_text (coordinate array (get_or vertices i d)) (drop (i + 1) (map (coordinate array) vertices)) ≡ whole
array_next array vertices i before d out whole h e =
    let code = coordinate array (get_or vertices i d) in
    let rest : drop i (map (coordinate array) vertices) ≡ code ∷ drop (i + 1) (map (coordinate array) vertices) =
    drop-map (coordinate array) i vertices ∙ ap (map (coordinate array)) (drop_more vertices i d h) ∙ ap (λ l. code ∷ l) (sym (drop-map (coordinate array) (i + 1) vertices)) in
    append_assoc out (little_bytes 2 (zigzag before code)) (array_text code (drop (i + 1) (map (coordinate array) vertices)))
    ∙ ap (λ l. out ++ array_text before l) (sym rest) ∙ e

-- the padding is two bytes where the index width is four and the vertices are odd in number
pub padding_odd : (vertices : ℕ) → 65536 < vertices → vertices % 2 ≡ 1 → padding_text vertices ≡ 0 ∷ 0 ∷ []
unfolding padding_text index_data_at index_width
padding_odd vertices h odd =
    let wide : nat_lt 65536 vertices ≡ true = grind (arith, nat_tests) in
    let two : (92 + 6 * vertices + 3) / 4 * 4 - (92 + 6 * vertices) ≡ 2 = omega arith in
    rw (wide, two) refl

pub padding_even : (vertices : ℕ) → 65536 < vertices → vertices % 2 ≡ 0 → padding_text vertices ≡ []
unfolding padding_text index_data_at index_width
padding_even vertices h even =
    let wide : nat_lt 65536 vertices ≡ true = grind (arith, nat_tests) in
    let none : (92 + 6 * vertices + 3) / 4 * 4 - (92 + 6 * vertices) ≡ 0 = omega arith in
    rw (wide, none) refl

pub padding_narrow : (vertices : ℕ) → vertices ≤ 65536 → padding_text vertices ≡ []
unfolding padding_text index_data_at index_width
padding_narrow vertices h =
    let narrow : nat_lt 65536 vertices ≡ false = grind (arith, nat_tests) in
    let none : (92 + 6 * vertices + 1) / 2 * 2 - (92 + 6 * vertices) ≡ 0 = omega arith in
    rw (narrow, none) refl

pub padding_length : (vertices : ℕ) → length (padding_text vertices) ≡ index_data_at vertices - (92 + 6 * vertices)
unfolding padding_text
padding_length vertices = length-replicate (index_data_at vertices - (92 + 6 * vertices)) 0

pub index_data_beyond : (vertices : ℕ) → (92 + 6 * vertices ≤ index_data_at vertices) × (index_data_at vertices ≤ 95 + 6 * vertices)
unfolding index_data_at index_width
index_data_beyond vertices = elim (nat_lt 65536 vertices) as (λ b. (92 + 6 * vertices ≤ (92 + 6 * vertices + (cond b 4 2 - 1)) / cond b 4 2 * cond b 4 2) × ((92 + 6 * vertices + (cond b 4 2 - 1)) / cond b 4 2 * cond b 4 2 ≤ 95 + 6 * vertices)) [
  | true ↦ (omega arith, omega arith)
  | false ↦ (omega arith, omega arith)
]

-- one triangle more
pub corners_next : (triangles : List Indexes) (i : ℕ) (d : Indexes) → i < length triangles
    → corners (drop i triangles) ≡ (get_or triangles i d).a ∷ (get_or triangles i d).b ∷ (get_or triangles i d).c ∷ corners (drop (i + 1) triangles)
corners_next triangles i d h = ap corners (drop_more triangles i d h)
