-- Bytes have one mesh in metres.
use Rattle.std.proofs.Common.{◌≡◌, ◌∙◌, refl, sym, subst, ap, arith, ℕ, List, [], ◌∷◌}
use Rattle.std.specs.Prelude.{ℤ, pos, ◌-ℤ◌, ◌*ℤ◌}
use Rattle.std.specs.List.{AllZip}
use Rattle.std.proofs.lemmas.Int.{ints}
use Rattle.float_bits.proofs.Formats.{one_number32}
use Rattle.mesh_codec.specs.declared.codes.Codes.{Codes}
use Rattle.mesh_codec.specs.declared.header.Header.{Header}
use Rattle.mesh_codec.specs.Tile.{header_in, vertex_list}
use Rattle.mesh_plane.specs.declared.corner.Corner.{Corner}
use Rattle.mesh_query.specs.Answer.{IsFieldOf}
use Rattle.mesh_query.specs.Field.{MetreMesh}
use Rattle.mesh_query.specs.Metres.{IsCorner, IsMetres}

same_metres : (least m n rise : ℤ) → (m -ℤ least) *ℤ pos 32767 ≡ rise → (n -ℤ least) *ℤ pos 32767 ≡ rise → m ≡ n
same_metres least m n rise e f = omega (arith, ints, e, f)

one_corner : (header : Header) (codes : Codes) (x y : Corner) → IsCorner header codes x → IsCorner header codes y → x ≡ y
one_corner header codes x y h i =
    let least : i.least ≡ h.least =
    one_number32 i.least h.least header.least i.heights.least_is h.heights.least_is in
    let greatest : i.greatest ≡ h.greatest =
    one_number32 i.greatest h.greatest header.greatest i.heights.greatest_is h.heights.greatest_is in
    let moved : IsMetres h.least h.greatest codes.height y.h =
    subst (λ (l : ℤ). IsMetres l h.greatest codes.height y.h) least
    (subst (λ (g : ℤ). IsMetres i.least g codes.height y.h) greatest i.metres) in
    let metres : x.h ≡ y.h = same_metres h.least x.h y.h (pos codes.height *ℤ (h.greatest -ℤ h.least))
    h.metres.linear moved.linear in
    let u : x.u ≡ y.u = h.u ∙ sym i.u in
    let v : x.v ≡ y.v = h.v ∙ sym i.v in
    λ k. record { u = u k; v = v k; h = metres k }

one_corners : (header : Header) (vertices : List Codes) (xs ys : List Corner) → AllZip (IsCorner header) vertices xs
    → AllZip (IsCorner header) vertices ys → xs ≡ ys
one_corners header [] [] [] h i = refl
one_corners header [] [] (y ∷ ys) h i = elim i [ ]
one_corners header [] (x ∷ xs) ys h i = elim h [ ]
one_corners header (c ∷ cs) [] ys h i = elim h [ ]
one_corners header (c ∷ cs) (x ∷ xs) [] h i = elim i [ ]
one_corners header (c ∷ cs) (x ∷ xs) (y ∷ ys) h i =
    ap (λ z. z ∷ xs) (one_corner header c x y h.0 i.0) ∙ ap (λ zs. y ∷ zs) (one_corners header cs xs ys h.1 i.1)

pub one_field : (bytes : List ℕ) (field other : MetreMesh) → IsFieldOf bytes field → IsFieldOf bytes other → field ≡ other
one_field bytes field other h i =
    let corners : field.corners ≡ other.corners =
    one_corners (header_in bytes) (vertex_list bytes) field.corners other.corners h.corners i.corners in
    let indexes : field.indexes ≡ other.indexes = h.indexes ∙ sym i.indexes in
    λ k. record { corners = corners k; indexes = indexes k }
