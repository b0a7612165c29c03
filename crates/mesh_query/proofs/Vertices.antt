-- Vertices of codes and their corners in metres, place by place.
use Rattle.std.proofs.Common.{◌≡◌, ℕ, zero, suc, ◌<◌, refl, sym, subst, arith, ap, ◌∙◌, List, [], ◌∷◌, ◌++◌, length, take, map, Some, None, get_or}
use Rattle.std.specs.Prelude.{slice_index_or}
use Rattle.std.specs.List.{AllZip, AllByRecursion}
use Rattle.mesh_codec.specs.declared.codes.Codes.{Codes}
use Rattle.mesh_codec.specs.declared.header.Header.{Header}
use Rattle.mesh_codec.specs.Tile.{header_in, vertex_list}
use Rattle.mesh_plane.specs.declared.corner.Corner.{Corner}
use Rattle.mesh_query.specs.Metres.{IsCorner, IsWhole, IsFirstNotWhole}

pub some_is : {X : Type 0} (x y : X) → Some x ≡ Some y → x ≡ y
some_is x y e = ap (λ o. elim o [ Some z ↦ z | None ↦ x ]) e

-- ---- lists that go together
pub zip_more : {X Y : Type 0} (R : X → Y → Type 0) (xs : List X) (ys : List Y) (x : X) (y : Y) → AllZip R xs ys → R x y
    → AllZip R (xs ++ x ∷ []) (ys ++ y ∷ [])
zip_more R [] [] x y h r = (r, tt)
zip_more R [] (b ∷ ys) x y h r = elim h [ ]
zip_more R (a ∷ xs) [] x y h r = elim h [ ]
zip_more R (a ∷ xs) (b ∷ ys) x y h r = (h.0, zip_more R xs ys x y h.1 r)

pub zip_long : {X Y : Type 0} (R : X → Y → Type 0) (xs : List X) (ys : List Y) → AllZip R xs ys → length xs ≡ length ys
zip_long R [] [] h = refl
zip_long R [] (y ∷ ys) h = elim h [ ]
zip_long R (x ∷ xs) [] h = elim h [ ]
zip_long R (x ∷ xs) (y ∷ ys) h = omega (arith, zip_long R xs ys h.1)

pub one_more_map : {X Y : Type 0} (f : X → Y) (xs : List X) (i : ℕ) (d : X) → i < length xs
    → map f (take (suc i) xs) ≡ map f (take i xs) ++ f (get_or xs i d) ∷ []
one_more_map f [] i d l = absurd (omega (arith, l))
one_more_map f (x ∷ xs) zero d l = refl
one_more_map f (x ∷ xs) (suc i) d l = ap (λ ys. f x ∷ ys) (one_more_map f xs i d (omega (arith, l)))

-- ---- the first vertex that is not whole
module _ {X : Type 0} (x : X) (next : List X) where
  behind : (done : List X) → length done < length (done ++ x ∷ next)
  behind [] = omega arith
  behind (y ∷ ys) = omega (arith, behind ys)

  at_end : (done : List X) (d : X) → slice_index_or (done ++ x ∷ next) (length done) d ≡ x
  at_end [] d = refl
  at_end (y ∷ ys) d = at_end ys d

whole_before : (header : Header) (x : Codes) (next done : List Codes) (corners : List Corner)
    → AllZip (IsCorner header) done corners → (j : ℕ) (d : Codes) → j < length done
    → IsWhole header (slice_index_or (done ++ x ∷ next) j d)
whole_before header x next [] [] h j d l = absurd (omega (arith, l))
whole_before header x next [] (y ∷ ys) h j d l = elim h [ ]
whole_before header x next (a ∷ xs) [] h j d l = elim h [ ]
whole_before header x next (a ∷ xs) (y ∷ ys) h zero d l = (y, h.0)
whole_before header x next (a ∷ xs) (y ∷ ys) h (suc j) d l = whole_before header x next xs ys h.1 j d (omega (arith, l))

pub first_not_whole : (bytes : List ℕ) (x : Codes) (next done left : List Codes) (corners : List Corner) (n : ℕ)
    → left ≡ x ∷ next → done ++ left ≡ vertex_list bytes → AllZip (IsCorner (header_in bytes)) done corners
    → n ≡ length corners → ¬ IsWhole (header_in bytes) x → IsFirstNotWhole bytes n
first_not_whole bytes x next done left corners n step whole h count none =
    let is : done ++ x ∷ next ≡ vertex_list bytes = ap (λ l. done ++ l) (sym step) ∙ whole in
    let same : length done ≡ n = zip_long (IsCorner (header_in bytes)) done corners h ∙ sym count in
    subst (λ (m : ℕ). IsFirstNotWhole bytes m) same (record {
      in_list = subst (λ (xs : List Codes). length done < length xs) is (behind x next done);
      not_whole = λ d w. none (subst (λ (y : Codes). IsWhole (header_in bytes) y) (at_end x next done d)
          (subst (λ (xs : List Codes). IsWhole (header_in bytes) (slice_index_or xs (length done) d)) (sym is) w));
      first = λ j d l. subst (λ (xs : List Codes). IsWhole (header_in bytes) (slice_index_or xs j d)) is
          (whole_before (header_in bytes) x next done corners h j d l);
    })

pub each_whole : (header : Header) (vertices : List Codes) (corners : List Corner)
    → AllZip (IsCorner header) vertices corners → AllByRecursion (IsWhole header) vertices
each_whole header [] [] h = tt
each_whole header [] (y ∷ ys) h = elim h [ ]
each_whole header (x ∷ xs) [] h = elim h [ ]
each_whole header (x ∷ xs) (y ∷ ys) h = ((y, h.0), each_whole header xs ys h.1)
