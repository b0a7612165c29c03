-- A table of the places of points, as a point comes last among them.
use Rattle.std.proofs.Common.{◌≡◌, ℕ, ◌+◌, ◌-◌, ◌*◌, ◌<◌, ◌≤◌, arith, Bool, true, false, ◌&&◌, ◌||◌, List, [], ◌∷◌, ◌++◌, length, length-set, set, take, replicate, nat_eq, refl, ap, sym, ◌∙◌, subst, Option, Some, None}
use Rattle.std.specs.Prelude.{nat_lt, slice_index_or, position}
use Rattle.std.specs.Cmp.{IsEquivalence}
use Rattle.std.specs.List.{position_or_len, list_any, IsDistinct}
use Rattle.std.proofs.lemmas.Bool.Decides.{nat_tests}
use Rattle.std.proofs.lemmas.List.{get_or-set_same, get_or-set_other, get_or-replicate, length-replicate}
use Rattle.std.proofs.lemmas.Map.Keys.{IsDistinct-push}
use Rattle.terrain_base.specs.Grid.{spot}
use Rattle.tile_mesh.specs.declared.point.GridPoint.{GridPoint}
use Rattle.tile_mesh.specs.Numbers.{point_eq, IsOnGrid, AreOnGrid, ArePlaces, with_point}
use Rattle.tile_mesh.proofs.Counts.{small_last}
use Rattle.tile_mesh.proofs.Steps.{found_stays, goes_last, found_left, found_last, point_itself}
use Rattle.tile_mesh.proofs.FirstUses.{points_equal, place_below, place_of, any_push}

-- ---- where a point is
pub position_found : (p : GridPoint) (ks : List GridPoint) → list_any (point_eq p) ks ≡ true → position (point_eq p) ks ≡ Some (position_or_len (point_eq p) ks)
position_found p ks h =
    let below = place_below p ks h in
    let test : nat_lt (position_or_len (point_eq p) ks) (length ks) ≡ true = grind (arith, nat_tests) in rw test

pub place_past : (p : GridPoint) (ks : List GridPoint) → list_any (point_eq p) ks ≡ false → position_or_len (point_eq p) ks ≡ length ks
place_past p ks h = sym (goes_last p ks [] h) ∙ place_of p ks [] h

pub position_missing : (p : GridPoint) (ks : List GridPoint) → list_any (point_eq p) ks ≡ false → position (point_eq p) ks ≡ None
position_missing p ks h =
    let past = place_past p ks h in
    let test : nat_lt (position_or_len (point_eq p) ks) (length ks) ≡ false = grind (arith, nat_tests) in rw test

found_by_place : (p : GridPoint) (ks : List GridPoint) (n : ℕ) → position (point_eq p) ks ≡ Some n → list_any (point_eq p) ks ≡ true
found_by_place p ks n e = go (list_any (point_eq p) ks) refl
  where
    go : (b : Bool) → list_any (point_eq p) ks ≡ b → list_any (point_eq p) ks ≡ true
    go true h = h
    go false h = absurd (let missing = position_missing p ks h in cc)

missing_by_place : (p : GridPoint) (ks : List GridPoint) → position (point_eq p) ks ≡ None → list_any (point_eq p) ks ≡ false
missing_by_place p ks e = go (list_any (point_eq p) ks) refl
  where
    go : (b : Bool) → list_any (point_eq p) ks ≡ b → list_any (point_eq p) ks ≡ false
    go true h = absurd (let found = position_found p ks h in cc)
    go false h = h

-- ---- a point that is there
pub number_there : (p : GridPoint) (ks : List GridPoint) (n : ℕ) → position (point_eq p) ks ≡ Some n → n ≡ position_or_len (point_eq p) ks
number_there p ks n e = let found = position_found p ks (found_by_place p ks n e) in cc

pub points_there : (p : GridPoint) (ks : List GridPoint) (n : ℕ) → position (point_eq p) ks ≡ Some n → ks ≡ with_point ks p
points_there p ks n e = rw (found_by_place p ks n e) refl

-- ---- a point that is not
pub number_next : (p : GridPoint) (ks : List GridPoint) → position (point_eq p) ks ≡ None → length ks ≡ position_or_len (point_eq p) ks
number_next p ks e = sym (place_past p ks (missing_by_place p ks e))

pub points_next : (p : GridPoint) (ks : List GridPoint) → position (point_eq p) ks ≡ None → ks ++ p ∷ [] ≡ with_point ks p
points_next p ks e = rw (missing_by_place p ks e) refl

same_equal : (a b c d : ℕ) → (nat_eq a c && nat_eq b d) ≡ (nat_eq c a && nat_eq d b)
same_equal a b c d = grind (arith, nat_tests)

points_equivalence : IsEquivalence point_eq
points_equivalence = record {
  refl = point_itself;
  symm = λ p q. same_equal p.i p.j q.i q.j;
  congr = λ p q r e. ap (λ (s : GridPoint). point_eq s r) (points_equal p q e);
}

pub distinct_next : (p : GridPoint) (ks : List GridPoint) → position (point_eq p) ks ≡ None → IsDistinct point_eq ks → IsDistinct point_eq (ks ++ p ∷ [])
distinct_next p ks e d = IsDistinct-push points_equivalence ks p d (missing_by_place p ks e)

-- ---- the table
spots_apart : (a b c d : ℕ) → a ≤ 66 → c ≤ 66 → (nat_eq a c && nat_eq b d) ≡ false → 67 * b + a ≡ 67 * d + c → ⊥
spots_apart a b c d h k e f = grind (arith, nat_tests)

other_stays : (q p : GridPoint) (ks : List GridPoint) → point_eq q p ≡ false → position (point_eq q) (ks ++ p ∷ []) ≡ position (point_eq q) ks
other_stays q p ks f = go (list_any (point_eq q) ks) refl
  where
    go : (b : Bool) → list_any (point_eq q) ks ≡ b → position (point_eq q) (ks ++ p ∷ []) ≡ position (point_eq q) ks
    go true h = position_found q (ks ++ p ∷ []) (found_left q ks (p ∷ []) h) ∙ ap (λ (n : ℕ). Some n) (found_stays q ks (p ∷ []) h) ∙ sym (position_found q ks h)
    go false h =
        position_missing q (ks ++ p ∷ []) (any_push q p ks ∙ ap (λ (b : Bool). b || point_eq q p) h ∙ f)
        ∙ sym (position_missing q ks h)

pub places_next : (p : GridPoint) (ks : List GridPoint) (places : List (Option ℕ)) → IsOnGrid p → length places ≡ 4489 → position (point_eq p) ks ≡ None
    → ArePlaces places ks → ArePlaces (set places (spot p.i p.j) (Some (length ks))) (ks ++ p ∷ [])
places_next p ks places o full e h q r = go (point_eq q p) refl
  where
    column : p.i ≤ 66
    column = o.column

    row : p.j ≤ 66
    row = o.row

    within : spot p.i p.j < length places
    within = let f = full in let x = o.column in let y = o.row in omega arith

    at_point : slice_index_or (set places (spot p.i p.j) (Some (length ks))) (spot p.i p.j) None ≡ position (point_eq p) (ks ++ p ∷ [])
    at_point =
        get_or-set_same places (spot p.i p.j) (Some (length ks)) None within
        ∙ sym (position_found p (ks ++ p ∷ []) (found_last p ks)
        ∙ ap (λ (n : ℕ). Some n) (place_of p ks [] (missing_by_place p ks e)))

    go : (b : Bool) → point_eq q p ≡ b → slice_index_or (set places (spot p.i p.j) (Some (length ks))) (spot q.i q.j) None ≡ position (point_eq q) (ks ++ p ∷ [])
    go true f =
        subst (λ (s : GridPoint). slice_index_or (set places (spot p.i p.j) (Some (length ks))) (spot s.i s.j) None ≡ position (point_eq s) (ks ++ p ∷ []))
        (sym (points_equal q p f)) at_point
    go false f =
        get_or-set_other places (spot p.i p.j) (spot q.i q.j) (Some (length ks)) None (spots_apart q.i q.j p.i p.j r.column o.column f)
        ∙ h q r ∙ sym (other_stays q p ks f)

places_none : ArePlaces (replicate 4489 None) []
places_none q r = let x = r.column in let y = r.row in get_or-replicate 4489 (spot q.i q.j) None None (omega arith)

-- ---- the parts of a mesh without triangles
pub resized : (old new : List (Option ℕ)) (n : ℕ) → old ≡ [] → n ≡ 0 → new ≡ take 4489 old ++ replicate (4489 - n) None → new ≡ replicate 4489 None
resized old new n e f g =
    g ∙ ap (λ (ps : List (Option ℕ)). take 4489 ps ++ replicate (4489 - n) None) e
    ∙ ap (λ (m : ℕ). replicate (4489 - m) None) f

pub full_at_first : (places : List (Option ℕ)) → places ≡ replicate 4489 None → length places ≡ 4489
full_at_first places e = ap length e ∙ length-replicate {A = Option ℕ} 4489 None

pub distinct_at_first : (ks : List GridPoint) → ks ≡ [] → IsDistinct point_eq ks
unfolding IsDistinct
distinct_at_first ks e = subst (λ (qs : List GridPoint). IsDistinct point_eq qs) (sym e) tt

pub places_at_first : (ks : List GridPoint) (places : List (Option ℕ)) → ks ≡ [] → places ≡ replicate 4489 None → ArePlaces places ks
places_at_first ks places e f =
    subst (λ (qs : List GridPoint). ArePlaces places qs) (sym e)
    (subst (λ (ps : List (Option ℕ)). ArePlaces ps []) (sym f) places_none)

-- ---- and after one more point
pub grid_push : (p : GridPoint) (ks ks' : List GridPoint) → IsOnGrid p → ks' ≡ ks ++ p ∷ [] → AreOnGrid ks → AreOnGrid ks'
grid_push p ks ks' o k h = subst (λ (qs : List GridPoint). AreOnGrid qs) (sym k) (small_last p ks o h)

pub full_push : (places : List (Option ℕ)) (at n : ℕ) → length places ≡ 4489 → length (set places at (Some n)) ≡ 4489
full_push places at n full = simp length-set full

pub distinct_push : (p : GridPoint) (ks ks' : List GridPoint) → position (point_eq p) ks ≡ None → ks' ≡ ks ++ p ∷ [] → IsDistinct point_eq ks → IsDistinct point_eq ks'
distinct_push p ks ks' e k d = subst (λ (qs : List GridPoint). IsDistinct point_eq qs) (sym k) (distinct_next p ks e d)

pub places_push : (p : GridPoint) (ks ks' : List GridPoint) (places : List (Option ℕ)) (at n : ℕ) → IsOnGrid p → length places ≡ 4489 → position (point_eq p) ks ≡ None
    → at ≡ spot p.i p.j → n ≡ length ks → ks' ≡ ks ++ p ∷ [] → ArePlaces places ks → ArePlaces (set places at (Some n)) ks'
places_push p ks ks' places at n o full e a l k h =
    subst (λ (qs : List GridPoint). ArePlaces (set places at (Some n)) qs) (sym k)
    (subst (λ (m : ℕ). ArePlaces (set places at (Some m)) (ks ++ p ∷ [])) (sym l)
    (subst (λ (x : ℕ). ArePlaces (set places x (Some (length ks))) (ks ++ p ∷ [])) (sym a)
    (places_next p ks places o full e h)))
