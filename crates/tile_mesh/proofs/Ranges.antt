-- Lists over the indexes along an edge, as they grow.
use Rattle.std.proofs.Common.{◌≡◌, ℕ, suc, ◌+◌, ◌-◌, ◌<◌, arith, List, [], ◌∷◌, ◌++◌, map, take, refl, ap, sym, ◌∙◌, append_assoc, length, None, Some}
use Rattle.std.specs.Prelude.{ℤ, Option, filter_map, slice_set}
use Rattle.std.specs.List.{range_with_len, cons_option}
use Rattle.std.proofs.lemmas.List.{take_more_set}
use Rattle.tile_mesh.specs.declared.point.GridPoint.{GridPoint}

range_by : (i n m : ℕ) → n ≡ suc m → range_with_len i n ≡ i ∷ range_with_len (i + 1) m
range_by i n m e = ap (range_with_len i) e

range_step : (i n : ℕ) → i < n → range_with_len i (n - i) ≡ i ∷ range_with_len (i + 1) (n - (i + 1))
range_step i n l = range_by i (n - i) (n - (i + 1)) (omega (arith, l))

one_option : (o : Option ℕ) (xs : List ℕ) → cons_option o [] ++ xs ≡ cons_option o xs
one_option None xs = refl
one_option (Some x) xs = refl

pub numbers_step : (h : GridPoint → Option ℕ) (f : ℕ → GridPoint) (done done' : List ℕ) (i n : ℕ) → i < n
    → done' ≡ done ++ cons_option (h (f i)) []
    → done' ++ filter_map h (map f (range_with_len (i + 1) (n - (i + 1))))
    ≡ done ++ filter_map h (map f (range_with_len i (n - i)))
numbers_step h f done done' i n l e =
    let rest = filter_map h (map f (range_with_len (i + 1) (n - (i + 1)))) in
    ap (λ (xs : List ℕ). xs ++ rest) e
    ∙ append_assoc done (cons_option (h (f i)) []) rest
    ∙ ap (λ (xs : List ℕ). done ++ xs) (one_option (h (f i)) rest)
    ∙ ap (λ (is : List ℕ). done ++ filter_map h (map f is)) (sym (range_step i n l))

pub heights_step : (h : ℕ → ℤ) (hs : List ℤ) (i n : ℕ) (v : ℤ) → i < n → length hs ≡ n → v ≡ h i
    → take (i + 1) (slice_set hs i v) ++ map h (range_with_len (i + 1) (n - (i + 1)))
    ≡ take i hs ++ map h (range_with_len i (n - i))
heights_step h hs i n v l e f =
    let rest = map h (range_with_len (i + 1) (n - (i + 1))) in
    ap (λ (xs : List ℤ). xs ++ rest) (take_more_set hs i v (omega (arith, l, e)))
    ∙ append_assoc (take i hs) (v ∷ []) rest
    ∙ ap (λ (x : ℤ). take i hs ++ (x ∷ rest)) f
    ∙ ap (λ (is : List ℕ). take i hs ++ map h is) (sym (range_step i n l))
