-- Points by first use.
use Rattle.std.proofs.Common.{◌≡◌, ℕ, zero, suc, ◌+◌, ◌<◌, ◌≤◌, arith, Bool, true, false, not, cond, ◌||◌, List, [], ◌∷◌, ◌++◌, map, length, refl, ap, sym, ◌∙◌, subst, append_assoc, inl, inr}
use Rattle.std.specs.Prelude.{slice_index_or, Contains, ◌⊎◌}
use Rattle.std.specs.List.{position_or_len, list_any, IsDistinct, AllByRecursion}
use Rattle.std.proofs.lemmas.List.Elements.{Contains-append_right, Contains-append_cases}
use Rattle.std.proofs.lemmas.Bool.{or_right}
use Rattle.std.proofs.Math.Bool.{or-true, or-false, or_assoc}
use Rattle.common_laws.proofs.Lists.{all_weaker}
use Rattle.mesh_plane.specs.Triangles.{Triple}
use Rattle.mesh_plane.proofs.ListWords.{all_from}
use Rattle.tile_mesh.specs.declared.point.GridPoint.{GridPoint}
use Rattle.tile_mesh.specs.Sides.{grid_point}
use Rattle.tile_mesh.specs.Numbers.{point_eq, first_uses, corners, numbered, with_point, with_points}
use Rattle.tile_mesh.specs.Numbering.{first_use, named, ArePoints, IsNumbering}
use Rattle.tile_mesh.proofs.Steps.{keys_after, point_itself}
use Rattle.tile_mesh.proofs.Corners.{AreFound, found, same_numbers}
use Rattle.tile_mesh.proofs.MergeOrder.{Pairs, pairs_from}

-- ---- equal points
pub points_equal : (p q : GridPoint) → point_eq p q ≡ true → p ≡ q
points_equal p q e =
    let s = same_numbers p.i p.j q.i q.j e in
    ap (λ (i : ℕ). grid_point i p.j) s.0 ∙ ap (λ (j : ℕ). grid_point q.i j) s.1

-- ---- lists that have a point
pub any_cons : (p k : GridPoint) (ks : List GridPoint) → Contains (k ∷ ks) p → (k ≡ p) ⊎ Contains ks p
any_cons p k ks h = go (Contains-append_cases (k ∷ []) ks p h)
  where
    go : Contains (k ∷ []) p ⊎ Contains ks p → (k ≡ p) ⊎ Contains ks p
    go (inl (zero, l, e)) = inl e
    go (inl (suc n, l, e)) = absurd (omega (arith, l))
    go (inr e) = inr e

pub any_to : (p : GridPoint) (ks : List GridPoint) → Contains ks p → list_any (point_eq p) ks ≡ true
any_to p [] h = absurd (omega (arith, h.1))
any_to p (k ∷ ks) h = go (any_cons p k ks h) (any_to p ks)
  where
    go : (k ≡ p) ⊎ Contains ks p → (Contains ks p → list_any (point_eq p) ks ≡ true) → (point_eq p k || list_any (point_eq p) ks) ≡ true
    go (inl e) f = ap (λ (q : GridPoint). point_eq p q || list_any (point_eq p) ks) e ∙ ap (λ (b : Bool). b || list_any (point_eq p) ks) (point_itself p)
    go (inr h) f = or_right (point_eq p k) (list_any (point_eq p) ks) (f h)

pub any_from : (p : GridPoint) (ks : List GridPoint) → list_any (point_eq p) ks ≡ true → Contains ks p
any_from p [] h = absurd (let z = h in cc)
any_from p (k ∷ ks) h = go (point_eq p k) refl h (any_from p ks)
  where
    go : (b : Bool) → point_eq p k ≡ b → (b || list_any (point_eq p) ks) ≡ true
        → (list_any (point_eq p) ks ≡ true → Contains ks p) → Contains (k ∷ ks) p
    go true e f next = (0, omega arith, sym (points_equal p k e))
    go false e f next = Contains-append_right (k ∷ []) ks p (next f)

pub any_push : (p k : GridPoint) (ks : List GridPoint) → list_any (point_eq p) (ks ++ k ∷ []) ≡ (list_any (point_eq p) ks || point_eq p k)
any_push p k [] = or-false (point_eq p k)
any_push p k (q ∷ ks) =
    ap (λ (b : Bool). point_eq p q || b) (any_push p k ks)
    ∙ sym (or_assoc (point_eq p q) (list_any (point_eq p) ks) (point_eq p k))

-- ---- the first uses have the points of the list
put_any : (p k : GridPoint) (ks : List GridPoint) → list_any (point_eq p) (with_point ks k) ≡ (list_any (point_eq p) ks || point_eq p k)
put_any p k ks = go (list_any (point_eq k) ks) refl
  where
    stays : (b : Bool) → point_eq p k ≡ b → list_any (point_eq k) ks ≡ true → list_any (point_eq p) ks ≡ (list_any (point_eq p) ks || b)
    stays true e f = subst (λ (q : GridPoint). list_any (point_eq q) ks ≡ (list_any (point_eq q) ks || true)) (sym (points_equal p k e)) (rw f refl)
    stays false e f = sym (or-false (list_any (point_eq p) ks))

    go : (b : Bool) → list_any (point_eq k) ks ≡ b → list_any (point_eq p) (cond b ks (ks ++ k ∷ [])) ≡ (list_any (point_eq p) ks || point_eq p k)
    go true e = stays (point_eq p k) refl e
    go false e = any_push p k ks

put_all_any : (p : GridPoint) (ks ps : List GridPoint) → list_any (point_eq p) (with_points ks ps) ≡ (list_any (point_eq p) ks || list_any (point_eq p) ps)
put_all_any p ks [] = sym (or-false (list_any (point_eq p) ks))
put_all_any p ks (k ∷ ps) =
    put_all_any p (with_point ks k) ps
    ∙ ap (λ (b : Bool). b || list_any (point_eq p) ps) (put_any p k ks)
    ∙ or_assoc (list_any (point_eq p) ks) (point_eq p k) (list_any (point_eq p) ps)

pub first_any : (p : GridPoint) (ps : List GridPoint) → list_any (point_eq p) (first_uses [] ps) ≡ list_any (point_eq p) ps
first_any p ps = ap (list_any (point_eq p)) (sym (keys_after ps [])) ∙ put_all_any p [] ps

-- ---- order
pub place_of : (p : GridPoint) (ks more : List GridPoint) → list_any (point_eq p) ks ≡ false → position_or_len (point_eq p) (ks ++ p ∷ more) ≡ length ks
place_of p [] more h = rw (point_itself p)
place_of p (k ∷ ks) more h = (elim (point_eq p k) as (λ b. (b || list_any (point_eq p) ks) ≡ false → cond (not b) ((1 + position_or_len (point_eq p) (ks ++ p ∷ more))) 0 ≡ suc (length ks)) [
  | true ↦ λ e. absurd (let z = e in cc)
  | false ↦ λ e. omega (arith, place_of p ks more e)
]) h

-- the points seen are those done
abbrev SameSeen : List GridPoint → List GridPoint → Type 0
SameSeen seen done = (p : GridPoint) → list_any (point_eq p) seen ≡ list_any (point_eq p) done

abbrev Later : List GridPoint → ℕ → GridPoint → Type 0
Later all n p = n ≤ position_or_len (point_eq p) all

abbrev Before : List GridPoint → GridPoint → GridPoint → Type 0
Before all p q = position_or_len (point_eq p) all < position_or_len (point_eq q) all

seen_both : (seen done : List GridPoint) (k : GridPoint) → SameSeen seen done → SameSeen (seen ++ k ∷ []) (done ++ k ∷ [])
seen_both seen done k s p = any_push p k seen ∙ ap (λ (b : Bool). b || point_eq p k) (s p) ∙ sym (any_push p k done)

seen_more : (seen done : List GridPoint) (k : GridPoint) → SameSeen seen done → list_any (point_eq k) seen ≡ true → SameSeen seen (done ++ k ∷ [])
seen_more seen done k s h p = go (point_eq p k) refl
  where
    go : (b : Bool) → point_eq p k ≡ b → list_any (point_eq p) seen ≡ list_any (point_eq p) (done ++ k ∷ [])
    go true e =
        subst (λ (q : GridPoint). list_any (point_eq q) seen ≡ true) (sym (points_equal p k e)) h
        ∙ sym (any_push p k done ∙ ap (λ (b : Bool). list_any (point_eq p) done || b) e ∙ or-true (list_any (point_eq p) done))
    go false e = s p ∙ sym (any_push p k done ∙ ap (λ (b : Bool). list_any (point_eq p) done || b) e ∙ or-false (list_any (point_eq p) done))

push_length : (ks : List GridPoint) (k : GridPoint) → length (ks ++ k ∷ []) ≡ suc (length ks)
push_length [] k = refl
push_length (q ∷ ks) k = ap suc (push_length ks k)

ordered : (all seen done rest : List GridPoint) → done ++ rest ≡ all → SameSeen seen done
    → AllByRecursion (Later all (length done)) (first_uses seen rest) × Pairs (Before all) (first_uses seen rest)
ordered all seen done [] e s = (tt, tt)
ordered all seen done (r ∷ rest) e s =
    go (list_any (point_eq r) seen) refl
    (λ h. ordered all seen (done ++ r ∷ []) rest (append_assoc done (r ∷ []) rest ∙ e) (seen_more seen done r s h))
    (ordered all (seen ++ r ∷ []) (done ++ r ∷ []) rest (append_assoc done (r ∷ []) rest ∙ e) (seen_both seen done r s))
  where
    weaker : (n : ℕ) → n ≡ suc (length done) → (p : GridPoint) → Later all n p → Later all (length done) p
    weaker n f p l = omega (arith, f, l)

    go : (b : Bool) → list_any (point_eq r) seen ≡ b
        → (list_any (point_eq r) seen ≡ true
        → AllByRecursion (Later all (length (done ++ r ∷ []))) (first_uses seen rest) × Pairs (Before all) (first_uses seen rest))
        → AllByRecursion (Later all (length (done ++ r ∷ []))) (first_uses (seen ++ r ∷ []) rest) × Pairs (Before all) (first_uses (seen ++ r ∷ []) rest)
        → AllByRecursion (Later all (length done)) (cond b (first_uses seen rest) (r ∷ first_uses (seen ++ r ∷ []) rest))
        × Pairs (Before all) (cond b (first_uses seen rest) (r ∷ first_uses (seen ++ r ∷ []) rest))
    go true h f g =
        (all_weaker (Later all (length (done ++ r ∷ []))) (Later all (length done)) (weaker _ (push_length done r)) (first_uses seen rest) (f h).0, (f h).1)
    go false h f g =
        let at : position_or_len (point_eq r) all ≡ length done =
        ap (position_or_len (point_eq r)) (sym e) ∙ place_of r done rest (sym (s r) ∙ h) in (
          (omega (arith, at), all_weaker (Later all (length (done ++ r ∷ []))) (Later all (length done)) (weaker _ (push_length done r)) (first_uses (seen ++ r ∷ []) rest) g.0),
          (all_weaker (Later all (length (done ++ r ∷ []))) (Before all r) (λ p l. omega (arith, at, push_length done r, l)) (first_uses (seen ++ r ∷ []) rest) g.0, g.1),
        )

-- points in the order of their first use are apart
apart_by_use : (all : List GridPoint) (p q : GridPoint) → Before all p q → point_eq p q ≡ false
apart_by_use all p q l = go (point_eq p q) refl
  where
    go : (b : Bool) → point_eq p q ≡ b → point_eq p q ≡ false
    go true e =
        absurd (omega (arith, l, ap (λ (r : GridPoint). position_or_len (point_eq r) all) (points_equal p q e)))
    go false e = e

distinct_from : (all ks : List GridPoint) → Pairs (Before all) ks → IsDistinct point_eq ks
unfolding IsDistinct
distinct_from all [] h = tt
distinct_from all (k ∷ ks) h = (
  all_weaker (Before all k) (λ q. point_eq k q ≡ false) (apart_by_use all k) ks h.0,
  distinct_from all ks h.1,
)

pub distinct_firsts : (ps : List GridPoint) → IsDistinct point_eq (first_uses [] ps)
distinct_firsts ps = distinct_from ps (first_uses [] ps) (ordered ps [] [] ps refl (λ p. refl)).1

-- ---- numbers
pub place_below : (p : GridPoint) (ks : List GridPoint) → list_any (point_eq p) ks ≡ true → position_or_len (point_eq p) ks < length ks
place_below p [] h = absurd (let z = h in cc)
place_below p (k ∷ ks) h = (elim (point_eq p k) as (λ b. (b || list_any (point_eq p) ks) ≡ true → cond (not b) (1 + position_or_len (point_eq p) ks) 0 < suc (length ks)) [
  | true ↦ λ e. omega arith
  | false ↦ λ e. omega (arith, place_below p ks e)
]) h

numbers_within : (ks : List GridPoint) (ts : List (Triple GridPoint)) → AreFound ks ts
    → AllByRecursion (ArePoints (length ks)) (map (numbered ks) ts)
numbers_within ks [] f = tt
numbers_within ks (t ∷ ts) f = (
  record { a = place_below t.a ks f.0; b = place_below t.b ks f.1; c = place_below t.c ks f.2 },
  numbers_within ks ts f.3,
)

-- ---- names
abbrev at_number : List GridPoint → ℕ → GridPoint
at_number ks n = slice_index_or ks n (grid_point 0 0)

next_number : (k : GridPoint) (ks : List GridPoint) (n : ℕ) → at_number (k ∷ ks) (1 + n) ≡ at_number ks n
next_number k ks n = let e : 1 + n ≡ suc n = omega arith in ap (at_number (k ∷ ks)) e

pub named_is : (p : GridPoint) (ks : List GridPoint) → list_any (point_eq p) ks ≡ true → at_number ks (position_or_len (point_eq p) ks) ≡ p
named_is p [] h = absurd (let z = h in cc)
named_is p (k ∷ ks) h = go (point_eq p k) refl h (named_is p ks)
  where
    go : (b : Bool) → point_eq p k ≡ b → (b || list_any (point_eq p) ks) ≡ true
        → (list_any (point_eq p) ks ≡ true → at_number ks (position_or_len (point_eq p) ks) ≡ p)
        → at_number (k ∷ ks) (cond (not b) ((1 + position_or_len (point_eq p) ks)) 0) ≡ p
    go true e f next = sym (points_equal p k e)
    go false e f next = next_number k ks (position_or_len (point_eq p) ks) ∙ next f

names_are : (ks : List GridPoint) (ts : List (Triple GridPoint)) → AreFound ks ts → map (named ks) (map (numbered ks) ts) ≡ ts
names_are ks [] f = refl
names_are ks (t ∷ ts) f =
    rw (named_is t.a ks f.0, named_is t.b ks f.1, named_is t.c ks f.2, names_are ks ts f.3) refl

-- all corners are found among the first uses
pub all_found : (ts : List (Triple GridPoint)) → AreFound (first_uses [] (corners ts)) ts
all_found ts = subst (λ (qs : List GridPoint). AreFound qs ts) (keys_after (corners ts) []) (found ts [])

pub numbering_law : (ts : List (Triple GridPoint)) → IsNumbering ts (first_uses [] (corners ts)) (map (numbered (first_uses [] (corners ts))) ts)
numbering_law ts =
    let cs = corners ts in let ks = first_uses [] cs in
    record {
      members = λ p. (
        (λ h. any_from p cs (sym (first_any p cs) ∙ any_to p ks h)),
        (λ h. any_from p ks (first_any p cs ∙ any_to p cs h)),
      );
      order = pairs_from (λ p q. first_use ts p < first_use ts q) ks (ordered cs [] [] cs refl (λ p. refl)).1;
      within = all_from (ArePoints (length ks)) (map (numbered ks) ts) (numbers_within ks ts (all_found ts));
      names = names_are ks ts (all_found ts);
    }
