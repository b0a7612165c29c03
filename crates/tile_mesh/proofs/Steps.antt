-- The points as they grow, against the firsts of all.
use Rattle.std.proofs.Common.{◌≡◌, ℕ, ◌+◌, true, false, not, cond, ◌||◌, List, [], ◌∷◌, ◌++◌, map, refl, ap, sym, ◌∙◌, append_assoc, append-nil}
use Rattle.std.specs.List.{position_or_len, list_any}
use Rattle.common_laws.proofs.Orders.{equal_itself}
use Rattle.tile_mesh.specs.declared.point.GridPoint.{GridPoint}
use Rattle.terrain_base.specs.declared.indexes.Indexes.{Indexes}
use Rattle.mesh_plane.specs.Triangles.{Triple}
use Rattle.tile_mesh.specs.Numbers.{point_eq, triple, first_uses, corners, numbered, numbered_on, Adds, with_point, with_points}

pub keys_after : (ps keys : List GridPoint) → with_points keys ps ≡ keys ++ first_uses keys ps
keys_after [] keys = sym (append-nil keys)
keys_after (p ∷ ps) keys = (elim (list_any (point_eq p) keys) as (λ b. list_any (point_eq p) keys ≡ b → with_points (cond b keys (keys ++ p ∷ [])) ps ≡ keys ++ cond b (first_uses keys ps) (p ∷ first_uses (keys ++ p ∷ []) ps)) [
  | true ↦ λ e. keys_after ps keys
  | false ↦ λ e. keys_after ps (keys ++ p ∷ []) ∙ append_assoc keys (p ∷ []) (first_uses (keys ++ p ∷ []) ps)
]) refl

pub point_itself : (p : GridPoint) → point_eq p p ≡ true
point_itself p = rw (equal_itself p.i, equal_itself p.j)

-- a place that is found stays where more follows
pub found_stays : (p : GridPoint) (ks more : List GridPoint) → list_any (point_eq p) ks ≡ true → position_or_len (point_eq p) (ks ++ more) ≡ position_or_len (point_eq p) ks
found_stays p [] more h = cc
found_stays p (k ∷ ks) more h = (elim (point_eq p k) as (λ b. (b || list_any (point_eq p) ks) ≡ true → cond (not b) ((1 + position_or_len (point_eq p) (ks ++ more))) 0 ≡ cond (not b) ((1 + position_or_len (point_eq p) ks)) 0) [
  | true ↦ λ e. refl
  | false ↦ λ e. ap (λ n. 1 + n) (found_stays p ks more e)
]) h

-- a point that is not found goes last, and is found there
pub goes_last : (p : GridPoint) (ks more : List GridPoint) → list_any (point_eq p) ks ≡ false → position_or_len (point_eq p) (ks ++ p ∷ more) ≡ position_or_len (point_eq p) ks
goes_last p [] more h = rw (point_itself p)
goes_last p (k ∷ ks) more h = (elim (point_eq p k) as (λ b. (b || list_any (point_eq p) ks) ≡ false → cond (not b) ((1 + position_or_len (point_eq p) (ks ++ p ∷ more))) 0 ≡ cond (not b) ((1 + position_or_len (point_eq p) ks)) 0) [
  | true ↦ λ e. refl
  | false ↦ λ e. ap (λ n. 1 + n) (goes_last p ks more e)
]) h

pub found_left : (p : GridPoint) (ks more : List GridPoint) → list_any (point_eq p) ks ≡ true → list_any (point_eq p) (ks ++ more) ≡ true
found_left p [] more h = cc
found_left p (k ∷ ks) more h = (elim (point_eq p k) as (λ b. (b || list_any (point_eq p) ks) ≡ true → (b || list_any (point_eq p) (ks ++ more)) ≡ true) [
  | true ↦ λ e. refl
  | false ↦ λ e. found_left p ks more e
]) h

pub found_last : (p : GridPoint) (ks : List GridPoint) → list_any (point_eq p) (ks ++ p ∷ []) ≡ true
found_last p [] = rw (point_itself p)
found_last p (k ∷ ks) = (elim (point_eq p k) as (λ b. (b || list_any (point_eq p) (ks ++ p ∷ [])) ≡ true) [ true ↦ refl | false ↦ found_last p ks ])

-- a point that was put is found
pub found_key : (p : GridPoint) (ks : List GridPoint) → list_any (point_eq p) (with_point ks p) ≡ true
found_key p ks = (elim (list_any (point_eq p) ks) as (λ b. list_any (point_eq p) ks ≡ b → list_any (point_eq p) (cond b ks (ks ++ p ∷ [])) ≡ true) [
  | true ↦ λ e. e
  | false ↦ λ e. found_last p ks
]) refl

-- a point that is found keeps its number, and is found on
pub stays : (p : GridPoint) (ks ps : List GridPoint) → list_any (point_eq p) ks ≡ true → position_or_len (point_eq p) ks ≡ position_or_len (point_eq p) (with_points ks ps)
stays p ks ps h = sym (found_stays p ks (first_uses ks ps) h) ∙ ap (position_or_len (point_eq p)) (sym (keys_after ps ks))

pub found_on : (p : GridPoint) (ks ps : List GridPoint) → list_any (point_eq p) ks ≡ true → list_any (point_eq p) (with_points ks ps) ≡ true
found_on p ks ps h = ap (list_any (point_eq p)) (keys_after ps ks) ∙ found_left p ks (first_uses ks ps) h

-- the number that a point is given
pub given : (p : GridPoint) (ks : List GridPoint) → position_or_len (point_eq p) ks ≡ position_or_len (point_eq p) (with_point ks p)
given p ks = (elim (list_any (point_eq p) ks) as (λ b. list_any (point_eq p) ks ≡ b → position_or_len (point_eq p) ks ≡ position_or_len (point_eq p) (cond b ks (ks ++ p ∷ []))) [
  | true ↦ λ e. refl
  | false ↦ λ e. sym (goes_last p ks [] e)
]) refl

-- the number of a point, once more have been put
pub later : (p : GridPoint) (ks ps : List GridPoint) → position_or_len (point_eq p) ks ≡ position_or_len (point_eq p) (with_points (with_point ks p) ps)
later p ks ps = given p ks ∙ stays p (with_point ks p) ps (found_key p ks)

-- ---- triangles
all_append : (ks ps qs : List GridPoint) → with_points ks (ps ++ qs) ≡ with_points (with_points ks ps) qs
all_append ks [] qs = refl
all_append ks (p ∷ ps) qs = all_append (with_point ks p) ps qs

corners_append : (ts us : List (Triple GridPoint)) → corners (ts ++ us) ≡ corners ts ++ corners us
corners_append [] us = refl
corners_append (t ∷ ts) us = rw (corners_append ts us)

numbered_append : (ks : List GridPoint) (ts us : List (Triple GridPoint)) → numbered_on ks (ts ++ us) ≡ numbered_on ks ts ++ numbered_on (with_points ks (corners ts)) us
numbered_append ks [] us = refl
numbered_append ks (t ∷ ts) us = rw (numbered_append (with_points ks (t.a ∷ t.b ∷ t.c ∷ [])) ts us)

pub adds_none : (ks : List GridPoint) (is : List Indexes) → Adds [] ks ks is is
adds_none ks is = record { points = refl; triangles = sym (append-nil is) }

pub adds_append : (ts us : List (Triple GridPoint)) (ks ks' ks'' : List GridPoint) (is is' is'' : List Indexes) → Adds ts ks ks' is is' → Adds us ks' ks'' is' is'' → Adds (ts ++ us) ks ks'' is is''
adds_append ts us ks ks' ks'' is is' is'' h k = record {
  points = k.points ∙ ap (λ x. with_points x (corners us)) h.points ∙ sym (all_append ks (corners ts) (corners us)) ∙ ap (with_points ks) (sym (corners_append ts us));
  triangles = k.triangles ∙ ap (λ x. x ++ numbered_on ks' us) h.triangles ∙ append_assoc is (numbered_on ks ts) (numbered_on ks' us) ∙ ap (λ x. is ++ (numbered_on ks ts ++ numbered_on x us)) h.points ∙ ap (λ x. is ++ x) (sym (numbered_append ks ts us));
}

-- the numbers at the end are those that were given
pub numbered_are : (ts : List (Triple GridPoint)) (ks : List GridPoint) → numbered_on ks ts ≡ map (numbered (with_points ks (corners ts))) ts
numbered_are [] ks = refl
numbered_are (t ∷ ts) ks =
    let k₁ = with_point ks t.a in let k₂ = with_point k₁ t.b in let k₃ = with_point k₂ t.c in
    let a = stays t.a k₃ (corners ts) (found_on t.a k₁ (t.b ∷ t.c ∷ []) (found_key t.a ks)) in
    let b = stays t.b k₃ (corners ts) (found_on t.b k₂ (t.c ∷ []) (found_key t.b k₁)) in
    let c = stays t.c k₃ (corners ts) (found_key t.c k₂) in
    rw (numbered_are ts k₃, a, b, c)

-- one triangle
pub emits : (a b c : GridPoint) (ks k₁ k₂ k₃ : List GridPoint) (is is' : List Indexes) (x y z : ℕ) → k₁ ≡ with_point ks a → k₂ ≡ with_point k₁ b → k₃ ≡ with_point k₂ c
    → x ≡ position_or_len (point_eq a) ks → y ≡ position_or_len (point_eq b) k₁ → z ≡ position_or_len (point_eq c) k₂
    → is' ≡ is ++ record { a = x; b = y; c = z } ∷ [] → Adds (triple a b c ∷ []) ks k₃ is is'
emits a b c ks k₁ k₂ k₃ is is' x y z e₁ e₂ e₃ f₁ f₂ f₃ g =
    let h₁ = f₁ ∙ later a ks (b ∷ c ∷ []) in
    let h₂ = f₂ ∙ ap (position_or_len (point_eq b)) e₁ ∙ later b (with_point ks a) (c ∷ []) in
    let h₃ = f₃ ∙ ap (position_or_len (point_eq c)) (e₂ ∙ ap (λ k. with_point k b) e₁) ∙ later c (with_point (with_point ks a) b) [] in
    record {
      points = e₃ ∙ ap (λ k. with_point k c) (e₂ ∙ ap (λ k. with_point k b) e₁);
      triangles = g ∙ numbers is x y z _ _ _ h₁ h₂ h₃;
    }
  where
    numbers : (is : List Indexes) (x y z x' y' z' : ℕ) → x ≡ x' → y ≡ y' → z ≡ z' → is ++ record { a = x; b = y; c = z } ∷ [] ≡ is ++ record { a = x'; b = y'; c = z' } ∷ []
    numbers is x y z x' y' z' p q r = rw (p, q, r)
